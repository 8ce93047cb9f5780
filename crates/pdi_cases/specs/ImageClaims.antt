-- The definitions give for rule 20, and for owners, what document 02, CR 1, says of images at the limits of each clause. Each claim is
-- closed by computation. Assumes nothing.
use Rattle.std.specs.Prelude.{[], ◌∷◌, map, ◌≡◌, refl}
use Rattle.pdi_spec.specs.Images.{owner_image}
use Rattle.pdi_spec.specs.Answers.{if_partition, owner_under}
use Rattle.pdi_spec.specs.Bench.{◌:=◌}
use Rattle.pdi_cases.specs.Images.{edited, two_partitions, two_images}
use Rattle.pdi_cases.specs.Cases.{Trial, tried, breaks, keeps, ImageCase, answered}
use Rattle.pdi_cases.specs.ImageCases.{one_image_cases, image_sum_cases, two_image_cases, image_cases, owners_of}

pub one_image_cases_lem : map tried one_image_cases ≡ map (λ (c : Trial). c.says) one_image_cases
unfolding tried breaks keeps one_image_cases
one_image_cases_lem = refl

pub image_sum_cases_lem : map tried image_sum_cases ≡ map (λ (c : Trial). c.says) image_sum_cases
unfolding tried breaks keeps image_sum_cases
image_sum_cases_lem = refl

pub two_image_cases_lem : map tried two_image_cases ≡ map (λ (c : Trial). c.says) two_image_cases
unfolding tried breaks keeps two_image_cases
two_image_cases_lem = refl

pub image_cases_lem : map answered image_cases ≡ map (λ (c : ImageCase). c.says) image_cases
unfolding answered image_cases
image_cases_lem = refl

-- "the owner image of partition p, counted from 1, or 0 if the image is refused or p isn't 1 to N", for p from 0 to 3
pub owner_cases : map owners_of (edited [] ∷ two_partitions [] ∷ two_images [] ∷ edited ((0x4 := 0) ∷ []) ∷ [])
    ≡ (0 ∷ 1 ∷ 0 ∷ 0 ∷ []) ∷ (0 ∷ 1 ∷ 1 ∷ 0 ∷ []) ∷ (0 ∷ 1 ∷ 2 ∷ 0 ∷ []) ∷ (0 ∷ 0 ∷ 0 ∷ 0 ∷ []) ∷ []
unfolding owners_of owner_under if_partition owner_image
owner_cases = refl
