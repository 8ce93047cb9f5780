-- Document 02, CR 1, rule 20 and owners: for each clause images that it refuses, and next to them what it takes. What is said of a case is
-- taken from document 02. Rule 6's clause is in TableCases.antt. Assumes nothing.
use Rattle.std.specs.Prelude.{ℕ, ◌+◌, ◌*◌, List, [], ◌∷◌, ◌++◌, map}
use Rattle.pdi_spec.specs.Bench.{Edit, ◌:=◌, in_image_header, in_header}
use Rattle.pdi_spec.specs.RuleList.{plain_rules, without_buffer}
use Rattle.pdi_spec.specs.Answers.{asked, owner_under}
use Rattle.pdi_cases.specs.Images.{edited, unsealed, words, behind, behind_word, in_image, two_partitions, two_images}
use Rattle.pdi_cases.specs.Cases.{computed, Trial, breaks, keeps, ImageCase, at0, refused_with}

-- 20, of one image: "each count is at least 1, the counts add up to N, and each word 0 gives its run's first header".
unfoldable pub one_image_cases : List Trial
one_image_cases =
    keeps 20 (edited [] ∷ [])
    -- a count of 0, and counts that add up to 2 and to 2^32 - 1
    ++ breaks 20 0 (words (in_image_header (4 * 1)) (0 ∷ 2 ∷ 0xFFFFFFFF ∷ []))
    -- a word before and behind the header; its offset in bytes; none
    ++ breaks 20 0 (words (in_image_header (4 * 0)) (47 ∷ 49 ∷ 192 ∷ 0 ∷ []))
    -- words 2 and 14, which aren't examined
    ++ keeps 20 (words (in_image_header (4 * 2)) (7 ∷ []) ++ words (in_image_header (4 * 14)) (0xFFFFFFFF ∷ []))
    -- both partitions of one image
    ++ keeps 20 (two_partitions [] ∷ [])
    ++ breaks 20 0 (two_partitions ((in_image_header (4 * 1) := 1) ∷ []) ∷ [])

-- 20: "15 a checksum made as the other tables'", of the words before it; "Checksum sums are modulo 2^32".
unfoldable pub image_sum_cases : List Trial
image_sum_cases =
    -- the sum, one less and one more; a word that no rule looks at; the 15th word, with the sum of 14 words
    breaks 20 0
    (unsealed ((in_image_header (4 * 15) := 0x30) ∷ [])
    ∷ unsealed ((in_image_header (4 * 15) := 0x32) ∷ [])
    ∷ unsealed ((in_image_header (4 * 2) := 1) ∷ [])
    ∷ unsealed ((in_image_header (4 * 14) := 1) ∷ [])
    ∷ [])
    -- each with the sum of 15 words
    ++ keeps 20
    (unsealed []
    ∷ unsealed ((in_image_header (4 * 2) := 1) ∷ (in_image_header (4 * 15) := 0x32) ∷ [])
    ∷ unsealed ((in_image_header (4 * 2) := 0xFFFFFFFF) ∷ (in_image_header (4 * 15) := 0x30) ∷ [])
    ∷ unsealed ((in_image_header (4 * 14) := 1) ∷ (in_image_header (4 * 15) := 0x32) ∷ [])
    ∷ [])

-- the counts of two images, and their words 0
abbrev counts : ℕ → ℕ → List Edit
counts a b = (in_image 1 1 := a) ∷ (in_image 2 1 := b) ∷ []

abbrev starts : ℕ → ℕ → List Edit
starts a b = (in_image 1 0 := a) ∷ (in_image 2 0 := b) ∷ []

-- 20, of two images: "Images own runs of the chain, in table order". "all other reckoning is in whole numbers": 2^32 - 1 and 3 aren't 2.
unfoldable pub two_image_cases : List Trial
two_image_cases =
    keeps 20 (two_images [] ∷ [])
    ++ breaks 20 0
    (map (λ (e : List Edit). two_images e)
    (counts 2 0 ∷ counts 0 2 ∷ counts 2 1 ∷ counts 1 2 ∷ counts 1 0 ∷ counts 0xFFFFFFFF 3 ∷ counts 0x80000001 0x80000001 ∷ []))
    -- exchanged; both the first header; a word on
    ++ breaks 20 0
    (map (λ (e : List Edit). two_images e) (starts behind_word 48 ∷ starts 48 48 ∷ starts 48 85 ∷ starts 49 behind_word ∷ []))

-- all rules: an image of two, and the lowest broken number of several
unfoldable pub image_cases : List ImageCase
image_cases =
    at0 (two_images [])
    (record {
      answers = 0;
      writes =
          2 ∷ 2 ∷ 2 ∷ 20 ∷ 320 ∷ 16 ∷ 16 ∷ 0x00100000 ∷ 0 ∷ 0 ∷ 0 ∷ 0x04000001 ∷ 464 ∷ 4 ∷ 4 ∷ 0x00100010 ∷ 0 ∷ 0 ∷ 0 ∷ 0x04000001 ∷ [];
    })
    ∷ at0 (edited ((in_image_header (4 * 1) := 0) ∷ [])) (refused_with 20 0)
    ∷ at0 (edited ((in_image_header (4 * 1) := 2) ∷ [])) (refused_with 20 0)
    ∷ at0 (edited ((in_image_header (4 * 0) := 49) ∷ [])) (refused_with 20 0)
    ∷ at0 (unsealed ((in_image_header (4 * 15) := 0x32) ∷ [])) (refused_with 20 0)
    ∷ at0 (two_images (starts behind_word 48)) (refused_with 20 0)
    -- 19, 18 and 12 come before it
    ∷ at0 (two_images ((behind + 0x18 := 0x0010000F) ∷ starts behind_word 48)) (refused_with 19 2)
    ∷ at0 (edited ((in_header 0x20 := 79) ∷ (in_image_header (4 * 1) := 0) ∷ [])) (refused_with 18 0)
    ∷ at0 (edited ((in_header 0x78 := 1) ∷ (in_image_header (4 * 1) := 0) ∷ [])) (refused_with 12 1)
    ∷ []

-- the owners of partitions 0 to 3
unfoldable pub owners_of : List ℕ → List ℕ
unfolding computed
owners_of image = map (λ (p : ℕ). owner_under (without_buffer plain_rules) (asked image 0) p) (0 ∷ 1 ∷ 2 ∷ 3 ∷ [])
