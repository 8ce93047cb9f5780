-- Document 02, CR 1: the image headers of a file, the runs of the chain that its images own, and the owner image of a partition. Images
-- are counted from 1, as partitions are. Assumes nothing.
use Rattle.std.specs.Prelude.{ℕ, zero, suc, ◌+◌, ◌-◌, ◌*◌, ◌≤◌, ◌<◌, List, leb}
use Rattle.std.proofs.Math.Option.{Option-elim}
use Rattle.pdi_spec.specs.Lists.{numbers, first_of}
use Rattle.pdi_spec.specs.Headers.{image_header_size, ImageHeader, image_header_from}
use Rattle.pdi_spec.specs.File.{File, table}

-- how many images there are, and the images 1 to that number, in table order
unfoldable pub images : File → ℕ
images f = (table f).images

unfoldable pub image_numbers : File → List ℕ
image_numbers f = numbers 1 (images f)

-- Document 01: "Image headers lie one after another". Rule 6 asks that each has 16 words.
unfoldable pub image_header_at : File → ℕ → ℕ
image_header_at f i = 4 * (table f).image_header_offset + image_header_size * (i - 1)

unfoldable pub image_header : File → ℕ → ImageHeader
image_header f i = image_header_from f.bytes (image_header_at f i)

-- "Images own runs of the chain, in table order": how many partitions the images 1 to i own, the sum of their counts in whole numbers
unfoldable pub owned_up_to : File → ℕ → ℕ
owned_up_to f zero = 0
owned_up_to f (suc i) = owned_up_to f i + (image_header f (suc i)).partitions

-- the first partition of image i's run: the one after those that the images before it own
unfoldable pub run_start : File → ℕ → ℕ
run_start f i = owned_up_to f (i - 1) + 1

-- partition p lies in image i's run: the counts of the images before i are less than p, and those up to i at least p
pub record InRun (f : File) (i p : ℕ) : Type 0 where
  pub counted : 1 ≤ i
  pub listed : i ≤ images f
  pub after : owned_up_to f (i - 1) < p
  pub within : p ≤ owned_up_to f i

-- "the owner image of partition p, counted from 1": the first image that owns p partitions together with those before it; 0 where none does
unfoldable pub owner_image : File → ℕ → ℕ
owner_image f p = Option-elim (first_of (λ (i : ℕ). leb p (owned_up_to f i)) (image_numbers f)) 0 (λ i. i)
