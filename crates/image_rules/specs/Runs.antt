-- Where the image headers lie, and what one image's run of the chain answers. Assumes nothing.
use Rattle.std.specs.Prelude.{ℕ, ◌+◌, ◌-◌, ◌≤◌, ◌<◌, Bool, true, false, List, [], ◌∷◌, leb, ltb, length, Option, None, Some}
use Rattle.pdi_spec.specs.Limits.{most_images}
use Rattle.pdi_spec.specs.Lists.{any_true}
use Rattle.pdi_spec.specs.Headers.{image_header_size}
use Rattle.pdi_spec.specs.File.{File, partitions}
use Rattle.pdi_spec.specs.Images.{image_header_at, image_header, owned_up_to}
use Rattle.pdi_spec.specs.ImageRules.{image_checksum_bad, run_misplaced}
use Rattle.headers.specs.declared.table.TableHeader.{TableHeader}
use Rattle.chain_rules.specs.Chain.{IsTable, file_of}

-- t is the image's table, and its image headers, at most 32, lie all inside the image; images are counted from 1
pub record ImageHeadersInside (bytes : List ℕ) (t : TableHeader) : Type 0 where
  pub own : IsTable bytes t
  pub few : t.images ≤ most_images
  pub inside : (i : ℕ) → i < t.images → image_header_at (file_of bytes t) (i + 1) + image_header_size ≤ length bytes

-- image i has no run, as the images before it own all partitions already, or it breaks rule 20 by its own header
unfoldable pub run_broken : File → ℕ → Bool
run_broken f i =
    any_true
    (leb (partitions f) (owned_up_to f (i - 1))
    ∷ image_checksum_bad f.bytes (image_header f i)
    ∷ ltb (image_header f i).partitions 1
    ∷ run_misplaced f i
    ∷ [])

-- one image's run: none where it is broken, or how many partitions it and the images before it own
unfoldable pub run_of : Bool → ℕ → Option ℕ
run_of true end = None
run_of false end = Some end

unfoldable pub run_at : File → ℕ → Option ℕ
run_at f i = run_of (run_broken f i) (owned_up_to f i)
