-- Document 02, CR 1: the condition of rule 20, "Broken when", and what it asks in plain numbers. Assumes nothing.
use Rattle.std.specs.Prelude.{ℕ, ◌*◌, ◌≤◌, Bool, not, List, [], ◌∷◌, ◌≡◌, ltb, eqb}
use Rattle.pdi_spec.specs.Lists.{any_true, any_of}
use Rattle.pdi_spec.specs.Words.{checksum}
use Rattle.pdi_spec.specs.Headers.{ImageHeader}
use Rattle.pdi_spec.specs.File.{File, partitions, header_at}
use Rattle.pdi_spec.specs.Images.{images, image_numbers, image_header, owned_up_to, run_start}

-- "15 a checksum made as the other tables'": it isn't the sum of the first 15 words
unfoldable pub image_checksum_bad : List ℕ → ImageHeader → Bool
image_checksum_bad bytes h = not (eqb h.checksum (checksum bytes h.at 15))

-- "each word 0 gives its run's first header": that of image i doesn't
unfoldable pub run_misplaced : File → ℕ → Bool
run_misplaced f i = not (eqb (4 * (image_header f i).first_header_offset) (header_at f (run_start f i)))

-- 20: "each count is at least 1, the counts add up to N, and each word 0 gives its run's first header"; "20, any of this broken". Where a
-- run would start past header N, a clause before the last is broken, so no such header is looked at.
unfoldable pub image_headers_bad : File → Bool
image_headers_bad f =
    any_true
    (any_of (λ (i : ℕ). image_checksum_bad f.bytes (image_header f i)) (image_numbers f)
    ∷ any_of (λ (i : ℕ). ltb (image_header f i).partitions 1) (image_numbers f)
    ∷ not (eqb (owned_up_to f (images f)) (partitions f))
    ∷ any_of (run_misplaced f) (image_numbers f)
    ∷ [])

-- what rule 20 asks of an image header, and of all of them
pub record OwnsRun (f : File) (i : ℕ) : Type 0 where
  pub sum_right : (image_header f i).checksum ≡ checksum f.bytes (image_header f i).at 15
  pub owns_some : 1 ≤ (image_header f i).partitions
  pub starts : 4 * (image_header f i).first_header_offset ≡ header_at f (run_start f i)

pub record AllOwnRuns (f : File) : Type 0 where
  pub each_run : (i : ℕ) → 1 ≤ i → i ≤ images f → OwnsRun f i
  pub add_up : owned_up_to f (images f) ≡ partitions f
