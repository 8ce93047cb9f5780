-- The search for a partition's owner: what the loop keeps after i images, and what it answers. Assumes nothing.
use Rattle.std.proofs.Common.{ℕ, ◌+◌, ◌*◌, ◌≤◌, ◌<◌, arith, Bool, ◌≡◌, refl, sym, ◌∙◌, ap, le-leb, leb}
use Rattle.std.proofs.Math.Option.{Option-elim}
use Rattle.std.proofs.lemmas.Bool.{lt-leb}
use Rattle.pdi_spec.specs.File.{File}
use Rattle.pdi_spec.specs.Images.{images, image_numbers, image_header, owned_up_to, owner_image}
use Rattle.pdi_spec.specs.Headers as spec
use Rattle.headers.specs.Headers.{image_header_of}
use Rattle.headers.specs.declared.image.ImageHeader.{ImageHeader}
use Rattle.pdi_spec.proofs.Laws.Images.{owned_more}
use Rattle.pdi_spec.proofs.Laws.Searches.{NoneOf, none_yet, one_more, found, not_found}

-- the images up to k own p partitions or more
abbrev reaches : File → ℕ → ℕ → Bool
reaches f p k = leb p (owned_up_to f k)

-- after i images: they own that many partitions, at most 2^32 each, and each fewer than p together with those before it
pub record OwnedSoFar (f : File) (p owned i : ℕ) : Type 0 where
  pub owned_is : owned ≡ owned_up_to f i
  pub small : owned ≤ 0x1_0000_0000 * i
  pub none : NoneOf (reaches f p) 1 i

pub starts : (f : File) (p : ℕ) → OwnedSoFar f p 0 0
unfolding owned_up_to
starts f p = record { owned_is = refl; small = omega arith; none = none_yet (reaches f p) 1 }

module _ (f : File) {p owned i : ℕ} (so_far : OwnedSoFar f p owned i) where
  -- what the next image owns
  module _ {count : ℕ} (count_is : count ≡ (image_header f (i + 1)).partitions) where
    owned_next : owned_up_to f (1 + i) ≡ owned + count
    owned_next =
        ap (owned_up_to f) {x = 1 + i} {y = i + 1} (omega arith) ∙ omega (arith, owned_more f i, so_far.owned_is, count_is)

    pub onward : count < 0x1_0000_0000 → owned + count < p → OwnedSoFar f p (owned + count) (i + 1)
    onward few l =
        record {
          owned_is = sym owned_next ∙ ap (owned_up_to f) {x = 1 + i} {y = i + 1} (omega arith);
          small = omega (arith, so_far.small);
          none = one_more (reaches f p) 1 i so_far.none (lt-leb p (owned_up_to f (1 + i)) (omega (arith, owned_next)));
        }

    pub reached : i < images f → p ≤ owned + count → owner_image f p ≡ i + 1
    unfolding owner_image image_numbers Option-elim
    reached l e =
        let first = found (reaches f p) 1 (images f) i so_far.none l (le-leb p (owned_up_to f (1 + i)) (omega (arith, owned_next))) in
        rw first (omega arith)

  pub unreached : i ≡ images f → owner_image f p ≡ 0
  unfolding owner_image image_numbers Option-elim
  unreached e = rw (not_found (reaches f p) 1 (images f) (λ k l. so_far.none k (omega arith))) refl

-- what the image header that was read says of that
pub count_read : (f : File) (i : ℕ) {h : ImageHeader} → image_header_of h ≡ image_header f (i + 1)
    → h.partitions ≡ (image_header f (i + 1)).partitions
count_read f i read = ap {B = ℕ} (λ (u : spec.ImageHeader). u.partitions) read
