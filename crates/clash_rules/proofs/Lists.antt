-- Lists of ranges as the code has them: without hash blocks nothing clashes, and what a list had before more was appended. Assumes nothing.
use Rattle.std.proofs.Common.{◌≡◌, ℕ, Bool, true, false, ◌||◌, List, [], ◌∷◌, ◌++◌, map, length, take, refl, sym, ◌∙◌, ap, arith}
use Rattle.std.proofs.Math.Bool.{and-true, or-false}
use Rattle.std.proofs.Math.Seq.{take-append_seam}
use Rattle.std.proofs.lemmas.List.{length-map, take-map}
use Rattle.pdi_spec.specs.File.{File}
use Rattle.pdi_spec.specs.Lists.{any_of, any_true, any_pair}
use Rattle.pdi_spec.specs.Ranges.{Range, overlap, header_ranges, hash_blocks, span, spans, body, bodies}
use Rattle.pdi_spec.specs.Rules.{stored_ranges_clash}
use Rattle.pdi_spec.specs.RuleList.{rule18}
use Rattle.pdi_spec.specs.Verdict.{accepted, refused, verdict}
use Rattle.pdi_spec.proofs.Laws.Once.{once_broken, once_kept}
use Rattle.ranges.specs.Range.{range_of}
use Rattle.ranges.specs.declared.Range as code
use Rattle.pairs.specs.Lists.{clashes, block_clash, crossing}
use Rattle.range_lists.specs.Parts.{parts_of}
use Rattle.range_lists.specs.declared.parts.Part.{Part}

-- ---- hash blocks

-- where there are none
pub no_blocks : (blocks ranges : List Range) (list : List code.Range) → map range_of list ≡ blocks → length list ≡ 0
    → block_clash blocks ranges ≡ false
unfolding block_clash crossing any_of any_pair
no_blocks blocks ranges [] put size = rw (← put) refl
no_blocks blocks ranges (b ∷ list) put size = absurd (omega arith)

-- blocks held against headers and bodies
pub blocks_told : (f : File) (list old new : List code.Range) → map range_of list ≡ hash_blocks f
    → map range_of old ≡ header_ranges f → map range_of new ≡ map range_of old ++ parts_of Part.Body f
    → block_clash (map range_of list) (map range_of new) ≡ block_clash (hash_blocks f) (header_ranges f ++ bodies f)
unfolding bodies body parts_of
blocks_told f list old new put headers all =
    rw (put, all, headers) refl

-- ---- rule 18's tests: of ranges of headers and spans, and of hash blocks

tests : (f : File)
    → stored_ranges_clash f
    ≡ (any_pair (clashes false) (header_ranges f ++ parts_of Part.Span f) || block_clash (hash_blocks f) (header_ranges f ++ bodies f))
unfolding stored_ranges_clash clashes block_clash crossing any_true spans span parts_of
tests f =
    ap (λ (test : Range → Range → Bool). any_pair test (header_ranges f ++ spans f)
    || (crossing (hash_blocks f) (header_ranges f ++ bodies f) || (any_pair (clashes true) (hash_blocks f) || false)))
    (sym (λ i a b. and-true (overlap a b) i))
    ∙ ap (λ (last : Bool). any_pair (clashes false) (header_ranges f ++ spans f)
    || (crossing (hash_blocks f) (header_ranges f ++ bodies f) || last))
    (or-false _)

-- the list of headers and spans
module _ (f : File) (headers whole : List code.Range) (put : map range_of headers ≡ header_ranges f)
    (all : map range_of whole ≡ map range_of headers ++ parts_of Part.Span f) where
  pub spans_clash : any_pair (clashes false) (map range_of whole) ≡ true → stored_ranges_clash f ≡ true
  spans_clash e =
      let found = rw (all, put) at e in
      rw (tests f, found) refl

  pub spans_apart : any_pair (clashes false) (map range_of whole) ≡ false
      → stored_ranges_clash f ≡ block_clash (hash_blocks f) (header_ranges f ++ bodies f)
  spans_apart e =
      let left = rw (all, put) at e in
      rw (tests f, left) refl

  -- the headers alone again
  pub front_kept : (n : ℕ) → n ≡ length headers → map range_of (take n whole) ≡ header_ranges f
  front_kept n size =
      sym (take-map range_of n whole)
      ∙ (λ i. take ((size ∙ sym (length-map headers range_of)) i) (all i))
      ∙ take-append_seam (map range_of headers) (parts_of Part.Span f)
      ∙ put

pub ruleset stored_laws = (spans_clash, spans_apart, front_kept)

-- ---- the rule

pub stored_broken : (f : File) → stored_ranges_clash f ≡ true → verdict (rule18 ∷ []) f ≡ refused 18 0
stored_broken f = once_broken 18 stored_ranges_clash f []

pub stored_kept : (f : File) → stored_ranges_clash f ≡ false → verdict (rule18 ∷ []) f ≡ accepted
unfolding verdict
stored_kept f = once_kept 18 stored_ranges_clash f []
