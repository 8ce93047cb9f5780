-- Rule 10 along a file's chain: what the loop keeps after i links, and what it answers. Assumes nothing.
use Rattle.std.proofs.Common.{ℕ, ◌+◌, ◌*◌, ◌≤◌, ◌<◌, arith, List, [], ◌∷◌, ◌≡◌, sym, ◌∙◌, ap, length, get_or, set, length-set, Option, None, Some}
use Rattle.pdi_spec.specs.File.{File, partitions, partition_numbers, header_at}
use Rattle.pdi_spec.specs.Headers.{header_size}
use Rattle.pdi_spec.specs.Limits.{most_partitions}
use Rattle.pdi_spec.specs.RuleList.{rule10}
use Rattle.pdi_spec.specs.Rules.{chain_broken}
use Rattle.pdi_spec.specs.Verdict.{accepted, refused, each, verdict}
use Rattle.pdi_spec.proofs.Laws.Lists.{stored_more}
use Rattle.pdi_spec.proofs.Laws.Searches.{NoneOf, none_yet, one_more, found, not_found}
use Rattle.chain_rules.specs.Chain.{link_at}
use Rattle.chain_rules.proofs.Links.{next_at, link_broken, link_next, header_inside}
use Rattle.chain_rules.proofs.Counts.{count_is, first_is}
use Rattle.chain_rules.proofs.Verdicts.{one_broken, one_kept}

-- header k, at this offset, lies where the chain says, all inside
abbrev pub Lies : File → ℕ → ℕ → Type 0
Lies f k offset = (offset ≡ header_at f (k + 1)) × (offset + header_size ≤ length f.bytes)

-- after i links: no rule is broken so far, the i offsets are stored, and `at` is where the next header lies
pub record ChainSoFar (f : File) (offsets : List ℕ) (at i : ℕ) : Type 0 where
  pub none : NoneOf (chain_broken f) 1 i
  pub stored : (k : ℕ) → k < i → Lies f k (get_or offsets k 0)
  pub next : at ≡ header_at f (i + 1)
  pub room : length offsets ≡ most_partitions

pub starts : (f : File) (offsets : List ℕ) {at : ℕ} → at ≡ header_at f 1 → length offsets ≡ most_partitions → ChainSoFar f offsets at 0
starts f offsets e l =
    record { none = none_yet (chain_broken f) 1; stored = λ k h. absurd (omega arith); next = e; room = l }

module _ (f : File) {offsets : List ℕ} {at i : ℕ} (so_far : ChainSoFar f offsets at i) where
  pub kept : i ≡ partitions f → accepted ≡ verdict (rule10 ∷ []) f
  unfolding each partition_numbers
  kept e = one_kept rule10 f (not_found (chain_broken f) 1 (partitions f) (λ k l. so_far.none k (omega arith)))

  pub broken : i < partitions f → link_at f (i + 1) ≡ None → refused 10 (i + 1) ≡ verdict (rule10 ∷ []) f
  unfolding each partition_numbers
  broken l e =
      let same : 1 + i ≡ i + 1 = omega arith in
      ap (refused 10) (sym same)
      ∙ one_broken rule10 f
      (found (chain_broken f) 1 (partitions f) i so_far.none l (ap (chain_broken f) same ∙ link_broken f (i + 1) e))

  pub onward : i < most_partitions → {link : Option ℕ} → link ≡ link_at f (i + 1) → {next : ℕ} → link ≡ Some next
      → ChainSoFar f (set offsets i at) (4 * next) (i + 1)
  onward l told e =
      let t = link_next f (i + 1) (sym told ∙ e) in
      let same : 1 + i ≡ i + 1 = omega arith in
      let here : Lies f i at = (so_far.next, omega (arith, so_far.next, header_inside f (i + 1) t.0)) in
      record {
        none = one_more (chain_broken f) 1 i so_far.none (ap (chain_broken f) same ∙ t.0);
        stored = stored_more (Lies f) offsets i at (omega (arith, so_far.room)) so_far.stored here;
        next = ap (λ (n : ℕ). 4 * n) t.1 ∙ sym (next_at f i);
        room = length-set offsets i at ∙ so_far.room;
      }

-- what the loop's start and its two answers need
pub ruleset along = (starts, kept, broken, count_is, first_is)
