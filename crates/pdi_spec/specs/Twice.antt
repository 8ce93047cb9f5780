-- Document 01, "Positions, memory and claims": positions and addresses that are claimed twice. Assumes nothing.
use Rattle.std.specs.Prelude.{ℕ, ◌*◌, ◌/◌, ◌%◌, ◌≤◌, ◌<◌, ◌≢◌, ◌↔◌, ◌≡◌, length}
use Rattle.std.proofs.Math.Bool.{So}
use mathlib.Core.List.{List, [], ◌∷◌, ◌++◌, Mem, Sublist}
use Rattle.pdi_spec.specs.Limits.{answer_unit}
use Rattle.pdi_spec.specs.File.{File, partitions}
use Rattle.pdi_spec.specs.Ranges.{Range, within, header_ranges, spans, bodies, hash_blocks, loads, load_range, loads_to, address_space}

-- two entries of the list, the earlier one first
abbrev pub TwoOf : Range → Range → List Range → Type 0
TwoOf a b ranges = Sublist (a ∷ b ∷ []) ranges

-- "A position is claimed twice if it lies in two ranges that rule 18 wants disjoint, or in two hash blocks that aren't equal."
pub data LiesInTwo (f : File) (x : ℕ) : Type 0 where
  two_stored : (a b : Range) → TwoOf a b (header_ranges f ++ spans f) → So (within a x) → So (within b x) → LiesInTwo f x
  block_and_stored : (h b : Range) → Mem h (hash_blocks f) → Mem b (header_ranges f ++ bodies f) → So (within h x)
      → So (within b x) → LiesInTwo f x
  two_blocks : (g h : Range) → TwoOf g h (hash_blocks f) → g ≢ h → So (within g x) → So (within h x) → LiesInTwo f x

-- "A position is a byte offset below the image's length."
pub record PositionTwice (f : File) : Type 0 where
  pub position : ℕ
  pub inside_image : position < length f.bytes
  pub lies : LiesInTwo f position

-- partition p's load range shares an address with that of the earlier partition e
pub record Shares (f : File) (e p : ℕ) : Type 0 where
  pub counted : 1 ≤ e
  pub earlier : e < p
  pub loads_e : So (loads f e)
  pub loads_p : So (loads f p)
  pub address : ℕ
  pub in_space : address < address_space
  pub in_e : So (loads_to (load_range f e) address)
  pub in_p : So (loads_to (load_range f p) address)

-- partition p's load range meets an earlier partition's
unfoldable pub MeetsEarlier : File → ℕ → Type 0
MeetsEarlier f p = (e : ℕ) × Shares f e p

-- "An address is claimed twice if it lies in the load ranges of two partitions."
pub record AddressTwice (f : File) : Type 0 where
  pub p : ℕ
  pub in_chain : p ≤ partitions f
  pub meets : MeetsEarlier f p

-- p is the smallest partition whose load range meets an earlier one's
pub record SmallestMeeting (f : File) (p : ℕ) : Type 0 where
  pub in_chain : p ≤ partitions f
  pub meets : MeetsEarlier f p
  pub smallest : (e : ℕ) → e < p → MeetsEarlier f e → ⊥

-- what is claimed of the answer `given`, where rules 1 to 17 are kept: 18 exactly where a position is claimed twice, 19 exactly where no
-- position is, but an address is, and p is then the smallest partition whose load range meets an earlier one's
pub record ClaimedTwice (f : File) (given : ℕ) : Type 0 where
  pub stored : (given ≡ answer_unit * 18) ↔ PositionTwice f
  pub loaded : (given / answer_unit ≡ 19) ↔ ((PositionTwice f → ⊥) × AddressTwice f)
  pub smallest_p : given / answer_unit ≡ 19 → SmallestMeeting f (given % answer_unit)
