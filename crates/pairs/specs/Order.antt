-- Ranges in order: each follows those before it. Then none of them clash, and only the first and the last have to be looked at to see that
-- another range lies apart from all of them. Assumes nothing.
use Rattle.std.specs.Prelude.{◌≤◌, Bool, true, List, ◌⊎◌, ◌≡◌, All, AllPairs}
use Rattle.pdi_spec.specs.Ranges.{Range, end_of}

-- b starts at or after a's end; or they are equal, where that is allowed
abbrev pub Follows : Bool → Range → Range → Type 0
Follows equals a b = (end_of a ≤ b.start) ⊎ ((equals ≡ true) × (a ≡ b))

-- each range follows every earlier one
abbrev pub InOrder : Bool → List Range → Type 0
InOrder equals ranges = AllPairs (Follows equals) ranges

-- each range ends at or before the start of one range, or starts at or after the end of another
abbrev pub Outside : Range → Range → List Range → Type 0
Outside first last ranges = All (λ (r : Range). (end_of r ≤ first.start) ⊎ (end_of last ≤ r.start)) ranges
