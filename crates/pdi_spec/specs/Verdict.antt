-- Document 01, "Rules by number": what a rule is, and what a list of rules says of a file. Assumes nothing.
-- "The lowest broken number is answered, with the smallest p that breaks it. A rule is tried only if all lower ones hold for
-- every partition."
use Rattle.std.specs.Prelude.{ℕ, suc, Bool, false, cond, ◌≡◌}
use mathlib.Core.List.{List, [], ◌∷◌, ◌++◌, Mem}
use Rattle.std.proofs.Math.Option.{Option, none, some, Option-elim}
use Rattle.pdi_spec.specs.Lists.{numbers, first_of, First}
use Rattle.pdi_spec.specs.File.{File, partitions, partition_numbers}

-- A row of the table: its number, the p's that it is tried at, in their order, and whether it is broken at one of them.
pub record Rule : Type 0 where
  pub number : ℕ
  pub tried : File → List ℕ
  pub broken : File → ℕ → Bool

-- the three kinds of the table's column p: 0; p from 1 to N; p from 0 (the table's own) to N
unfoldable pub once : ℕ → (File → Bool) → Rule
once number broken = record { number = number; tried = λ f. 0 ∷ []; broken = λ f p. broken f }

unfoldable pub each : ℕ → (File → ℕ → Bool) → Rule
each number broken = record { number = number; tried = partition_numbers; broken = broken }

unfoldable pub each_and_table : ℕ → (File → ℕ → Bool) → Rule
each_and_table number broken = record { number = number; tried = λ f. numbers 0 (suc (partitions f)); broken = broken }

-- accepted, or refused with a number and a p
pub data Outcome : Type 0 where
  accepted : Outcome
  refused : ℕ → ℕ → Outcome

-- the first rule of the list that is broken, at the first p that breaks it
unfoldable pub verdict : List Rule → File → Outcome
verdict [] f = accepted
verdict (r ∷ rs) f =
    let later = verdict rs f in
    Option-elim (first_of (r.broken f) (r.tried f)) later (refused r.number)

-- the number of the first rule of the list that is broken at p
unfoldable pub first_broken : List Rule → File → ℕ → Option ℕ
first_broken [] f p = none
first_broken (r ∷ rs) f p = let later = first_broken rs f p in cond (r.broken f p) (some r.number) later

-- ---- what the claims say of a verdict

-- the rule is kept: broken at no p that it is tried at
unfoldable pub Kept : Rule → File → Type 0
Kept r f = (p : ℕ) → Mem p (r.tried f) → r.broken f p ≡ false

-- every rule of the list is kept
unfoldable pub Keeps : List Rule → File → Type 0
Keeps rs f = (r : Rule) → Mem r rs → Kept r f

-- the rule is broken at p, and at no p that it is tried at before
abbrev pub FirstBroken : Rule → File → ℕ → Type 0
FirstBroken r f p = First (r.broken f) (r.tried f) p

-- a rule of this number stands in the list and is first broken at p, and every rule before it is kept
pub record FirstRefusal (rs : List Rule) (f : File) (number p : ℕ) : Type 0 where
  pub earlier : List Rule
  pub rule : Rule
  pub later : List Rule
  pub listed : rs ≡ earlier ++ (rule ∷ later)
  pub numbered : rule.number ≡ number
  pub earlier_kept : Keeps earlier f
  pub broken_first : FirstBroken rule f p
