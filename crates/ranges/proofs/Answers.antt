-- The answer t of a test is the definition's, where true and false each tell the fact. Assumes nothing.
use Prim.Native.Nat.{ℕ, ◌≤◌, ◌<◌, min, max}
use mathlib.Core.Bool.{Bool, true, false}
use mathlib.Core.Path.{◌≡◌, refl, sym}
use lib.Dec.{ltb}
use native.Mathlib.Omega.{arith}
use borrow.Author.Tests.{lt-ltb, le-ltb, le-leb, lt-leb, leb-true, leb-false}
use Rattle.pdi_spec.specs.Ranges.{Range, end_of, overlap, past}
use Rattle.ranges.specs.Range.{ends_before}

-- t tells whether m is less than n
abbrev pub Tells : ℕ → ℕ → Bool → Type 0
Tells m n t = (t ≡ true → m < n) × (t ≡ false → n ≤ m)

told : (m n : ℕ) (t : Bool) → Tells m n t → t ≡ ltb m n
told m n true tells = sym (lt-ltb m n (tells.0 refl))
told m n false tells = sym (le-ltb m n (tells.1 refl))

pub overlap_told : (a b : Range) (t : Bool) → Tells (max a.start b.start) (min (end_of a) (end_of b)) t → t ≡ overlap a b
unfolding overlap
overlap_told a b = told (max a.start b.start) (min (end_of a) (end_of b))

pub apart : (a b : Range) → min (end_of a) (end_of b) ≤ max a.start b.start → false ≡ overlap a b
unfolding overlap
apart a b h = sym (le-ltb (max a.start b.start) (min (end_of a) (end_of b)) h)

pub past_told : (limit : ℕ) (a : Range) (t : Bool) → Tells limit (end_of a) t → t ≡ past limit a
unfolding past
past_told limit a = told limit (end_of a)

pub before_told : (a b : Range) (t : Bool) → (t ≡ true → end_of a ≤ b.start) × (t ≡ false → b.start < end_of a) → t ≡ ends_before a b
unfolding ends_before
before_told a b true tells = sym (le-leb (end_of a) b.start (tells.0 refl))
before_told a b false tells = sym (lt-leb (end_of a) b.start (tells.1 refl))

-- what omega needs to prove a `Tells` of the code's test: `ltb m n` is `leb (suc m) n`
pub ruleset tests = (arith, leb-true, leb-false)
