-- Plain tools on lists and tests, for the definitions of the other files. Assumes nothing.
use Rattle.std.specs.Prelude.{ℕ, zero, suc, ◌+◌, Bool, true, false, cond, ◌||◌, ◌≡◌, eqb}
use mathlib.Core.List.{List, [], ◌∷◌, ◌++◌, Mem}
use Rattle.std.proofs.Math.Option.{Option, none, some}

-- n numbers, from `from` on: numbers 1 3 is 1 ∷ 2 ∷ 3 ∷ []
unfoldable pub numbers : ℕ → ℕ → List ℕ
numbers from zero = []
numbers from (suc n) = from ∷ numbers (suc from) n

unfoldable pub sum_of : List ℕ → ℕ
sum_of [] = 0
sum_of (x ∷ xs) = x + sum_of xs

-- one of the tests is true
unfoldable pub any_true : List Bool → Bool
any_true [] = false
any_true (b ∷ tests) = b || any_true tests

module _ {A : Type 0} where
  -- some entry passes the test
  unfoldable pub any_of : (A → Bool) → List A → Bool
  any_of test [] = false
  any_of test (x ∷ xs) = test x || any_of test xs

  -- some two entries of the list, the earlier one first, pass the test
  unfoldable pub any_pair : (A → A → Bool) → List A → Bool
  any_pair test [] = false
  any_pair test (x ∷ xs) = any_of (test x) xs || any_pair test xs

  -- the entries that pass the test, in their order
  unfoldable pub those : (A → Bool) → List A → List A
  those test [] = []
  those test (x ∷ xs) = let rest = those test xs in cond (test x) (x ∷ rest) rest

  -- how many entries pass the test
  unfoldable pub count_of : (A → Bool) → List A → ℕ
  count_of test [] = 0
  count_of test (x ∷ xs) = cond (test x) 1 0 + count_of test xs

  -- the first entry that passes the test
  unfoldable pub first_of : (A → Bool) → List A → Option A
  first_of test [] = none
  first_of test (x ∷ xs) = let rest = first_of test xs in cond (test x) (some x) rest

  -- x stands in the list and passes the test, and no entry before it does
  pub record First (test : A → Bool) (xs : List A) (x : A) : Type 0 where
    pub before : List A
    pub after : List A
    pub split : xs ≡ before ++ (x ∷ after)
    pub passes : test x ≡ true
    pub none_before : (e : A) → Mem e before → test e ≡ false

-- the word stands in the list
unfoldable pub is_in : ℕ → List ℕ → Bool
is_in word list = any_of (eqb word) list
