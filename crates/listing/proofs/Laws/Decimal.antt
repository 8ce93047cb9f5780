-- Laws of a number in decimal: its digits by those of its tenth, what std writes, how many there are, which bytes they are, and that they
-- read back. Assumes nothing.
use Rattle.std.specs.Prelude.{ℕ, zero, suc, ◌+◌, ◌-◌, ◌*◌, ◌/◌, ◌%◌, ◌^◌, ◌≤◌, ◌<◌, Bool, true, false, ◌⊎◌, ◌≡◌, refl, ltb, length, get_or}
use Rattle.std.proofs.Math.Bridge.{le_prop}
use Rattle.std.proofs.Common.{arith, inl, inr, ⊎_elim, sym, ◌∙◌, ap, length-append, lt-ltb, le-ltb, ltb-true, ltb-false}
use mathlib.Core.HLevel.{×_prop}
use mathlib.Core.List.{List, [], ◌∷◌, ◌++◌, Mem}
use Rattle.std.proofs.Math.ListN.{get_or-append}
use Rattle.std.proofs.lemmas.Fmt.{AppendsLastDigit, decimal_from_appends, length-decimal-le_succ}
use Rattle.std.specs.Fmt
use Rattle.pdi_spec.proofs.Laws.Lists.{Every, every_mem}
use Rattle.listing.specs.Decimal.{digit, digits_up_to, decimal, value_from, value}

-- a number has one digit, or more
pub one_or_more : (n : ℕ) → (n < 10) ⊎ (10 ≤ n)
one_or_more n = go (ltb n 10) refl
  where
    go : (t : Bool) → ltb n 10 ≡ t → (n < 10) ⊎ (10 ≤ n)
    go true e = inl (ltb-true n 10 e)
    go false e = inr (ltb-false n 10 e)

-- ---- one digit, and one digit more

up_to_small : (most n : ℕ) → n < 10 → digits_up_to (suc most) n ≡ digit n ∷ []
unfolding digits_up_to
up_to_small most n h = rw (lt-ltb n 10 h) refl

up_to_more : (most n : ℕ) → 10 ≤ n → digits_up_to (suc most) n ≡ digits_up_to most (n / 10) ++ (digit (n % 10) ∷ [])
unfolding digits_up_to
up_to_more most n h = rw (le-ltb n 10 h) refl

-- how many were enough makes no difference
enough : (a b n : ℕ) → n < a → n < b → digits_up_to a n ≡ digits_up_to b n
enough zero b n h k = absurd (omega arith)
enough (suc a) zero n h k = absurd (omega arith)
enough (suc a) (suc b) n h k =
    ⊎_elim (λ few. up_to_small a n few ∙ sym (up_to_small b n few))
    (λ many.
    up_to_more a n many
    ∙ ap (λ (l : List ℕ). l ++ (digit (n % 10) ∷ [])) (enough a b (n / 10) (omega arith) (omega arith))
    ∙ sym (up_to_more b n many)) (one_or_more n)

pub decimal_small : (n : ℕ) → n < 10 → decimal n ≡ digit n ∷ []
unfolding decimal
decimal_small n h = up_to_small n n h

pub decimal_more : (n : ℕ) → 10 ≤ n → decimal n ≡ decimal (n / 10) ++ (digit (n % 10) ∷ [])
unfolding decimal
decimal_more n h =
    up_to_more n n h ∙ ap (λ (l : List ℕ). l ++ (digit (n % 10) ∷ [])) (enough n (suc (n / 10)) (n / 10) (omega arith) (omega arith))

-- what std writes for a number of 64 bits
appends : AppendsLastDigit digits_up_to
unfolding digit
appends = record { one = up_to_small; more = up_to_more }

pub as_std : (n : ℕ) → n < 2 ^ 64 → Fmt.decimal n ≡ decimal n
unfolding decimal
as_std n h = sym (decimal_from_appends digits_up_to appends (suc n) n h (omega (arith, length-decimal-le_succ n h)))

-- what holds of one digit, and of a number where it holds of its tenth, holds of every number
module _ (P : ℕ → Type 0) (one : (n : ℕ) → n < 10 → P n) (more : (n : ℕ) → 10 ≤ n → P (n / 10) → P n) where
  below : (most n : ℕ) → n < most → P n
  below zero n h = absurd (omega arith)
  below (suc most) n h = ⊎_elim (one n) (λ many. more n many (below most (n / 10) (omega arith))) (one_or_more n)

  pub by_digits : (n : ℕ) → P n
  by_digits n = below (suc n) n (omega arith)

-- ---- how many

-- one more than its tenth has
pub length_more : (n : ℕ) → 10 ≤ n → length (decimal n) ≡ length (decimal (n / 10)) + 1
length_more n h = ap length (decimal_more n h) ∙ length-append (decimal (n / 10)) (digit (n % 10) ∷ [])

pub decimal_some : (n : ℕ) → 0 < length (decimal n)
decimal_some =
    by_digits (λ n. 0 < length (decimal n)) (λ n h. omega (arith, ap length (decimal_small n h)))
    (λ n h k. omega (arith, length_more n h))

-- a number's tenth is below the power before
tenth : (k n : ℕ) → n < 10 ^ suc (suc k) → n / 10 < 10 ^ suc k
tenth k n h = omega arith

-- a number below a power of ten has at most as many digits as that power has zeros
pub decimal_length : (k n : ℕ) → n < 10 ^ suc k → length (decimal n) ≤ suc k
decimal_length zero n h = omega (arith, ap length (decimal_small n h))
decimal_length (suc k) n h =
    ⊎_elim (λ few. omega (arith, ap length (decimal_small n few)))
    (λ many. omega (arith, length_more n many, decimal_length k (n / 10) (tenth k n h))) (one_or_more n)

-- ---- which bytes

every_append : (P : ℕ → Type 0) (xs ys : List ℕ) → Every P xs → Every P ys → Every P (xs ++ ys)
every_append P [] ys h k = k
every_append P (x ∷ xs) ys h k = (h.0, every_append P xs ys h.1 k)

abbrev IsDigit : ℕ → Type 0
IsDigit c = (0x30 ≤ c) × (c ≤ 0x39)

all_digits : (n : ℕ) → Every IsDigit (decimal n)
unfolding digit
all_digits =
    by_digits (λ n. Every IsDigit (decimal n)) (λ n h. rw (decimal_small n h) ((omega arith, omega arith), tt))
    (λ n h k. rw (decimal_more n h) (every_append IsDigit (decimal (n / 10)) _ k ((omega arith, omega arith), tt)))

pub each_digit : (n c : ℕ) → Mem c (decimal n) → (0x30 ≤ c) × (c ≤ 0x39)
each_digit n = every_mem IsDigit (λ c. ×_prop le_prop le_prop) (decimal n) (all_digits n)

-- the first one is 0 only of the number 0
no_zero : (n : ℕ) → 1 ≤ n → get_or (decimal n) 0 0 ≡ 0x30 → ⊥
unfolding digit
no_zero =
    by_digits (λ n. 1 ≤ n → get_or (decimal n) 0 0 ≡ 0x30 → ⊥)
    (λ n h p e. omega (arith, sym e ∙ ap (λ (l : List ℕ). get_or l 0 0) (decimal_small n h)))
    (λ n h k p e.
    k (omega arith)
    (sym (ap (λ (l : List ℕ). get_or l 0 0) (decimal_more n h)
    ∙ get_or-append (decimal (n / 10)) (digit (n % 10) ∷ []) 0 0 (decimal_some (n / 10))) ∙ e))

pub leading : (n : ℕ) → 1 ≤ n → (c : ℕ) × (text : List ℕ) × (decimal n ≡ c ∷ text) × (c ≡ 0x30 → ⊥)
leading n h = go (decimal n) refl (decimal_some n) (no_zero n h)
  where
    go : (l : List ℕ) → decimal n ≡ l → 0 < length l → (get_or l 0 0 ≡ 0x30 → ⊥)
        → (c : ℕ) × (text : List ℕ) × (decimal n ≡ c ∷ text) × (c ≡ 0x30 → ⊥)
    go [] e some other = absurd (omega arith)
    go (c ∷ text) e some other = (c, text, e, other)

-- ---- reading back

value_append : (before : ℕ) (xs ys : List ℕ) → value_from before (xs ++ ys) ≡ value_from (value_from before xs) ys
unfolding value_from
value_append before [] ys = refl
value_append before (c ∷ xs) ys = value_append (10 * before + (c - 0x30)) xs ys

pub reads_back : (n : ℕ) → value (decimal n) ≡ n
unfolding value value_from digit
reads_back =
    by_digits (λ n. value (decimal n) ≡ n) (λ n h. ap (value_from 0) (decimal_small n h) ∙ omega arith)
    (λ n h k.
    ap (value_from 0) (decimal_more n h)
    ∙ value_append 0 (decimal (n / 10)) (digit (n % 10) ∷ [])
    ∙ omega (arith, k))
