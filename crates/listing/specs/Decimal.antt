-- A number in decimal, as text in ASCII, and such a text read back. Assumes nothing.
use Rattle.std.specs.Prelude.{ℕ, zero, suc, ◌+◌, ◌-◌, ◌*◌, ◌/◌, ◌%◌, cond, List, [], ◌∷◌, ◌++◌, ltb}

-- the digit 0, in ASCII
abbrev pub zero_digit : ℕ
zero_digit = 0x30

-- the ASCII byte of a digit
unfoldable pub digit : ℕ → ℕ
digit d = zero_digit + d

-- The digits of n, the most significant first: those of its tenth, and then its last one. `most` is at least as many as n has, and only
-- makes the definition total.
unfoldable pub digits_up_to : ℕ → ℕ → List ℕ
digits_up_to zero n = []
digits_up_to (suc most) n =
    let longer = digits_up_to most (n / 10) ++ (digit (n % 10) ∷ []) in
    cond (ltb n 10) (digit n ∷ []) longer

-- n has at most n + 1 digits
unfoldable pub decimal : ℕ → List ℕ
decimal n = digits_up_to (suc n) n

-- ---- reading back

-- the number that a text stands for, where `before` is what the digits before it stand for
unfoldable pub value_from : ℕ → List ℕ → ℕ
value_from before [] = before
value_from before (c ∷ text) = value_from (10 * before + (c - zero_digit)) text

unfoldable pub value : List ℕ → ℕ
value text = value_from 0 text
