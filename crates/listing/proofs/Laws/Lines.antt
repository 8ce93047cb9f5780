-- Laws of a line: its first number and what follows each, and how long it can be. Assumes nothing.
use Rattle.std.specs.Prelude.{ℕ, ◌+◌, ◌*◌, ◌^◌, ◌≤◌, ◌<◌, List, [], ◌∷◌, ◌++◌, ◌≡◌, refl, length, drop, get_or}
use Rattle.std.proofs.Common.{arith, add-one, append_assoc, sym, ◌∙◌, ap, length-append, drop_of_length-le, drop-cons}
use Rattle.pdi_spec.proofs.Laws.Lists.{Every}
use Rattle.listing.specs.Decimal.{decimal}
use Rattle.listing.specs.Pieces.{mark, left}
use Rattle.listing.specs.Printed.{space, line_feed, spaced, line, most_digits}
use Rattle.listing.proofs.Laws.Decimal.{decimal_length}

-- what follows a number in its line, by the numbers that follow it
unfoldable pub after : List ℕ → List ℕ
after [] = line_feed ∷ []
after (n ∷ ns) = space ∷ (decimal n ++ after ns)

pub line_after : (n : ℕ) (ns : List ℕ) → line (n ∷ ns) ≡ decimal n ++ after ns
unfolding line spaced after
line_after n [] = refl
line_after n (m ∷ ns) =
    append_assoc (decimal n) (space ∷ spaced (m ∷ ns)) (line_feed ∷ [])
    ∙ ap (λ (l : List ℕ). decimal n ++ (space ∷ l)) (line_after m ns)

pub line_first : (ns : List ℕ) → 0 < length ns → line ns ≡ decimal (get_or ns 0 0) ++ after (drop 1 ns)
line_first [] some = absurd (omega arith)
line_first (n ∷ ns) some = line_after n ns

pub after_more : (ns : List ℕ) (i : ℕ) → i < length ns → after (drop i ns) ≡ space ∷ (decimal (get_or ns i 0) ++ after (drop (i + 1) ns))
unfolding after
after_more ns i h = rw (add-one, drop-cons ns i 0 h) refl

pub after_none : (ns : List ℕ) (i : ℕ) → length ns ≤ i → after (drop i ns) ≡ line_feed ∷ []
unfolding after
after_none ns i h = ap after (drop_of_length-le ns h)

-- ---- the same, each number with the byte behind it

-- a line is its first number, the byte after it and what is left
pub line_more : (n : ℕ) (ns : List ℕ) → line (n ∷ ns) ≡ (decimal n ++ (mark ns ∷ [])) ++ left ns
unfolding line spaced mark left
line_more n [] = sym (append_assoc (decimal n) (line_feed ∷ []) [])
line_more n (m ∷ ns) =
    append_assoc (decimal n) (space ∷ spaced (m ∷ ns)) (line_feed ∷ [])
    ∙ sym (append_assoc (decimal n) (space ∷ []) (spaced (m ∷ ns) ++ (line_feed ∷ [])))

pub left_more : (n : ℕ) (ns : List ℕ) → left (n ∷ ns) ≡ (decimal n ++ (mark ns ∷ [])) ++ left ns
unfolding left
left_more = line_more

-- of a whole line all is left
pub left_line : (ns : List ℕ) → 0 < length ns → left ns ≡ line ns
unfolding left
left_line [] some = absurd (omega arith)
left_line (n ∷ ns) some = refl

-- ---- lengths

-- a number of 64 bits has at most 20 digits
narrow_length : (n : ℕ) → n < 2 ^ 64 → length (decimal n) ≤ most_digits
narrow_length n h = decimal_length 19 n (omega arith)

piece_length : (n : ℕ) (ns : List ℕ) → length (left (n ∷ ns)) ≡ length (decimal n) + 1 + length (left ns)
piece_length n ns =
    ap length (left_more n ns)
    ∙ length-append (decimal n ++ (mark ns ∷ [])) (left ns)
    ∙ ap (λ (k : ℕ). k + length (left ns)) (length-append (decimal n) (mark ns ∷ []))

left_short : (ns : List ℕ) → Every (λ (n : ℕ). n < 2 ^ 64) ns → length (left ns) ≤ (most_digits + 1) * length ns
unfolding left
left_short [] h = omega arith
left_short (n ∷ ns) h = omega (arith, piece_length n ns, narrow_length n h.0, left_short ns h.1)

pub line_short : (ns : List ℕ) → 0 < length ns → Every (λ (n : ℕ). n < 2 ^ 64) ns → length (line ns) ≤ (most_digits + 1) * length ns
line_short ns some h = omega (arith, ap length (left_line ns some), left_short ns h)

-- a line is never empty
pub line_some : (ns : List ℕ) → 0 < length (line ns)
unfolding line
line_some ns = omega (arith, length-append (spaced ns) (line_feed ∷ []))
