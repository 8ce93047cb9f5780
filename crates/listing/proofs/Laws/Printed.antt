-- Laws of what is printed for an input, of any question that is as Supported says: how long it can be, that it is never empty, and which
-- inputs are bad. Assumes nothing.
use Rattle.std.specs.Prelude.{ℕ, zero, suc, ◌+◌, ◌*◌, ◌^◌, ◌≤◌, ◌<◌, Bool, true, false, cond, ◌⊎◌, ◌≡◌, ltb, take, drop, get_or}
use Rattle.std.proofs.Common.{mul-suc, inl, inr, sym, ◌∙◌, ap, length-append, get_or-drop, length-take-le, ltb-true, ltb-false}
use native.Mathlib.Omega.{arith}
use mathlib.Core.List.{List, [], ◌∷◌, flat_map}
use Rattle.std.proofs.Math.Path.{refl}
use Rattle.std.proofs.Math.ListN.{length, get_or-eq_default}
use Rattle.pdi_spec.specs.{Limits.longest_program_image, Limits.most_partitions, Limits.buffer_numbers, Lists.numbers, File.File, File.partitions, File.partition_numbers, Verdict.Rule, Verdict.Outcome, Verdict.accepted, Verdict.refused, Verdict.verdict, RuleList.without_buffer, Answers.asked, Answers.if_accepted, Answers.head, Answers.row_numbers, Answers.row_of, Envelope.Envelope, Envelope.bad, Envelope.holds, Envelope.big_endian_at, Envelope.envelope_head, Envelope.envelope_bad, Envelope.envelope, Supported.Supported}
use Rattle.pdi_spec.proofs.Laws.{Envelope.envelope_bad_lem, Plain.plain, Refusals.few_partitions, Refusals.refusal_below, Refusals.refusal_p, Refusals.with_room, Widths.head_narrow, Widths.row_narrow}
use Rattle.listing.specs.Decimal.{digit, digits_up_to, decimal}
use Rattle.listing.specs.Printed.{spaced, line, number_and_p, lines, printed_of, envelope_text, printed_as, printed_by, printed, longest_input, longest_printed, most_digits, print_answer}
use Rattle.listing.proofs.Laws.Buffers.{printed_accepts, printed_refuses}
use Rattle.listing.proofs.Laws.Lines.{line_short, line_some}

-- ---- what an input holds

pub held : (input : List ℕ) (f : File) → envelope input ≡ holds f → f ≡ asked (drop envelope_head input) (big_endian_at input 5)
unfolding envelope
held input f e = go (envelope_bad input) e
  where
    go : (b : Bool) → cond b bad (holds (asked (drop envelope_head input) (big_endian_at input 5))) ≡ holds f
        → f ≡ asked (drop envelope_head input) (big_endian_at input 5)
    go true q = absurd (let z : ◌≡◌ {A = ℕ} 0 1 = cc in omega arith)
    go false q = cc

-- past the end a byte reads as 0
pub all_bytes : (input : List ℕ) → ((i : ℕ) → i < length input → get_or input i 0 < 256) → (i : ℕ) → get_or input i 0 < 256
all_bytes input bytes i = go (ltb i (length input)) refl
  where
    go : (t : Bool) → ltb i (length input) ≡ t → get_or input i 0 < 256
    go true e = bytes i (ltb-true i (length input) e)
    go false e = omega (arith, get_or-eq_default input 0 (ltb-false i (length input) e))

-- bytes stay bytes
held_bytes : (input : List ℕ) → ((i : ℕ) → get_or input i 0 < 256) → (f : File) → envelope input ≡ holds f
    → (i : ℕ) → get_or f.bytes i 0 < 256
held_bytes input bytes f e i =
    omega (arith, ap (λ (g : File). get_or g.bytes i 0) (held input f e) ∙ get_or-drop envelope_head input i 0, bytes (envelope_head + i))

-- too many bytes
pub too_long : (input : List ℕ) → longest_input < length input → envelope input ≡ bad
unfolding longest_input
too_long input h = (envelope_bad_lem input).1 (inr (go (ltb longest_program_image (big_endian_at input 1)) refl))
  where
    go : (t : Bool) → ltb longest_program_image (big_endian_at input 1) ≡ t
        → (longest_program_image < big_endian_at input 1) ⊎ (length input ≡ envelope_head + big_endian_at input 1 → ⊥)
    go true e = inl (ltb-true _ _ e)
    go false e = inr (λ q. omega (arith, ltb-false longest_program_image (big_endian_at input 1) e))

-- ---- lengths

-- the lines of rows, each with 8 numbers
rows_short : (g : ℕ → List ℕ) (most : ℕ) → ((p : ℕ) → length (g (suc p)) ≤ most) → (a n : ℕ)
    → length (flat_map g (numbers (suc a) n)) ≤ most * n
unfolding flat_map numbers
rows_short g most h a zero = omega arith
rows_short g most h a (suc n) =
    omega (arith, length-append (g (suc a)) (flat_map g (numbers (suc (suc a)) n)), h a, rows_short g most h (suc a) n, mul-suc most n)

lines_short : (f : File) → ((i : ℕ) → get_or f.bytes i 0 < 256) → partitions f ≤ most_partitions
    → length (lines f) ≤ (most_digits + 1) * buffer_numbers
unfolding lines partition_numbers head row_numbers
lines_short f bytes few =
    let row : ℕ → List ℕ = λ p. line (row_numbers (row_of f p)) in
    let rows =
    rows_short row ((most_digits + 1) * 8) (λ p. line_short (row_numbers (row_of f (suc p))) (omega arith) (row_narrow f bytes p)) 0
    (partitions f) in
    omega (
      arith,
      length-append (line (head f)) (flat_map row (numbers 1 (partitions f))),
      line_short (head f) (omega arith) (head_narrow f bytes few),
    )

-- `0 0` and a line feed
zeros_length : length (line (0 ∷ 0 ∷ [])) ≡ 4
unfolding line spaced decimal digits_up_to digit
zeros_length = refl

module _ {own : List Rule} (s : Supported own) where
  of_short : (f : File) → ((i : ℕ) → get_or f.bytes i 0 < 256) → length (printed_of own f) ≤ longest_printed
  of_short f bytes = go (verdict (without_buffer own) f) refl
    where
      go : (o : Outcome) → verdict (without_buffer own) f ≡ o → length (printed_of own f) ≤ longest_printed
      go accepted e =
          omega (
            arith,
            ap length (printed_accepts own f e) ∙ length-append (line (0 ∷ 0 ∷ [])) (lines f),
            zeros_length,
            lines_short f bytes (few_partitions s f e),
          )
      go (refused k p) e =
          let small = with_room 0 0 own f (omega arith) ∙ e in
          let number : k < 2 ^ 64 = omega (arith, refusal_below s 0 0 f k p small) in
          let place : p < 2 ^ 64 = omega (arith, refusal_p s 0 0 f k p small) in
          omega (arith, ap length (printed_refuses own f k p e), line_short (k ∷ p ∷ []) (omega arith) (number, (place, tt)))

  pub longest : (input : List ℕ) → ((i : ℕ) → get_or input i 0 < 256) → length (printed_by own input) ≤ longest_printed
  unfolding printed_by printed_as envelope_text
  longest input bytes = go (envelope input) refl
    where
      go : (e : Envelope) → envelope input ≡ e → length (printed_as own e) ≤ longest_printed
      go bad q = omega arith
      go (holds f) q = of_short f (held_bytes input bytes f q)

-- ---- the function's answer

-- it is at most the buffer's length
pub answer_within : (input out : List ℕ) → ((i : ℕ) → get_or input i 0 < 256) → print_answer input out ≤ length out
unfolding print_answer
answer_within input out bytes = go (ltb (length out) longest_printed) refl
  where
    go : (t : Bool) → ltb (length out) longest_printed ≡ t → cond t 0 (length (printed input)) ≤ length out
    go true e = omega arith
    go false e = omega (arith, longest plain input bytes, ltb-false (length out) longest_printed e)

-- ---- of any rules

pub some_printed : (own : List Rule) (input : List ℕ) → 0 < length (printed_by own input)
unfolding printed_by printed_as envelope_text printed_of
some_printed own input = go (envelope input)
  where
    go : (e : Envelope) → 0 < length (printed_as own e)
    go bad = omega arith
    go (holds f) =
        let first = number_and_p (verdict (without_buffer own) f) in
        omega (arith, length-append (line first) (if_accepted (verdict (without_buffer own) f) (lines f) []), line_some first)

pub printed_bad : (own : List Rule) (input : List ℕ) → envelope input ≡ bad → printed_by own input ≡ envelope_text
unfolding printed_by printed_as
printed_bad own input e = ap (printed_as own) e

pub printed_holds : (own : List Rule) (input : List ℕ) (f : File) → envelope input ≡ holds f → printed_by own input ≡ printed_of own f
unfolding printed_by printed_as
printed_holds own input f e = ap (printed_as own) e

-- what follows the longest input's length and one byte more is never looked at
pub cut_printed : (own : List Rule) (input : List ℕ) (n : ℕ) → longest_input < n → n ≤ length input
    → printed_by own (take n input) ≡ printed_by own input
cut_printed own input n h k =
    printed_bad own (take n input) (too_long (take n input) (omega (arith, length-take-le n input k)))
    ∙ sym (printed_bad own input (too_long input (omega arith)))
