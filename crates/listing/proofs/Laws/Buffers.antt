-- What is printed by what read answers and leaves in a row buffer that serves, of any question that is as Supported says. Assumes nothing.
use Rattle.std.specs.Prelude.{ℕ, zero, suc, ◌+◌, ◌*◌, ◌≤◌, ◌≡◌, length, drop}
use Rattle.std.proofs.Common.{arith, ◌∙◌, ap, take_at, drop_at}
use mathlib.Core.List.{List, [], ◌∷◌, ◌++◌, flat_map, append_assoc, append-nil}
use Rattle.std.proofs.Math.Path.{refl, sym, ap₂}
use Rattle.pdi_spec.specs.{Limits.head_width, Limits.row_width, Limits.buffer_numbers, Lists.numbers, File.File, File.partitions, File.partition_numbers, Verdict.Rule, Verdict.Outcome, Verdict.accepted, Verdict.refused, Verdict.verdict, RuleList.without_buffer, RuleList.with_rows, Answers.answer, Answers.asked, Answers.if_accepted, Answers.head, Answers.row_numbers, Answers.row_of, Answers.head_and_rows, Answers.read_by, Answers.rows_by, Supported.Supported}
use Rattle.pdi_spec.proofs.Laws.{Answers.read_verdict, Refusals.answer_tells, Refusals.refusal_p, Refusals.with_room, Rows.after_accepted}
use Rattle.listing.specs.Printed.{line, number_and_p, lines, printed_of, answer_line, row_lines, buffer_lines}

-- ---- lines of rows

-- rows one after another, and anything behind them
row_lines_lem : (g : ℕ → List ℕ) → ((p : ℕ) → length (g p) ≡ row_width) → (a n : ℕ) (rest : List ℕ)
    → row_lines n (flat_map g (numbers a n) ++ rest) ≡ flat_map (λ (p : ℕ). line (g p)) (numbers a n)
unfolding row_lines flat_map numbers
row_lines_lem g wide a zero rest = refl
row_lines_lem g wide a (suc n) rest =
    let behind = flat_map g (numbers (suc a) n) ++ rest in
    ap (row_lines (suc n)) (append_assoc (g a) (flat_map g (numbers (suc a) n)) rest)
    ∙ ap₂ (λ (x y : List ℕ). line x ++ row_lines n y) (take_at (g a) behind row_width (wide a)) (drop_at (g a) behind row_width (wide a))
    ∙ ap (λ (l : List ℕ). line (g a) ++ l) (row_lines_lem g wide (suc a) n rest)

-- a row buffer that has the head and the rows in front
buffer_lines_lem : (f : File) (rest : List ℕ) → buffer_lines (head_and_rows f ++ rest) ≡ lines f
unfolding buffer_lines lines head_and_rows head partition_numbers row_numbers
buffer_lines_lem f rest =
    ap (λ (l : List ℕ). line (head f) ++ l) (row_lines_lem (λ (p : ℕ). row_numbers (row_of f p)) (λ p. refl) 1 (partitions f) rest)

-- ---- by the outcome

pub printed_accepts : (own : List Rule) (f : File) → verdict (without_buffer own) f ≡ accepted
    → printed_of own f ≡ line (0 ∷ 0 ∷ []) ++ lines f
unfolding printed_of number_and_p if_accepted
printed_accepts own f e = rw e refl

pub printed_refuses : (own : List Rule) (f : File) (k p : ℕ) → verdict (without_buffer own) f ≡ refused k p
    → printed_of own f ≡ line (k ∷ p ∷ [])
unfolding printed_of number_and_p if_accepted
printed_refuses own f k p e = rw e (append-nil (line (k ∷ p ∷ [])))

-- ---- by what read answers and writes

module _ {own : List Rule} (s : Supported own) (image : List ℕ) (place : ℕ) (rows : List ℕ) (room : buffer_numbers ≤ length rows) where
  abbrev f : File
  f = asked image place

  same_verdict : verdict (with_rows (length rows) own) f ≡ verdict (without_buffer own) f
  unfolding with_rows
  same_verdict = with_room buffer_numbers (length rows) own f room

  pub refused_lines : (read_by own image place rows ≡ 0 → ⊥)
      → printed_of own (asked image place) ≡ answer_line (read_by own image place rows)
  unfolding read_by answer_line answer with_rows
  refused_lines n = go (verdict (with_rows (length rows) own) f) refl
    where
      go : (o : Outcome) → verdict (with_rows (length rows) own) f ≡ o
          → printed_of own (asked image place) ≡ answer_line (answer (verdict (with_rows (length rows) own) f))
      go accepted e = absurd (n (ap answer e))
      go (refused k p) e =
          let tells = answer_tells k p (omega (arith, refusal_p s buffer_numbers (length rows) f k p e)) in
          printed_refuses own f k p (sym same_verdict ∙ e)
          ∙ sym (ap (λ (o : Outcome). answer_line (answer o)) e ∙ ap₂ (λ (a b : ℕ). line (a ∷ b ∷ [])) tells.0 tells.1)

  pub accepted_lines : read_by own image place rows ≡ 0
      → printed_of own (asked image place) ≡ answer_line (read_by own image place rows) ++ buffer_lines (rows_by own image place rows)
  unfolding rows_by answer_line
  accepted_lines z =
      let e = read_verdict s image place rows z in
      printed_accepts own f (sym same_verdict ∙ e)
      ∙ sym (ap₂ (λ (r : ℕ) (l : List ℕ). answer_line r ++ l) z (ap buffer_lines (after_accepted _ f rows e)
      ∙ buffer_lines_lem f (drop (head_width + row_width * partitions f) rows)))
