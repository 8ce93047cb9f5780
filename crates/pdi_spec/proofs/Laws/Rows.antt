-- Laws of what an acceptance writes: the row buffer's head and rows after a call, and that `by_rows` reads from them just what the
-- headers state. A refusal writes nothing. Assumes nothing.
use Prim.Native.Nat.{ℕ, zero, suc, ◌+◌, ◌*◌, ◌-◌, ◌≤◌, ◌<◌}
use Rattle.std.proofs.Common.{add-zero, sub-one, ◌∙◌, length-append, length-drop, drop_at, get_or-drop}
use native.Mathlib.Omega.{arith}
use mathlib.Core.List.{List, [], ◌∷◌, ◌++◌, flat_map, append_assoc}
use Rattle.std.specs.Prelude.{◌≡◌, refl}
use Rattle.std.proofs.Math.Path.{sym, ap}
use Rattle.std.proofs.Math.ListN.{length, take, drop, get_or, get_or-append}
use Rattle.std.proofs.Math.Seq.{drop-append-add, take_at}
use Rattle.pdi_spec.specs.{Limits.head_width, Limits.row_width, Lists.numbers, File.File, File.table, File.partitions, File.partition_numbers, Attributes.has_load_address, Ranges.loads, Ranges.load_range, Verdict.Rule, Verdict.Outcome, Verdict.accepted, Verdict.refused, Verdict.verdict, Answers.if_accepted, Answers.row_numbers, Answers.row_of, Answers.billed, Answers.head, Answers.head_and_rows, Answers.written, Answers.rows_after, Stated.row_number, Stated.by_rows}
use Rattle.pdi_spec.proofs.Laws.{Lists.flat_map_length, Lists.numbers_length, Stated.AsHeaders}

-- ---- blocks of a row's width, one after another

module _ (g : ℕ → List ℕ) (wide : (p : ℕ) → length (g p) ≡ row_width) where
  -- what stands from block j on: the block, and what follows it
  block_at : (a n j : ℕ) (rest : List ℕ) → j < n
      → (tail : List ℕ) × (drop (row_width * j) (flat_map g (numbers a n) ++ rest) ≡ g (a + j) ++ tail)
  unfolding flat_map numbers
  block_at a zero j rest h = absurd (omega arith)
  block_at a (suc n) zero rest h = (
    flat_map g (numbers (suc a) n) ++ rest,
    append_assoc (g a) (flat_map g (numbers (suc a) n)) rest
        ∙ ap (λ (b : ℕ). g b ++ (flat_map g (numbers (suc a) n) ++ rest)) (sym (add-zero a)),
  )
  block_at a (suc n) (suc j) rest h =
      let later = block_at (suc a) n j rest (omega arith) in
      let skip : row_width * suc j ≡ length (g a) + row_width * j = omega (arith, wide a) in (
        later.0,
        ap (λ (k : ℕ). drop k ((g a ++ flat_map g (numbers (suc a) n)) ++ rest)) skip
            ∙ ap (drop (length (g a) + row_width * j)) (append_assoc (g a) (flat_map g (numbers (suc a) n)) rest)
            ∙ drop-append-add (g a) (flat_map g (numbers (suc a) n) ++ rest) (row_width * j)
            ∙ later.1
            ∙ ap (λ (b : ℕ). g b ++ later.0) (omega arith),
      )

-- ---- the row buffer after a call

row : File → ℕ → List ℕ
row f p = row_numbers (row_of f p)

row_length : (f : File) (p : ℕ) → length (row f p) ≡ row_width
unfolding row row_numbers
row_length f p = refl

pub written_length : (f : File) → length (head_and_rows f) ≡ head_width + row_width * partitions f
unfolding head_and_rows head partition_numbers row
written_length f =
    omega (arith, flat_map_length row_width (row f) (row_length f) (numbers 1 (partitions f)), numbers_length 1 (partitions f))

-- an acceptance writes the head and the rows, and leaves the rest
pub after_accepted : (rs : List Rule) (f : File) (rows : List ℕ) → verdict rs f ≡ accepted
    → rows_after rs f rows ≡ head_and_rows f ++ drop (head_width + row_width * partitions f) rows
unfolding rows_after written if_accepted
after_accepted rs f rows e =
    ap (λ (o : Outcome). if_accepted o (head_and_rows f) [] ++ drop (length (if_accepted o (head_and_rows f) [])) rows) e
    ∙ ap (λ (n : ℕ). head_and_rows f ++ drop n rows) (written_length f)

-- a refusal writes nothing
pub after_refused : (rs : List Rule) (f : File) (rows : List ℕ) (k p : ℕ) → verdict rs f ≡ refused k p → rows_after rs f rows ≡ rows
unfolding rows_after written if_accepted
after_refused rs f rows k p e =
    ap (λ (o : Outcome). if_accepted o (head_and_rows f) [] ++ drop (length (if_accepted o (head_and_rows f) [])) rows) e

module _ (rs : List Rule) (f : File) (rows : List ℕ) (e : verdict rs f ≡ accepted) where
  pub head_stated : take head_width (rows_after rs f rows) ≡ (table f).kind ∷ (table f).images ∷ partitions f ∷ billed f ∷ []
  unfolding head_and_rows head
  head_stated = ap (take head_width) (after_accepted rs f rows e)

  -- past the rows the buffer is as found
  pub rest_after : drop (head_width + row_width * partitions f) (rows_after rs f rows) ≡ drop (head_width + row_width * partitions f) rows
  rest_after =
      ap (drop (head_width + row_width * partitions f)) (after_accepted rs f rows e)
      ∙ drop_at (head_and_rows f) (drop (head_width + row_width * partitions f) rows) (head_width + row_width * partitions f)
      (written_length f)

  pub length_after : head_width + row_width * partitions f ≤ length rows → length (rows_after rs f rows) ≡ length rows
  length_after h =
      ap length (after_accepted rs f rows e)
      ∙ length-append (head_and_rows f) (drop (head_width + row_width * partitions f) rows)
      ∙ omega (arith, written_length f, length-drop (head_width + row_width * partitions f) rows)

  -- what stands from row j + 1 on: the row, and what follows it
  row_from : (j : ℕ) → j < partitions f
      → (tail : List ℕ) × (drop (head_width + row_width * j) (rows_after rs f rows) ≡ row f (suc j) ++ tail)
  unfolding head_and_rows head partition_numbers row
  row_from j h =
      let rest = drop (head_width + row_width * partitions f) rows in
      let b = block_at (row f) (row_length f) 1 (partitions f) j rest h in
      let four : head_width + row_width * j ≡ suc (suc (suc (suc (row_width * j)))) = omega arith in
      let one : 1 + j ≡ suc j = omega arith in (
        b.0,
        ap (drop (head_width + row_width * j)) (after_accepted rs f rows e)
            ∙ ap (λ (k : ℕ). drop k (head_and_rows f ++ rest)) four
            ∙ b.1
            ∙ ap (λ (p : ℕ). row f p ++ b.0) one,
      )

  pub row_after : (p : ℕ) → 1 ≤ p → p ≤ partitions f
      → take row_width (drop (head_width + row_width * (p - 1)) (rows_after rs f rows)) ≡ row_numbers (row_of f p)
  unfolding row
  row_after zero l h = absurd (omega arith)
  row_after (suc j) l h =
      let t = row_from j h in
      ap (λ (k : ℕ). take row_width (drop (head_width + row_width * k) (rows_after rs f rows))) (sub-one (suc j))
      ∙ ap (take row_width) t.1
      ∙ take_at (row f (suc j)) t.0 row_width (row_length f (suc j))

  -- one number of a row
  row_number_lem : (p k : ℕ) → 1 ≤ p → p ≤ partitions f → k < row_width → row_number (rows_after rs f rows) p k ≡ get_or (row f p) k 0
  unfolding row_number
  row_number_lem zero k l h b = absurd (omega arith)
  row_number_lem (suc j) k l h b =
      let t = row_from j h in
      sym (get_or-drop (head_width + row_width * j) (rows_after rs f rows) k 0)
      ∙ ap (λ (xs : List ℕ). get_or xs k 0) t.1
      ∙ get_or-append (row f (suc j)) t.0 0 k (omega (arith, row_length f (suc j)))

  -- the rows state what the headers state
  pub rows_state : AsHeaders f (by_rows (rows_after rs f rows))
  unfolding by_rows head_and_rows head row row_numbers row_of loads load_range
  rows_state =
      record {
        same_count = ap (λ (xs : List ℕ). get_or xs 2 0) (after_accepted rs f rows e);
        same_span = λ p l h i. record { start = row_number_lem p 0 l h (omega arith) i; size = row_number_lem p 1 l h (omega arith) i };
        same_loads = λ p l h. ap has_load_address (row_number_lem p 7 l h (omega arith));
        same_range_lem =
            λ p l h i. record {
              addresses = record { start = row_number_lem p 3 l h (omega arith) i; size = row_number_lem p 2 l h (omega arith) i };
            };
      }
