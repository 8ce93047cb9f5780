-- The head and the rows, as they are stored: runs of stores, and the rows of one partition more. Assumes nothing.
use Rattle.std.proofs.Common.{◌≡◌, ℕ, ◌+◌, ◌*◌, ◌≤◌, ◌<◌, List, [], ◌∷◌, ◌++◌, length, take, drop, get_or, set, refl, sym, ◌∙◌, ap, ap₂, arith, append_assoc, drop-drop, length-take-le}
use Rattle.std.proofs.lemmas.List.{take_more}
use Rattle.std.proofs.lemmas.List.Edits.{sets, sets-eq}
use mathlib.Core.List.{flat_map}
use borrow.Rule.Slice.PartMut.{put_mid}
use Rattle.pdi_spec.specs.Headers.{Table, Header}
use Rattle.pdi_spec.specs.Lists.{numbers}
use Rattle.pdi_spec.specs.File.{File, table, partitions, partition_numbers, header}
use Rattle.pdi_spec.specs.Ranges.{Range, span, span_of, load_range, load_range_of}
use Rattle.pdi_spec.specs.Answers.{Row, row_numbers, row_of, hash_entry, billed, head, head_and_rows}
use Rattle.pdi_spec.specs.Limits.{head_width, row_width}
use Rattle.pdi_spec.proofs.Laws.Lists.{flat_map_length, flat_map_numbers, numbers_length, sets_append}
use Rattle.headers.specs.Headers.{table_of}
use Rattle.chain_rules.specs.File.{file_of_chain}
use Rattle.rows.specs.declared.accepted.Accepted.{Accepted}
use Rattle.rows.specs.Rows.{first_rows, overwritten}

-- one store more of a row
pub store_next : (l row : List ℕ) (at k : ℕ) → k < length row
    → set (sets l at (take k row)) (at + k) (get_or row k 0) ≡ sets l at (take (k + 1) row)
store_next l row at k h =
    sets_append l (take k row) (get_or row k 0 ∷ []) at (at + k) (omega (arith, length-take-le k row (omega arith)))
    ∙ ap (sets l at) (sym (take_more row k 0 h))

-- ---- rows

row_width_lem : (r : Row) → length (row_numbers r) ≡ row_width
unfolding row_numbers
row_width_lem r = refl

-- a row, from its header, the header's two ranges and its hash entry
pub row_told : (f : File) (p : ℕ) {h : Header} {s r : Range} {key entry attributes : ℕ} → h ≡ header f p → s ≡ span_of h
    → r ≡ (load_range_of h).addresses → key ≡ h.key → entry ≡ hash_entry f p → attributes ≡ h.attributes
    → s.start ∷ s.size ∷ r.size ∷ r.start ∷ h.execution ∷ key ∷ entry ∷ attributes ∷ [] ≡ row_numbers (row_of f p)
unfolding row_numbers row_of span load_range
row_told f p e es er ek ee ea = rw (es, er, ek, ee, ea, e) refl

pub rows_length : (f : File) (n : ℕ) → length (first_rows f n) ≡ row_width * n
unfolding first_rows
rows_length f n =
    flat_map_length row_width (λ (p : ℕ). row_numbers (row_of f p)) (λ p. row_width_lem (row_of f p)) (numbers 1 n)
    ∙ ap (λ (k : ℕ). row_width * k) (numbers_length 1 n)

pub rows_none : (f : File) → first_rows f 0 ≡ []
unfolding first_rows flat_map numbers
rows_none f = refl

-- one partition more
rows_more : (f : File) (i : ℕ) → first_rows f (i + 1) ≡ first_rows f i ++ row_numbers (row_of f (i + 1))
unfolding first_rows
rows_more f i =
    let rows : ℕ → List ℕ = λ p. row_numbers (row_of f p) in
    flat_map_numbers rows 1 i ∙ ap (λ (p : ℕ). flat_map rows (numbers 1 i) ++ rows p) {x = 1 + i} {y = i + 1} (omega arith)

-- a turn of the loop: the first i rows are stored, and then the next one
pub row_stored : (f : File) (start : List ℕ) (i : ℕ) {rows row after : List ℕ} → rows ≡ sets start head_width (first_rows f i)
    → row ≡ row_numbers (row_of f (i + 1)) → after ≡ sets rows (head_width + row_width * i) row
    → after ≡ sets start head_width (first_rows f (i + 1))
row_stored f start i er ew ea =
    rw (ea, er, ew)
    (sets_append start (first_rows f i) (row_numbers (row_of f (i + 1))) head_width (head_width + row_width * i)
    (omega (arith, rows_length f i))
    ∙ ap (sets start head_width) (sym (rows_more f i)))

-- as the code stores it: it is written over the numbers behind them
pub turn : (f : File) (start : List ℕ) (i k : ℕ) {rows row part : List ℕ} → rows ≡ sets start head_width (first_rows f i)
    → row ≡ row_numbers (row_of f (i + 1)) → part ≡ row → k ≡ row_width → head_width + row_width * i + row_width ≤ length rows
    → put_mid (head_width + row_width * i) k rows part ≡ sets start head_width (first_rows f (i + 1))
turn f start i k {rows} er ew ep size room =
    let next = row_numbers (row_of f (i + 1)) in
    let wide : length next ≡ row_width = row_width_lem (row_of f (i + 1)) in
    let stored : put_mid (head_width + row_width * i) k rows next ≡ sets rows (head_width + row_width * i) next =
    rw (size, sets-eq next rows (head_width + row_width * i) (omega (arith, wide)), wide) (simp (append_assoc, drop-drop)) in
    rw (ep, ew) (row_stored f start i er refl stored)

-- ---- the whole

-- four stores at the front, and a run after them: the rest is as it was
front : (l xs : List ℕ) (n a b c d : ℕ) → length xs ≡ row_width * n → head_width + row_width * n ≤ length l
    → sets (set (set (set (set l 0 a) 1 b) 2 c) 3 d) head_width xs ≡ (a ∷ b ∷ c ∷ d ∷ [] ++ xs) ++ drop (head_width + row_width * n) l
front l xs n a b c d e h =
    let size : 0 + length (a ∷ b ∷ c ∷ d ∷ xs) ≡ head_width + row_width * n = omega arith in
    sets-eq (a ∷ b ∷ c ∷ d ∷ xs) l 0 (omega arith) ∙ ap (λ (k : ℕ). (a ∷ b ∷ c ∷ d ∷ xs) ++ drop k l) size

-- the four numbers of the head and the rows after it, of any file
pub whole_stored : (f : File) (t : Table) (bill : ℕ) (start : List ℕ) {after : List ℕ} → t ≡ table f → bill ≡ billed f
    → head_width + row_width * t.partitions ≤ length start
    → after ≡ sets (set (set (set (set start 0 t.kind) 1 t.images) 2 t.partitions) 3 bill) head_width (first_rows f t.partitions)
    → after ≡ overwritten f start
unfolding overwritten head_and_rows head first_rows partition_numbers partitions
whole_stored f t bill start own sum room e =
    e
    ∙ front start (first_rows f t.partitions) t.partitions t.kind t.images
    t.partitions bill (rows_length f t.partitions) room
    ∙ ap₂ (λ (u : Table) (b : ℕ).
    (u.kind ∷ u.images ∷ u.partitions ∷ b ∷ [] ++ first_rows f u.partitions) ++ drop
    (head_width + row_width * u.partitions) start) own sum

-- four stores at the front are the four numbers, and the rest behind them
head_stored : (l : List ℕ) (a b c d : ℕ) → head_width ≤ length l
    → a ∷ b ∷ c ∷ d ∷ [] ++ drop head_width l ≡ set (set (set (set l 0 a) 1 b) 2 c) 3 d
head_stored l a b c d h = sym (sets-eq (a ∷ b ∷ c ∷ d ∷ []) l 0 (omega arith))

-- as the code stores them, of an accepted image: the head is copied to the front
pub whole : (a : Accepted) (start : List ℕ) {part after : List ℕ}
    → part ≡ a.chain.table.kind ∷ a.chain.table.images ∷ a.chain.table.partitions ∷ a.bill ∷ []
    → head_width + row_width * a.chain.table.partitions ≤ length start
    → after ≡ sets (part ++ drop head_width start) head_width (first_rows (file_of_chain a.chain) a.chain.table.partitions)
    → after ≡ overwritten (file_of_chain a.chain) start
whole a start is room e =
    let f = file_of_chain a.chain in
    let t = a.chain.table in
    whole_stored f (table_of t) a.bill start a.chain.followed.own a.sum room
    (e
    ∙ ap (λ (l : List ℕ). sets (l ++ drop head_width start) head_width (first_rows f t.partitions)) is
    ∙ ap (λ (l : List ℕ). sets l head_width (first_rows f t.partitions)) (head_stored start _ _ _ _ (omega arith)))
