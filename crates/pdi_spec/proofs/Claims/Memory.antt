-- Claims, demand 3: loading, and the bill as a count of positions. Assumes nothing.
use Rattle.std.specs.Prelude.{ℕ, ◌≤◌, true, ◌↔◌, ◌≡◌, length}
use mathlib.Core.List.{List, map, Mem}
use Rattle.pdi_spec.specs.{File.File, File.partitions, Ranges.span, Ranges.load_range, Ranges.loads_to, Ranges.loads, Verdict.Rule, Verdict.accepted, Verdict.verdict, RuleList.rule15, RuleList.rule16, RuleList.rule18, RuleList.rule19, Answers.rows_after, Answers.bill_under, Answers.read_answer, Answers.read_rows, Answers.bill_answer, Stated.Stated, Stated.by_headers, Stated.by_rows, Stated.loadable, Stated.in_spans, Loading.Memory, Loading.Feed, Loading.Whole, Loading.Loaded, Loading.addresses_written}
use Rattle.pdi_spec.proofs.Laws.{Plain.plain}
use Rattle.pdi_spec.proofs.Laws

-- Every whole list of feeds loads as `Loaded` (Loading.antt) demands, by what the headers state ..
pub loading : (rs : List Rule) (f : File) → verdict rs f ≡ accepted → Mem rule16 rs → Mem rule19 rs
    → (m : Memory) (feeds : List Feed) → Whole (by_headers f) feeds → Loaded (by_headers f) m feeds
loading rs f = Laws.Stated.accepted_loads (Laws.Stated.headers_state f) rs

-- .. and by what the rows state.
pub loading_by_rows : (rs : List Rule) (f : File) (rows : List ℕ) → verdict rs f ≡ accepted → Mem rule16 rs → Mem rule19 rs
    → (m : Memory) (feeds : List Feed) → Whole (by_rows (rows_after rs f rows)) feeds → Loaded (by_rows (rows_after rs f rows)) m feeds
loading_by_rows rs f rows e = Laws.Stated.accepted_loads (Laws.Rows.rows_state rs f rows e) rs e

-- There is a whole list of any stated partitions, with any bytes of the right number for each, so loading is not claimed of nothing.
pub whole_exists : (s : Stated) (chosen : ℕ → List ℕ) → ((p : ℕ) → length (chosen p) ≡ (s.load_range p).addresses.size)
    → Whole s (map (λ (p : ℕ). record { partition = p; bytes = chosen p }) (loadable s))
whole_exists = Laws.Loading.whole_exists

-- The addresses written are those of the fed partitions' load ranges.
pub addresses_are : (s : Stated) (feeds : List Feed) (address : ℕ)
    → Mem address (addresses_written s feeds)
    ↔ ∥ ((d : Feed) × Mem d feeds × (loads_to (s.load_range d.partition) address ≡ true)) ∥₁
addresses_are = Laws.Loading.addresses_are

-- The rows state the same partitions, spans and load ranges as the headers.
pub rows_state_the_same : (rs : List Rule) (f : File) (rows : List ℕ) → verdict rs f ≡ accepted
    → ((by_rows (rows_after rs f rows)).count ≡ partitions f)
    × ((p : ℕ) → 1 ≤ p → p ≤ partitions f
    → ((by_rows (rows_after rs f rows)).span p ≡ span f p)
    × ((by_rows (rows_after rs f rows)).loads p ≡ loads f p)
    × ((by_rows (rows_after rs f rows)).load_range p ≡ load_range f p))
rows_state_the_same rs f rows e =
    let t = Laws.Rows.rows_state rs f rows e in
    (t.same_count, λ p l h. (t.same_span p l h, t.same_loads p l h, t.same_range_lem p l h))

-- The bill is the count of positions below the image's length that lie in at least one span, and at most that length ..
pub bill_counts : (rs : List Rule) (f : File) → verdict rs f ≡ accepted → Mem rule15 rs → Mem rule18 rs
    → (bill_under rs f ≡ in_spans (by_headers f) (length f.bytes)) × (bill_under rs f ≤ length f.bytes)
bill_counts rs f = Laws.Stated.accepted_bill (Laws.Stated.headers_state f) rs

-- .. and so by the spans that the rows state.
pub bill_counts_by_rows : (rs : List Rule) (f : File) (rows : List ℕ) → verdict rs f ≡ accepted → Mem rule15 rs → Mem rule18 rs
    → (bill_under rs f ≡ in_spans (by_rows (rows_after rs f rows)) (length f.bytes)) × (bill_under rs f ≤ length f.bytes)
bill_counts_by_rows rs f rows e = Laws.Stated.accepted_bill (Laws.Rows.rows_state rs f rows e) rs e

-- Where read accepts, every whole list loads by the rows that it wrote ..
pub read_loads : (image : List ℕ) (place : ℕ) (rows : List ℕ) → read_answer image place rows ≡ 0
    → (m : Memory) (feeds : List Feed) → Whole (by_rows (read_rows image place rows)) feeds
    → Loaded (by_rows (read_rows image place rows)) m feeds
read_loads = Laws.Answers.read_loads plain

-- .. and bill's answer is the count of positions that lie in a span of those rows.
pub read_counts : (image : List ℕ) (place : ℕ) (rows : List ℕ) → read_answer image place rows ≡ 0
    → bill_answer image place ≡ in_spans (by_rows (read_rows image place rows)) (length image)
read_counts = Laws.Answers.read_counts plain
