-- Claims of the answers themselves, each a whole sentence of a demand: of read, bill and body, and of the host's calls, for every image,
-- place and row buffer. The general claims that they rest on are in the other files. Assumes nothing, but that an image's bytes are below
-- 256 where its numbers are read back from eight bytes.
use Rattle.std.specs.Prelude.{ℕ, ◌+◌, ◌*◌, ◌≤◌, ◌<◌, cond, List, ◌++◌, ◌↔◌, ◌≡◌, length, drop, get_or}
use Rattle.std.proofs.Common.{sym, ◌∙◌}
use Rattle.pdi_spec.specs.{Limits.head_width, Limits.row_width, Limits.buffer_numbers, Limits.buffer_bytes, Limits.answer_unit, File.partitions, Ranges.body, Rules.image_too_long, RuleList.reading_rules, RuleList.plain_rules, RuleList.with_rows, RuleList.with_host_rows, Verdict.Keeps, Verdict.FirstRefusal, Answers.billed, Answers.head_and_rows, Answers.cut, Answers.asked, Answers.RefusedCall, Answers.read_by, Answers.rows_by, Answers.bill_by, Answers.part_by, Answers.body_by, Answers.read_answer, Answers.read_rows, Answers.bill_answer, Answers.body_part, Answers.body_answer, Host.host_numbers, Host.host_read_by, Host.host_answer, Host.host_rows, Stated.by_rows, Stated.in_spans, Loading.Memory, Loading.Feed, Loading.Whole, Loading.Loaded, Twice.ClaimedTwice}
use Rattle.pdi_spec.proofs.Laws.{Plain.plain}
use Rattle.pdi_spec.proofs.Laws

module _ (image : List ℕ) (place : ℕ) where
  -- ---- demand 1: refusals

  module _ (rows : List ℕ) where
    -- A refused read has a number from 1 to 20 and a p of at most 32, leaves the buffer as found, and, where the buffer serves, the bill is
    -- 0, every body is empty and no partition has an owner.
    pub read_refusal : (read_answer image place rows ≡ 0 → ⊥)
        → RefusedCall image place (read_answer image place rows) rows (read_rows image place rows) buffer_numbers
    unfolding read_by with_rows
    read_refusal n =
        Laws.Questions.refused_call image place buffer_numbers rows _ n (Laws.Answers.read_refused plain_rules image place rows n)

    -- ---- demand 2: acceptances and refusals, exactly

    -- Read answers 0 exactly where every rule of its list is kept.
    pub read_accepted_exactly : (read_answer image place rows ≡ 0) ↔ Keeps (with_rows (length rows) plain_rules) (asked image place)
    unfolding read_by with_rows
    read_accepted_exactly = Laws.Questions.zero_exactly plain buffer_numbers (length rows) (asked image place)

    -- It answers 64 × k + p exactly where rule k is the first broken one, and p the first that breaks it.
    pub read_refused_exactly : (k p : ℕ) → 1 ≤ k → p < answer_unit
        → (read_answer image place rows ≡ answer_unit * k + p) ↔ FirstRefusal (with_rows (length rows) plain_rules) (asked image place) k p
    unfolding read_by with_rows
    read_refused_exactly = Laws.Questions.refusal_exactly plain buffer_numbers (length rows) (asked image place)

    -- With rules 1 to 17 kept, 64 × 18 exactly where a position is claimed twice, and of number 19 exactly where no position is, but an
    -- address is; p is then the smallest partition whose load range meets an earlier one's.
    pub read_twice : Keeps (with_rows (length rows) reading_rules) (asked image place)
        → ClaimedTwice (asked image place) (read_answer image place rows)
    unfolding read_by with_rows
    read_twice = Laws.Questions.claimed_twice buffer_numbers (length rows) (asked image place)

    -- An accepted read leaves the head and the rows that the headers state, and behind them the buffer as found; the bill is the headers',
    -- and body p, for p from 1 to N, is that part of the image.
    pub read_states : read_answer image place rows ≡ 0
        → (read_rows image place rows
        ≡ head_and_rows (asked image place) ++ drop (head_width + row_width * partitions (asked image place)) rows)
        × (bill_answer image place ≡ billed (asked image place))
        × ((p : ℕ) → 1 ≤ p → p ≤ partitions (asked image place)
        → (body_part image place p ≡ body (asked image place) p) × (body_answer image place p ≡ cut (body (asked image place) p) image))
    unfolding rows_by bill_by part_by body_by
    read_states e =
        let f = asked image place in
        let v = ((Laws.Answers.read_accepts plain image place rows).0 e).1 in (
          Laws.Rows.after_accepted _ f rows (Laws.Answers.read_verdict plain image place rows e),
          Laws.Answers.bill_accepted _ f v,
          λ p low high. (Laws.Answers.part_accepted _ f v p low high, Laws.Answers.body_accepted _ f v p low high),
        )

    -- A buffer of fewer numbers than serve: number 1 for an image that is too long, and else 2.
    pub read_short : length rows < buffer_numbers
        → read_answer image place rows ≡ answer_unit * cond (image_too_long (asked image place)) 1 2
    unfolding read_by with_rows
    read_short = Laws.Questions.short_answer buffer_numbers (length rows) plain_rules (asked image place)

  -- ---- demand 3: the bill

  -- No image is billed more than its length, accepted or not.
  pub bill_at_most : bill_answer image place ≤ length image
  bill_at_most = Laws.Questions.bill_at_most plain image place

  -- ---- the host's calls

  module _ (bytes : List ℕ) where
    -- The host's read answers as read does of a buffer of as many numbers as the bytes have room for ..
    pub host_is_read : host_answer image place bytes ≡ read_answer image place (host_numbers bytes)
    host_is_read = Laws.HostNumbers.host_is_read plain image place bytes

    -- .. and leaves in the bytes the numbers that read leaves. So what is claimed of read's answer and rows is so of the host's.
    pub host_leaves_reads : ((i : ℕ) → get_or image i 0 < 256)
        → host_numbers (host_rows image place bytes) ≡ read_rows image place (host_numbers bytes)
    host_leaves_reads = Laws.HostNumbers.host_numbers_lem plain image place bytes

    -- A buffer of fewer bytes than serve: number 1 for an image that is too long, and else 2.
    pub host_short : length bytes < buffer_bytes
        → host_answer image place bytes ≡ answer_unit * cond (image_too_long (asked image place)) 1 2
    unfolding host_read_by with_host_rows
    host_short = Laws.Questions.short_answer buffer_bytes (length bytes) plain_rules (asked image place)

    -- Beside read, for every pair of buffers: where both serve or neither does, they answer alike; and whichever is too short, its answer
    -- is of number 1 or 2.
    pub host_beside_read : (rows : List ℕ)
        → (((buffer_numbers ≤ length rows) ↔ (buffer_bytes ≤ length bytes)) → host_answer image place bytes ≡ read_answer image place rows)
        × (length bytes < buffer_bytes → host_answer image place bytes ≡ answer_unit * cond (image_too_long (asked image place)) 1 2)
        × (length rows < buffer_numbers → read_answer image place rows ≡ answer_unit * cond (image_too_long (asked image place)) 1 2)
    host_beside_read rows = (Laws.Questions.host_beside plain_rules image place rows bytes, host_short, read_short rows)

    -- A refused call is as a refused read is.
    pub host_refusal : (host_answer image place bytes ≡ 0 → ⊥)
        → RefusedCall image place (host_answer image place bytes) bytes (host_rows image place bytes) buffer_bytes
    unfolding host_read_by with_host_rows
    host_refusal n =
        Laws.Questions.refused_call image place buffer_bytes bytes _ n (Laws.Answers.host_refused plain_rules image place bytes n)

    -- The host's call answers 0 exactly where every rule of its list is kept.
    pub host_accepted_exactly : (host_answer image place bytes ≡ 0) ↔ Keeps (with_host_rows (length bytes) plain_rules) (asked image place)
    unfolding host_read_by with_host_rows
    host_accepted_exactly = Laws.Questions.zero_exactly plain buffer_bytes (length bytes) (asked image place)

    -- It answers 64 × k + p exactly where rule k is the first broken one, and p the first that breaks it.
    pub host_refused_exactly : (k p : ℕ) → 1 ≤ k → p < answer_unit
        → (host_answer image place bytes ≡ answer_unit * k + p)
        ↔ FirstRefusal (with_host_rows (length bytes) plain_rules) (asked image place) k p
    unfolding host_read_by with_host_rows
    host_refused_exactly = Laws.Questions.refusal_exactly plain buffer_bytes (length bytes) (asked image place)

    -- What is claimed twice it refuses as read does.
    pub host_twice : Keeps (with_host_rows (length bytes) reading_rules) (asked image place)
        → ClaimedTwice (asked image place) (host_answer image place bytes)
    unfolding host_read_by with_host_rows
    host_twice = Laws.Questions.claimed_twice buffer_bytes (length bytes) (asked image place)

    -- Where it accepts, every whole list loads by the rows in its bytes, and the bill is the count of positions in a span of those rows.
    pub host_loads : ((i : ℕ) → get_or image i 0 < 256) → host_answer image place bytes ≡ 0
        → (m : Memory) (feeds : List Feed) → Whole (by_rows (host_numbers (host_rows image place bytes))) feeds
        → Loaded (by_rows (host_numbers (host_rows image place bytes))) m feeds
    host_loads small e =
        rw (host_leaves_reads small) (Laws.Answers.read_loads plain image place (host_numbers bytes) (sym host_is_read ∙ e))

    pub host_counts : ((i : ℕ) → get_or image i 0 < 256) → host_answer image place bytes ≡ 0
        → bill_answer image place ≡ in_spans (by_rows (host_numbers (host_rows image place bytes))) (length image)
    host_counts small e =
        rw (host_leaves_reads small) (Laws.Answers.read_counts plain image place (host_numbers bytes) (sym host_is_read ∙ e))
