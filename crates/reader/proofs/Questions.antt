-- From the core's promise to the answers of a question, given by its own rules of the image, `own`. Assumes nothing.
use Rattle.std.proofs.Common.{◌≡◌, ℕ, ◌+◌, ◌-◌, ◌*◌, ◌<◌, ◌≤◌, false, ltb, ◌⊎◌, Result, Err, List, ◌∷◌, length, take, drop, sym, refl, ap, ◌∙◌, inl, inr, arith}
use mathlib.Core.List.{mem-cons_of_mem}
use Rattle.pdi_spec.specs.Answers.{asked, answer, billed, read_by, rows_by, bill_by, part_by, body_by, owner_by, empty_part, body_under, cut}
use Rattle.pdi_spec.specs.File.{File, partitions, header}
use Rattle.pdi_spec.specs.Headers.{Header}
use Rattle.pdi_spec.specs.Images.{owner_image}
use Rattle.pdi_spec.specs.Limits.{buffer_numbers, head_width, row_width}
use Rattle.pdi_spec.specs.Ranges.{Range, body, body_of}
use Rattle.pdi_spec.specs.RuleList.{rule1, without_buffer, with_buffer, with_rows}
use Rattle.pdi_spec.specs.Rules.{buffer_too_short}
use Rattle.pdi_spec.specs.Supported.{Supported}
use Rattle.pdi_spec.specs.Verdict.{Rule, once, accepted, refused, verdict}
use Rattle.pdi_spec.proofs.Laws.Answers.{bill_accepted, bill_refused, part_accepted, part_none, part_refused}
use Rattle.pdi_spec.proofs.Laws.Kept.{lengths_stated, span_stated}
use Rattle.pdi_spec.proofs.Laws.Once.{once_kept}
use Rattle.pdi_spec.proofs.Laws.Plain.{plain}
use Rattle.pdi_spec.proofs.Laws.Owners.{owner_refused, owner_none, owner_accepted}
use Rattle.pdi_spec.proofs.Laws.Refusals.{buffer_accepts, refusal_below, refusal_p}
use Rattle.pdi_spec.proofs.Laws.Rows.{after_accepted, after_refused}
use Rattle.pdi_spec.proofs.Laws.Verdict.{accepted_kept, verdict_after}
use Rattle.headers.specs.declared.table.TableHeader.{TableHeader}
use Rattle.refusals.specs.Refusals.{outcome_of}
use Rattle.refusals.specs.declared.Refusal.{Refusal}
use Rattle.chain_rules.specs.Chain.{file_of}
use Rattle.chain_rules.proofs.Counts.{counted}
use Rattle.checks.specs.Readings.{core_rules, Held}
use Rattle.rows.specs.Rows.{overwritten}
use Rattle.rows.specs.declared.accepted.Accepted.{Accepted}
use Rattle.chain_rules.specs.File.{file_of_chain}

-- ---- the lists

-- without a buffer rule 2 is never broken
without_buffer_lem : (own : List Rule) (f : File) → verdict (core_rules false own) f ≡ verdict (without_buffer own) f
unfolding core_rules without_buffer
without_buffer_lem own f = verdict_after rule1 (once 2 (λ g. false) ∷ own) own f (once_kept 2 (λ g. false) f own refl)

-- with one it is broken where the buffer is short
with_rows_lem : (own : List Rule) (n : ℕ) (f : File) → verdict (core_rules (ltb n buffer_numbers) own) f ≡ verdict (with_rows n own) f
unfolding core_rules with_rows with_buffer buffer_too_short
with_rows_lem own n f = refl

-- the file of what is handed on is the one that was asked about
same_file : (bytes : List ℕ) (place : ℕ) (a : Accepted) → Held bytes place a → file_of_chain a.chain ≡ asked bytes place
same_file bytes place a held =
    (λ i. file_of (held.own_image i) a.chain.table) ∙ ap (asked bytes) held.at_place

-- ---- what the core's answer tells

module _ {own : List Rule} (s : Supported own) (bytes : List ℕ) (place : ℕ) where
  abbrev f : File
  f = asked bytes place

  module _ {k p : ℕ} (told : refused k p ≡ verdict (core_rules false own) f) where
    refused_is : verdict (without_buffer own) f ≡ refused k p
    refused_is = sym (without_buffer_lem own f) ∙ sym told

    pub refused_bill : 0 ≡ bill_by own bytes place
    unfolding bill_by
    refused_bill = sym (bill_refused (without_buffer own) f k p refused_is)

    pub refused_part : (q : ℕ) → part_by own bytes place q ≡ empty_part
    unfolding part_by
    refused_part q = part_refused (without_buffer own) f k p refused_is q

    pub refused_owner : (q : ℕ) → 0 ≡ owner_by own bytes place q
    unfolding owner_by
    refused_owner q = sym (owner_refused (without_buffer own) f k p refused_is q)

  module _ (told : accepted ≡ verdict (core_rules false own) f) (a : Accepted) (held : Held bytes place a) where
    abbrev t : TableHeader
    t = a.chain.table

    accepted_is : verdict (without_buffer own) f ≡ accepted
    accepted_is = sym (without_buffer_lem own f) ∙ sym told

    count_is : t.partitions ≡ partitions f
    count_is = counted a.chain.followed ∙ ap partitions (same_file bytes place a held)

    pub accepted_bill : a.bill ≡ bill_by own bytes place
    unfolding bill_by
    accepted_bill = a.sum ∙ ap billed (same_file bytes place a held) ∙ sym (bill_accepted (without_buffer own) f accepted_is)

    -- a p that isn't 1 to N
    pub under_part : (p : ℕ) → p < 1 → part_by own bytes place p ≡ empty_part
    unfolding part_by
    under_part p h = part_none (without_buffer own) f p (inl h)

    pub over_part : (p : ℕ) → t.partitions < p → part_by own bytes place p ≡ empty_part
    unfolding part_by
    over_part p h = part_none (without_buffer own) f p (inr (omega (arith, count_is)))

    pub under_owner : (p : ℕ) → p < 1 → 0 ≡ owner_by own bytes place p
    unfolding owner_by
    under_owner p h = sym (owner_none (without_buffer own) f p (inl h))

    pub over_owner : (p : ℕ) → t.partitions < p → 0 ≡ owner_by own bytes place p
    unfolding owner_by
    over_owner p h = sym (owner_none (without_buffer own) f p (inr (omega (arith, count_is))))

    -- both at once
    pub no_part : (p : ℕ) → (p < 1) ⊎ (t.partitions < p) → part_by own bytes place p ≡ empty_part
    no_part p (inl h) = under_part p h
    no_part p (inr h) = over_part p h

    pub no_owner : (p : ℕ) → (p < 1) ⊎ (t.partitions < p) → 0 ≡ owner_by own bytes place p
    no_owner p (inl h) = under_owner p h
    no_owner p (inr h) = over_owner p h

    pub owner_told : (p : ℕ) → 1 ≤ p → p ≤ t.partitions → {o : ℕ} → o ≡ owner_image (file_of bytes t) p → o ≡ owner_by own bytes place p
    unfolding owner_by
    owner_told p low high e =
        e
        ∙ ap (λ (q : ℕ). owner_image (asked bytes q) p) held.at_place
        ∙ sym (owner_accepted (without_buffer own) f accepted_is p low (omega (arith, count_is)))

    -- a partition from 1 to N, its header, as it was read, and the range of its body
    module _ (p : ℕ) (low : 1 ≤ p) (high : p ≤ t.partitions) {h : Header} (read : h ≡ header (file_of_chain a.chain) (p - 1 + 1))
        {b : Range} (named : b ≡ body_of h) where
      is_body : b ≡ body f p
      unfolding body
      is_body =
          named
          ∙ ap body_of
          (read ∙ ap (λ (g : File). header g (p - 1 + 1)) (same_file bytes place a held)
          ∙ ap (header f) {x = p - 1 + 1} {y = p} (omega arith))

      pub ends : b.start + b.size ≤ length bytes
      unfolding without_buffer body
      ends =
          let high' : p ≤ partitions f = omega (arith, count_is) in
          let span = span_stated f p low high' (accepted_kept (without_buffer own) f accepted_is (mem-cons_of_mem rule1 s.spans)) in
          let order = (lengths_stated f p low high' (accepted_kept (without_buffer own) f accepted_is
          (mem-cons_of_mem rule1 s.lengths))).2 in
          omega (arith, span, order, ap (λ (r : Range). r.start) is_body, ap (λ (r : Range). r.size) is_body)

      pub part_is : part_by own bytes place p ≡ b
      unfolding part_by
      part_is = part_accepted (without_buffer own) f accepted_is p low (omega (arith, count_is)) ∙ sym is_body

-- ---- the same of read, with a row buffer

module _ (own : List Rule) (bytes : List ℕ) (place : ℕ) (rows : List ℕ) where
  abbrev g : File
  g = asked bytes place

  module _ {k p : ℕ} (told : refused k p ≡ verdict (core_rules (ltb (length rows) buffer_numbers) own) g) where
    read_refused : refused k p ≡ verdict (with_rows (length rows) own) g
    read_refused = told ∙ with_rows_lem own (length rows) g

    pub refused_answer : answer (refused k p) ≡ read_by own bytes place rows
    unfolding read_by
    refused_answer = ap answer read_refused

    pub refused_rows : rows ≡ rows_by own bytes place rows
    unfolding rows_by
    refused_rows = sym (after_refused (with_rows (length rows) own) g rows k p (sym read_refused))

  module _ (told : accepted ≡ verdict (core_rules (ltb (length rows) buffer_numbers) own) g) (a : Accepted) where
    read_accepted : verdict (with_rows (length rows) own) g ≡ accepted
    read_accepted = sym (told ∙ with_rows_lem own (length rows) g)

    pub accepted_answer : 0 ≡ read_by own bytes place rows
    unfolding read_by answer
    accepted_answer = sym (ap answer read_accepted)

    -- the buffer serves, and there are few partitions
    pub room : head_width + row_width * a.chain.table.partitions ≤ length rows
    unfolding with_rows
    room =
        let serves = ((buffer_accepts buffer_numbers (length rows) own g).0 read_accepted).0 in
        omega (arith, serves, a.chain.followed.few)

    pub accepted_rows : Held bytes place a → {after : List ℕ} → after ≡ overwritten (file_of_chain a.chain) rows
        → after ≡ rows_by own bytes place rows
    unfolding rows_by overwritten
    accepted_rows held w =
        w ∙ ap (λ (h : File). overwritten h rows) (same_file bytes place a held)
        ∙ sym (after_accepted (with_rows (length rows) own) g rows read_accepted)

-- what the core answers, either way
module _ (own : List Rule) (bytes : List ℕ) (place : ℕ) (rows : List ℕ) (r : Result Accepted Refusal)
    (told : outcome_of r ≡ verdict (core_rules (ltb (length rows) buffer_numbers) own) (asked bytes place)) where
  pub read_answer_lem : answer (outcome_of r) ≡ read_by own bytes place rows
  unfolding read_by
  read_answer_lem = ap answer (told ∙ with_rows_lem own (length rows) (asked bytes place))

  -- number and p of a refusal are small, so that the answer fits
  pub small : Supported own → {refusal : Refusal} → r ≡ Err refusal → answer (outcome_of r) < 0x1_0000_0000
  unfolding with_rows answer
  small s {refusal} e =
      let refused_is = sym (told ∙ with_rows_lem own (length rows) (asked bytes place)) ∙ ap outcome_of e in
      let number = refusal_below s buffer_numbers (length rows) (asked bytes place) _ _ refused_is in
      let partition = refusal_p s buffer_numbers (length rows) (asked bytes place) _ _ refused_is in
      omega (arith, ap (λ (x : Result Accepted Refusal). answer (outcome_of x)) e, number, partition)

-- what body hands back where its part is b: its bytes, and its place in the image
pub part_bytes : (own : List Rule) (bytes : List ℕ) (place p : ℕ) (b : Range) → part_by own bytes place p ≡ b
    → take (b.start + b.size - b.start) (drop b.start bytes) ≡ body_by own bytes place p
unfolding body_by body_under part_by cut
part_bytes own bytes place p b e =
    ap (λ (n : ℕ). take n (drop b.start bytes)) {x = b.start + b.size - b.start} {y = b.size} (omega arith)
    ∙ ap (λ (r : Range). cut r bytes) (sym e)

-- what the ways out of the questions need
pub ruleset billed_by = (refused_bill, accepted_bill, plain)

pub ruleset owned_by = (refused_owner, under_owner, over_owner, owner_told, plain)

pub ruleset part_told = (refused_part, under_part, over_part, plain)

pub ruleset read_told = (accepted_answer, refused_answer, refused_rows)
