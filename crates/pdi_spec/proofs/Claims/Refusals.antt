-- Claims, demand 1: what a refusal says, and that it changes nothing. Assumes nothing.
use Rattle.std.specs.Prelude.{ℕ, ◌/◌, ◌%◌, ◌≤◌, ◌<◌, ◌≡◌}
use mathlib.Core.List.{List, [], ◌∷◌, map, Mem}
use Rattle.pdi_spec.specs.{Limits.most_partitions, Limits.answer_unit, Limits.last_rule, Lists.numbers, File.File, Verdict.Rule, Verdict.refused, Verdict.verdict, RuleList.plain_rules, RuleList.without_buffer, RuleList.with_buffer, RuleList.with_rows, RuleList.with_host_rows, Answers.answer, Answers.rows_after, Answers.bill_under, Answers.body_under, Answers.owner_under}
use Rattle.pdi_spec.proofs.Laws

-- A refusal's number is that of a rule of the list, which is tried at the refusal's p.
pub refusal_number : (rs : List Rule) (f : File) (k p : ℕ) → verdict rs f ≡ refused k p
    → (r : Rule) × Mem r rs × (r.number ≡ k) × Mem p (r.tried f)
refusal_number = Laws.Verdict.refusal_rule

-- The numbers of read's list are 1 to 20, in that order.
pub numbers_of_read : (rows : ℕ) → map (λ (r : Rule). r.number) (with_rows rows plain_rules) ≡ numbers 1 last_rule
unfolding with_rows
numbers_of_read = Laws.Plain.buffer_numbers_lem _

-- So are those of the host's list.
pub numbers_of_host : (rows : ℕ) → map (λ (r : Rule). r.number) (with_host_rows rows plain_rules) ≡ numbers 1 last_rule
unfolding with_host_rows
numbers_of_host = Laws.Plain.buffer_numbers_lem _

-- The list of bill, body and owner has all of them but 2.
pub numbers_of_bill : map (λ (r : Rule). r.number) (without_buffer plain_rules) ≡ 1 ∷ numbers 3 18
numbers_of_bill = Laws.Plain.bill_numbers

-- A refusal's number is from 1 to 20 and its p at most 32, with a row buffer ..
pub refusal_small : (least have : ℕ) (f : File) (k p : ℕ) → verdict (with_buffer least have plain_rules) f ≡ refused k p
    → (1 ≤ k) × (k ≤ last_rule) × (p ≤ most_partitions)
refusal_small = Laws.Plain.buffer_small

-- .. and without one.
pub bill_refusal_small : (f : File) (k p : ℕ) → verdict (without_buffer plain_rules) f ≡ refused k p
    → (1 ≤ k) × (k ≤ last_rule) × (p ≤ most_partitions)
bill_refusal_small = Laws.Plain.bill_small

-- 64 × number + p tells number and p, as p is below 64.
pub answer_tells : (k p : ℕ) → p < answer_unit → (answer (refused k p) / answer_unit ≡ k) × (answer (refused k p) % answer_unit ≡ p)
answer_tells = Laws.Refusals.answer_tells

-- A refusal leaves the row buffer as found.
pub refusal_writes_nothing : (rs : List Rule) (f : File) (rows : List ℕ) (k p : ℕ) → verdict rs f ≡ refused k p
    → rows_after rs f rows ≡ rows
refusal_writes_nothing = Laws.Rows.after_refused

-- It bills 0.
pub refusal_bills_nothing : (rs : List Rule) (f : File) (k p : ℕ) → verdict rs f ≡ refused k p → bill_under rs f ≡ 0
refusal_bills_nothing = Laws.Answers.bill_refused

-- It has no body.
pub refusal_has_no_body : (rs : List Rule) (f : File) (k p : ℕ) → verdict rs f ≡ refused k p → (q : ℕ) → body_under rs f q ≡ []
refusal_has_no_body = Laws.Answers.body_refused

-- And no partition has an owner.
pub refusal_has_no_owner : (rs : List Rule) (f : File) (k p : ℕ) → verdict rs f ≡ refused k p → (q : ℕ) → owner_under rs f q ≡ 0
refusal_has_no_owner = Laws.Owners.owner_refused
