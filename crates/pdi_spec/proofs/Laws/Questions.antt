-- Laws of the answers themselves: what a question's answer says of the rules, of what is claimed twice, of the bill and of its buffer. For
-- any question whose own rules are as Supported says, and for plain reading where its numbers matter. Assumes nothing.
use Rattle.std.specs.Prelude.{ℕ, ◌+◌, ◌*◌, ◌/◌, ◌%◌, ◌≤◌, ◌<◌, Bool, true, false, cond, ◌↔◌, ◌≡◌, refl, ltb, length}
use Rattle.std.proofs.Math.Bridge.{le_prop}
use Rattle.std.proofs.Common.{arith, ⊎_elim, ◌∙◌, lit<, ltb-true, ltb-false, lt-ltb}
use mathlib.Core.List.{List, ◌∷◌, ◌++◌, Mem, not-mem-nil, mem-cons_of_mem, forall_mem-cons}
use Rattle.std.proofs.Math.Path.{sym, ap}
use Rattle.pdi_spec.specs.{Limits.most_partitions, Limits.buffer_numbers, Limits.buffer_bytes, Limits.answer_unit, Limits.last_rule, Lists.first_of, File.File, Rules.image_too_long, Rules.buffer_too_short, RuleList.rule1, RuleList.rule2, RuleList.rule18, RuleList.rule19, RuleList.image_rules, RuleList.reading_rules, RuleList.plain_rules, RuleList.without_buffer, RuleList.with_buffer, RuleList.with_rows, RuleList.with_host_rows, Verdict.Rule, Verdict.once, Verdict.Outcome, Verdict.accepted, Verdict.refused, Verdict.verdict, Verdict.Kept, Verdict.Keeps, Verdict.FirstRefusal, Answers.answer, Answers.if_accepted, Answers.asked, Answers.RefusedCall, Answers.bill_under, Answers.read_by, Answers.bill_by, Answers.part_by, Answers.body_by, Answers.owner_by, Host.host_read_by, Twice.PositionTwice, Twice.AddressTwice, Twice.SmallestMeeting, Twice.ClaimedTwice, Supported.Supported}
use Rattle.pdi_spec.proofs.Laws.{Tests.either, Verdict.verdict_broken, Verdict.verdict_kept, Verdict.accepted_keeps, Verdict.keeps_accepted, Verdict.refused_first, Verdict.first_refused, Refusals.answer_refused, Refusals.with_room, Refusals.zero_accepted, Refusals.refusal_p, Stated.headers_state, Stated.accepted_bill, Answers.listed, Answers.bill_refused, Answers.part_refused, Answers.body_refused, Answers.host_same, Owners.owner_refused, Plain.plain, Plain.buffer_split, Plain.buffer_small, ClashVerdict.refused_18, ClashVerdict.refused_19, ClashVerdict.refused_19_some}

-- ---- a list with a row buffer that has `have`, where `least` serves

-- a buffer that doesn't serve: the answer is of number 1 or of number 2, whatever else the image holds
pub short_answer : (least have : ℕ) (own : List Rule) (f : File) → have < least
    → answer (verdict (with_buffer least have own) f) ≡ answer_unit * cond (image_too_long f) 1 2
unfolding with_buffer once first_of buffer_too_short Kept answer
short_answer least have own f h = go (image_too_long f) refl
  where
    go : (b : Bool) → image_too_long f ≡ b → answer (verdict (rule1 ∷ rule2 least have ∷ own) f) ≡ answer_unit * cond b 1 2
    go true e = ap answer (verdict_broken rule1 (rule2 least have ∷ own) f 0 (rw e refl))
    go false e =
        ap answer
        (verdict_kept rule1 (rule2 least have ∷ own) f (λ p m. e)
        ∙ verdict_broken (rule2 least have) own f 0 (rw (lt-ltb have least h) refl))

module _ {own : List Rule} (s : Supported own) (least have : ℕ) (f : File) where
  abbrev list : List Rule
  list = with_buffer least have own

  -- it answers 0 exactly where every rule is kept
  pub zero_exactly : (answer (verdict (with_buffer least have own) f) ≡ 0) ↔ Keeps (with_buffer least have own) f
  unfolding answer
  zero_exactly = (λ e. accepted_keeps list f (zero_accepted s least have f e), λ k. ap answer (keeps_accepted list f k))

  -- a refusal that was answered, with its number and p
  pub refusal : (k p : ℕ) → p < answer_unit → 1 ≤ k → answer (verdict (with_buffer least have own) f) ≡ answer_unit * k + p
      → verdict (with_buffer least have own) f ≡ refused k p
  unfolding answer
  refusal k p h l e =
      let t = answer_refused list f (λ z. omega (arith, e)) in
      let small = refusal_p s least have f t.0 t.1 t.2 in
      let same : answer_unit * t.0 + t.1 ≡ answer_unit * k + p = sym (ap answer t.2) ∙ e in
      t.2 ∙ ap (λ (n : ℕ). refused n t.1) {x = t.0} {y = k} (omega (arith, same, small)) ∙ ap (refused k) (omega (arith, same, small))

  -- 64 × k + p exactly where a rule of number k is the first broken, first at p
  pub refusal_exactly : (k p : ℕ) → 1 ≤ k → p < answer_unit
      → (answer (verdict (with_buffer least have own) f) ≡ answer_unit * k + p) ↔ FirstRefusal (with_buffer least have own) f k p
  unfolding answer
  refusal_exactly k p l h = (λ e. refused_first list f k p (refusal k p h l e), λ t. ap answer (first_refused list f k p t))

-- ---- plain reading

module _ (least have : ℕ) (f : File) where
  abbrev given : ℕ
  given = answer (verdict (with_buffer least have plain_rules) f)

  -- a refusal's number and p, as its answer tells them
  told : (n : given ≡ 0 → ⊥)
      → (k : ℕ) × (p : ℕ) × (verdict (with_buffer least have plain_rules) f ≡ refused k p) × (given ≡ answer_unit * k + p) × (1 ≤ k)
      × (k ≤ last_rule) × (p ≤ most_partitions)
  unfolding answer
  told n =
      let t = answer_refused (with_buffer least have plain_rules) f n in
      let small = buffer_small least have f t.0 t.1 t.2 in
      (t.0, t.1, t.2, ap answer t.2, small.0, small.1, small.2)

  refusal_tells : (given ≡ 0 → ⊥) → (1 ≤ given / answer_unit) × (given / answer_unit ≤ last_rule) × (given % answer_unit ≤ most_partitions)
  refusal_tells n =
      let t = told n in
      (omega (arith, t.3, t.4, t.5, t.6), omega (arith, t.3, t.4, t.5, t.6), omega (arith, t.3, t.4, t.5, t.6))

  -- with rules 1 to 17 kept
  module _ (kept : Keeps (with_buffer least have reading_rules) f) where
    abbrev before : List Rule
    before = rule1 ∷ rule2 least have ∷ reading_rules

    before_kept : Keeps before f
    unfolding with_buffer
    before_kept = kept

    headers_kept : Keeps reading_rules f
    unfolding Keeps
    headers_kept r m = before_kept r (mem-cons_of_mem rule1 (mem-cons_of_mem (rule2 least have) m))

    higher_after : (r : Rule) → Mem r image_rules → 19 < r.number
    unfolding image_rules once
    higher_after = (forall_mem-cons (λ r. le_prop)).1 (lit< tt, λ r m. absurd (not-mem-nil m))

    split : verdict (with_buffer least have plain_rules) f ≡ verdict (before ++ (rule18 ∷ rule19 ∷ image_rules)) f
    split = ap (λ (l : List Rule). verdict l f) (buffer_split least have)

    answers_18 : (given ≡ answer_unit * 18) ↔ PositionTwice f
    unfolding answer
    answers_18 =
        let law = refused_18 f before image_rules before_kept headers_kept higher_after 0 in (
          λ e. (law.0 (sym split ∙ refusal plain least have f 18 0 (omega arith) (omega arith) (omega (arith, e)))).0,
          λ t. ap answer (split ∙ law.1 (t, refl)),
        )

    -- the refusal that an answer of number 19 stands for
    nineteen : given / answer_unit ≡ 19
        → (p : ℕ) × (verdict (before ++ (rule18 ∷ rule19 ∷ image_rules)) f ≡ refused 19 p) × (given % answer_unit ≡ p)
    nineteen e =
        let t = told (λ z. omega (arith, z)) in
        let k : t.0 ≡ 19 = omega (arith, t.3, t.6) in
        (t.1, sym split ∙ t.2 ∙ ap (λ (n : ℕ). refused n t.1) k, omega (arith, t.3, t.6))

    answers_19 : (given / answer_unit ≡ 19) ↔ ((PositionTwice f → ⊥) × AddressTwice f)
    unfolding answer
    answers_19 =
        let law = refused_19_some f before image_rules before_kept headers_kept higher_after in (
          λ e. let t = nineteen e in law.0 (t.0, t.1),
          λ t.
              let r = law.1 t in
              let e : given ≡ answer_unit * 19 + r.0 = ap answer (split ∙ r.1) in
              let small = (buffer_small least have f 19 r.0 (split ∙ r.1)).2 in
              omega (arith, e, small),
        )

    -- and then p is the smallest partition that meets an earlier one
    smallest_19 : given / answer_unit ≡ 19 → SmallestMeeting f (given % answer_unit)
    smallest_19 e =
        let t = nineteen e in
        rw t.2 ((refused_19 f before image_rules before_kept headers_kept higher_after t.0).0 t.1).1

    pub claimed_twice : ClaimedTwice f (answer (verdict (with_buffer least have plain_rules) f))
    claimed_twice = record { stored = answers_18; loaded = answers_19; smallest_p = smallest_19 }

-- ---- bill, body and owner beside an answer

-- plain reading, refused with a row buffer of which `least` would serve
pub refused_call : (image : List ℕ) (place least : ℕ) (found left : List ℕ)
    → (answer (verdict (with_buffer least (length found) plain_rules) (asked image place)) ≡ 0 → ⊥) → left ≡ found
    → RefusedCall image place (answer (verdict (with_buffer least (length found) plain_rules) (asked image place))) found left least
unfolding bill_by part_by body_by owner_by
refused_call image place least found left n same =
    let f = asked image place in
    let tells = refusal_tells least (length found) f n in
    let t = answer_refused _ f n in
    let e : least ≤ length found → verdict (without_buffer plain_rules) f ≡ refused t.0 t.1 =
    λ h. sym (with_room least (length found) plain_rules f h) ∙ t.2 in
    record {
      from_1 = tells.0;
      to_last = tells.1;
      small_p = tells.2;
      as_found = same;
      bills_nothing = λ h. bill_refused _ f _ _ (e h);
      no_part = λ h p. part_refused _ f _ _ (e h) p;
      no_body = λ h p. body_refused _ f _ _ (e h) p;
      no_owner = λ h p. owner_refused _ f _ _ (e h) p;
    }

-- no image is billed more than its length
pub bill_at_most : {own : List Rule} (s : Supported own) (image : List ℕ) (place : ℕ) → bill_by own image place ≤ length image
unfolding bill_by bill_under if_accepted
bill_at_most {own} s image place = go (verdict (without_buffer own) (asked image place)) refl
  where
    go : (o : Outcome) → verdict (without_buffer own) (asked image place) ≡ o
        → bill_under (without_buffer own) (asked image place) ≤ length image
    go accepted e =
        (accepted_bill (headers_state (asked image place)) (without_buffer own) e (listed s image place s.spans)
        (listed s image place s.stored)).1
    go (refused k p) e = omega (arith, bill_refused (without_buffer own) (asked image place) k p e)

-- ---- the host's answer beside read's

-- where both buffers serve or neither does, they answer alike
pub host_beside : (own : List Rule) (image : List ℕ) (place : ℕ) (rows bytes : List ℕ)
    → ((buffer_numbers ≤ length rows) ↔ (buffer_bytes ≤ length bytes)) → host_read_by own image place bytes ≡ read_by own image place rows
unfolding host_read_by read_by with_host_rows with_rows
host_beside own image place rows bytes both =
    ⊎_elim
    (λ e.
    let short : length rows < buffer_numbers = ltb-true _ _ e in
    let same = short_answer buffer_numbers (length rows) own f short in
    short_answer buffer_bytes (length bytes) own f (lt_not (λ h. omega (arith, both.1 h, short))) ∙ sym same)
    (λ e. let serves = ltb-false (length rows) buffer_numbers e in host_same own image place rows bytes serves (both.0 serves))
    (either (ltb (length rows) buffer_numbers))
  where
    f : File
    f = asked image place

    lt_not : (buffer_bytes ≤ length bytes → ⊥) → length bytes < buffer_bytes
    lt_not n = omega arith
