-- Laws of a refusal's p, of lists with a row buffer and without, and of the answer that a refusal gives. Assumes nothing.
use Rattle.std.specs.Prelude.{ℕ, suc, ◌+◌, ◌/◌, ◌%◌, ◌≤◌, ◌<◌, Bool, ◌↔◌, ◌≡◌}
use Rattle.std.proofs.Math.Bridge.{le_prop}
use Rattle.std.proofs.Math.Nat.{ℕ_set}
use Rattle.std.proofs.Common.{arith, ◌∙◌, lit<}
use mathlib.Core.HLevel.{Π_prop}
use mathlib.Core.List.Memᴰ
use mathlib.Core.List.{List, [], ◌∷◌, Mem, Pairwise-prop, mem-cons_self, mem-cons_of_mem, mem-append_left, forall_mem-cons, is_set}
use Rattle.std.proofs.Math.Logic.{∥∥₁_elim}
use Rattle.std.proofs.Math.Path.{refl, sym, ap}
use borrow.Author.Tests.{ltb-false, le-ltb}
use Rattle.pdi_spec.specs.{Limits.most_partitions, Limits.answer_unit, Lists.numbers, Lists.first_of, File.File, File.partitions, File.partition_numbers, Verdict.Rule, Verdict.once, Verdict.each, Verdict.each_and_table, Verdict.Outcome, Verdict.accepted, Verdict.refused, Verdict.verdict, Verdict.Kept, Rules.buffer_too_short, RuleList.rule1, RuleList.rule2, RuleList.rule6, RuleList.rule9, RuleList.table_rules, RuleList.without_buffer, RuleList.with_buffer, Answers.answer, Supported.WellTried, Supported.Supported}
use Rattle.pdi_spec.proofs.Laws.{Tests.mem_numbers, Tests.numbers_ascending, Lists.Every, Lists.every_mem, Kept.kept_once, Kept.by_number, Kept.counts_stated, Verdict.and_then, Verdict.verdict_append, Verdict.verdict_after, Verdict.verdict_kept, Verdict.accepted_kept, Verdict.refusal_rule, Verdict.no_such_number, Verdict.refused_p}

-- ---- the answer

-- a list without number 0 answers 0 exactly where it accepts
answer_accepted : (rs : List Rule) (f : File) → ((r : Rule) → Mem r rs → 0 < r.number)
    → answer (verdict rs f) ≡ 0 → verdict rs f ≡ accepted
unfolding answer
answer_accepted rs f h e = go (verdict rs f) refl e
  where
    go : (o : Outcome) → verdict rs f ≡ o → answer o ≡ 0 → verdict rs f ≡ accepted
    go accepted q z = q
    go (refused k p) q z = absurd (no_such_number rs f 0 p h (q ∙ ap (λ (n : ℕ). refused n p) (omega arith)))

-- and another answer is a refusal's
pub answer_refused : (rs : List Rule) (f : File) → (answer (verdict rs f) ≡ 0 → ⊥) → (k : ℕ) × (p : ℕ) × (verdict rs f ≡ refused k p)
unfolding answer
answer_refused rs f n = go (verdict rs f) refl
  where
    go : (o : Outcome) → verdict rs f ≡ o → (k : ℕ) × (p : ℕ) × (verdict rs f ≡ refused k p)
    go accepted e = absurd (n (ap answer e))
    go (refused k p) e = (k, p, e)

-- with p below 64 the answer tells number and p
pub answer_tells : (k p : ℕ) → p < answer_unit → (answer (refused k p) / answer_unit ≡ k) × (answer (refused k p) % answer_unit ≡ p)
unfolding answer
answer_tells k p h = (omega arith, omega arith)

-- ---- rules that are tried once

-- they refuse with p = 0
once_p : (rs : List Rule) (f : File) → Every (λ (r : Rule). r.tried f ≡ 0 ∷ []) rs → (k p : ℕ) → verdict rs f ≡ refused k p → p ≡ 0
once_p rs f h k p e =
    let t = refusal_rule rs f k p e in
    let at = every_mem (λ (r : Rule). r.tried f ≡ 0 ∷ []) (λ r. is_set ℕ_set (r.tried f) (0 ∷ [])) rs h t.0 t.1 in
    ∥∥₁_elim (rw at at t.3) (ℕ_set p 0) Memᴰ.eq_of_singleton

tables_once : (f : File) → Every (λ (r : Rule). r.tried f ≡ 0 ∷ []) table_rules
unfolding table_rules once
tables_once f = (refl, (refl, (refl, (refl, (refl, (refl, (refl, tt)))))))

-- as rules 3 to 9 do
pub table_p : (f : File) (k p : ℕ) → verdict table_rules f ≡ refused k p → p ≡ 0
table_p f = once_p table_rules f (tables_once f)

-- ---- at which p a rule is tried

pub well_prop : (r : Rule) → IsProp (WellTried r)
well_prop r a b =
    λ i. record {
      ascending = Π_prop (λ f. Pairwise-prop (λ x y. le_prop)) a.ascending b.ascending i;
      in_chain = Π_prop (λ f. Π_prop (λ p. Π_prop (λ m. le_prop))) a.in_chain b.in_chain i;
    }

-- at numbers that follow one another up to N
well_numbers : (r : Rule) (a : ℕ) (n : File → ℕ) → ((f : File) → r.tried f ≡ numbers a (n f)) → ((f : File) → a + n f ≤ suc (partitions f))
    → WellTried r
well_numbers r a n e h =
    record {
      ascending = λ f. rw (e f) (numbers_ascending a (n f));
      in_chain = λ f p m. let b = mem_numbers a (n f) (rw (e f) at m) in omega (arith, b.1, h f);
    }

pub well_once : (k : ℕ) (c : File → Bool) → WellTried (once k c)
unfolding once numbers
well_once k c = well_numbers (once k c) 0 (λ f. 1) (λ f. refl) (λ f. omega arith)

pub well_each : (k : ℕ) (c : File → ℕ → Bool) → WellTried (each k c)
unfolding each partition_numbers
well_each k c = well_numbers (each k c) 1 partitions (λ f. refl) (λ f. omega arith)

pub well_with_table : (k : ℕ) (c : File → ℕ → Bool) → WellTried (each_and_table k c)
unfolding each_and_table
well_with_table k c = well_numbers (each_and_table k c) 0 (λ f. suc (partitions f)) (λ f. refl) (λ f. omega arith)

-- so are all rules of a list, where each one is
pub all_well : (rs : List Rule) → Every WellTried rs → (r : Rule) → Mem r rs → WellTried r
all_well = every_mem WellTried well_prop

-- ---- lists with a row buffer and without

module _ (least have : ℕ) (own : List Rule) (f : File) where
  -- a buffer that serves leaves the verdict to the rest
  pub with_room : least ≤ have → verdict (with_buffer least have own) f ≡ verdict (without_buffer own) f
  unfolding with_buffer without_buffer Kept once buffer_too_short
  with_room h = verdict_after rule1 (rule2 least have ∷ own) own f (verdict_kept (rule2 least have) own f (λ p m. le-ltb have least h))

  -- so a list with a buffer accepts exactly where the buffer serves and the list without it accepts
  pub buffer_accepts : (verdict (with_buffer least have own) f ≡ accepted) ↔ ((least ≤ have) × (verdict (without_buffer own) f ≡ accepted))
  unfolding with_buffer buffer_too_short
  buffer_accepts = (λ e. (serves e, sym (with_room (serves e)) ∙ e), λ t. with_room t.0 ∙ t.1)
    where
      serves : verdict (with_buffer least have own) f ≡ accepted → least ≤ have
      serves e =
          ltb-false have least (kept_once 2 (buffer_too_short least have) f (accepted_kept _ f e (mem-cons_of_mem rule1 mem-cons_self)))

-- ---- a question whose own rules are as Supported says

-- rule 6 is one of rules 3 to 9
pub table_counts : Mem rule6 table_rules
unfolding table_rules first_of once
table_counts = by_number 6 table_rules refl

-- and so is rule 9
pub table_parts : Mem rule9 table_rules
unfolding table_rules first_of once
table_parts = by_number 9 table_rules refl

module _ {own : List Rule} (s : Supported own) where
  -- where it accepts, there are at most 32 partitions
  pub few_partitions : (f : File) → verdict (without_buffer own) f ≡ accepted → partitions f ≤ most_partitions
  unfolding without_buffer
  few_partitions f e =
      (counts_stated f (accepted_kept _ f e (mem-cons_of_mem rule1 (rw s.table_first (mem-append_left s.later table_counts))))).3

  module _ (least have : ℕ) where
    -- what holds of rules 1 and 2 and of the question's own rules holds of all of them
    of_all : (P : Rule → Type 0) → ((r : Rule) → IsProp (P r)) → P rule1 → P (rule2 least have) → ((r : Rule) → Mem r own → P r)
        → (r : Rule) → Mem r (with_buffer least have own) → P r
    unfolding with_buffer
    of_all P prop first second h = (forall_mem-cons prop).1 (first, (forall_mem-cons prop).1 (second, h))

    positive : (r : Rule) → Mem r (with_buffer least have own) → 0 < r.number
    unfolding once
    positive = of_all (λ r. 0 < r.number) (λ r. le_prop) (lit< tt) (lit< tt) (λ r m. omega (arith, s.over_2 r m))

    below : (r : Rule) → Mem r (with_buffer least have own) → r.number < 64
    unfolding once
    below = of_all (λ r. r.number < 64) (λ r. le_prop) (lit< tt) (lit< tt) s.below_64

    pub well_tried : (r : Rule) → Mem r (with_buffer least have own) → WellTried r
    well_tried = of_all WellTried well_prop (well_once _ _) (well_once _ _) s.well_tried

    -- it answers 0 exactly where it accepts
    pub zero_accepted : (f : File) → answer (verdict (with_buffer least have own) f) ≡ 0 → verdict (with_buffer least have own) f ≡ accepted
    zero_accepted f = answer_accepted _ f positive

    pub zero_accepts : (f : File)
        → (answer (verdict (with_buffer least have own) f) ≡ 0) ↔ ((least ≤ have) × (verdict (without_buffer own) f ≡ accepted))
    unfolding answer
    zero_accepts f = (λ e. (buffer_accepts least have own f).0 (zero_accepted f e), λ t. ap answer ((buffer_accepts least have own f).1 t))

    -- its p is at most 32, as rule 6 comes before any rule of a partition
    pub refusal_p : (f : File) (k p : ℕ) → verdict (with_buffer least have own) f ≡ refused k p → p ≤ most_partitions
    unfolding with_buffer once and_then
    refusal_p f k p e = go (verdict (with_buffer least have table_rules) f) refl
      where
        first : List Rule
        first = with_buffer least have table_rules

        split : verdict (with_buffer least have own) f ≡ and_then (verdict first f) (verdict s.later f)
        split = ap (λ (l : List Rule). verdict (with_buffer least have l) f) s.table_first ∙ verdict_append first s.later f

        go : (o : Outcome) → verdict first f ≡ o → p ≤ most_partitions
        go accepted q =
            let t = refusal_rule (with_buffer least have own) f k p e in
            let six = mem-cons_of_mem rule1 (mem-cons_of_mem (rule2 least have) table_counts) in
            let few = (counts_stated f (accepted_kept first f q six)).3 in
            omega (arith, few, (well_tried t.0 t.1).in_chain f p t.3)
        go (refused l x) q =
            let same : refused l x ≡ refused k p = sym (split ∙ ap (λ (o : Outcome). and_then o (verdict s.later f)) q) ∙ e in
            omega (arith, refused_p same, once_p first f (refl, (refl, tables_once f)) l x q)

    -- and its number is below 64
    pub refusal_below : (f : File) (k p : ℕ) → verdict (with_buffer least have own) f ≡ refused k p → k < 64
    refusal_below f k p e = let t = refusal_rule _ f k p e in omega (arith, below t.0 t.1, t.2)
