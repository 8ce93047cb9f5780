-- Laws of `verdict`, for any list of rules: it accepts exactly where every rule is kept, and it refuses with a number and a p
-- exactly where a rule of that number is the first that is broken, first at p. Assumes nothing.
use Rattle.std.specs.Prelude.{ℕ, ◌<◌, false, ◌≡◌, refl}
use Rattle.std.proofs.Common.{arith, sym, ◌∙◌, ap}
use Rattle.std.proofs.Math.Bool.{Bool-set}
use mathlib.Core.HLevel.{Π_prop}
use mathlib.Core.List.{List, [], ◌∷◌, ◌++◌, map, Mem, mem-cons_self, mem-cons_of_mem, not-mem-nil, mem-map_of_mem, forall_mem-cons}
use Rattle.std.proofs.Math.Option.{Option, none, some, Option-elim}
use Rattle.pdi_spec.specs.{Lists.first_of, File.File, Verdict.Rule, Verdict.Outcome, Verdict.accepted, Verdict.refused, Verdict.verdict, Verdict.Kept, Verdict.Keeps, Verdict.FirstRefusal}
use Rattle.pdi_spec.proofs.Laws.{Firsts.mem_split, Firsts.first_none, Firsts.none_first, Firsts.first_some, Firsts.split_first}

-- what the first rule's first broken p makes of the list's verdict
verdict_step : (r : Rule) (rs : List Rule) (f : File) (o : Option ℕ) → first_of (r.broken f) (r.tried f) ≡ o
    → verdict (r ∷ rs) f ≡ Option-elim o (verdict rs f) (refused r.number)
unfolding verdict
verdict_step r rs f o e = ap (λ (q : Option ℕ). Option-elim q (verdict rs f) (refused r.number)) e

pub accepted_not_refused : {k p : ℕ} → accepted ≡ refused k p → ⊥
accepted_not_refused e = let z : ◌≡◌ {A = ℕ} 0 1 = cc in omega arith

-- a rule that is first broken at p is what the list refuses with
pub verdict_broken : (r : Rule) (rs : List Rule) (f : File) (p : ℕ) → first_of (r.broken f) (r.tried f) ≡ some p
    → verdict (r ∷ rs) f ≡ refused r.number p
unfolding Option-elim
verdict_broken r rs f p e = verdict_step r rs f (some p) e

-- a kept rule leaves the verdict to the rest of the list
pub verdict_kept : (r : Rule) (rs : List Rule) (f : File) → Kept r f → verdict (r ∷ rs) f ≡ verdict rs f
unfolding Kept Option-elim
verdict_kept r rs f k = verdict_step r rs f none (none_first (r.broken f) (r.tried f) k)

-- and so do several
pub verdict_skip : (before rs : List Rule) (f : File) → Keeps before f → verdict (before ++ rs) f ≡ verdict rs f
unfolding Keeps
verdict_skip [] rs f k = refl
verdict_skip (r ∷ before) rs f k =
    verdict_kept r (before ++ rs) f (k r mem-cons_self) ∙ verdict_skip before rs f (λ s m. k s (mem-cons_of_mem r m))

-- lists with the same verdict have the same one after a rule that comes before both
pub verdict_after : (r : Rule) (rs ss : List Rule) (f : File) → verdict rs f ≡ verdict ss f → verdict (r ∷ rs) f ≡ verdict (r ∷ ss) f
unfolding verdict
verdict_after r rs ss f e = rw e refl

-- the second outcome, unless the first refuses
unfoldable pub and_then : Outcome → Outcome → Outcome
and_then accepted o = o
and_then (refused k p) o = refused k p

-- a list in two parts: the second is tried only where the first accepts
pub verdict_append : (rs ss : List Rule) (f : File) → verdict (rs ++ ss) f ≡ and_then (verdict rs f) (verdict ss f)
unfolding verdict and_then Option-elim
verdict_append [] ss f = refl
verdict_append (r ∷ rs) ss f = go (verdict_append rs ss f) (first_of (r.broken f) (r.tried f))
  where
    go : verdict (rs ++ ss) f ≡ and_then (verdict rs f) (verdict ss f)
        → (o : Option ℕ)
        → Option-elim o (verdict (rs ++ ss) f) (refused r.number)
        ≡ and_then (Option-elim o (verdict rs f) (refused r.number)) (verdict ss f)
    go ih none = ih
    go ih (some p) = refl

keeps_cons : (r : Rule) (rs : List Rule) (f : File) → Kept r f → Keeps rs f → Keeps (r ∷ rs) f
unfolding Keeps Kept
keeps_cons r rs f k ks = (forall_mem-cons (λ (s : Rule). Π_prop (λ p. Π_prop (λ m. Bool-set (s.broken f p) false)))).1 (k, ks)

-- the rules of a list are kept where it accepts
pub accepted_keeps : (rs : List Rule) (f : File) → verdict rs f ≡ accepted → Keeps rs f
unfolding Keeps Kept Option-elim
accepted_keeps [] f e = λ r m. absurd (not-mem-nil m)
accepted_keeps (r ∷ rs) f e = go (accepted_keeps rs f) (first_of (r.broken f) (r.tried f)) refl
  where
    go : (verdict rs f ≡ accepted → Keeps rs f) → (o : Option ℕ) → first_of (r.broken f) (r.tried f) ≡ o → Keeps (r ∷ rs) f
    go ih none q =
        keeps_cons r rs f (first_none (r.broken f) (r.tried f) q) (ih (sym (verdict_step r rs f none q) ∙ e))
    go ih (some p) q = absurd (accepted_not_refused (sym e ∙ verdict_step r rs f (some p) q))

-- so a rule that stands in it is
pub accepted_kept : (rs : List Rule) (f : File) → verdict rs f ≡ accepted → {r : Rule} → Mem r rs → Kept r f
unfolding Keeps
accepted_kept rs f e {r} m = accepted_keeps rs f e r m

-- and where they are kept, it accepts
pub keeps_accepted : (rs : List Rule) (f : File) → Keeps rs f → verdict rs f ≡ accepted
unfolding Keeps verdict
keeps_accepted [] f k = refl
keeps_accepted (r ∷ rs) f k =
    verdict_kept r rs f (k r mem-cons_self) ∙ keeps_accepted rs f (λ s m. k s (mem-cons_of_mem r m))

-- a refusal names the first broken rule of the list
pub refused_first : (rs : List Rule) (f : File) (k p : ℕ) → verdict rs f ≡ refused k p → FirstRefusal rs f k p
unfolding Option-elim verdict Kept Keeps
refused_first [] f k p e = absurd (accepted_not_refused e)
refused_first (r ∷ rs) f k p e = go (refused_first rs f k p) (first_of (r.broken f) (r.tried f)) refl
  where
    go : (verdict rs f ≡ refused k p → FirstRefusal rs f k p) → (o : Option ℕ) → first_of (r.broken f) (r.tried f) ≡ o
        → FirstRefusal (r ∷ rs) f k p
    go ih none q =
        let t = ih (sym (verdict_step r rs f none q) ∙ e) in
        record {
          earlier = r ∷ t.earlier;
          rule = t.rule;
          later = t.later;
          listed = ap (λ (l : List Rule). r ∷ l) t.listed;
          numbered = t.numbered;
          earlier_kept = keeps_cons r t.earlier f (first_none (r.broken f) (r.tried f) q) t.earlier_kept;
          broken_first = t.broken_first;
        }
    go ih (some x) q =
        let same : refused r.number x ≡ refused k p = sym (verdict_step r rs f (some x) q) ∙ e in
        let same_number : r.number ≡ k = cc in
        let same_p : x ≡ p = cc in
        record {
          earlier = [];
          rule = r;
          later = rs;
          listed = refl;
          numbered = same_number;
          earlier_kept = λ s m. absurd (not-mem-nil m);
          broken_first = first_some (r.broken f) (r.tried f) p (q ∙ ap some same_p);
        }

-- and where a rule is the first broken one, the list refuses with it
pub first_refused : (rs : List Rule) (f : File) (k p : ℕ) → FirstRefusal rs f k p → verdict rs f ≡ refused k p
first_refused rs f k p t =
    let b = t.broken_first in
    let first = split_first (t.rule.broken f) b.before p b.after b.passes b.none_before in
    rw (t.listed, verdict_skip t.earlier (t.rule ∷ t.later) f t.earlier_kept, ← t.numbered)
    (verdict_broken t.rule t.later f p (ap (first_of (t.rule.broken f)) b.split ∙ first))

-- ---- a refusal's number

-- the rule that a refusal names stands in the list, and is tried at that p
pub refusal_rule : (rs : List Rule) (f : File) (k p : ℕ) → verdict rs f ≡ refused k p
    → (r : Rule) × Mem r rs × (r.number ≡ k) × Mem p (r.tried f)
refusal_rule rs f k p e =
    let t = refused_first rs f k p e in
    let b = t.broken_first in
    (t.rule, mem_split t.earlier t.later t.listed, t.numbered, mem_split b.before b.after b.split)

-- so its number is one of the list's
pub refusal_number : (rs : List Rule) (f : File) (k p : ℕ) → verdict rs f ≡ refused k p → Mem k (map (λ (r : Rule). r.number) rs)
refusal_number rs f k p e = let t = refusal_rule rs f k p e in rw (← t.2) (mem-map_of_mem (λ (r : Rule). r.number) t.1)

-- and a list none of whose rules has the number does not refuse with it
pub no_such_number : (rs : List Rule) (f : File) (k p : ℕ) → ((r : Rule) → Mem r rs → k < r.number) → verdict rs f ≡ refused k p → ⊥
no_such_number rs f k p h e = let t = refusal_rule rs f k p e in omega (arith, h t.0 t.1, t.2)

pub refused_number : {k l p q : ℕ} → refused k p ≡ refused l q → k ≡ l
refused_number e = cc

pub refused_p : {k l p q : ℕ} → refused k p ≡ refused l q → p ≡ q
refused_p e = cc
