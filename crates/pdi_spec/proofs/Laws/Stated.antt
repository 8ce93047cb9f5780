-- Laws of what is stated of a file's partitions. Where it is what the headers state, by the headers themselves or by the rows that an
-- acceptance wrote, loading is as demanded, and the billed bytes are the positions in a span. Assumes nothing.
use Prim.Native.Nat.{ℕ, ◌*◌, ◌-◌, ◌≤◌, ◌<◌}
use Rattle.std.proofs.Common.{arith, ◌∙◌}
use Rattle.std.proofs.Math.Bool.{Bool, false, Bool-set}
use Rattle.std.specs.Prelude.{true, cond, ◌&&◌, ◌||◌, ◌≡◌, refl}
use mathlib.Core.List.Sublistᴰ
use mathlib.Core.List.{List, [], ◌∷◌, ◌++◌, map, Mem, not-mem-nil, eq-or-mem_of_mem-cons, exists_of_mem-map, map_congr_left}
use Rattle.std.proofs.Math.Logic.Or
use Rattle.std.proofs.Math.Logic.{∥∥₁_elim}
use Rattle.std.proofs.Math.Path.{sym, ap, fun_ext}
use Rattle.std.proofs.Math.ListN.{length}
use Rattle.pdi_spec.specs.{Lists.numbers, Lists.sum_of, Lists.any_of, Lists.any_pair, Lists.those, Lists.count_of, File.File, File.partitions, File.partition_numbers, File.header, RuleList.of_header, RuleList.with_header, RuleList.rule15, RuleList.rule16, RuleList.rule18, RuleList.rule19, Ranges.Range, Ranges.within, Ranges.overlap, Ranges.past, Ranges.span, Ranges.spans, Ranges.header_ranges, Ranges.meet, Ranges.loads, Ranges.load_range, Ranges.address_space, Rules.span_outside, Rules.load_address_bad, Rules.stored_ranges_clash, Rules.load_ranges_clash, Verdict.Rule, Verdict.accepted, Verdict.verdict, Verdict.Kept, Answers.if_accepted, Answers.billed, Answers.bill_under, Stated.Stated, Stated.by_headers, Stated.partitions_of, Stated.loadable, Stated.in_spans, Loading.Memory, Loading.Feed, Loading.Whole, Loading.Loaded}
use Rattle.pdi_spec.proofs.Laws.{Tests.or_left, Tests.or_right, Tests.false_at, Tests.mem_numbers, Tests.numbers_mem, Tests.none_entry, Kept.kept_once, Kept.kept_each, Kept.partition_mem, Kept.load_in_space, Verdict.accepted_kept, Lists.those_sublist, Loading.loads_whole, Counts.count_at_most, Counts.counted}

-- ---- lists

-- an entry that passed a test passes it
those_pass : (test : ℕ → Bool) (x : ℕ) (xs : List ℕ) → Mem x (those test xs) → test x ≡ true
unfolding those
those_pass test x [] m = absurd (not-mem-nil m)
those_pass test x (y ∷ ys) m = go (those_pass test x ys) (test y) refl m
  where
    go : (Mem x (those test ys) → test x ≡ true) → (b : Bool) → test y ≡ b → Mem x (cond b (y ∷ those test ys) (those test ys))
        → test x ≡ true
    go ih true e n = Or.elim (Bool-set (test x) true) (eq-or-mem_of_mem-cons n) (λ q. ap test q ∙ e) ih
    go ih false e n = ih n

-- some entry's image passes a test
any_map : (test : Range → Bool) (g : ℕ → Range) (xs : List ℕ) → any_of (λ (x : ℕ). test (g x)) xs ≡ any_of test (map g xs)
unfolding any_of
any_map test g [] = refl
any_map test g (x ∷ xs) = ap (λ (b : Bool). test (g x) || b) (any_map test g xs)

-- no two entries of a list pass a test: no two of its later part do
pair_right : (test : Range → Range → Bool) (xs ys : List Range) → any_pair test (xs ++ ys) ≡ false → any_pair test ys ≡ false
unfolding any_pair
pair_right test [] ys e = e
pair_right test (x ∷ xs) ys e = pair_right test xs ys (or_right (any_of (test x) (xs ++ ys)) (any_pair test (xs ++ ys)) e)

sum_sizes : (f : File) (ps : List ℕ)
    → sum_of (map (λ (r : Range). r.size) (map (span f) ps)) ≡ 4 * sum_of (map (λ (p : ℕ). (header f p).total) ps)
unfolding sum_of span
sum_sizes f [] = refl
sum_sizes f (p ∷ ps) = omega (arith, sum_sizes f ps)

-- ---- what the headers state

-- of partitions 1 to N
pub record AsHeaders (f : File) (s : Stated) : Type 0 where
  pub same_count : s.count ≡ partitions f
  pub same_span : (p : ℕ) → 1 ≤ p → p ≤ partitions f → s.span p ≡ span f p
  pub same_loads : (p : ℕ) → 1 ≤ p → p ≤ partitions f → s.loads p ≡ loads f p
  pub same_range_lem : (p : ℕ) → 1 ≤ p → p ≤ partitions f → s.load_range p ≡ load_range f p

pub headers_state : (f : File) → AsHeaders f (by_headers f)
unfolding by_headers
headers_state f =
    record { same_count = refl; same_span = λ p l h. refl; same_loads = λ p l h. refl; same_range_lem = λ p l h. refl }

module _ {f : File} {s : Stated} (a : AsHeaders f s) where
  -- ---- partitions with a load address

  in_chain : (p : ℕ) → Mem p (loadable s) → (1 ≤ p) × (p ≤ partitions f)
  unfolding loadable partitions_of
  in_chain p m =
      let b = mem_numbers 1 s.count (Sublistᴰ.subset (those_sublist s.loads (numbers 1 s.count)) p m) in
      (b.0, omega (arith, b.1, a.same_count))

  has_address : (p : ℕ) → Mem p (loadable s) → loads f p ≡ true
  unfolding loadable
  has_address p m = let b = in_chain p m in sym (a.same_loads p b.0 b.1) ∙ those_pass s.loads p (partitions_of s) m

  same : (p : ℕ) → Mem p (loadable s) → s.load_range p ≡ load_range f p
  same p m = let b = in_chain p m in a.same_range_lem p b.0 b.1

  -- rule 19 kept: no two load ranges share an address
  clear : Kept rule19 f → (e p : ℕ) → Mem e (loadable s) → Mem p (loadable s) → e < p
      → meet (s.load_range p) (s.load_range e) ≡ false
  unfolding load_ranges_clash
  clear k e p me mp h =
      let b = in_chain p mp in
      let low = (in_chain e me).0 in
      let test : ℕ → Bool = λ q. loads f q && meet (load_range f p) (load_range f q) in
      let here = partition_mem f p b.0 b.1 in
      let kept : loads f p && any_of test (numbers 1 (p - 1)) ≡ false = kept_each 19 load_ranges_clash f k p here in
      let none : any_of test (numbers 1 (p - 1)) ≡ false = rw (has_address p mp) at kept in
      let at = none_entry test (numbers 1 (p - 1)) none (numbers_mem 1 (p - 1) low (omega arith)) in
      rw (same p mp, same e me) (rw (has_address e me) at at)

  -- rule 16 kept: none passes the address space
  low : Kept rule16 f → (p : ℕ) → Mem p (loadable s) → past address_space (s.load_range p).addresses ≡ false
  low k p m =
      let b = in_chain p m in
      rw (same p m) (load_in_space f p (has_address p m) (kept_each 16 (of_header load_address_bad) f k p (partition_mem f p b.0 b.1)))

  -- ---- spans

  same_spans : map s.span (partitions_of s) ≡ spans f
  unfolding partitions_of spans partition_numbers
  same_spans =
      ap (λ (n : ℕ). map s.span (numbers 1 n)) a.same_count
      ∙ map_congr_left (λ p m. let b = mem_numbers 1 (partitions f) m in a.same_span p b.0 (omega (arith, b.1)))

  -- rules 15 and 18 kept: the billed bytes are as many as the positions in a span
  counts : Kept rule15 f → Kept rule18 f → billed f ≡ in_spans s (length f.bytes)
  unfolding billed in_spans span_outside stored_ranges_clash spans span
  counts k l =
      let apart = pair_right overlap (header_ranges f) (spans f) (false_at _ (kept_once 18 stored_ranges_clash f l) 0) in
      sym (sum_sizes f (partition_numbers f))
      ∙ sym (counted (length f.bytes) (spans f) apart inside)
      ∙ ap (λ (t : ℕ → Bool). count_of t (numbers 0 (length f.bytes))) (fun_ext covers)
    where
      inside : (r : Range) → Mem r (spans f) → past (length f.bytes) r ≡ false
      inside r m =
          ∥∥₁_elim (exists_of_mem-map m) (Bool-set (past (length f.bytes) r) false)
          (λ t. ap (past (length f.bytes)) (sym t.2) ∙ or_left _ _ (kept_each 15 (with_header span_outside) f k t.0 t.1))

      covers : (x : ℕ) → any_of (λ (r : Range). within r x) (spans f) ≡ any_of (λ (p : ℕ). within (s.span p) x) (partitions_of s)
      covers x = sym (any_map (λ (r : Range). within r x) s.span (partitions_of s) ∙ ap (any_of (λ (r : Range). within r x)) same_spans)

  -- ---- where a list of rules accepts the file

  module _ (rs : List Rule) (e : verdict rs f ≡ accepted) where
    pub accepted_loads : Mem rule16 rs → Mem rule19 rs → (m : Memory) (feeds : List Feed) → Whole s feeds → Loaded s m feeds
    accepted_loads m16 m19 = loads_whole s (clear (accepted_kept rs f e m19)) (low (accepted_kept rs f e m16))

    pub accepted_bill : Mem rule15 rs → Mem rule18 rs
        → (bill_under rs f ≡ in_spans s (length f.bytes)) × (bill_under rs f ≤ length f.bytes)
    unfolding bill_under if_accepted in_spans
    accepted_bill m15 m18 =
        let c = counts (accepted_kept rs f e m15) (accepted_kept rs f e m18) in
        let most : in_spans s (length f.bytes) ≤ length f.bytes = count_at_most _ 0 (length f.bytes) in
        rw e (c, omega arith)
