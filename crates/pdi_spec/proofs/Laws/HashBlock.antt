-- Laws of the hash block: its length tells its number of entries, and where rule 17 holds its own entry is the only one with the
-- own index. Assumes nothing.
use Rattle.std.specs.Prelude.{ℕ, ◌+◌, ◌<◌, Bool, true, false, cond, ◌≡◌, refl}
use Rattle.std.proofs.Common.{arith, ⊎_elim, eqb-true, eq-eqb}
use Rattle.std.proofs.Math.Nat.{ℕ_set}
use Rattle.std.proofs.Math.Bool.{and-eq-true_iff}
use mathlib.Core.List.{List, [], ◌∷◌, Mem, mem-cons_self, mem-cons_of_mem, eq-or-mem_of_mem-cons}
use Rattle.std.proofs.Math.Logic.Or
use Rattle.std.proofs.Math.Option.{some, Option-elim}
use Rattle.pdi_spec.specs.{Lists.numbers, Lists.any_of, Lists.count_of, Lists.first_of, Headers.Block, File.File, File.hash_block, Words.word_at, HashBlock.no_block, HashBlock.size_of_entries, HashBlock.entries_in, HashBlock.entry_at, HashBlock.has_index, HashBlock.entry_numbers, HashBlock.own_entries, HashBlock.hash_entry_in, Rules.hash_block_bad, Rules.hash_block_wrong}
use Rattle.pdi_spec.proofs.Laws.{Tests.either, Tests.or_both, Tests.never_both, Tests.equal_told, Tests.false_at, Tests.mem_numbers, Tests.numbers_mem, Tests.none_entry}

-- a length stands for at most one number of entries
pub entries_unique : (n : ℕ) → entries_in (size_of_entries n) ≡ n
unfolding entries_in size_of_entries
entries_unique n = omega arith

-- ---- one entry of a list passes a test

-- a count of 0: no entry passes
count_zero : (test : ℕ → Bool) (xs : List ℕ) → count_of test xs ≡ 0 → any_of test xs ≡ false
unfolding count_of any_of
count_zero test [] e = refl
count_zero test (x ∷ xs) e = or_both (test x) (any_of test xs) (go (test x) e) (count_zero test xs (omega arith))
  where
    go : (t : Bool) → cond t 1 0 + count_of test xs ≡ 0 → t ≡ false
    go true z = absurd (omega arith)
    go false z = refl

-- the first entry of the list that passes the test, and that it is the only one
abbrev Only : (ℕ → Bool) → List ℕ → Type 0
Only test xs =
    (k : ℕ) × (first_of test xs ≡ some k) × Mem k xs × (test k ≡ true) × ((j : ℕ) → Mem j xs → test j ≡ true → j ≡ k)

-- it is the head, where the head passes and none of the rest does
only_head : (test : ℕ → Bool) (x : ℕ) (xs : List ℕ) → test x ≡ true → any_of test xs ≡ false → Only test (x ∷ xs)
unfolding first_of
only_head test x xs h failed = (
  x,
  rw h refl,
  mem-cons_self,
  h,
  λ j m p.
      Or.elim (ℕ_set j x) (eq-or-mem_of_mem-cons m) (λ q. q) (λ l. absurd (never_both p (none_entry test xs failed l))),
)

-- it is that of the rest, where the head does not pass
only_rest : (test : ℕ → Bool) (x : ℕ) (xs : List ℕ) → test x ≡ false → Only test xs → Only test (x ∷ xs)
unfolding first_of
only_rest test x xs h r = (
  r.0,
  rw h r.1,
  mem-cons_of_mem x r.2,
  r.3,
  λ j m p.
      Or.elim (ℕ_set j r.0) (eq-or-mem_of_mem-cons m) (λ q. absurd (never_both p (rw q h))) (λ l. r.4 j l p),
)

-- a count of 1: there is such an entry
count_one : (test : ℕ → Bool) (xs : List ℕ) → count_of test xs ≡ 1 → Only test xs
unfolding count_of
count_one test [] e = absurd (omega arith)
count_one test (x ∷ xs) e =
    ⊎_elim (λ h. only_head test x xs h (count_zero test xs (omega (arith, rw h at e))))
    (λ h. only_rest test x xs h (count_one test xs (omega (arith, rw h at e)))) (either (test x))

-- ---- the own entry

-- Exactly one of its entries has the own index, and `hash_entry_in` is its byte offset.
pub own_entry : (bytes : List ℕ) (i : ℕ) (b : Block) → hash_block_bad bytes i b ≡ false
    → (k : ℕ) × (k < entries_in b.size) × (hash_entry_in bytes b i ≡ entry_at b k) × (word_at bytes (entry_at b k) ≡ i)
    × ((j : ℕ) → j < entries_in b.size → word_at bytes (entry_at b j) ≡ i → j ≡ k)
unfolding hash_block_bad own_entries entry_numbers hash_entry_in has_index Option-elim
own_entry bytes i b e =
    let n = entries_in b.size in
    let one = equal_told (own_entries bytes b i) 1 (false_at _ e 5) in
    let r = count_one (has_index bytes b i) (numbers 0 n) one in (
      r.0,
      omega (arith, mem_numbers 0 n r.2),
      rw r.1 refl,
      eqb-true _ i r.3,
      λ j l p.
          r.4 j (numbers_mem 0 n (omega arith) (omega arith)) (eq-eqb _ i p),
    )

-- Without a block there is no entry.
pub no_entry : (bytes : List ℕ) (i : ℕ) (b : Block) → no_block b ≡ true → hash_entry_in bytes b i ≡ 0
unfolding hash_entry_in entry_numbers entries_in numbers first_of Option-elim
no_entry bytes i b e =
    let empty : b.size ≡ 0 = eqb-true _ 0 ((and-eq-true_iff _ _).0 e).0 in
    rw empty refl

-- Rule 17 kept at i, where there is a block: the block is not bad.
pub not_bad : (f : File) (i : ℕ) → no_block (hash_block f i) ≡ false → hash_block_wrong f i ≡ false
    → hash_block_bad f.bytes i (hash_block f i) ≡ false
unfolding hash_block_wrong
not_bad f i b w = rw b at w
