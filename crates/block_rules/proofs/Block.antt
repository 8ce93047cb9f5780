-- What is said of one block: by the tests before the search, and by what the two searches find. Assumes nothing.
use Rattle.std.proofs.Common.{ℕ, ◌+◌, ◌*◌, ◌≤◌, arith, Bool, true, false, not, ◌||◌, List, [], ◌∷◌, ◌≡◌, sym, ◌∙◌, ap, eqb, ltb, length, refl, ltb-false, ne_eqb, Option, None, Some, Ok, Err, is_some}
use Rattle.std.proofs.Math.Option.{Option-elim}
use Rattle.pdi_spec.specs.Headers.{Block}
use Rattle.pdi_spec.specs.HashBlock.{no_block, entries_in, entry_at, has_index, entry_numbers, own_entries, hash_entry_in, size_of_entries}
use Rattle.pdi_spec.specs.Ranges.{end_of, past, block_range}
use Rattle.pdi_spec.specs.Limits.{most_entries}
use Rattle.pdi_spec.specs.Rules.{not_from, hash_block_bad}
use Rattle.pdi_spec.proofs.Laws.HashBlock.{no_entry}
use Rattle.pdi_spec.proofs.Laws.Alternatives.{any_by_last}
use Rattle.pdi_spec.proofs.Laws.Searches.{NoneOf, found}
use Rattle.pdi_spec.proofs.Laws.Tests.{or_right}
use Rattle.refusals.specs.declared.Rule.{Rule}
use Rattle.block_rules.specs.Entries.{FirstEntry, NextEntry, NoEntry, block_answer, block_answer_of}
use Rattle.block_rules.proofs.Counts.{count_none, count_one, count_two}

-- the code's tests of the size and the offset: n entries, of this size
abbrev pub ill_sized : Block → ℕ → ℕ → Bool
ill_sized b n size = ((eqb b.size 0 || eqb b.offset 0) || (ltb n 1 || ltb most_entries n)) || not (eqb b.size size)

-- and all of its tests before the search
abbrev pub ill_placed : List ℕ → Block → Bool
ill_placed bytes b =
    let n = entries_in b.size in ill_sized b n (size_of_entries n) || past (length bytes) (block_range b)

-- a block that passes them lies inside the image
pub inside : (bytes : List ℕ) (size offset : ℕ) → ill_placed bytes (record { size = size; offset = offset }) ≡ false
    → 4 * offset + size ≤ length bytes
unfolding past end_of
inside bytes size offset e = ltb-false (length bytes) _ (or_right _ _ e)

module _ (bytes : List ℕ) (i : ℕ) (b : Block) where
  -- those tests settle rule 17's condition, or leave it to the number of own entries
  pub bad_by : {t : Bool} → ill_placed bytes b ≡ t → (t || not (eqb (own_entries bytes b i) 1)) ≡ hash_block_bad bytes i b
  unfolding hash_block_bad not_from
  bad_by e = any_by_last _ (_ ∷ _ ∷ _ ∷ _ ∷ []) _ e

  -- ---- how many entries the searches find

  -- an entry's number as the searches of pdi_spec count it, from 0 on
  from_0 : (k : ℕ) {t : Bool} → has_index bytes b i k ≡ t → has_index bytes b i (0 + k) ≡ t
  from_0 k e = ap (has_index bytes b i) {x = 0 + k} {y = k} (omega arith) ∙ e

  pub none_own : NoEntry bytes b i 0 (entries_in b.size) → not (eqb (own_entries bytes b i) 1) ≡ true
  unfolding own_entries entry_numbers
  none_own none = rw (count_none (has_index bytes b i) 0 (entries_in b.size) (λ k l. from_0 k (none k (omega arith) l)))

  module _ {own : ℕ} (first : FirstEntry bytes b i 0 own) where
    before : NoneOf (has_index bytes b i) 0 own
    before k l = from_0 k (first.skipped k (omega arith) l)

    own_has : has_index bytes b i (0 + own) ≡ true
    own_has = from_0 own first.has

    pub own_at : entry_at b own ≡ hash_entry_in bytes b i
    unfolding hash_entry_in entry_numbers Option-elim
    own_at =
        rw (found (has_index bytes b i) 0 (entries_in b.size) own before first.listed own_has)
        (ap (entry_at b) {x = own} {y = 0 + own} (omega arith))

    pub two_own : {other : ℕ} → FirstEntry bytes b i (own + 1) other → not (eqb (own_entries bytes b i) 1) ≡ true
    unfolding own_entries entry_numbers
    two_own {other} next =
        let there = from_0 other next.has in
        let two =
        count_two (has_index bytes b i) 0 (entries_in b.size) own other (omega (arith, next.after)) next.listed own_has there in
        rw (ne_eqb (own_entries bytes b i) 1 (λ e. omega (arith, two, e)))

    pub one_own : NoEntry bytes b i (own + 1) (entries_in b.size) → not (eqb (own_entries bytes b i) 1) ≡ false
    unfolding own_entries entry_numbers
    one_own none =
        rw (count_one (has_index bytes b i) 0 (entries_in b.size) own first.listed before own_has
        (λ k h m. from_0 k (none k (omega arith) m)))

  -- ---- the answer

  pub absent : no_block b ≡ true → Ok 0 ≡ block_answer bytes i b
  unfolding block_answer block_answer_of
  absent none = rw (none, no_entry bytes i b none)

  module _ (some : no_block b ≡ false) where
    pub refused : hash_block_bad bytes i b ≡ true → Err Rule.HashBlockWrong ≡ block_answer bytes i b
    unfolding block_answer block_answer_of
    refused bad = rw (some, bad)

    pub checked : hash_block_bad bytes i b ≡ false → {entry : ℕ} → entry ≡ hash_entry_in bytes b i
        → Ok entry ≡ block_answer bytes i b
    unfolding block_answer block_answer_of
    checked good e = rw (some, good, e)

    pub misplaced : ill_placed bytes b ≡ true → Err Rule.HashBlockWrong ≡ block_answer bytes i b
    misplaced e = refused (sym (bad_by e))

    module _ (placed : ill_placed bytes b ≡ false) where
      pub not_listed : NextEntry bytes b i 0 None → Err Rule.HashBlockWrong ≡ block_answer bytes i b
      not_listed none = refused (sym (bad_by placed) ∙ none_own none)

      module _ {own : ℕ} (first : FirstEntry bytes b i 0 own) where
        pub listed_twice : (next : Option ℕ) → NextEntry bytes b i (own + 1) next → is_some next ≡ true
            → Err Rule.HashBlockWrong ≡ block_answer bytes i b
        listed_twice None none e = absurd (cc)
        listed_twice (Some k) next e = refused (sym (bad_by placed) ∙ two_own first next)

        pub listed : (next : Option ℕ) → NextEntry bytes b i (own + 1) next → is_some next ≡ false
            → block_answer bytes i b ≡ Ok (entry_at b own)
        unfolding block_answer block_answer_of
        listed None none e = rw (some, ← bad_by placed, one_own first none, own_at first) refl
        listed (Some k) next e = absurd (cc)

-- what the function `check_block` needs
pub ruleset one_block = (inside, absent, misplaced, not_listed, listed_twice, listed)
