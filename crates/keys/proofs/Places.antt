-- The place that a search gives, and what it says of the first words of a list. Assumes nothing.
use Rattle.std.proofs.Common.{◌≡◌, ℕ, zero, suc, ◌+◌, ◌≤◌, Bool, true, false, cond, ◌||◌, leb, eqb, Option, Some, None, List, [], ◌∷◌, take, refl, ap, add-one, arith, le-leb}
use Rattle.std.specs.List.{position_from}
use Rattle.std.specs.Option.{MatchOption, IsSomeAnd, option_map, option_map_or}
use borrow.Author.Tests.{lt-leb}
use Rattle.pdi_spec.specs.Lists.{is_in, any_of}
use Rattle.keys.specs.Places.{place_from, place_in, found}

-- what `map` gives, where each call of its closure adds 1
pub mapped : (P : ℕ → ℕ → Type 0) (o r : Option ℕ) → ((x y : ℕ) → P x y → y ≡ x + 1)
    → MatchOption o (r ≡ None) (λ x. IsSomeAnd r (P x)) → r ≡ option_map (λ i. i + 1) o
mapped P None r h m = m
mapped P (Some x) None h m = absurd m
mapped P (Some x) (Some y) h m = ap Some (h x y m)

-- what `is_some_and` gives, where its closure tells whether the place is one of the first n
pub tested : (P : ℕ → Type 0) (n : ℕ) (o : Option ℕ) (b : Bool) → ((x : ℕ) → P x → b ≡ leb x n)
    → MatchOption o (b ≡ false) P → b ≡ option_map_or (λ place. leb place n) o false
tested P n None b h m = m
tested P n (Some x) b h m = h x m

module _ (word : ℕ) where
  -- a search that counts from 0 gives the place less 1
  searched : (i : ℕ) (xs : List ℕ) → option_map (λ i. i + 1) (position_from (eqb word) i xs) ≡ found (place_from (suc i) xs word)
  unfolding place_from found
  searched i [] = refl
  searched i (x ∷ xs) = go (eqb word x) (rw (add-one i) (searched (suc i) xs))
    where
      go : (t : Bool) → option_map (λ i. i + 1) (position_from (eqb word) (i + 1) xs) ≡ found (place_from (suc (suc i)) xs word)
          → option_map (λ i. i + 1) (cond t (Some i) (position_from (eqb word) (i + 1) xs))
          ≡ found (cond t (suc i) (place_from (suc (suc i)) xs word))
      go true ih = rw add-one refl
      go false ih = ih

  pub place_found : (xs : List ℕ) → option_map (λ i. i + 1) (position_from (eqb word) 0 xs) ≡ found (place_in xs word)
  unfolding place_in
  place_found xs = searched 0 xs

  -- a place behind the first k is none of the first m
  behind : (m k : ℕ) (xs : List ℕ) → m ≤ k → option_map_or (λ place. leb place m) (found (place_from (suc k) xs word)) false ≡ false
  unfolding place_from found
  behind m k [] h = refl
  behind m k (x ∷ xs) h = go (eqb word x) (behind m (suc k) xs (omega arith))
    where
      go : (t : Bool) → option_map_or (λ place. leb place m) (found (place_from (suc (suc k)) xs word)) false ≡ false
          → option_map_or (λ place. leb place m) (found (cond t (suc k) (place_from (suc (suc k)) xs word))) false ≡ false
      go true ih = lt-leb (suc k) m (omega arith)
      go false ih = ih

  among : (m i n : ℕ) (xs : List ℕ) → m ≡ i + n
      → option_map_or (λ place. leb place m) (found (place_from (suc i) xs word)) false ≡ is_in word (take n xs)
  unfolding is_in any_of place_from found
  among m i zero xs e = behind m i xs (omega arith)
  among m i (suc n) [] e = refl
  among m i (suc n) (x ∷ xs) e = go (eqb word x) (among m (suc i) n xs (omega arith))
    where
      go : (t : Bool) → option_map_or (λ place. leb place m) (found (place_from (suc (suc i)) xs word)) false ≡ is_in word (take n xs)
          → option_map_or (λ place. leb place m) (found (cond t (suc i) (place_from (suc (suc i)) xs word))) false
          ≡ (t || is_in word (take n xs))
      go true ih = le-leb (suc i) m (omega arith)
      go false ih = ih

  -- the word's place is one of the first n just where the word is one of the first n
  pub among_first : (n : ℕ) (xs : List ℕ) → option_map_or (λ place. leb place n) (found (place_in xs word)) false ≡ is_in word (take n xs)
  unfolding place_in
  among_first n xs = among n 0 n xs (omega arith)
