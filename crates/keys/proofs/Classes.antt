-- The classes of a word, told by the first words of all keys, of eight and of all, and by its place among them. Assumes nothing.
use Rattle.std.proofs.Common.{◌≡◌, ℕ, zero, suc, Bool, true, false, cond, eqb, leb, ◌&&◌, ◌||◌, List, [], ◌∷◌, take, refl, ◌∙◌, arith, le-leb, ne_eqb}
use Rattle.std.proofs.Math.Bool.{or_assoc}
use Rattle.pdi_spec.specs.Lists.{is_in, any_of}
use Rattle.pdi_spec.specs.Keys.{common_keys, user_keys, zero_or_common, zero_common_or_user}
use Rattle.std.specs.Option.{option_map_or}
use Rattle.keys.specs.Places.{all_keys, place_from, place_in, found}
use Rattle.keys.proofs.Places.{among_first}

pub common_told : (word : ℕ) → zero_or_common word ≡ (eqb word 0 || is_in word (take 8 all_keys))
unfolding zero_or_common all_keys common_keys user_keys
common_told word = refl

pub known_told : (word : ℕ) → zero_common_or_user word ≡ (eqb word 0 || is_in word (take 22 all_keys))
unfolding zero_common_or_user zero_or_common all_keys common_keys user_keys is_in any_of
known_told word = simp or_assoc

-- ---- of a word other than 0, by its place

-- one of the first m places
abbrev pub up_to : ℕ → ℕ → Bool
up_to m place = leb 1 place && leb place m

up_to_found : (m place : ℕ) → up_to m place ≡ option_map_or (λ place. leb place m) (found place) false
unfolding found
up_to_found m zero = refl
up_to_found m (suc n) = rw (le-leb 1 (suc n) (omega arith)) refl

module _ (word : ℕ) where
  listed : (i : ℕ) (xs : List ℕ) → leb 1 (place_from (suc i) xs word) ≡ is_in word xs
  unfolding place_from is_in any_of
  listed i [] = refl
  listed i (x ∷ xs) = go (eqb word x) (listed (suc i) xs)
    where
      go : (t : Bool) → leb 1 (place_from (suc (suc i)) xs word) ≡ is_in word xs
          → leb 1 (cond t (suc i) (place_from (suc (suc i)) xs word)) ≡ (t || is_in word xs)
      go true ih = le-leb 1 (suc i) (omega arith)
      go false ih = ih

  module _ (nonzero : word ≡ 0 → ⊥) where
    pub common_place : up_to 8 (place_in all_keys word) ≡ zero_or_common word
    common_place = up_to_found 8 _ ∙ among_first word 8 all_keys ∙ rw (common_told word, ne_eqb word 0 nonzero) refl

    pub known_place : leb 1 (place_in all_keys word) ≡ zero_common_or_user word
    unfolding place_in all_keys common_keys user_keys
    known_place = listed 0 all_keys ∙ rw (known_told word, ne_eqb word 0 nonzero) refl
