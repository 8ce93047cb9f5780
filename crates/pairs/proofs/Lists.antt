-- Whether some range of a list passes a test, as the code's ranges and as those of the definitions. Assumes nothing.
use Prim.Native.Nat.{ℕ, ◌+◌}
use mathlib.Core.Bool.{Bool, ◌||◌}
use mathlib.Core.List.{List, [], ◌∷◌, map}
use mathlib.Core.Path.{◌≡◌, refl, ap, sym, ◌∙◌}
use Rattle.std.proofs.Common.{drop}
use Rattle.std.proofs.lemmas.List.{drop-drop}
use Rattle.std.specs.List.{list_any, enumerate_from}
use Rattle.pdi_spec.specs.Lists.{any_of, any_pair}

module _ {A B : Type 0} (f : A → B) where
  pub any_map : (test : B → Bool) (xs : List A) → list_any (λ x. test (f x)) xs ≡ any_of test (map f xs)
  unfolding any_of
  any_map test [] = refl
  any_map test (x ∷ xs) = ap (λ b. test (f x) || b) (any_map test xs)

  module _ (test : B → B → Bool) (all : List A) where
    -- an entry of `all` and its index: it and some later entry pass the test
    abbrev later : ℕ × A → Bool
    later p = any_of (test (f p.1)) (map f (drop (p.0 + 1) all))

    from : (n : ℕ) (xs : List A) → drop n all ≡ xs → list_any later (enumerate_from n xs) ≡ any_pair test (map f xs)
    unfolding any_pair
    from n [] e = refl
    from n (x ∷ xs) e =
        let rest = sym (drop-drop 1 n all) ∙ ap (drop 1) e in
        rw rest (ap (λ b. any_of (test (f x)) (map f xs) || b) (from (n + 1) xs rest))

    pub pair_map : list_any later (enumerate_from 0 all) ≡ any_pair test (map f all)
    pair_map = from 0 all refl
