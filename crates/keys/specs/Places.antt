-- A word's place in a list, and the list of all key words in the document's order. Assumes nothing.
use Rattle.std.specs.Prelude.{ℕ, zero, suc, cond, Option, Some, None, List, [], ◌∷◌, ◌++◌, eqb}
use Rattle.pdi_spec.specs.Keys.{common_keys, user_keys}

-- the common ones first
unfoldable pub all_keys : List ℕ
all_keys = common_keys ++ user_keys

-- the word's first place in a list whose places are counted from `first`; 0 if it isn't there
unfoldable pub place_from : ℕ → List ℕ → ℕ → ℕ
place_from first [] word = 0
place_from first (x ∷ xs) word = let rest = place_from (suc first) xs word in cond (eqb word x) first rest

-- counted from 1
unfoldable pub place_in : List ℕ → ℕ → ℕ
place_in list word = place_from 1 list word

-- the place that was found, and none where that is 0
unfoldable pub found : ℕ → Option ℕ
found zero = None
found (suc n) = Some (suc n)
