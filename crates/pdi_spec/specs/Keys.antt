-- Document 01, "Key words": the two lists in its order, and the classes of a key word. Assumes nothing.
use Rattle.std.specs.Prelude.{ℕ, Bool, ◌||◌, List, [], ◌∷◌, eqb}
use Rattle.pdi_spec.specs.Lists.{is_in}

-- "Common (000, 003)"
unfoldable pub common_keys : List ℕ
common_keys =
    0xA5C3C5A3 ∷ 0xA5C3C5A5 ∷ 0xA5C3C5A7 ∷ 0x3A5C3C5A ∷ 0x3A5C3C59 ∷ 0x3A5C3C57 ∷ 0xA35C7C53 ∷ 0xA35C7CA5 ∷ []

-- "User (000)"
unfoldable pub user_keys : List ℕ
user_keys =
    0x5C3CA5A3 ∷ 0x5C3CA5A5 ∷ 0x5C3CA5A7 ∷ 0xC3A5C5A3 ∷ 0xC3A5C5A5 ∷ 0xC3A5C5A7 ∷ 0xC5C3A5A3 ∷ 0xC3A5C5B3 ∷ 0xC5C3A5C3
    ∷ 0xC3A5C5D3 ∷ 0xC5C3A5E3 ∷ 0xC3A5C5F3 ∷ 0xC5C3A563 ∷ 0xC3A5C573 ∷ []

-- "0 or a common key"
unfoldable pub zero_or_common : ℕ → Bool
zero_or_common key = eqb key 0 || is_in key common_keys

-- "0, common or user"
unfoldable pub zero_common_or_user : ℕ → Bool
zero_common_or_user key = zero_or_common key || is_in key user_keys
