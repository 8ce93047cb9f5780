-- Document 01, rule 12, and "Positions, memory and claims": the fields of an attribute word that a rule names (000, table 2).
-- Assumes nothing.
use Rattle.std.specs.Prelude.{ℕ, Bool, [], ◌∷◌}
use Rattle.pdi_spec.specs.Lists.{is_in}
use Rattle.pdi_spec.specs.Words.{bits}

abbrev pub cluster_of : ℕ → ℕ
cluster_of word = bits word 31 29

abbrev pub dpa_of : ℕ → ℕ
dpa_of word = bits word 28 27

abbrev pub type_of : ℕ → ℕ
type_of word = bits word 26 24

abbrev pub reserved_of : ℕ → ℕ
reserved_of word = bits word 22 21

abbrev pub tcm_flag_of : ℕ → ℕ
tcm_flag_of word = bits word 20 19

abbrev pub owner_of : ℕ → ℕ
owner_of word = bits word 17 16

abbrev pub checksum_type_of : ℕ → ℕ
checksum_type_of word = bits word 13 12

abbrev pub cpu_of : ℕ → ℕ
cpu_of word = bits word 11 8

abbrev pub lockstep_of : ℕ → ℕ
lockstep_of word = bits word 5 4

-- "A partition has a load address if its type, attribute bits 26:24, is 1, 4 or 5."
unfoldable pub has_load_address : ℕ → Bool
has_load_address word = is_in (type_of word) (1 ∷ 4 ∷ 5 ∷ [])
