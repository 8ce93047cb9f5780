-- Document 01, rules 16 and 19, and the addresses of a row: for each clause images that it refuses, and next to them what it takes. What
-- is said of a case is taken from document 01. Assumes nothing.
use Rattle.std.specs.Prelude.{ℕ, ◌+◌}
use mathlib.Core.List.{List, [], ◌∷◌, ◌++◌, flat_map}
use Rattle.pdi_spec.specs.Bench.{Edit, ◌:=◌, in_header}
use Rattle.pdi_cases.specs.Images.{edited, behind, two_partitions}
use Rattle.pdi_cases.specs.Cases.{Trial, breaks, keeps, ImageCase, at0, refused_with, row, with_row}

-- an attribute word, and the halves of a load address, in the header at an offset: "load address 0x18 and 0x1C", the low half first
abbrev loaded : ℕ → ℕ → ℕ → ℕ → List Edit
loaded at attributes high low = (at + 0x24 := attributes) ∷ (at + 0x1C := high) ∷ (at + 0x18 := low) ∷ []

-- the bench image with these
unfoldable pub loaded_at : ℕ → ℕ → ℕ → List ℕ
loaded_at attributes high low = edited (loaded (in_header 0) attributes high low)

-- 16: "types 2, 3, 6, 7 hold 0xFFFFFFFF in both halves and have no load range."
unfoldable pub no_load_cases : List Trial
no_load_cases =
    flat_map
    (λ (a : ℕ). keeps 16 (loaded_at a 0xFFFFFFFF 0xFFFFFFFF ∷ [])
    ++ breaks 16 1
    (loaded_at a 0xFFFFFFFF 0
    ∷ loaded_at a 0 0xFFFFFFFF
    ∷ loaded_at a 0xFFFFFFFF 0xFFFFFFFE
    ∷ loaded_at a 0xFFFFFFFE 0xFFFFFFFF
    ∷ loaded_at a 0 0x00100000
    ∷ []))
    (0x02000001 ∷ 0x03000001 ∷ 0x06000001 ∷ 0x07000001 ∷ [])

-- 16: "Types 1, 4, 5 have the range of 4U bytes at the address; its end must be at most 2^64."
unfoldable pub load_cases : List Trial
load_cases =
    flat_map
    (λ (a : ℕ). keeps 16 (loaded_at a 0xFFFFFFFF 0xFFFFFFF0 ∷ loaded_at a 0 0xFFFFFFFF ∷ loaded_at a 0 0 ∷ [])
    ++ breaks 16 1 (loaded_at a 0xFFFFFFFF 0xFFFFFFF1 ∷ loaded_at a 0xFFFFFFFF 0xFFFFFFFF ∷ []))
    (0x01000001 ∷ 0x04000001 ∷ 0x05000001 ∷ [])
    -- U = 1 of E = T = 4
    ++ keeps 16 (edited ((in_header 0x4 := 1) ∷ loaded (in_header 0) 0x04000001 0xFFFFFFFF 0xFFFFFFFC) ∷ [])
    ++ breaks 16 1 (edited ((in_header 0x4 := 1) ∷ loaded (in_header 0) 0x04000001 0xFFFFFFFF 0xFFFFFFFD) ∷ [])

-- The addresses in a row: "execution address 0x10 low and 0x14 high", and the load address, whether it has a load range or not.
unfoldable pub address_cases : List ImageCase
address_cases =
    at0 (edited ((in_header 0x10 := 3) ∷ (in_header 0x14 := 5) ∷ [])) (with_row (row 0x00100000 0x0000000500000003 0 0 0x04000001))
    ∷ at0 (loaded_at 0x05000001 7 9) (with_row (row 0x0000000700000009 0 0 0 0x05000001))
    ∷ at0 (loaded_at 0x02000001 0xFFFFFFFF 0xFFFFFFFF) (with_row (row 0xFFFFFFFFFFFFFFFF 0 0 0 0x02000001))
    ∷ at0 (loaded_at 0x02000001 0 0x00100000) (refused_with 16 1)
    ∷ at0 (two_partitions (loaded behind 0x04000001 0 0x0010000F)) (refused_with 19 2)
    ∷ []

-- 19: "load ranges clash; p is the smallest whose load range meets an earlier partition's". The first of two partitions is loaded to
-- 0x00100000 up to 0x00100010, the second is of 4 bytes.
unfoldable pub load_clash_cases : List Trial
load_clash_cases =
    keeps 19
    (two_partitions (loaded behind 0x04000001 0 0x00100010)
    ∷ two_partitions (loaded behind 0x04000001 0 0x000FFFFC)
    ∷ two_partitions (loaded behind 0x04000001 1 0x00100000)
    ∷ two_partitions (loaded behind 0x02000001 0 0x00100000)
    ∷ [])
    ++ breaks 19 2
    (two_partitions (loaded behind 0x04000001 0 0x0010000F)
    ∷ two_partitions (loaded behind 0x01000001 0 0x000FFFFD)
    ∷ two_partitions (loaded behind 0x05000001 0 0x00100000)
    ∷ [])
