-- Document 01, "Positions, memory and claims": loading. "A memory has one byte at each address from 0 to 2^64 - 1. Loading starts
-- from any memory. It is fed a list of the partitions with a load address, each once, in any order, and any 4U bytes for each."
-- Assumes nothing. A memory is given for every number; Claims.antt says that no address from 2^64 on is written.
use Rattle.std.specs.Prelude.{ℕ, ◌+◌, ◌-◌, ◌<◌, false, cond, ◌≡◌, length, get_or}
use mathlib.Core.List.{List, [], ◌∷◌, map, flat_map, Mem, Nodup, Perm}
use Rattle.pdi_spec.specs.Lists.{numbers}
use Rattle.pdi_spec.specs.Ranges.{LoadRange, loads_to, address_space}
use Rattle.pdi_spec.specs.Stated.{Stated, loadable}

abbrev pub Memory : Type 0
Memory = ℕ → ℕ

-- what a step takes: a partition, and the bytes for it
pub record Feed : Type 0 where
  pub partition : ℕ
  pub bytes : List ℕ

-- the addresses that a step writes
unfoldable pub target : Stated → Feed → LoadRange
target s d = s.load_range d.partition

-- "Byte i, from 0 to 4U - 1, goes to the load address + i; all other addresses stay."
unfoldable pub step : Stated → Memory → Feed → Memory
step s m d address =
    cond (loads_to (target s d) address) (get_or d.bytes (address - (target s d).addresses.start) 0) (m address)

-- "A step takes the next partition and the memory that the last step left." "An empty list leaves the memory as it started."
unfoldable pub load : Stated → Memory → List Feed → Memory
load s m [] = m
load s m (d ∷ feeds) = load s (step s m d) feeds

-- what a list must be: "the partitions with a load address, each once, in any order, and any 4U bytes for each"
pub record Whole (s : Stated) (feeds : List Feed) : Type 0 where
  pub each_once : Perm (map (λ (d : Feed). d.partition) feeds) (loadable s)
  pub sized : (d : Feed) → Mem d feeds → length d.bytes ≡ (target s d).addresses.size

-- every address that the list's steps write, one step after another
unfoldable pub addresses_written : Stated → List Feed → List ℕ
addresses_written s feeds =
    flat_map (λ (d : Feed). numbers (target s d).addresses.start (target s d).addresses.size) feeds

-- Demand 3 of loading, for one whole list: what the memory holds in the end, and what was written.
pub record Loaded (s : Stated) (m : Memory) (feeds : List Feed) : Type 0 where
  pub yielded : (d : Feed) → Mem d feeds → (i : ℕ) → i < (target s d).addresses.size
      → load s m feeds ((target s d).addresses.start + i) ≡ get_or d.bytes i 0
  pub untouched : (address : ℕ) → ((p : ℕ) → Mem p (loadable s) → loads_to (s.load_range p) address ≡ false)
      → load s m feeds address ≡ m address
  pub any_order : (others : List Feed) → Perm feeds others → load s m others ≡ load s m feeds
  pub once_each : Nodup (addresses_written s feeds)
  pub inside : (address : ℕ) → Mem address (addresses_written s feeds) → address < address_space
