-- What rule 17's stage hands on. Assumes nothing.
use Rattle.std.specs.Prelude.{ℕ, ◌+◌, ◌<◌, List, ◌≡◌, get_or}
use Rattle.pdi_spec.specs.Answers.{hash_entry}
use Rattle.headers.specs.declared.table.TableHeader.{TableHeader}
use Rattle.chain_rules.specs.Chain.{file_of}

-- these are the byte offsets of the partitions' own hash entries, 0 where there is none; partitions are counted from 1
abbrev pub Entries : List ℕ → TableHeader → List ℕ → Type 0
Entries bytes t entries = (i : ℕ) → i < t.partitions → get_or entries i 0 ≡ hash_entry (file_of bytes t) (i + 1)
