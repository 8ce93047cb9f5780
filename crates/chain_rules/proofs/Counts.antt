-- What the table of a chain says of its file. Assumes nothing.
use Rattle.std.proofs.Common.{ℕ, ◌*◌, List, ◌≡◌, ap}
use Rattle.pdi_spec.specs.File.{partitions, header_at}
use Rattle.pdi_spec.specs.Headers.{Table}
use Rattle.headers.specs.declared.table.TableHeader.{TableHeader}
use Rattle.chain_rules.specs.Chain.{IsChain, IsTable, file_of}

module _ (bytes : List ℕ) (t : TableHeader) (own : IsTable bytes t) where
  pub count_is : t.partitions ≡ partitions (file_of bytes t)
  unfolding partitions
  count_is = ap (λ (t : Table). t.partitions) own

  pub first_is : 4 * t.first_header_offset ≡ header_at (file_of bytes t) 1
  unfolding header_at
  first_is = ap (λ (t : Table). 4 * t.first_header_offset) own

pub counted : {bytes : List ℕ} {t : TableHeader} {offsets : List ℕ} → IsChain bytes t offsets → t.partitions ≡ partitions (file_of bytes t)
counted chain = count_is _ _ chain.own
