-- One link of a file's chain: what is tested of it is rule 10's condition, and where the next header lies. Assumes nothing.
use Rattle.std.proofs.Common.{ℕ, List, ap, ◌∙◌, ◌+◌, ◌*◌, ◌≤◌, add-one, Bool, true, false, not, ◌&&◌, ◌||◌, ◌≡◌, refl, None, Some, ltb-false, eqb, ltb, length}
use Rattle.std.proofs.Math.Bool.{or-false}
use Rattle.pdi_spec.specs.File.{File, partitions, header, header_at}
use Rattle.pdi_spec.specs.Headers.{Table, Header, header_size, header_from}
use Rattle.pdi_spec.specs.Lists.{any_true}
use Rattle.pdi_spec.specs.Ranges.{end_of, past}
use Rattle.pdi_spec.specs.Rules.{chain_broken}
use Rattle.pdi_spec.proofs.Laws.Tests.{false_at}
use Rattle.headers.specs.Headers.{header_of}
use Rattle.headers.specs.declared.table.TableHeader.{TableHeader}
use Rattle.headers.specs.declared.partition.PartitionHeader.{PartitionHeader}
use Rattle.chain_rules.specs.Chain.{IsTable, file_of, link_of, link_at}

pub next_at : (f : File) (i : ℕ) → header_at f (i + 1 + 1) ≡ 4 * (header f (i + 1)).next
unfolding header_at header
next_at f i = rw (add-one (i + 1), add-one i) refl

pub ends_inside : (limit at : ℕ) → past limit (record { start = at; size = header_size }) ≡ false → at + header_size ≤ limit
unfolding past end_of
ends_inside limit at e = ltb-false limit (at + header_size) e

-- the code's two tests of the chain's end
abbrev pub ends : ℕ → ℕ → ℕ → Bool
ends p n next = (ltb p n && eqb next 0) || (eqb p n && not (eqb next 0))

module _ (f : File) (p : ℕ) {at : ℕ} (place : at ≡ header_at f p) where
  pub outside : past (length f.bytes) (record { start = at; size = header_size }) ≡ true → None ≡ link_at f p
  unfolding link_at link_of chain_broken any_true header header_from
  outside e = let e' = rw place at e in rw e' refl

  module _ (e : past (length f.bytes) (record { start = at; size = header_size }) ≡ false) where
    pub inside : {n next : ℕ} → n ≡ partitions f → next ≡ (header f p).next → {b : Bool} → ends p n next ≡ b
        → link_of b next ≡ link_at f p
    unfolding link_at chain_broken any_true header header_from
    inside count is-next x = let e' = rw place at e in rw (← x, count, is-next, e', or-false) refl

-- the header that was read
module _ (bytes : List ℕ) (t : TableHeader) (p : ℕ) {at : ℕ} (place : at ≡ header_at (file_of bytes t) p) where
  module _ (own : IsTable bytes t) (e : past (length bytes) (record { start = at; size = header_size }) ≡ false) {h : PartitionHeader}
      (read : header_of h ≡ header_from bytes at) where
    told : {b : Bool} → ends p t.partitions h.next ≡ b → link_of b h.next ≡ link_at (file_of bytes t) p
    unfolding header partitions
    told x =
        inside (file_of bytes t) p place e (ap (λ (u : Table). u.partitions) own)
        (ap (λ (u : Header). u.next) (read ∙ ap (header_from bytes) place)) x

    pub inside_none : ends p t.partitions h.next ≡ true → None ≡ link_at (file_of bytes t) p
    unfolding link_of
    inside_none x = told x

    pub inside_some : ends p t.partitions h.next ≡ false → Some h.next ≡ link_at (file_of bytes t) p
    unfolding link_of
    inside_some x = told x

-- what the function `link_at` needs
pub ruleset one_link = (ends_inside, outside, inside_none, inside_some)

-- ---- what a link tells

broken_only : (b : Bool) (next : ℕ) → link_of b next ≡ None → b ≡ true
unfolding link_of
broken_only true next e = refl
broken_only false next e = cc

next_only : (b : Bool) {here next : ℕ} → link_of b here ≡ Some next → (b ≡ false) × (next ≡ here)
unfolding link_of
next_only true e = absurd (cc)
next_only false e = (refl, cc)

module _ (f : File) (p : ℕ) where
  pub link_broken : link_at f p ≡ None → chain_broken f p ≡ true
  unfolding link_at
  link_broken e = broken_only _ _ e

  pub link_next : {next : ℕ} → link_at f p ≡ Some next → (chain_broken f p ≡ false) × (next ≡ (header f p).next)
  unfolding link_at
  link_next e = next_only _ e

  pub header_inside : chain_broken f p ≡ false → header_at f p + header_size ≤ length f.bytes
  unfolding chain_broken header header_from
  header_inside e = ends_inside (length f.bytes) (header_at f p) (false_at _ e 0)
