-- What a search among a block's entries finds, and what is said of one block. Assumes nothing.
use Rattle.std.specs.Prelude.{ℕ, ◌≤◌, ◌<◌, Bool, true, false, not, ◌&&◌, List, ◌≡◌, Option, None, Some, Result, Ok, Err}
use Rattle.pdi_spec.specs.Headers.{Block}
use Rattle.pdi_spec.specs.HashBlock.{no_block, entries_in, has_index, hash_entry_in}
use Rattle.pdi_spec.specs.Rules.{hash_block_bad}
use Rattle.refusals.specs.declared.Rule.{Rule}

-- no entry from `from` on, and before `to`, has the index i
abbrev pub NoEntry : List ℕ → Block → ℕ → ℕ → ℕ → Type 0
NoEntry bytes b i from to = (k : ℕ) → from ≤ k → k < to → has_index bytes b i k ≡ false

-- k is the first entry from `from` on that has the index i
pub record FirstEntry (bytes : List ℕ) (b : Block) (i from k : ℕ) : Type 0 where
  pub listed : k < entries_in b.size
  pub after : from ≤ k
  pub has : has_index bytes b i k ≡ true
  pub skipped : NoEntry bytes b i from k

-- what a search from `from` on answers: that entry, or none where no entry is left that has the index
abbrev pub NextEntry : List ℕ → Block → ℕ → ℕ → Option ℕ → Type 0
NextEntry bytes b i from None = NoEntry bytes b i from (entries_in b.size)
NextEntry bytes b i from (Some k) = FirstEntry bytes b i from k

-- a bad block, or where the own entry lies
unfoldable pub block_answer_of : Bool → ℕ → Result ℕ Rule
block_answer_of true entry = Err Rule.HashBlockWrong
block_answer_of false entry = Ok entry

-- of the block of index i
unfoldable pub block_answer : List ℕ → ℕ → Block → Result ℕ Rule
block_answer bytes i b = block_answer_of (not (no_block b) && hash_block_bad bytes i b) (hash_entry_in bytes b i)
