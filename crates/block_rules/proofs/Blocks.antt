-- Rule 17 along a file's blocks: what the loop keeps after i partitions, and what it answers. Assumes nothing.
use Rattle.std.proofs.Common.{ℕ, Result, suc, ◌+◌, ◌<◌, add-one, arith, Bool, true, false, List, [], ◌∷◌, ◌≡◌, refl, sym, ◌∙◌, ap, length, get_or, set, length-set, Ok, Err}
use Rattle.pdi_spec.specs.Answers.{hash_entry}
use Rattle.pdi_spec.specs.File.{File, partitions, header, hash_block}
use Rattle.pdi_spec.specs.Headers.{Block, Header, Table}
use Rattle.pdi_spec.specs.Limits.{most_partitions}
use Rattle.pdi_spec.specs.RuleList.{rule17}
use Rattle.pdi_spec.specs.Rules.{hash_block_wrong}
use Rattle.pdi_spec.specs.Verdict.{accepted, refused, each_and_table, verdict}
use Rattle.pdi_spec.proofs.Laws.Lists.{stored_more}
use Rattle.pdi_spec.proofs.Laws.Searches.{NoneOf, none_yet, one_more, found, not_found}
use Rattle.headers.specs.Headers.{block_of}
use Rattle.headers.specs.declared.table.TableHeader.{TableHeader}
use Rattle.refusals.specs.declared.Rule.{Rule}
use Rattle.refusals.specs.Refusals.{of_image, outcome_of_refusal}
use Rattle.chain_rules.specs.Chain.{IsTable, file_of}
use Rattle.chain_rules.proofs.Verdicts.{one_broken, one_kept}
use Rattle.block_rules.specs.Entries.{block_answer, block_answer_of}

-- ---- one block of the file

pub table_block : (bytes : List ℕ) (t : TableHeader) → IsTable bytes t → block_of t.block ≡ hash_block (file_of bytes t) 0
unfolding hash_block
table_block bytes t own = ap (λ (h : Table). h.block) own

pub own_block : (f : File) (i : ℕ) {h : Header} → h ≡ header f (i + 1) → h.block ≡ hash_block f (i + 1)
unfolding hash_block
own_block f i e = rw add-one (ap (λ (h : Header). h.block) (rw add-one at e))

bad_only : (b : Bool) (found : ℕ) {rule : Rule} → block_answer_of b found ≡ Err rule → (b ≡ true) × (rule ≡ Rule.HashBlockWrong)
unfolding block_answer_of
bad_only true found e = (refl, cc)
bad_only false found e = absurd (cc)

good_only : (b : Bool) {found entry : ℕ} → block_answer_of b found ≡ Ok entry → (b ≡ false) × (entry ≡ found)
unfolding block_answer_of
good_only true e = absurd (cc)
good_only false e = (refl, cc)

module _ (f : File) (p : ℕ) {b : Block} (own : b ≡ hash_block f p) where
  pub block_refused : {rule : Rule} → block_answer f.bytes p b ≡ Err rule → (hash_block_wrong f p ≡ true) × (rule ≡ Rule.HashBlockWrong)
  unfolding block_answer hash_block_wrong
  block_refused e = rw (← own) (bad_only _ _ e)

  pub block_checked : {entry : ℕ} → block_answer f.bytes p b ≡ Ok entry → (hash_block_wrong f p ≡ false) × (entry ≡ hash_entry f p)
  unfolding block_answer hash_block_wrong hash_entry
  block_checked e = rw (← own) (good_only _ e)

-- ---- the loop

-- after i partitions: no block is bad so far, the table's among them, and the i entries are stored
pub record BlocksSoFar (f : File) (entries : List ℕ) (i : ℕ) : Type 0 where
  pub none : NoneOf (hash_block_wrong f) 0 (i + 1)
  pub stored : (k : ℕ) → k < i → get_or entries k 0 ≡ hash_entry f (k + 1)
  pub room : length entries ≡ most_partitions

module _ (f : File) where
  module _ {b : Block} (own : b ≡ hash_block f 0) {answer : Result ℕ Rule} (told : answer ≡ block_answer f.bytes 0 b) where
    pub table_broken : {rule : Rule} → answer ≡ Err rule → outcome_of_refusal (of_image rule) ≡ verdict (rule17 ∷ []) f
    unfolding each_and_table
    table_broken e =
        let bad = block_refused f 0 own (sym told ∙ e) in
        rw bad.1
        (one_broken rule17 f
        (found (hash_block_wrong f) 0 (suc (partitions f)) 0 (none_yet (hash_block_wrong f) 0) (omega arith) bad.0))

    pub starts : (entries : List ℕ) {entry : ℕ} → answer ≡ Ok entry → length entries ≡ most_partitions → BlocksSoFar f entries 0
    starts entries e l =
        record {
          none = one_more (hash_block_wrong f) 0 0 (none_yet (hash_block_wrong f) 0) (block_checked f 0 own (sym told ∙ e)).0;
          stored = λ k h. absurd (omega arith);
          room = l;
        }

  module _ {entries : List ℕ} {i : ℕ} (so_far : BlocksSoFar f entries i) where
    pub kept : i ≡ partitions f → accepted ≡ verdict (rule17 ∷ []) f
    unfolding each_and_table
    kept e = one_kept rule17 f (not_found (hash_block_wrong f) 0 (suc (partitions f)) (λ k l. so_far.none k (omega arith)))

    same : 0 + (i + 1) ≡ i + 1
    same = omega arith

    module _ {h : Header} (own : h ≡ header f (i + 1)) {answer : Result ℕ Rule} (told : answer ≡ block_answer f.bytes (i + 1) h.block) where
      pub broken : i < partitions f → {rule : Rule} → answer ≡ Err rule → refused 17 (i + 1) ≡ verdict (rule17 ∷ []) f
      unfolding each_and_table
      broken l e =
          let bad = block_refused f (i + 1) (own_block f i own) (sym told ∙ e) in
          ap (refused 17) (sym same)
          ∙ one_broken rule17 f
          (found (hash_block_wrong f) 0 (suc (partitions f)) (i + 1) so_far.none (omega arith) (ap (hash_block_wrong f) same ∙ bad.0))

      pub onward : i < most_partitions → {entry : ℕ} → answer ≡ Ok entry → BlocksSoFar f (set entries i entry) (i + 1)
      onward l {entry} e =
          let good = block_checked f (i + 1) (own_block f i own) (sym told ∙ e) in
          record {
            none = one_more (hash_block_wrong f) 0 (i + 1) so_far.none (ap (hash_block_wrong f) same ∙ good.0);
            stored = stored_more (λ k x. x ≡ hash_entry f (k + 1)) entries i entry (omega (arith, so_far.room)) so_far.stored good.1;
            room = length-set entries i entry ∙ so_far.room;
          }
