-- The sum of the total lengths of a file's first partitions. Assumes nothing.
use Rattle.std.proofs.Common.{◌≡◌, ℕ, ◌+◌, ◌*◌, map, refl, ◌∙◌, ap, arith}
use Rattle.pdi_spec.specs.Answers.{billed}
use Rattle.pdi_spec.specs.File.{File, partitions, partition_numbers, header}
use Rattle.pdi_spec.specs.Lists.{numbers, sum_of}
use Rattle.pdi_spec.proofs.Laws.Lists.{sum_more}
use Rattle.chain_rules.specs.File.{file_of_chain}
use Rattle.chain_rules.specs.declared.chain.Chain.{Chain}
use Rattle.chain_rules.proofs.Counts.{counted}

unfoldable pub totals : File → ℕ → ℕ
totals f n = sum_of (map (λ (p : ℕ). (header f p).total) (numbers 1 n))

pub totals_none : (f : File) → totals f 0 ≡ 0
unfolding totals numbers sum_of
totals_none f = refl

pub totals_more : (f : File) (i : ℕ) → totals f (i + 1) ≡ totals f i + (header f (i + 1)).total
unfolding totals
totals_more f i =
    sum_more (λ (p : ℕ). (header f p).total) 1 i
    ∙ ap (λ (p : ℕ). sum_of (map (λ (q : ℕ). (header f q).total) (numbers 1 i)) + (header f p).total) {x = 1 + i} {y = i + 1} (omega arith)

-- those of all partitions, each of 4 bytes
pub all_totals : (f : File) {n : ℕ} → n ≡ partitions f → 4 * totals f n ≡ billed f
unfolding totals billed partition_numbers
all_totals f e = ap (λ (k : ℕ). 4 * sum_of (map (λ (p : ℕ). (header f p).total) (numbers 1 k))) e

pub totals_all : (chain : Chain) (n words : ℕ) → words ≡ totals (file_of_chain chain) n → n ≡ chain.table.partitions
    → 4 * words ≡ billed (file_of_chain chain)
totals_all chain n words e all = ap (λ (k : ℕ). 4 * k) e ∙ all_totals (file_of_chain chain) (all ∙ counted chain.followed)
