-- The lists that rule 18 compares, joined partition by partition, as loops make them. Assumes nothing.
use Rattle.std.proofs.Common.{◌≡◌, ℕ, ◌+◌, true, false, cond, eqb, List, [], ◌∷◌, ◌++◌, map, refl, sym, ◌∙◌, ap, append_assoc, append-nil, add-one, add_comm, zero-add, eq-eqb, ne_eqb}
use Rattle.std.proofs.lemmas.List.{map-append}
use mathlib.Core.List.{flat_map}
use Rattle.pdi_spec.specs.File.{File, is_full, partitions, partition_numbers, header, hash_block}
use Rattle.pdi_spec.specs.HashBlock.{no_block}
use Rattle.pdi_spec.specs.Headers.{Block, Header, Table}
use Rattle.pdi_spec.specs.Lists.{numbers}
use Rattle.pdi_spec.specs.Ranges.{Range, boot_range, table_with_optional, image_headers, header_ranges, block_range, block_ranges, hash_blocks}
use Rattle.pdi_spec.proofs.Laws.Lists.{flat_map_numbers, numbers_more}
use Rattle.headers.specs.Headers.{block_of, table_of}
use Rattle.headers.specs.declared.table.TableHeader.{TableHeader}
use Rattle.chain_rules.specs.Chain.{IsChain, file_of}
use Rattle.chain_rules.specs.File.{file_of_chain}
use Rattle.chain_rules.specs.declared.chain.Chain.{Chain}
use Rattle.chain_rules.proofs.Counts.{counted}
use Rattle.ranges.specs.Range.{range_of}
use Rattle.ranges.specs.declared.Range as ranges
use Rattle.range_lists.specs.declared.parts.Part.{Part}
use Rattle.range_lists.specs.Parts.{first_ranges, part_of, parts_of}

-- what stands before a part that is appended may be said otherwise
pub append_on : {A : Type 0} {whole front front' : List A} (back : List A) → whole ≡ front ++ back → front ≡ front' → whole ≡ front' ++ back
append_on back e f = e ∙ ap (λ (l : List _). l ++ back) f

-- what is appended to an empty list
on_none : {none : List ranges.Range} {whole more : List Range} → none ≡ [] → whole ≡ map range_of none ++ more → whole ≡ more
on_none {none} {whole} {more} empty e = e ∙ ap (λ (l : List ranges.Range). map range_of l ++ more) empty

-- one range more, as pdi_spec has it
pub pushed : (xs ys : List ranges.Range) {r : ranges.Range} {a : Range} → range_of r ≡ a → ys ≡ xs ++ (r ∷ [])
    → map range_of ys ≡ map range_of xs ++ (a ∷ [])
pushed xs ys {r} is e = ap (map range_of) e ∙ map-append range_of xs (r ∷ []) ∙ ap (λ (a : Range). map range_of xs ++ (a ∷ [])) is

-- ---- before the partitions

-- the boot header, where the kind is 1
pub boot_pushed : (kind : ℕ) (xs ys : List ranges.Range) (r : ranges.Range) → kind ≡ 1 → range_of r ≡ boot_range → ys ≡ xs ++ (r ∷ [])
    → map range_of ys ≡ map range_of xs ++ cond (eqb kind 1) (boot_range ∷ []) []
boot_pushed kind xs ys r one is e = rw (eq-eqb kind 1 one) (pushed xs ys is e)

pub no_boot : (kind : ℕ) (xs : List ranges.Range) → (kind ≡ 1 → ⊥)
    → map range_of xs ≡ map range_of xs ++ cond (eqb kind 1) (boot_range ∷ []) []
no_boot kind xs other = rw (ne_eqb kind 1 other) (sym (append-nil (map range_of xs)))

-- and two ranges behind it
pub first_joined : (t : Table) (old : List Range) (xs ys zs : List ranges.Range) (a b : ranges.Range)
    → map range_of xs ≡ old ++ cond (eqb t.kind 1) (boot_range ∷ []) [] → range_of a ≡ table_with_optional t → ys ≡ xs ++ (a ∷ [])
    → range_of b ≡ image_headers t → zs ≡ ys ++ (b ∷ []) → map range_of zs ≡ old ++ first_ranges t
unfolding first_ranges
first_joined t old xs ys zs a b boot ea ey eb ez =
    append_on _ (pushed ys zs eb ez) (append_on _ (pushed xs ys ea ey) boot)
    ∙ append_assoc (old ++ cond (eqb t.kind 1) (boot_range ∷ []) []) _ _
    ∙ append_assoc old _ _

-- ---- one range of each partition

-- of the first n
unfoldable pub first_parts : Part → File → ℕ → List Range
first_parts part f n = map (λ (p : ℕ). part_of part (header f p)) (numbers 1 n)

module _ (part : Part) (old : List Range) where
  pub parts_none : (f : File) → old ≡ old ++ first_parts part f 0
  unfolding first_parts numbers
  parts_none f = sym (append-nil old)

  pub parts_more : (f : File) (i : ℕ) (xs ys : List ranges.Range) (r : ranges.Range) → map range_of xs ≡ old ++ first_parts part f i
      → range_of r ≡ part_of part (header f (i + 1)) → ys ≡ xs ++ (r ∷ []) → map range_of ys ≡ old ++ first_parts part f (i + 1)
  unfolding first_parts
  parts_more f i xs ys r was is e =
      let one = λ (p : ℕ). part_of part (header f p) in
      append_on _ (pushed xs ys is e) was
      ∙ append_assoc old (map one (numbers 1 i)) _
      ∙ ap (λ (l : List Range). old ++ l)
      (ap (λ (p : ℕ). map one (numbers 1 i) ++ (one p ∷ [])) (add_comm i 1)
      ∙ sym (rw (add-one, numbers_more 1 i) (map-append one (numbers 1 i) _)))

pub parts_all : (part : Part) (chain : Chain) (i : ℕ) → i ≡ chain.table.partitions
    → first_parts part (file_of_chain chain) i ≡ parts_of part (file_of_chain chain)
unfolding first_parts parts_of partition_numbers
parts_all part chain i all = rw (← counted chain.followed, ← all) refl

-- the ranges before the partitions', and then those of their headers
pub headers_are : {bytes : List ℕ} {t : TableHeader} {offsets : List ℕ} → IsChain bytes t offsets
    → header_ranges (file_of bytes t) ≡ first_ranges (table_of t) ++ parts_of Part.Header (file_of bytes t)
unfolding header_ranges is_full first_ranges parts_of
headers_are {bytes} {t} chain =
    ap (λ (x : Table). cond (eqb x.kind 1) (boot_range ∷ []) []
    ++ (table_with_optional x ∷ image_headers x ∷ parts_of Part.Header (file_of bytes t))) (sym chain.own)
    ∙ sym (append_assoc (cond (eqb t.kind 1) (boot_range ∷ []) []) (_ ∷ _ ∷ []) _)

-- as the code makes them, in an empty list
pub headers_joined : (chain : Chain) {none : List ranges.Range} (mid whole : List Range) → none ≡ []
    → mid ≡ map range_of none ++ first_ranges (table_of chain.table)
    → whole ≡ mid ++ parts_of Part.Header (file_of_chain chain) → whole ≡ header_ranges (file_of_chain chain)
headers_joined chain mid whole empty first all = append_on _ all (on_none empty first) ∙ sym (headers_are chain.followed)

-- ---- hash blocks

-- one, where there is one
pub block_pushed : (b : Block) (xs ys : List ranges.Range) (r : ranges.Range) → no_block b ≡ false → range_of r ≡ block_range b
    → ys ≡ xs ++ (r ∷ []) → map range_of ys ≡ map range_of xs ++ block_ranges b
unfolding block_ranges
block_pushed b xs ys r one is e = rw one (pushed xs ys is e)

pub no_block_pushed : (b : Block) (xs : List ranges.Range) → no_block b ≡ true → map range_of xs ≡ map range_of xs ++ block_ranges b
unfolding block_ranges
no_block_pushed b xs none = rw none (sym (append-nil (map range_of xs)))

pub own_block : (f : File) (i : ℕ) → (header f (i + 1)).block ≡ hash_block f (0 + (i + 1))
unfolding hash_block
own_block f i = rw (zero-add, add-one) refl

-- the table's, and those of the first n partitions
unfoldable pub first_blocks : File → ℕ → List Range
first_blocks f n = flat_map (λ (p : ℕ). block_ranges (hash_block f p)) (numbers 0 (n + 1))

pub blocks_none : (chain : Chain) {none : List ranges.Range} (whole : List Range) → none ≡ []
    → whole ≡ map range_of none ++ block_ranges (block_of chain.table.block) → whole ≡ first_blocks (file_of_chain chain) 0
unfolding first_blocks flat_map numbers hash_block
blocks_none chain whole empty e =
    on_none empty e
    ∙ ap (λ (t : Table). block_ranges t.block) chain.followed.own
    ∙ sym (append-nil _)

pub blocks_more : (f : File) (i : ℕ) (before whole : List Range) (h : Header) → before ≡ first_blocks f i → h ≡ header f (i + 1)
    → whole ≡ before ++ block_ranges h.block → whole ≡ first_blocks f (i + 1)
unfolding first_blocks hash_block
blocks_more f i before whole h was is e =
    append_on _ e was
    ∙ ap (λ (b : Block). first_blocks f i ++ block_ranges b) (ap (λ (h : Header). h.block) is ∙ own_block f i)
    ∙ sym (flat_map_numbers (λ (p : ℕ). block_ranges (hash_block f p)) 0 (i + 1))

pub blocks_all : (chain : Chain) (i : ℕ) → i ≡ chain.table.partitions
    → first_blocks (file_of_chain chain) i ≡ hash_blocks (file_of_chain chain)
unfolding first_blocks hash_blocks
blocks_all chain i all = rw (← counted chain.followed, ← all, add-one) refl

-- the table's block, and then those of the partitions
pub blocks_joined : {bytes : List ℕ} {t : TableHeader} {offsets : List ℕ} → IsChain bytes t offsets → hash_blocks (file_of bytes t)
    ≡ block_ranges (block_of t.block) ++ flat_map (λ (p : ℕ). block_ranges (hash_block (file_of bytes t) p)) (numbers 1 t.partitions)
unfolding hash_blocks flat_map numbers hash_block partitions
blocks_joined {bytes} {t} chain =
    let block : ℕ → List Range = λ p. block_ranges (hash_block (file_of bytes t) p) in
    ap (λ (x : Table). block_ranges x.block ++ flat_map block (numbers 1 x.partitions))
    (sym chain.own)

-- a list made entry by entry is the lists of one entry, joined
pub made_joined : {A B : Type 0} (f : A → B) (xs : List A) → map f xs ≡ flat_map (λ (x : A). f x ∷ []) xs
unfolding flat_map
made_joined f [] = refl
made_joined f (x ∷ xs) = ap (λ (l : List _). f x ∷ l) (made_joined f xs)
