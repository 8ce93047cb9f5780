-- Plain reading's own rules, 3 to 20: they are as Supported says, and their numbers and those of the lists of read, bill, body and the
-- host. Assumes nothing.
use Rattle.std.specs.Prelude.{ℕ, ◌+◌, ◌≤◌, ◌<◌, ◌≡◌, refl}
use Rattle.std.proofs.Common.{arith, ◌∙◌, ap}
use mathlib.Core.List.{List, ◌∷◌, ◌++◌, map, Mem, mem-map_of_mem}
use Rattle.pdi_spec.specs.{Limits.most_partitions, Limits.last_rule, Lists.numbers, Lists.first_of, File.File, Verdict.Rule, Verdict.once, Verdict.each, Verdict.each_and_table, Verdict.refused, Verdict.verdict, RuleList.rule1, RuleList.rule2, RuleList.rule18, RuleList.rule19, RuleList.image_rules, RuleList.table_rules, RuleList.header_rules, RuleList.partition_rules, RuleList.reading_rules, RuleList.clash_rules, RuleList.later_rules, RuleList.plain_rules, RuleList.without_buffer, RuleList.with_buffer, Supported.WellTried, Supported.Supported}
use Rattle.pdi_spec.proofs.Laws.{Tests.mem_numbers, Lists.Every, Kept.by_number, Verdict.refusal_number, Refusals.well_once, Refusals.well_each, Refusals.well_with_table, Refusals.all_well, Refusals.with_room, Refusals.refusal_p}

-- ---- numbers

abbrev numbers_of : List Rule → List ℕ
numbers_of rs = map (λ (r : Rule). r.number) rs

pub plain_numbers : numbers_of plain_rules ≡ numbers 3 18
unfolding plain_rules table_rules later_rules partition_rules header_rules clash_rules image_rules once each each_and_table numbers
plain_numbers = refl

pub buffer_numbers_lem : (least have : ℕ) → numbers_of (with_buffer least have plain_rules) ≡ numbers 1 last_rule
unfolding with_buffer once numbers
buffer_numbers_lem least have = ap (λ (ns : List ℕ). 1 ∷ 2 ∷ ns) plain_numbers

pub bill_numbers : numbers_of (without_buffer plain_rules) ≡ 1 ∷ numbers 3 18
unfolding without_buffer once
bill_numbers = ap (λ (ns : List ℕ). 1 ∷ ns) plain_numbers

-- ---- the list

-- it is rules 3 to 17, then 18 and 19, and then 20
pub buffer_split : (least have : ℕ)
    → with_buffer least have plain_rules ≡ (rule1 ∷ rule2 least have ∷ reading_rules) ++ (rule18 ∷ rule19 ∷ image_rules)
unfolding with_buffer plain_rules later_rules reading_rules table_rules partition_rules header_rules clash_rules
buffer_split least have = refl

plain_tried : Every WellTried plain_rules
unfolding plain_rules table_rules later_rules partition_rules header_rules clash_rules image_rules
plain_tried = search (well_once, well_each, well_with_table)

-- each has a number from 3 to 20
numbered : (r : Rule) → Mem r plain_rules → (3 ≤ r.number) × (r.number < 3 + 18)
numbered r m = mem_numbers 3 18 (rw plain_numbers at (mem-map_of_mem (λ (s : Rule). s.number) m))

pub plain : Supported plain_rules
unfolding plain_rules table_rules later_rules partition_rules header_rules clash_rules image_rules first_of once each each_and_table
plain =
    record {
      later = later_rules;
      table_first = refl;
      lengths = by_number 14 plain_rules refl;
      spans = by_number 15 plain_rules refl;
      addresses = by_number 16 plain_rules refl;
      stored = by_number 18 plain_rules refl;
      loads = by_number 19 plain_rules refl;
      images = by_number 20 plain_rules refl;
      over_2 = λ r m. (numbered r m).0;
      below_64 = λ r m. omega (arith, (numbered r m).1);
      well_tried = all_well plain_rules plain_tried;
    }

-- ---- a refusal's number is from 1 to 20, and its p at most 32

pub buffer_small : (least have : ℕ) (f : File) (k p : ℕ) → verdict (with_buffer least have plain_rules) f ≡ refused k p
    → (1 ≤ k) × (k ≤ last_rule) × (p ≤ most_partitions)
buffer_small least have f k p e =
    let m = refusal_number (with_buffer least have plain_rules) f k p e in
    let b = mem_numbers 1 last_rule (rw (buffer_numbers_lem least have) at m) in
    (b.0, omega (arith, b.1), refusal_p plain least have f k p e)

pub bill_small : (f : File) (k p : ℕ) → verdict (without_buffer plain_rules) f ≡ refused k p
    → (1 ≤ k) × (k ≤ last_rule) × (p ≤ most_partitions)
bill_small f k p e = buffer_small 0 0 f k p (with_room 0 0 plain_rules f (omega arith) ∙ e)
