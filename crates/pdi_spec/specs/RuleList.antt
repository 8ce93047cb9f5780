-- Document 01's table of rules, and document 02's: each row by its number, with its condition and by its kind the p's that it is tried at;
-- and the lists that questions are given by. Assumes nothing.
use Rattle.std.specs.Prelude.{ℕ, Bool, List, [], ◌∷◌, ◌++◌}
use Rattle.pdi_spec.specs.Limits.{buffer_numbers, buffer_bytes}
use Rattle.pdi_spec.specs.Headers.{Table, Header}
use Rattle.pdi_spec.specs.File.{File, table, header}
use Rattle.pdi_spec.specs.Verdict.{Rule, once, each, each_and_table}
use Rattle.pdi_spec.specs.Rules.{image_too_long, buffer_too_short, table_outside, table_checksum_wrong, kind_unknown, table_fields_bad, table_key_unknown, boot_header_wrong, image_headers_outside, chain_broken, header_checksum_bad, attributes_bad, key_unknown, lengths_bad, span_outside, load_address_bad, hash_block_wrong, stored_ranges_clash, load_ranges_clash}
use Rattle.pdi_spec.specs.ImageRules.{image_headers_bad}

-- a condition on the table, alone or with the image's bytes
abbrev pub of_table : (Table → Bool) → File → Bool
of_table bad f = bad (table f)

abbrev pub with_table : (List ℕ → Table → Bool) → File → Bool
with_table bad f = bad f.bytes (table f)

-- a condition on header p, alone or with the image's bytes
abbrev pub of_header : (Header → Bool) → File → ℕ → Bool
of_header bad f p = bad (header f p)

abbrev pub with_header : (List ℕ → Header → Bool) → File → ℕ → Bool
with_header bad f p = bad f.bytes (header f p)

-- ---- the table's rows

abbrev pub rule1 : Rule
rule1 = once 1 image_too_long

-- of a buffer that has `have`, where `least` serves
abbrev pub rule2 : ℕ → ℕ → Rule
rule2 least have = once 2 (buffer_too_short least have)

abbrev pub rule3 : Rule
rule3 = once 3 table_outside

abbrev pub rule4 : Rule
rule4 = once 4 table_checksum_wrong

abbrev pub rule5 : Rule
rule5 = once 5 (of_table kind_unknown)

abbrev pub rule6 : Rule
rule6 = once 6 (of_table table_fields_bad)

abbrev pub rule7 : Rule
rule7 = once 7 (of_table table_key_unknown)

abbrev pub rule8 : Rule
rule8 = once 8 boot_header_wrong

abbrev pub rule9 : Rule
rule9 = once 9 (with_table image_headers_outside)

abbrev pub rule10 : Rule
rule10 = each 10 chain_broken

abbrev pub rule11 : Rule
rule11 = each 11 (with_header header_checksum_bad)

abbrev pub rule12 : Rule
rule12 = each 12 (of_header attributes_bad)

abbrev pub rule13 : Rule
rule13 = each 13 (of_header key_unknown)

abbrev pub rule14 : Rule
rule14 = each 14 (of_header lengths_bad)

abbrev pub rule15 : Rule
rule15 = each 15 (with_header span_outside)

abbrev pub rule16 : Rule
rule16 = each 16 (of_header load_address_bad)

abbrev pub rule17 : Rule
rule17 = each_and_table 17 hash_block_wrong

abbrev pub rule18 : Rule
rule18 = once 18 stored_ranges_clash

abbrev pub rule19 : Rule
rule19 = each 19 load_ranges_clash

-- document 02, CR 1
abbrev pub rule20 : Rule
rule20 = once 20 image_headers_bad

-- ---- lists of them

-- of the table, the boot header and the image headers
unfoldable pub table_rules : List Rule
table_rules = rule3 ∷ rule4 ∷ rule5 ∷ rule6 ∷ rule7 ∷ rule8 ∷ rule9 ∷ []

-- of one partition header alone
unfoldable pub header_rules : List Rule
header_rules = rule11 ∷ rule12 ∷ rule13 ∷ rule14 ∷ rule15 ∷ rule16 ∷ []

-- of the partition headers and the hash blocks
unfoldable pub partition_rules : List Rule
partition_rules = rule10 ∷ header_rules ++ (rule17 ∷ [])

-- rules 3 to 17, after which every range lies inside the image
unfoldable pub reading_rules : List Rule
reading_rules = table_rules ++ partition_rules

-- of the ranges that clash
unfoldable pub clash_rules : List Rule
clash_rules = rule18 ∷ rule19 ∷ []

-- of the image headers
unfoldable pub image_rules : List Rule
image_rules = rule20 ∷ []

-- all that come after the table's: 10 to 20
unfoldable pub later_rules : List Rule
later_rules = partition_rules ++ (clash_rules ++ image_rules)

-- plain reading's rules of the image itself: 3 to 20
unfoldable pub plain_rules : List Rule
plain_rules = table_rules ++ later_rules

-- ---- A question is given by the rules of the image itself that it tries, `own`. Before them comes rule 1, and rule 2 where it has a
-- row buffer.

-- "Bill and body have no row buffer, so number 2 doesn't arise there."
unfoldable pub without_buffer : List Rule → List Rule
without_buffer own = rule1 ∷ own

-- a row buffer that has `have`, where `least` serves
unfoldable pub with_buffer : ℕ → ℕ → List Rule → List Rule
with_buffer least have own = rule1 ∷ rule2 least have ∷ own

-- with a row buffer of that many numbers
unfoldable pub with_rows : ℕ → List Rule → List Rule
with_rows rows own = with_buffer buffer_numbers rows own

-- with the host's row buffer of that many bytes: "number 2 there means under 2,080 bytes"
unfoldable pub with_host_rows : ℕ → List Rule → List Rule
with_host_rows rows own = with_buffer buffer_bytes rows own
