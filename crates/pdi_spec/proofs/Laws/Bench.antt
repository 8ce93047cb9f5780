-- The starred cases, closed by computation. Assumes nothing.
use mathlib.Core.List.{map, flat_map}
use Rattle.std.proofs.Math.Option.{Option-elim}
use Rattle.std.specs.Prelude.{◌≡◌, refl}
use Rattle.pdi_spec.specs.{Lists.numbers, Lists.sum_of, Lists.any_true, Lists.any_of, Lists.any_pair, Lists.first_of, Lists.is_in, Lists.count_of, Words.byte_at, Words.word_at, Words.run, Words.checksum, Words.spells, Keys.common_keys, Keys.zero_or_common, Keys.zero_common_or_user, Keys.user_keys, Headers.block_from, Headers.FPDI, Headers.PPDI, Headers.kind_from, Headers.table_from, Headers.header_from, Headers.image_header_from, Headers.XNLX, Headers.boot_from, Attributes.has_load_address, File.table, File.is_full, File.partitions, File.partition_numbers, File.header_at, File.header, File.hash_block, Images.images, Images.image_numbers, Images.image_header_at, Images.image_header, Images.owned_up_to, Images.run_start, ImageRules.image_checksum_bad, ImageRules.run_misplaced, ImageRules.image_headers_bad, HashBlock.entries_in, HashBlock.entry_numbers, HashBlock.hash_entry_in, HashBlock.size_of_entries, HashBlock.entry_at, HashBlock.has_index, HashBlock.own_entries, Ranges.end_of, Ranges.overlap, Ranges.past, Ranges.span, Ranges.spans, Ranges.header_ranges, Ranges.block_ranges, Ranges.hash_blocks, Ranges.loads, Ranges.load_range, Ranges.address_space, Ranges.body, Ranges.bodies, Ranges.same_range, Ranges.meet, Verdict.once, Verdict.each, Verdict.each_and_table, Verdict.verdict, Rules.not_from, Rules.image_too_long, Rules.buffer_too_short, Rules.table_outside, Rules.table_checksum_wrong, Rules.kind_unknown, Rules.table_fields_bad, Rules.table_key_unknown, Rules.boot_header_wrong, Rules.image_headers_outside, Rules.chain_broken, Rules.header_checksum_bad, Rules.attribute_word_bad, Rules.attributes_bad, Rules.key_unknown, Rules.lengths_bad, Rules.span_outside, Rules.load_address_bad, Rules.hash_block_wrong, Rules.stored_ranges_clash, Rules.load_ranges_clash, Rules.boot_header_bad, Rules.hash_block_bad, RuleList.table_rules, RuleList.header_rules, RuleList.partition_rules, RuleList.reading_rules, RuleList.clash_rules, RuleList.image_rules, RuleList.later_rules, RuleList.plain_rules, RuleList.without_buffer, RuleList.with_buffer, RuleList.with_rows, RuleList.with_host_rows, Answers.answer, Answers.if_accepted, Answers.row_numbers, Answers.hash_entry, Answers.row_of, Answers.billed, Answers.head, Answers.head_and_rows, Answers.written, Answers.bill_under, Host.le_bytes, Bench.Seen, Bench.Case, Bench.put, Bench.in_image_header, Bench.in_header, Bench.bench_image, Bench.righted, Bench.edited, Bench.seen, Bench.starred}

-- `seen`, with every definition of the reading opened but `boot_checksum`: who opens this one opens them all. The sum of a boot header's
-- 1,099 words is too long a computation.
unfoldable pub opened : Case → Seen
unfolding numbers sum_of any_true any_of any_pair first_of is_in count_of byte_at word_at run checksum spells common_keys zero_or_common
    zero_common_or_user user_keys block_from FPDI PPDI kind_from table_from header_from image_header_from XNLX boot_from has_load_address
    table
    is_full partitions partition_numbers header_at header hash_block images image_numbers image_header_at image_header owned_up_to run_start
    image_checksum_bad run_misplaced image_headers_bad entries_in entry_numbers hash_entry_in size_of_entries entry_at has_index
    own_entries end_of
    overlap past span spans header_ranges block_ranges hash_blocks loads load_range address_space body bodies same_range meet once each
    each_and_table verdict not_from image_too_long buffer_too_short table_outside table_checksum_wrong kind_unknown table_fields_bad
    table_key_unknown boot_header_wrong image_headers_outside chain_broken header_checksum_bad attribute_word_bad attributes_bad key_unknown
    lengths_bad span_outside load_address_bad hash_block_wrong stored_ranges_clash load_ranges_clash boot_header_bad hash_block_bad
    table_rules
    header_rules partition_rules reading_rules clash_rules image_rules later_rules plain_rules without_buffer with_buffer with_rows
    with_host_rows answer if_accepted row_numbers hash_entry row_of billed head head_and_rows written bill_under le_bytes put
    in_image_header
    in_header bench_image righted edited seen flat_map Option-elim
opened c = seen c

pub starred_cases : map seen starred ≡ map (λ (c : Case). c.says) starred
unfolding opened starred
starred_cases = refl
