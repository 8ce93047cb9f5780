-- The loop of `listing::lines::push_buffer`: the lines of the rows that are left, behind the text so far, give the text with all lines.
-- Assumes nothing.
use Rattle.std.proofs.Common.{◌++◌, ◌≡◌, ◌*◌, ◌≤◌, length}
use Rattle.std.specs.Iterator.Adapters.{take_source, take_count}
use Rattle.std.specs.Slice.Iter.{chunks_exact_rest, chunks_exact_size}
use Rattle.pdi_spec.specs.Limits.{row_width}
use Rattle.listing.specs.Printed.{row_lines, buffer_lines}
use Rattle.listing.proofs.lines.push_buffer.Given as goal

abbrev pub invariant-loop-row : goal.invariant-loop-row
invariant-loop-row l = record {
  size : chunks_exact_size (take_source l.row-iterator) ≡ row_width;
  enough : row_width * take_count l.row-iterator ≤ length (chunks_exact_rest (take_source l.row-iterator));
  same : l.text.bytes ++ row_lines (take_count l.row-iterator) (chunks_exact_rest (take_source l.row-iterator))
      ≡ l.fn.text.bytes ++ buffer_lines l.rows;
}
