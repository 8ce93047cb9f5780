-- `program::answer`: what is printed has room in its buffer. Assumes nothing.
use Rattle.std.proofs.Common.{arith, length-take-le, sym}
use Rattle.listing.proofs.Laws.Printed.{answer_within}
use Rattle.program.proofs.answer.Goals as goal

pub slice_bounds-write_all-end : goal.slice_bounds-write_all-end
slice_bounds-write_all-end g c = sym (length-take-le c.print-n.result c.print-n.new.out (grind (arith, answer_within)))
