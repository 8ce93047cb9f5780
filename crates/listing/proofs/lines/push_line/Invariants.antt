-- The loop of `listing::lines::push_line`: what follows the numbers so far, behind the text, gives the text with the whole line. Assumes
-- nothing.
use Rattle.std.proofs.Common.{◌++◌, ◌≡◌, drop}
use Rattle.listing.specs.Printed.{line}
use Rattle.listing.proofs.Laws.Lines.{after}
use Rattle.listing.proofs.lines.push_line.Given as goal

abbrev pub invariant-loop-n : goal.invariant-loop-n
invariant-loop-n l = l.text.bytes ++ after (drop l.n-index l.n-items) ≡ l.fn.text.bytes ++ line l.numbers
