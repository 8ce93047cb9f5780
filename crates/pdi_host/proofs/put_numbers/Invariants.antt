-- `pdi_host::put_numbers`: the first i numbers are stored, and nothing else is changed. Assumes nothing.
use Rattle.std.specs.Prelude.{◌≡◌, take}
use Rattle.std.proofs.lemmas.List.Edits.{sets}
use Rattle.pdi_host.proofs.Buffers.{bytes_of}
use Rattle.pdi_host.proofs.put_numbers.Given as goal

abbrev pub invariant-loop-i : goal.invariant-loop-i
invariant-loop-i l = l.rows ≡ sets l.initial.rows 0 (bytes_of (take l.i l.numbers))
