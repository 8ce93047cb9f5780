-- The rows of a file's first partitions, and the row buffer of an accepted file. Assumes nothing.
use Rattle.std.specs.Prelude.{ℕ, ◌+◌, ◌*◌, drop}
use mathlib.Core.List.{List, ◌++◌, flat_map}
use Rattle.pdi_spec.specs.Answers.{row_numbers, row_of, head_and_rows}
use Rattle.pdi_spec.specs.File.{File, partitions}
use Rattle.pdi_spec.specs.Limits.{head_width, row_width}
use Rattle.pdi_spec.specs.Lists.{numbers}

unfoldable pub first_rows : File → ℕ → List ℕ
first_rows f n = flat_map (λ (p : ℕ). row_numbers (row_of f p)) (numbers 1 n)

-- the head and the rows, and then what was there
unfoldable pub overwritten : File → List ℕ → List ℕ
overwritten f rows = head_and_rows f ++ drop (head_width + row_width * partitions f) rows
