-- Document 01, "Positions, memory and claims": the spans and load ranges that are stated of an image's partitions, by its headers'
-- words or by the rows that an acceptance writes. "All this comes from the headers' words; an acceptance writes the same
-- numbers in the rows." What is said of loading and of the bill is said of either. Assumes nothing.
use Rattle.std.specs.Prelude.{ℕ, zero, suc, ◌+◌, ◌*◌, Bool, List, get_or}
use Rattle.pdi_spec.specs.Limits.{head_width, row_width}
use Rattle.pdi_spec.specs.Lists.{numbers, any_of, count_of, those}
use Rattle.pdi_spec.specs.File.{File, partitions}
use Rattle.pdi_spec.specs.Attributes.{has_load_address}
use Rattle.pdi_spec.specs.Ranges.{Range, within, LoadRange}
use Rattle.pdi_spec.specs.Ranges

-- of the partitions 1 to `count`: each one's span, whether it has a load address, and its load range
pub record Stated : Type 0 where
  pub count : ℕ
  pub span : ℕ → Range
  pub loads : ℕ → Bool
  pub load_range : ℕ → LoadRange

unfoldable pub by_headers : File → Stated
by_headers f = record { count = partitions f; span = Ranges.span f; loads = Ranges.loads f; load_range = Ranges.load_range f }

-- number k, counted from 0, of row p, counted from 1; there is no row 0
unfoldable pub row_number : List ℕ → ℕ → ℕ → ℕ
row_number rows zero k = 0
row_number rows (suc p) k = get_or rows (head_width + row_width * p + k) 0

-- the head's third number is N; a row's numbers 0 and 1 are its span, 3 and 2 its load address and loaded bytes, 7 its attributes
unfoldable pub by_rows : List ℕ → Stated
by_rows rows =
    record {
      count = get_or rows 2 0;
      span = λ p. record { start = row_number rows p 0; size = row_number rows p 1 };
      loads = λ p. has_load_address (row_number rows p 7);
      load_range = λ p. record { addresses = record { start = row_number rows p 3; size = row_number rows p 2 } };
    }

-- the partitions, in chain order, and those with a load address
unfoldable pub partitions_of : Stated → List ℕ
partitions_of s = numbers 1 s.count

unfoldable pub loadable : Stated → List ℕ
loadable s = those s.loads (partitions_of s)

-- how many positions, of an image of that length, lie in at least one span
unfoldable pub in_spans : Stated → ℕ → ℕ
in_spans s positions = count_of (λ (x : ℕ). any_of (λ (p : ℕ). within (s.span p) x) (partitions_of s)) (numbers 0 positions)
