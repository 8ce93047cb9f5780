-- Document 01's widths and limits, each named once; the buffer's are derived from the others. Assumes nothing.
use Rattle.std.specs.Prelude.{ℕ, ◌+◌, ◌*◌}

-- Rule 1: the longest image, in bytes.
abbrev pub longest_image : ℕ
longest_image = 1073741824

-- The program: "The image is at most 65,527 bytes."
abbrev pub longest_program_image : ℕ
longest_program_image = 65527

-- Rule 6: "images or partitions not 1 to 32".
abbrev pub most_images : ℕ
most_images = 32

abbrev pub most_partitions : ℕ
most_partitions = 32

-- Rule 17: "n from 1 to 33": an entry for the meta header, and one for each of the most partitions.
abbrev pub most_entries : ℕ
most_entries = most_partitions + 1

-- "Head, four numbers"
abbrev pub head_width : ℕ
head_width = 4

-- "for each partition, in chain order, eight"
abbrev pub row_width : ℕ
row_width = 8

-- Rule 2: the numbers of a row buffer that serves, 260: the head, and a row for each of the most partitions.
abbrev pub buffer_numbers : ℕ
buffer_numbers = head_width + row_width * most_partitions

-- "Its rows lie in bytes, 8 to a number"
abbrev pub number_bytes : ℕ
number_bytes = 8

-- The host's row buffer, in bytes: 2,080.
abbrev pub buffer_bytes : ℕ
buffer_bytes = number_bytes * buffer_numbers

-- "answers 64 × number + p"
abbrev pub answer_unit : ℕ
answer_unit = 64

-- "Rules by number", and document 02, CR 1: plain reading's last number
abbrev pub last_rule : ℕ
last_rule = 20
