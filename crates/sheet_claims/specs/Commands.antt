-- Where the fields of a command stand. Definitions only.
use Rattle.std.specs.Prelude.{ℕ, ◌+◌, ◌-◌}

abbrev pub command_size : ℕ
command_size = 32

-- ---- the head

abbrev pub kind_offset : ℕ
kind_offset = 0

-- the number of a refusal
abbrev pub number_offset : ℕ
number_offset = kind_offset + 1

abbrev pub expression_offset : ℕ
expression_offset = number_offset + 1

-- how many bytes of the sheets' buffer are the sheet
abbrev pub length_offset : ℕ
length_offset = expression_offset + 2

abbrev pub head_size : ℕ
head_size = length_offset + 4

-- ---- behind it, what is to come out: where it stands in the answers' buffer, and how many bytes it has

abbrev pub place_offset : ℕ
place_offset = head_size

abbrev pub size_offset : ℕ
size_offset = place_offset + 4

-- ---- a store: how many bytes, where they go, and the bytes

abbrev pub store_count_offset : ℕ
store_count_offset = expression_offset

abbrev pub store_place_offset : ℕ
store_place_offset = length_offset

abbrev pub store_bytes_offset : ℕ
store_bytes_offset = head_size

abbrev pub store_limit : ℕ
store_limit = command_size - head_size
