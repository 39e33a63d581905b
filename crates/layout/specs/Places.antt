-- Sizes, offsets and limits of what a sheet and an answer hold (document 01, "The join sheet" and "Three answers"). An offset counts from the first byte of the record. Definitions only.
use Rattle.std.specs.Prelude.{ℕ, ◌+◌, ◌*◌, ◌/◌}

-- ---- limits

-- bytes of a sheet
abbrev pub sheet_limit : ℕ
sheet_limit = 65535

-- columns are below it
abbrev pub column_limit : ℕ
column_limit = 128

-- populations, lower frequencies, errors and known row counts are not above it: 2 ^ 53
abbrev pub count_limit : ℕ
count_limit = 0x20_0000_0000_0000

-- a join's conjuncts, and with them its equalities and coverages
abbrev pub conjunct_limit : ℕ
conjunct_limit = 64

-- items of one sketch, and of all
abbrev pub item_limit : ℕ
item_limit = 64

abbrev pub items_limit : ℕ
items_limit = 512

-- operands of all expressions
abbrev pub operand_limit : ℕ
operand_limit = 512

-- columns of one class: so many at least, and so many at most
abbrev pub class_least : ℕ
class_least = 2

abbrev pub class_most : ℕ
class_most = 128

-- ---- fields that are alike everywhere

-- in front of a section, and of each part of a join's answer
abbrev pub count_size : ℕ
count_size = 2

-- a column, a table, an expression
abbrev pub number_size : ℕ
number_size = 2

abbrev pub float_size : ℕ
float_size = 8

-- a column, a table or a sketch that is not there
abbrev pub no_number : ℕ
no_number = 0xffff

-- a count of rows or values
abbrev pub wide_size : ℕ
wide_size = 8

-- so many rows as nobody knows
abbrev pub unknown_count : ℕ
unknown_count = 0xffff_ffff_ffff_ffff

-- ---- an estimate

abbrev pub estimate_flags_offset : ℕ
estimate_flags_offset = 1

abbrev pub estimate_value_offset : ℕ
estimate_value_offset = estimate_flags_offset + 1

abbrev pub estimate_lower_offset : ℕ
estimate_lower_offset = estimate_value_offset + float_size

abbrev pub estimate_upper_offset : ℕ
estimate_upper_offset = estimate_lower_offset + float_size

abbrev pub estimate_size : ℕ
estimate_size = estimate_upper_offset + float_size

-- ---- the settings, from the first of them on

abbrev pub like_selectivity_offset : ℕ
like_selectivity_offset = 0

abbrev pub default_predicate_selectivity_offset : ℕ
default_predicate_selectivity_offset = like_selectivity_offset + float_size

abbrev pub range_fallback_selectivity_offset : ℕ
range_fallback_selectivity_offset = default_predicate_selectivity_offset + float_size

abbrev pub unknown_scan_rows_offset : ℕ
unknown_scan_rows_offset = range_fallback_selectivity_offset + float_size

abbrev pub unknown_column_ndv_cap_offset : ℕ
unknown_column_ndv_cap_offset = unknown_scan_rows_offset + float_size

-- ---- a scalar: its tag, then its value and zeros

abbrev pub scalar_value_offset : ℕ
scalar_value_offset = 1

abbrev pub scalar_value_size : ℕ
scalar_value_size = 18

abbrev pub scalar_size : ℕ
scalar_size = scalar_value_offset + scalar_value_size

-- ---- a scalar's value by its type; an offset counts from the value's first byte

abbrev pub boolean_size : ℕ
boolean_size = 1

-- also a date, and an interval's months, days and milliseconds
abbrev pub int32_size : ℕ
int32_size = 4

-- also an interval's nanoseconds
abbrev pub int64_size : ℕ
int64_size = 8

-- behind the precision
abbrev pub decimal_scale_offset : ℕ
decimal_scale_offset = 1

abbrev pub decimal_digits_offset : ℕ
decimal_digits_offset = decimal_scale_offset + 1

abbrev pub decimal_digits_size : ℕ
decimal_digits_size = 16

abbrev pub decimal_size : ℕ
decimal_size = decimal_digits_offset + decimal_digits_size

-- behind the months
abbrev pub month_day_nano_days_offset : ℕ
month_day_nano_days_offset = int32_size

abbrev pub month_day_nano_nanoseconds_offset : ℕ
month_day_nano_nanoseconds_offset = month_day_nano_days_offset + int32_size

abbrev pub month_day_nano_size : ℕ
month_day_nano_size = month_day_nano_nanoseconds_offset + int64_size

-- behind the days
abbrev pub day_time_milliseconds_offset : ℕ
day_time_milliseconds_offset = int32_size

abbrev pub day_time_size : ℕ
day_time_size = day_time_milliseconds_offset + int32_size

-- ---- a sketch: its head, and an item

abbrev pub sketch_count_offset : ℕ
sketch_count_offset = wide_size

abbrev pub sketch_head_size : ℕ
sketch_head_size = sketch_count_offset + count_size

abbrev pub item_lower_offset : ℕ
item_lower_offset = scalar_size

abbrev pub item_error_offset : ℕ
item_error_offset = item_lower_offset + wide_size

abbrev pub item_size : ℕ
item_size = item_error_offset + wide_size

-- ---- a table

abbrev pub table_rows_offset : ℕ
table_rows_offset = number_size

abbrev pub table_size : ℕ
table_size = table_rows_offset + wide_size

-- ---- a key

abbrev pub key_table_offset : ℕ
key_table_offset = 1

abbrev pub key_column_offset : ℕ
key_column_offset = key_table_offset + number_size

abbrev pub key_referenced_table_offset : ℕ
key_referenced_table_offset = key_column_offset + number_size

abbrev pub key_referenced_column_offset : ℕ
key_referenced_column_offset = key_referenced_table_offset + number_size

abbrev pub key_size : ℕ
key_size = key_referenced_column_offset + number_size

-- ---- a column; its base is a table and a column

abbrev pub column_base_offset : ℕ
column_base_offset = number_size

abbrev pub base_column_offset : ℕ
base_column_offset = number_size

abbrev pub base_size : ℕ
base_size = base_column_offset + number_size

abbrev pub column_lower_offset : ℕ
column_lower_offset = column_base_offset + base_size

abbrev pub column_upper_offset : ℕ
column_upper_offset = column_lower_offset + scalar_size

abbrev pub column_frequency_offset : ℕ
column_frequency_offset = column_upper_offset + scalar_size

abbrev pub column_distinct_offset : ℕ
column_distinct_offset = column_frequency_offset + estimate_size

abbrev pub column_sketch_offset : ℕ
column_sketch_offset = column_distinct_offset + estimate_size

abbrev pub column_size : ℕ
column_size = column_sketch_offset + number_size

-- ---- a class: its head, behind which its columns stand

abbrev pub class_count_offset : ℕ
class_count_offset = 0

abbrev pub class_distinct_offset : ℕ
class_distinct_offset = class_count_offset + count_size

abbrev pub class_head_size : ℕ
class_head_size = class_distinct_offset + estimate_size

-- ---- an expression

abbrev pub expression_op_offset : ℕ
expression_op_offset = 1

abbrev pub expression_first_offset : ℕ
expression_first_offset = expression_op_offset + 1

abbrev pub expression_second_offset : ℕ
expression_second_offset = expression_first_offset + number_size

abbrev pub expression_scalar_offset : ℕ
expression_scalar_offset = expression_second_offset + number_size

abbrev pub expression_size : ℕ
expression_size = expression_scalar_offset + scalar_size

-- ---- a coverage in a join's answer

abbrev pub coverage_figures_offset : ℕ
coverage_figures_offset = number_size

-- the figures' places, from the first of them on
abbrev pub coverage_non_null_offset : ℕ
coverage_non_null_offset = float_size

abbrev pub coverage_intersection_offset : ℕ
coverage_intersection_offset = coverage_non_null_offset + float_size

abbrev pub coverage_non_null_match_offset : ℕ
coverage_non_null_match_offset = coverage_intersection_offset + float_size

abbrev pub coverage_null_match_offset : ℕ
coverage_null_match_offset = coverage_non_null_match_offset + float_size

abbrev pub coverage_figures_size : ℕ
coverage_figures_size = coverage_null_match_offset + float_size

abbrev pub coverage_ordinary_offset : ℕ
coverage_ordinary_offset = coverage_figures_offset + coverage_figures_size

abbrev pub coverage_size : ℕ
coverage_size = coverage_ordinary_offset + 1

-- ---- the figures in a join's answer

abbrev pub figures_match_offset : ℕ
figures_match_offset = estimate_size

abbrev pub figures_residual_offset : ℕ
figures_residual_offset = figures_match_offset + estimate_size

abbrev pub figures_size : ℕ
figures_size = figures_residual_offset + float_size

-- ---- a join's answer: figures, classes, coverages and non-null columns, each part behind its count

abbrev pub join_classes_offset : ℕ
join_classes_offset = count_size + figures_size

abbrev pub first_class_offset : ℕ
first_class_offset = join_classes_offset + count_size

-- the figures and the four counts
abbrev pub join_fixed_size : ℕ
join_fixed_size = first_class_offset + count_size + count_size

-- room for the coverages of a join
abbrev pub coverages_size : ℕ
coverages_size = coverage_size * conjunct_limit

-- classes of an answer share no column and have two or more
abbrev pub classes_limit : ℕ
classes_limit = column_limit / class_least

-- the longest answers
abbrev pub longest_join : ℕ
longest_join = join_fixed_size + (class_head_size + number_size * class_least) * classes_limit + coverages_size + number_size * column_limit

abbrev pub longest_split : ℕ
longest_split = count_size + number_size * operand_limit

abbrev pub longest_predicate : ℕ
longest_predicate = estimate_size
