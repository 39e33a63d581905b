-- Worked records, their bytes written by hand: for each kind records that keep every rule, and one for each rule broken. Assumes nothing.
use Rattle.std.specs.Prelude.{ℕ, ◌≡◌, refl, List, [], ◌∷◌, ◌++◌, replicate}
use Rattle.std.specs.Float.Ieee.{of_bits, le}
use Rattle.le.specs.Fields.{field_at}
use Rattle.record_rules.specs.Rows.{rows_refusal, setting_refusal}
use Rattle.record_rules.specs.Catalog.{table_refusal, key_refusal}
use Rattle.record_rules.specs.Columns.{column_refusal}
use Rattle.record_rules.specs.Classes.{class_refusal}

abbrev zeros : ℕ → List ℕ
zeros n = replicate n 0

-- source 1, no bounds, and 100
abbrev hundred : List ℕ
hundred = (1 ∷ 0 ∷ 0 ∷ 0 ∷ 0 ∷ 0 ∷ 0 ∷ 0 ∷ 0x59 ∷ 0x40 ∷ []) ++ zeros 16

-- the same with source 5, and with -0
abbrev sourceless : List ℕ
sourceless = (5 ∷ 0 ∷ 0 ∷ 0 ∷ 0 ∷ 0 ∷ 0 ∷ 0 ∷ 0x59 ∷ 0x40 ∷ []) ++ zeros 16

abbrev minus_zero : List ℕ
minus_zero = (1 ∷ 0 ∷ 0 ∷ 0 ∷ 0 ∷ 0 ∷ 0 ∷ 0 ∷ 0 ∷ 0x80 ∷ []) ++ zeros 16

-- ---- rows

rows_kept : rows_refusal hundred 0 ≡ 0
unfolding rows_refusal field_at of_bits le
rows_kept = refl

second_rows_kept : rows_refusal (hundred ++ hundred) 26 ≡ 0
unfolding rows_refusal field_at of_bits le
second_rows_kept = refl

-- 25 bytes
rows_cut : rows_refusal ((1 ∷ 0 ∷ 0 ∷ 0 ∷ 0 ∷ 0 ∷ 0 ∷ 0 ∷ 0x59 ∷ 0x40 ∷ []) ++ zeros 15) 0 ≡ 2
unfolding rows_refusal field_at of_bits le
rows_cut = refl

rows_source : rows_refusal sourceless 0 ≡ 6
unfolding rows_refusal field_at of_bits le
rows_source = refl

rows_value : rows_refusal minus_zero 0 ≡ 4
unfolding rows_refusal field_at of_bits le
rows_value = refl

-- ---- settings: 1 and 2, 2 ^ -64 and the number next below it, 2 ^ 64 and the number next above it

abbrev one : List ℕ
one = zeros 6 ++ (0xf0 ∷ 0x3f ∷ [])

abbrev two : List ℕ
two = zeros 7 ++ (0x40 ∷ [])

selectivity_one : setting_refusal one 0 0 ≡ 0
unfolding setting_refusal field_at of_bits le
selectivity_one = refl

selectivity_zero : setting_refusal (zeros 8) 1 0 ≡ 0
unfolding setting_refusal field_at of_bits le
selectivity_zero = refl

selectivity_two : setting_refusal two 2 0 ≡ 4
unfolding setting_refusal field_at of_bits le
selectivity_two = refl

figure_two : setting_refusal two 3 0 ≡ 0
unfolding setting_refusal field_at of_bits le
figure_two = refl

selectivity_least : setting_refusal (zeros 6 ++ (0xf0 ∷ 0x3b ∷ [])) 2 0 ≡ 0
unfolding setting_refusal field_at of_bits le
selectivity_least = refl

selectivity_less : setting_refusal (replicate 6 0xff ++ (0xef ∷ 0x3b ∷ [])) 2 0 ≡ 4
unfolding setting_refusal field_at of_bits le
selectivity_less = refl

figure_most : setting_refusal (zeros 6 ++ (0xf0 ∷ 0x43 ∷ [])) 4 0 ≡ 0
unfolding setting_refusal field_at of_bits le
figure_most = refl

figure_more : setting_refusal (1 ∷ zeros 5 ++ (0xf0 ∷ 0x43 ∷ [])) 4 0 ≡ 4
unfolding setting_refusal field_at of_bits le
figure_more = refl

setting_minus_zero : setting_refusal (zeros 7 ++ (0x80 ∷ [])) 0 0 ≡ 4
unfolding setting_refusal field_at of_bits le
setting_minus_zero = refl

setting_nan : setting_refusal (zeros 6 ++ (0xf8 ∷ 0x7f ∷ [])) 4 0 ≡ 4
unfolding setting_refusal field_at of_bits le
setting_nan = refl

setting_cut : setting_refusal (zeros 7) 4 0 ≡ 2
unfolding setting_refusal field_at of_bits le
setting_cut = refl

-- ---- tables 7 and 8, of 100 rows

abbrev seven : List ℕ
seven = (7 ∷ 0 ∷ 100 ∷ []) ++ zeros 7

abbrev eight : List ℕ
eight = (8 ∷ 0 ∷ 100 ∷ []) ++ zeros 7

first_table : table_refusal seven 0 0 ≡ 0
unfolding table_refusal field_at
first_table = refl

second_table : table_refusal (seven ++ eight) 1 10 ≡ 0
unfolding table_refusal field_at
second_table = refl

table_again : table_refusal (seven ++ seven) 1 10 ≡ 7
unfolding table_refusal field_at
table_again = refl

table_descends : table_refusal (eight ++ seven) 1 10 ≡ 7
unfolding table_refusal field_at
table_descends = refl

table_free_number : table_refusal (seven ++ (0xff ∷ 0xff ∷ zeros 8)) 1 10 ≡ 0
unfolding table_refusal field_at
table_free_number = refl

-- 2 ^ 53 rows, and one more
rows_most : table_refusal (7 ∷ 0 ∷ zeros 6 ++ (0x20 ∷ 0 ∷ [])) 0 0 ≡ 0
unfolding table_refusal field_at
rows_most = refl

rows_more : table_refusal (7 ∷ 0 ∷ 1 ∷ zeros 5 ++ (0x20 ∷ 0 ∷ [])) 0 0 ≡ 4
unfolding table_refusal field_at
rows_more = refl

rows_unknown : table_refusal (7 ∷ 0 ∷ replicate 8 0xff) 0 0 ≡ 0
unfolding table_refusal field_at
rows_unknown = refl

rows_not_unknown : table_refusal (7 ∷ 0 ∷ 0xfe ∷ replicate 7 0xff) 0 0 ≡ 4
unfolding table_refusal field_at
rows_not_unknown = refl

table_cut : table_refusal (7 ∷ 0 ∷ zeros 7) 0 0 ≡ 2
unfolding table_refusal field_at
table_cut = refl

-- number and rows broken: the number stands first
table_before_rows : table_refusal (seven ++ (7 ∷ 0 ∷ 0xfe ∷ replicate 7 0xff)) 1 10 ≡ 7
unfolding table_refusal field_at
table_before_rows = refl

-- ---- keys of column 4 of table 3

abbrev own : List ℕ
own = 3 ∷ 0 ∷ 4 ∷ 0 ∷ []

unique : key_refusal (1 ∷ own ++ replicate 4 0xff) 0 ≡ 0
unfolding key_refusal field_at
unique = refl

foreign : key_refusal (2 ∷ own ++ (5 ∷ 0 ∷ 6 ∷ 0 ∷ [])) 0 ≡ 0
unfolding key_refusal field_at
foreign = refl

unique_free_numbers : key_refusal (1 ∷ replicate 8 0xff) 0 ≡ 0
unfolding key_refusal field_at
unique_free_numbers = refl

foreign_free_numbers : key_refusal (2 ∷ own ++ replicate 4 0xff) 0 ≡ 0
unfolding key_refusal field_at
foreign_free_numbers = refl

kind_zero : key_refusal (0 ∷ own ++ replicate 4 0xff) 0 ≡ 6
unfolding key_refusal field_at
kind_zero = refl

kind_three : key_refusal (3 ∷ own ++ replicate 4 0xff) 0 ≡ 6
unfolding key_refusal field_at
kind_three = refl

unique_with_table : key_refusal (1 ∷ own ++ (5 ∷ 0 ∷ 0xff ∷ 0xff ∷ [])) 0 ≡ 6
unfolding key_refusal field_at
unique_with_table = refl

unique_with_name : key_refusal (1 ∷ own ++ (0xff ∷ 0xff ∷ 6 ∷ 0 ∷ [])) 0 ≡ 6
unfolding key_refusal field_at
unique_with_name = refl

key_cut : key_refusal (2 ∷ own ++ (5 ∷ 0 ∷ 6 ∷ [])) 0 ≡ 2
unfolding key_refusal field_at
key_cut = refl

-- ---- columns

abbrev absent : List ℕ
absent = 255 ∷ zeros 18

-- tag 7, a text
abbrev text : List ℕ
text = 7 ∷ zeros 18

abbrev none : List ℕ
none = 0xff ∷ 0xff ∷ []

abbrev nowhere : List ℕ
nowhere = none ++ none

abbrev column : List ℕ → List ℕ → List ℕ → List ℕ → List ℕ → List ℕ → List ℕ → List ℕ
column number base lower upper frequency distinct sketch = number ++ (base ++ (lower ++ (upper ++ (frequency ++ (distinct ++ sketch)))))

abbrev plain : List ℕ → List ℕ
plain number = column number nowhere absent absent hundred hundred none

first_column : column_refusal (plain (1 ∷ 0 ∷ [])) 0 0 0 ≡ 0
unfolding column_refusal field_at of_bits le
first_column = refl

-- the last column, with a base, the bounds 0 and 9 of Int32, and the second of two sketches
full_column : column_refusal (plain (1 ∷ 0 ∷ []) ++ column (127 ∷ 0 ∷ []) (3 ∷ 0 ∷ 4 ∷ 0 ∷ []) (2 ∷ zeros 18) (2 ∷ 9 ∷ zeros 17) hundred hundred (1 ∷ 0 ∷ [])) 2 1 98 ≡ 0
unfolding column_refusal field_at of_bits le
full_column = refl

column_again : column_refusal (plain (1 ∷ 0 ∷ []) ++ plain (1 ∷ 0 ∷ [])) 0 1 98 ≡ 7
unfolding column_refusal field_at of_bits le
column_again = refl

column_128 : column_refusal (plain (128 ∷ 0 ∷ [])) 0 0 0 ≡ 7
unfolding column_refusal field_at of_bits le
column_128 = refl

base_halved : column_refusal (column (1 ∷ 0 ∷ []) (none ++ (4 ∷ 0 ∷ [])) absent absent hundred hundred none) 0 0 0 ≡ 6
unfolding column_refusal field_at of_bits le
base_halved = refl

lower_text : column_refusal (column (1 ∷ 0 ∷ []) nowhere text absent hundred hundred none) 0 0 0 ≡ 5
unfolding column_refusal field_at of_bits le
lower_text = refl

upper_text : column_refusal (column (1 ∷ 0 ∷ []) nowhere absent text hundred hundred none) 0 0 0 ≡ 5
unfolding column_refusal field_at of_bits le
upper_text = refl

frequency_source : column_refusal (column (1 ∷ 0 ∷ []) nowhere absent absent sourceless hundred none) 0 0 0 ≡ 6
unfolding column_refusal field_at of_bits le
frequency_source = refl

distinct_value : column_refusal (column (1 ∷ 0 ∷ []) nowhere absent absent hundred minus_zero none) 0 0 0 ≡ 4
unfolding column_refusal field_at of_bits le
distinct_value = refl

sketch_not_there : column_refusal (column (1 ∷ 0 ∷ []) nowhere absent absent hundred hundred (2 ∷ 0 ∷ [])) 2 0 0 ≡ 8
unfolding column_refusal field_at of_bits le
sketch_not_there = refl

column_cut : column_refusal (column (1 ∷ 0 ∷ []) nowhere absent absent hundred hundred (0xff ∷ [])) 0 0 0 ≡ 2
unfolding column_refusal field_at of_bits le
column_cut = refl

-- number, base and lower broken: the number stands first
column_before_base : column_refusal (column (128 ∷ 0 ∷ []) (none ++ (4 ∷ 0 ∷ [])) text absent hundred hundred none) 0 0 0 ≡ 7
unfolding column_refusal field_at of_bits le
column_before_base = refl

-- ---- classes

class_kept : class_refusal (2 ∷ 0 ∷ hundred ++ (1 ∷ 0 ∷ 127 ∷ 0 ∷ [])) 0 ≡ 0
unfolding class_refusal field_at of_bits le
class_kept = refl

class_of_none : class_refusal (0 ∷ 0 ∷ hundred) 0 ≡ 3
unfolding class_refusal field_at of_bits le
class_of_none = refl

class_of_one : class_refusal (1 ∷ 0 ∷ hundred ++ (1 ∷ 0 ∷ [])) 0 ≡ 3
unfolding class_refusal field_at of_bits le
class_of_one = refl

class_of_129 : class_refusal (129 ∷ 0 ∷ hundred) 0 ≡ 3
unfolding class_refusal field_at of_bits le
class_of_129 = refl

-- 128 columns that are not there
class_without_columns : class_refusal (128 ∷ 0 ∷ hundred) 0 ≡ 2
unfolding class_refusal field_at of_bits le
class_without_columns = refl

class_distinct_law : class_refusal (2 ∷ 0 ∷ sourceless ++ (1 ∷ 0 ∷ 2 ∷ 0 ∷ [])) 0 ≡ 6
unfolding class_refusal field_at of_bits le
class_distinct_law = refl

class_again : class_refusal (2 ∷ 0 ∷ hundred ++ (1 ∷ 0 ∷ 1 ∷ 0 ∷ [])) 0 ≡ 7
unfolding class_refusal field_at of_bits le
class_again = refl

class_descends : class_refusal (2 ∷ 0 ∷ hundred ++ (2 ∷ 0 ∷ 1 ∷ 0 ∷ [])) 0 ≡ 7
unfolding class_refusal field_at of_bits le
class_descends = refl

class_128 : class_refusal (2 ∷ 0 ∷ hundred ++ (1 ∷ 0 ∷ 128 ∷ 0 ∷ [])) 0 ≡ 7
unfolding class_refusal field_at of_bits le
class_128 = refl

class_column_cut : class_refusal (2 ∷ 0 ∷ hundred ++ (1 ∷ 0 ∷ 2 ∷ [])) 0 ≡ 2
unfolding class_refusal field_at of_bits le
class_column_cut = refl

-- 27 bytes, of a class of one
class_head_cut : class_refusal (1 ∷ 0 ∷ zeros 25) 0 ≡ 2
unfolding class_refusal field_at of_bits le
class_head_cut = refl

-- n and the estimate broken: n stands first
class_n_first : class_refusal (1 ∷ 0 ∷ sourceless) 0 ≡ 3
unfolding class_refusal field_at of_bits le
class_n_first = refl
