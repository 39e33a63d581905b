-- Worked sheets: the empty case of document 01, a small one with a record in every section, and the sheet that one byte makes of it. Assumes nothing.
use Rattle.std.specs.Prelude.{◌≡◌, refl, ℕ, false, List, [], ◌∷◌, ◌++◌, pos, replicate, set, Some, None}
use Rattle.std.specs.Float.{fin}
use Rattle.std.specs.Float.Ieee.{of_bits, le, neg}
use Rattle.signed.specs.Signed.{signed, unsigned}
use Rattle.le.specs.Fields.{field_at}
use Rattle.scalar.specs.declared.Scalar.TheVariants.{Int32}
use Rattle.estimate.specs.Estimates.{estimate_of}
use Rattle.estimate.specs.declared.Estimate.{Estimate}
use Rattle.estimate.specs.declared.EstimateSource.TheVariants.{Catalog}
use Rattle.records.specs.Columns.{column_of}
use Rattle.records.specs.declared.catalog.Key.TheVariants.{Unique}
use Rattle.records.specs.declared.expressions.BinaryOp.TheVariants.{Eq}
use Rattle.records.specs.declared.expressions.NaryOp.TheVariants.{And}
use Rattle.records.specs.declared.expressions.Expression.TheVariants.{ColumnRef, Binary, Nary}
use Rattle.sheet.specs.Check.{Refused, Accepted, check}
use Rattle.sheet.specs.Sheet.{Sheet, sheet_in, conjuncts_in}

abbrev zeros : ℕ → List ℕ
zeros n = replicate n 0

-- source 1, no bounds; 100, 50, 10
abbrev hundred : List ℕ
hundred = 1 ∷ 0 ∷ 0 ∷ 0 ∷ 0 ∷ 0 ∷ 0 ∷ 0 ∷ 0x59 ∷ 0x40 ∷ zeros 16

abbrev fifty : List ℕ
fifty = 1 ∷ 0 ∷ 0 ∷ 0 ∷ 0 ∷ 0 ∷ 0 ∷ 0 ∷ 0x49 ∷ 0x40 ∷ zeros 16

abbrev ten : List ℕ
ten = 1 ∷ 0 ∷ 0 ∷ 0 ∷ 0 ∷ 0 ∷ 0 ∷ 0 ∷ 0x24 ∷ 0x40 ∷ zeros 16

-- rows, and the settings 0.1, 0.25, 0.33, 1000, 100
abbrev front : List ℕ
front =
    2 ∷ 0 ∷ hundred ++ fifty
    ++ 5 ∷ 0 ∷ 0x9a ∷ 0x99 ∷ 0x99 ∷ 0x99 ∷ 0x99 ∷ 0x99 ∷ 0xb9 ∷ 0x3f ∷ []
    ++ 0 ∷ 0 ∷ 0 ∷ 0 ∷ 0 ∷ 0 ∷ 0xd0 ∷ 0x3f ∷ []
    ++ 0x1f ∷ 0x85 ∷ 0xeb ∷ 0x51 ∷ 0xb8 ∷ 0x1e ∷ 0xd5 ∷ 0x3f ∷ []
    ++ 0 ∷ 0 ∷ 0 ∷ 0 ∷ 0 ∷ 0x40 ∷ 0x8f ∷ 0x40 ∷ []
    ++ 0 ∷ 0 ∷ 0 ∷ 0 ∷ 0 ∷ 0 ∷ 0x59 ∷ 0x40 ∷ []

abbrev empty : List ℕ
empty = front ++ zeros 20

empty_accepted : check empty ≡ Accepted record {
  rows = 0;
  settings = 54;
  sketches = 96;
  tables = 98;
  keys = 100;
  left_columns = 102;
  right_columns = 104;
  left_classes = 106;
  right_classes = 108;
  expressions = 110;
  operands = 112;
  conjuncts = 114;
}
unfolding check field_at of_bits le
empty_accepted = refl

-- one byte less, and one more
empty_cut : check (front ++ zeros 19) ≡ Refused 2
unfolding check field_at of_bits le
empty_cut = refl

empty_longer : check (front ++ zeros 21) ≡ Refused 10
unfolding check field_at of_bits le
empty_longer = refl

-- ---- a record in every section but the right classes

abbrev five : List ℕ
five = 2 ∷ 5 ∷ zeros 17

abbrev small : List ℕ
small =
    front
    -- sketches: of 7 values the value 5 is 3 or 4
    ++ 1 ∷ 0 ∷ 7 ∷ 0 ∷ 0 ∷ 0 ∷ 0 ∷ 0 ∷ 0 ∷ 0 ∷ 1 ∷ 0 ∷ five ++ 3 ∷ 0 ∷ 0 ∷ 0 ∷ 0 ∷ 0 ∷ 0 ∷ 0 ∷ 1 ∷ zeros 7
    -- tables: 3, of unknown rows
    ++ 1 ∷ 0 ∷ 3 ∷ 0 ∷ replicate 8 0xff
    -- keys: column 9 of table 3 is unique
    ++ 1 ∷ 0 ∷ 1 ∷ 3 ∷ 0 ∷ 9 ∷ 0 ∷ replicate 4 0xff
    -- left columns: 1, and right ones: 2
    ++ 1 ∷ 0 ∷ 1 ∷ 0 ∷ 3 ∷ 0 ∷ 9 ∷ 0 ∷ (0xff ∷ zeros 18) ++ five ++ hundred ++ ten ++ 0 ∷ 0 ∷ []
    ++ 1 ∷ 0 ∷ 2 ∷ 0 ∷ 0xff ∷ 0xff ∷ 0xff ∷ 0xff ∷ (0xff ∷ zeros 18) ++ (0xff ∷ zeros 18) ++ fifty ++ ten ++ 0xff ∷ 0xff ∷ []
    -- left classes: 1 and 4, and no right one
    ++ 1 ∷ 0 ∷ 2 ∷ 0 ∷ ten ++ 1 ∷ 0 ∷ 4 ∷ 0 ∷ []
    ++ 0 ∷ 0 ∷ []
    -- expressions: the columns 1 and 2, their equality, an And of it alone
    ++ 4 ∷ 0 ∷ 1 ∷ 0 ∷ 1 ∷ 0 ∷ zeros 21 ++ 1 ∷ 0 ∷ 2 ∷ 0 ∷ zeros 21 ++ 3 ∷ 0 ∷ 0 ∷ 0 ∷ 1 ∷ 0 ∷ zeros 19 ++ 4 ∷ 0 ∷ 0 ∷ 0 ∷ 1 ∷ 0 ∷ zeros 19
    -- operands, conjuncts
    ++ 1 ∷ 0 ∷ 2 ∷ 0 ∷ []
    ++ 2 ∷ 0 ∷ 3 ∷ 0 ∷ 2 ∷ 0 ∷ []

small_accepted : check small ≡ Accepted record {
  rows = 0;
  settings = 54;
  sketches = 96;
  tables = 143;
  keys = 155;
  left_columns = 166;
  right_columns = 266;
  left_classes = 366;
  right_classes = 400;
  expressions = 402;
  operands = 504;
  conjuncts = 508;
}
unfolding check field_at unsigned signed of_bits le neg
small_accepted = refl

abbrev plain : ℕ → ℕ → Estimate
plain m e = estimate_of (fin false m (pos e)) None None Catalog

abbrev small_sheet : Sheet
small_sheet = record {
  left_rows = plain 25 2;
  right_rows = plain 25 1;
  settings = (sheet_in empty).settings;
  sketches = record { population = 7; items = record { value = Int32 (pos 5); lower = 3; error = 1 } ∷ [] } ∷ [];
  tables = record { table = 3; rows = None } ∷ [];
  keys = Unique (column_of 3 9) ∷ [];
  left_columns = record {
    column = 1;
    base = Some (column_of 3 9);
    lower = None;
    upper = Some (Int32 (pos 5));
    frequency = plain 25 2;
    distinct = plain 5 1;
    sketch = Some 0;
  } ∷ [];
  right_columns = record {
    column = 2;
    base = None;
    lower = None;
    upper = None;
    frequency = plain 25 1;
    distinct = plain 5 1;
    sketch = None;
  } ∷ [];
  left_classes = record { columns = 1 ∷ 4 ∷ []; distinct = plain 5 1 } ∷ [];
  right_classes = [];
  expressions = ColumnRef 1 ∷ ColumnRef 2 ∷ Binary Eq 0 1 ∷ Nary And 0 1 ∷ [];
  operands = 2 ∷ [];
}

small_read : sheet_in small ≡ small_sheet
unfolding sheet_in field_at signed of_bits
small_read = refl

small_conjuncts : conjuncts_in small ≡ 3 ∷ 2 ∷ []
unfolding conjuncts_in field_at
small_conjuncts = refl

-- ---- one byte of it changed

-- a population of 2 ^ 53 + 7
large_population : check (set small 104 0x20) ≡ Refused 4
unfolding check field_at unsigned signed of_bits le neg
large_population = refl

-- a column whose sketch is not there
no_such_sketch : check (set small 264 1) ≡ Refused 8
unfolding check field_at unsigned signed of_bits le neg
no_such_sketch = refl

-- a class of 1
class_of_one : check (set small 368 1) ≡ Refused 3
unfolding check field_at unsigned signed of_bits le neg
class_of_one = refl

-- class columns 1 and 1
class_repeats : check (set small 398 1) ≡ Refused 7
unfolding check field_at unsigned signed of_bits le neg
class_repeats = refl

-- an equality that is its own child
own_child : check (set small 456 2) ≡ Refused 8
unfolding check field_at unsigned signed of_bits le neg
own_child = refl

-- a run that starts at 1
late_run : check (set small 481 1) ≡ Refused 9
unfolding check field_at unsigned signed of_bits le neg
late_run = refl

-- a run of 2, where there is one operand
unfilled_run : check (set small 483 2) ≡ Refused 9
unfolding check field_at unsigned signed of_bits le neg
unfilled_run = refl

-- an And that is its own operand
own_operand : check (set small 506 3) ≡ Refused 8
unfolding check field_at unsigned signed of_bits le neg
own_operand = refl

-- a conjunct past the last expression
no_such_conjunct : check (set small 512 4) ≡ Refused 8
unfolding check field_at unsigned signed of_bits le neg
no_such_conjunct = refl
