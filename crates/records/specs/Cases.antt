-- Worked records, their bytes laid out by document 01 ("The join sheet"). Assumes nothing.
use Rattle.std.specs.Prelude.{◌≡◌, refl, ℕ, true, false, List, [], ◌∷◌, ◌++◌, pos, negsuc, replicate, Some, None}
use Rattle.std.specs.Float.{binary64, fin}
use Rattle.std.specs.Float.Ieee.{of_bits, round}
use Rattle.float.specs.Order.{f64_zero, f64_one}
use Rattle.signed.specs.Signed.{signed}
use Rattle.le.specs.Fields.{field_at}
use Rattle.scalar.specs.declared.Scalar.TheVariants.{Null, Int32, Int64, Float64, Date32}
use Rattle.scalar_bytes.specs.Reading.{scalar_at}
use Rattle.estimate.specs.Estimates.{estimate_of}
use Rattle.estimate.specs.declared.EstimateSource.TheVariants.{Catalog, Sketch, Derived}
use Rattle.records.specs.Lists.{tabulate_from, tabulate}
use Rattle.records.specs.Settings.{settings_at}
use Rattle.records.specs.Sketches.{sketch_item_at, sketch_at}
use Rattle.records.specs.Catalog.{table_at, key_at}
use Rattle.records.specs.Columns.{column_of, column_profile_at}
use Rattle.records.specs.Classes.{class_at}
use Rattle.records.specs.Expressions.{unary_op, binary_op, nary_op, expression_at}
use Rattle.records.specs.declared.catalog.Key.TheVariants.{Unique, Foreign}
use Rattle.records.specs.declared.expressions.UnaryOp.TheVariants.{Not, IsNull, IsNotNull, Negate}
use Rattle.records.specs.declared.expressions.BinaryOp.TheVariants.{Eq, IsNotDistinctFrom, NotEq, Lt, LtEq, Gt, GtEq, Add, Subtract, Multiply, Divide}
use Rattle.records.specs.declared.expressions.NaryOp.TheVariants.{And, Or}
use Rattle.records.specs.declared.expressions.Expression.TheVariants.{Literal, ColumnRef, Unary, Binary, Nary, Like, Other}

abbrev zeros : ℕ → List ℕ
zeros n = replicate n 0

-- a record at 3, behind other bytes
abbrev behind : List ℕ → List ℕ
behind s = 0xaa ∷ 0xbb ∷ 0xcc ∷ s

-- ---- settings

-- the source's defaults: 0.1, 0.25, 0.33, 1000, 100
abbrev defaults : List ℕ
defaults =
    0x9a ∷ 0x99 ∷ 0x99 ∷ 0x99 ∷ 0x99 ∷ 0x99 ∷ 0xb9 ∷ 0x3f ∷ []
    ++ 0 ∷ 0 ∷ 0 ∷ 0 ∷ 0 ∷ 0 ∷ 0xd0 ∷ 0x3f ∷ []
    ++ 0x1f ∷ 0x85 ∷ 0xeb ∷ 0x51 ∷ 0xb8 ∷ 0x1e ∷ 0xd5 ∷ 0x3f ∷ []
    ++ 0 ∷ 0 ∷ 0 ∷ 0 ∷ 0 ∷ 0x40 ∷ 0x8f ∷ 0x40 ∷ []
    ++ 0 ∷ 0 ∷ 0 ∷ 0 ∷ 0 ∷ 0 ∷ 0x59 ∷ 0x40 ∷ []

settings_read : settings_at (behind defaults) 3 ≡ record {
  like_selectivity = round binary64 false 1 10;
  default_predicate_selectivity = fin false 1 (negsuc 1);
  range_fallback_selectivity = round binary64 false 33 100;
  unknown_scan_rows = fin false 125 (pos 3);
  unknown_column_ndv_cap = fin false 25 (pos 2);
}
unfolding settings_at field_at of_bits round
settings_read = refl

-- ---- sketches

-- 1000 values; Int64 5 from 600 to 610 times, Int64 -1 exactly 300 times
abbrev two_items : List ℕ
two_items =
    0xe8 ∷ 3 ∷ 0 ∷ 0 ∷ 0 ∷ 0 ∷ 0 ∷ 0 ∷ 2 ∷ 0 ∷ []
    ++ 3 ∷ 5 ∷ [] ++ zeros 17
    ++ 0x58 ∷ 2 ∷ 0 ∷ 0 ∷ 0 ∷ 0 ∷ 0 ∷ 0 ∷ 10 ∷ 0 ∷ 0 ∷ 0 ∷ 0 ∷ 0 ∷ 0 ∷ 0 ∷ []
    ++ 3 ∷ 0xff ∷ 0xff ∷ 0xff ∷ 0xff ∷ 0xff ∷ 0xff ∷ 0xff ∷ 0xff ∷ [] ++ zeros 10
    ++ 0x2c ∷ 1 ∷ 0 ∷ 0 ∷ 0 ∷ 0 ∷ 0 ∷ 0 ∷ 0 ∷ 0 ∷ 0 ∷ 0 ∷ 0 ∷ 0 ∷ 0 ∷ 0 ∷ []

sketch_read : sketch_at (behind two_items) 3 ≡ record {
  population = 1000;
  items = record { value = Int64 (pos 5); lower = 600; error = 10 } ∷ record { value = Int64 (negsuc 0); lower = 300; error = 0 } ∷ [];
}
unfolding sketch_at sketch_item_at tabulate_from scalar_at signed field_at
sketch_read = refl

-- ---- tables and keys

table_read : table_at (5 ∷ 0 ∷ 0xe8 ∷ 3 ∷ 0 ∷ 0 ∷ 0 ∷ 0 ∷ 0 ∷ 0 ∷ []) 0 ≡ record { table = 5; rows = Some 1000 }
unfolding table_at field_at
table_read = refl

table_unknown : table_at (behind (0 ∷ 1 ∷ 0xff ∷ 0xff ∷ 0xff ∷ 0xff ∷ 0xff ∷ 0xff ∷ 0xff ∷ 0xff ∷ [])) 3 ≡ record { table = 256; rows = None }
unfolding table_at field_at
table_unknown = refl

key_unique : key_at (1 ∷ 4 ∷ 0 ∷ 2 ∷ 0 ∷ 0xff ∷ 0xff ∷ 0xff ∷ 0xff ∷ []) 0 ≡ Unique (column_of 4 2)
unfolding key_at field_at
key_unique = refl

key_foreign : key_at (behind (2 ∷ 4 ∷ 0 ∷ 3 ∷ 1 ∷ 5 ∷ 0 ∷ 7 ∷ 0 ∷ [])) 3 ≡ Foreign (column_of 4 259) (column_of 5 7)
unfolding key_at field_at
key_foreign = refl

-- of a foreign key FFFF is a number like any other
key_all_ones : key_at (2 ∷ 0xff ∷ 0xff ∷ 0xff ∷ 0xff ∷ 0xff ∷ 0xff ∷ 0xff ∷ 0xff ∷ []) 0 ≡ Foreign (column_of 65535 65535) (column_of 65535 65535)
unfolding key_at field_at
key_all_ones = refl

-- ---- columns

-- from a catalog: 100, no bounds
abbrev hundred : List ℕ
hundred = 1 ∷ 0 ∷ 0 ∷ 0 ∷ 0 ∷ 0 ∷ 0 ∷ 0 ∷ 0x59 ∷ 0x40 ∷ [] ++ zeros 16

-- from a sketch: 10, at most 16
abbrev ten : List ℕ
ten = 2 ∷ 2 ∷ 0 ∷ 0 ∷ 0 ∷ 0 ∷ 0 ∷ 0 ∷ 0x24 ∷ 0x40 ∷ [] ++ zeros 8 ++ 0 ∷ 0 ∷ 0 ∷ 0 ∷ 0 ∷ 0 ∷ 0x30 ∷ 0x40 ∷ []

-- column 7: no base, no lower bound, upper bound Int32 -2, no sketch
abbrev unsketched : List ℕ
unsketched =
    7 ∷ 0 ∷ 0xff ∷ 0xff ∷ 0xff ∷ 0xff ∷ []
    ++ 255 ∷ [] ++ zeros 18
    ++ 2 ∷ 0xfe ∷ 0xff ∷ 0xff ∷ 0xff ∷ [] ++ zeros 14
    ++ hundred ++ ten
    ++ 0xff ∷ 0xff ∷ []

unsketched_read : column_profile_at unsketched 0 ≡ record {
  column = 7;
  base = None;
  lower = None;
  upper = Some (Int32 (negsuc 1));
  frequency = estimate_of (fin false 25 (pos 2)) None None Catalog;
  distinct = estimate_of (fin false 5 (pos 1)) None (Some (fin false 1 (pos 4))) Sketch;
  sketch = None;
}
unfolding column_profile_at signed field_at of_bits
unsketched_read = refl

-- column 127: base column 9 of table 3, lower bound Float64 -1.5, upper bound Null, sketch 15
abbrev sketched : List ℕ
sketched =
    127 ∷ 0 ∷ 3 ∷ 0 ∷ 9 ∷ 0 ∷ []
    ++ 4 ∷ 0 ∷ 0 ∷ 0 ∷ 0 ∷ 0 ∷ 0 ∷ 0xf8 ∷ 0xbf ∷ [] ++ zeros 10
    ++ zeros 19
    ++ ten ++ hundred
    ++ 15 ∷ 0 ∷ []

sketched_read : column_profile_at (behind sketched) 3 ≡ record {
  column = 127;
  base = Some (column_of 3 9);
  lower = Some (Float64 (fin true 3 (negsuc 0)));
  upper = Some Null;
  frequency = estimate_of (fin false 5 (pos 1)) None (Some (fin false 1 (pos 4))) Sketch;
  distinct = estimate_of (fin false 25 (pos 2)) None None Catalog;
  sketch = Some 15;
}
unfolding column_profile_at signed field_at of_bits
sketched_read = refl

-- ---- classes

-- columns 1, 5 and 127, the distinct derived: 1, from 0 to 1
abbrev three_columns : List ℕ
three_columns =
    3 ∷ 0 ∷ []
    ++ 3 ∷ 3 ∷ 0 ∷ 0 ∷ 0 ∷ 0 ∷ 0 ∷ 0 ∷ 0xf0 ∷ 0x3f ∷ [] ++ zeros 8 ++ 0 ∷ 0 ∷ 0 ∷ 0 ∷ 0 ∷ 0 ∷ 0xf0 ∷ 0x3f ∷ []
    ++ 1 ∷ 0 ∷ 5 ∷ 0 ∷ 127 ∷ 0 ∷ []

class_read : class_at (behind three_columns) 3 ≡ record {
  columns = 1 ∷ 5 ∷ 127 ∷ [];
  distinct = estimate_of f64_one (Some f64_zero) (Some f64_one) Derived;
}
unfolding class_at tabulate_from field_at of_bits
class_read = refl

-- ---- expressions, one of each kind

-- Date32 19000
literal_read : expression_at (behind (zeros 6 ++ 6 ∷ 0x38 ∷ 0x4a ∷ [] ++ zeros 16)) 3 ≡ Literal (Date32 (pos 19000))
unfolding expression_at signed field_at
literal_read = refl

column_read : expression_at (1 ∷ 0 ∷ 42 ∷ 0 ∷ [] ++ zeros 21) 0 ≡ ColumnRef 42
unfolding expression_at field_at
column_read = refl

unary_read : expression_at (behind (2 ∷ 2 ∷ 6 ∷ 0 ∷ [] ++ zeros 21)) 3 ≡ Unary IsNotNull 6
unfolding expression_at field_at
unary_read = refl

binary_read : expression_at (3 ∷ 4 ∷ 3 ∷ 0 ∷ 200 ∷ 0 ∷ [] ++ zeros 19) 0 ≡ Binary LtEq 3 200
unfolding expression_at field_at
binary_read = refl

-- two operands, the first of them number 300
nary_read : expression_at (behind (4 ∷ 1 ∷ 0x2c ∷ 1 ∷ 2 ∷ 0 ∷ [] ++ zeros 19)) 3 ≡ Nary Or 300 2
unfolding expression_at field_at
nary_read = refl

like_read : expression_at (5 ∷ [] ++ zeros 24) 0 ≡ Like
unfolding expression_at field_at
like_read = refl

other_read : expression_at (6 ∷ [] ++ zeros 24) 0 ≡ Other
unfolding expression_at field_at
other_read = refl

-- the operators by their numbers
unary_ops : tabulate unary_op 4 ≡ Not ∷ IsNull ∷ IsNotNull ∷ Negate ∷ []
unfolding tabulate_from
unary_ops = refl

binary_ops : tabulate binary_op 11 ≡ Eq ∷ IsNotDistinctFrom ∷ NotEq ∷ Lt ∷ LtEq ∷ Gt ∷ GtEq ∷ Add ∷ Subtract ∷ Multiply ∷ Divide ∷ []
unfolding tabulate_from
binary_ops = refl

nary_ops : tabulate nary_op 2 ≡ And ∷ Or ∷ []
unfolding tabulate_from
nary_ops = refl
