-- What a figure looks up in a sheet. Definitions only.
use Rattle.std.specs.Prelude.{ℕ, ◌+◌, ◌*◌, cond, List, ltb, get_or, take, drop, Float, Option, None, Some, option_map}
use Rattle.std.specs.Option.{option_or}
use Rattle.le.specs.Fields.{byte_at, u16_at}
use Rattle.layout.specs.Places.{column_limit, count_size, number_size, column_size}
use Rattle.records.specs.Lists.{tabulate}
use Rattle.records.specs.Columns.{column_profile_at}
use Rattle.records.specs.declared.columns.ColumnProfile.{ColumnProfile}
use Rattle.records.specs.Expressions.{kind_of}
use Rattle.records.specs.declared.expressions.ExpressionKind.{ExpressionKind}
use Rattle.records.specs.declared.expressions.ExpressionKind.TheVariants.{Other as OtherKind}
use Rattle.records.specs.declared.expressions.Expression.{Expression}
use Rattle.records.specs.declared.expressions.Expression.TheVariants.{Other}
use Rattle.expression_rules.specs.Operands.{expression_place}
use Rattle.sheet.specs.Sheet.{Sheet, sheet_of}
use Rattle.sheet.specs.declared.Sections.{Sections}
use Rattle.scan.specs.Scan.{first_with, place_from, first_place}

-- ---- expressions

abbrev pub expression_of : Sheet → ℕ → Expression
expression_of sheet e = get_or sheet.expressions e Other

-- operand i, where the operands' count stands at `start`
abbrev pub operand_in : List ℕ → ℕ → ℕ → ℕ
operand_in s start i = u16_at s (start + count_size + number_size * i)

-- the operands of an n-ary expression, by the place of the first and how many there are
abbrev pub operands_of : Sheet → ℕ → ℕ → List ℕ
operands_of sheet first count = take count (drop first sheet.operands)

-- ---- columns

-- the profile of a column, and the rows of the side that it stands on
abbrev pub ProfileAndRows : Type 0
ProfileAndRows = ColumnProfile × Float

abbrev pub column_of : ColumnProfile → ℕ
column_of p = p.column

abbrev pub beside_rows : Float → ColumnProfile → Option ProfileAndRows
beside_rows rows p = Some (p, rows)

-- a column's profile in one side's list, beside that side's rows
abbrev pub profile_in : Float → ℕ → List ColumnProfile → Option ProfileAndRows
profile_in rows column profiles = first_with column_of None (beside_rows rows) column profiles

-- of the left side, and of the right
abbrev pub left_profile : Sheet → ℕ → Option ProfileAndRows
left_profile sheet column = profile_in sheet.left_rows.value column sheet.left_columns

abbrev pub right_profile : Sheet → ℕ → Option ProfileAndRows
right_profile sheet column = profile_in sheet.right_rows.value column sheet.right_columns

-- the left side's before the right side's
unfoldable pub profile_and_rows : Sheet → ℕ → Option ProfileAndRows
unfolding first_with
profile_and_rows sheet column = option_or (left_profile sheet column) (right_profile sheet column)

-- ---- by where they stand in the bytes

-- where a profile stands, and the rows of its side
abbrev pub PlaceAndRows : Type 0
PlaceAndRows = ℕ × Float

-- the profile that a place stands for
abbrev pub placed_profile : List ℕ → PlaceAndRows → ProfileAndRows
placed_profile s place = (column_profile_at s place.0, place.1)

-- in the list of a side whose count stands at `start`
abbrev pub column_place : List ℕ → ℕ → ℕ → Option ℕ
column_place s start column = first_place s start column_size column

-- of every column
abbrev pub column_places : List ℕ → ℕ → List (Option ℕ)
column_places s start = tabulate (column_place s start) column_limit

abbrev pub place_beside : Float → ℕ → PlaceAndRows
place_beside rows at = (at, rows)

-- the left side's before the right side's
unfoldable pub profile_place : List ℕ → Sections → ℕ → Option PlaceAndRows
unfolding place_from sheet_of
profile_place s q column =
    option_or (option_map (place_beside (sheet_of s q).left_rows.value) (column_place s q.left_columns column))
    (option_map (place_beside (sheet_of s q).right_rows.value) (column_place s q.right_columns column))

-- ---- what an expression is, without its fields

-- where there is no such expression, any other one
abbrev pub expression_kind : List ℕ → Sections → ℕ → ExpressionKind
expression_kind s q e = cond (ltb e (u16_at s q.expressions)) (kind_of (byte_at s (expression_place q.expressions e))) OtherKind
