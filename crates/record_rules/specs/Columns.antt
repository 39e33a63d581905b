-- The fields of columns' profiles. Definitions only.
use Rattle.std.specs.Prelude.{ℕ, ◌+◌, ◌&&◌, ◌||◌, List, [], ◌∷◌, ltb, Option, Some, None}
use Rattle.std.specs.Bool.{beq}
use Rattle.le.specs.Fields.{u16_at}
use Rattle.rules.specs.Rules.{ask}
use Rattle.layout.specs.Places.{no_number, column_limit, base_column_offset, column_size}
use Rattle.layout.specs.Fields.{Field, number, group, no_rule, fields_refusal}
use Rattle.scalar_bytes.specs.Reading.{scalar_refusal}
use Rattle.scalar_bytes.specs.Fields.{bound}
use Rattle.scalar_bytes.specs.declared.reads.ScalarPlace.TheVariants.{Bound}
use Rattle.estimate.specs.Bytes.{estimate_refusal, estimate}
use Rattle.records.specs.declared.columns.BaseColumn.{BaseColumn}
use Rattle.records.specs.declared.columns.ColumnProfile.{ColumnProfile}
use Rattle.record_rules.specs.Fields.{ascending, is_none}

-- ---- the fields' rules

-- column i of ascending ones below the limit, each at the front of a record
unfoldable pub column_number_refusal : ℕ → List ℕ → ℕ → ℕ → ℕ
unfolding ascending
column_number_refusal size s i at = ask (ascending size s i at && ltb (u16_at s at) column_limit) 7

-- table and column: both there, or neither
abbrev pub base_refusal : List ℕ → ℕ → ℕ
base_refusal s at = ask (beq (is_none (u16_at s at)) (is_none (u16_at s (at + base_column_offset)))) 6

-- none, or one of the sheet's
abbrev pub sketch_number_refusal : ℕ → ℕ → ℕ
sketch_number_refusal sketches n = ask (is_none n || ltb n sketches) 8

-- ---- the base

abbrev pub base_table : Option BaseColumn → ℕ
base_table None = no_number
base_table (Some base) = base.table

abbrev pub base_column : Option BaseColumn → ℕ
base_column None = no_number
base_column (Some base) = base.column

abbrev pub base_fields : List (Field (Unit {0}) (Option BaseColumn))
base_fields = number base_table no_rule ∷ number base_column no_rule ∷ []

-- ---- the record

abbrev pub sketch_number : Option ℕ → ℕ
sketch_number None = no_number
sketch_number (Some n) = n

-- column i of a side, on a sheet of so many sketches
pub record ColumnPlace : Type 0 where
  pub sketches : ℕ
  pub i : ℕ

abbrev pub column_fields : List (Field ColumnPlace ColumnProfile)
column_fields =
    number (λ x. x.column) (λ c s. column_number_refusal column_size s c.i)
    ∷ group (λ x. x.base) (λ c. base_refusal) base_fields
    ∷ bound (λ x. x.lower) (λ c. scalar_refusal Bound)
    ∷ bound (λ x. x.upper) (λ c. scalar_refusal Bound)
    ∷ estimate (λ x. x.frequency)
    ∷ estimate (λ x. x.distinct)
    ∷ number (λ x. sketch_number x.sketch) (λ c s at. sketch_number_refusal c.sketches (u16_at s at))
    ∷ []

unfoldable pub column_refusal : List ℕ → ℕ → ℕ → ℕ → ℕ
unfolding column_number_refusal scalar_refusal estimate_refusal
column_refusal s sketches i = fields_refusal column_fields (record { sketches = sketches; i = i }) s
