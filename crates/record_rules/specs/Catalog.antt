-- The fields of tables and keys. Definitions only.
use Rattle.std.specs.Prelude.{ℕ, Bool, ◌||◌, List, [], ◌∷◌, eqb, Option, Some, None}
use Rattle.le.specs.Fields.{byte_at, u16_at, u64_at}
use Rattle.rules.specs.Rules.{ask}
use Rattle.layout.specs.Places.{no_number, unknown_count, table_size}
use Rattle.layout.specs.Fields.{Field, byte, number, wide, no_rule, fields_refusal}
use Rattle.records.specs.declared.catalog.Table.{Table}
use Rattle.records.specs.declared.catalog.Key.{Key}
use Rattle.records.specs.declared.catalog.Key.TheVariants.{Unique, Foreign}
use Rattle.record_rules.specs.Fields.{ascending, count_lawful, is_none}

-- ---- tables

-- all ones: unknown
abbrev pub row_count_lawful : ℕ → Bool
row_count_lawful n = count_lawful n || eqb n unknown_count

abbrev pub row_count_number : Option ℕ → ℕ
row_count_number None = unknown_count
row_count_number (Some n) = n

-- table i
abbrev pub table_fields : List (Field ℕ Table)
table_fields =
    number (λ x. x.table) (λ i s at. ask (ascending table_size s i at) 7)
    ∷ wide (λ x. row_count_number x.rows) (λ i s at. ask (row_count_lawful (u64_at s at)) 4)
    ∷ []

unfoldable pub table_refusal : List ℕ → ℕ → ℕ → ℕ
unfolding ascending
table_refusal s i = fields_refusal table_fields i s

-- ---- keys; a unique one references nothing

abbrev pub key_kind : Key → ℕ
key_kind (Unique column) = 1
key_kind (Foreign column referenced) = 2

abbrev pub key_table : Key → ℕ
key_table (Unique column) = column.table
key_table (Foreign column referenced) = column.table

abbrev pub key_column : Key → ℕ
key_column (Unique column) = column.column
key_column (Foreign column referenced) = column.column

abbrev pub key_referenced_table : Key → ℕ
key_referenced_table (Unique column) = no_number
key_referenced_table (Foreign column referenced) = referenced.table

abbrev pub key_referenced_column : Key → ℕ
key_referenced_column (Unique column) = no_number
key_referenced_column (Foreign column referenced) = referenced.column

abbrev pub referenced_refusal : ℕ → List ℕ → ℕ → ℕ
referenced_refusal kind s at = ask (eqb kind 2 || is_none (u16_at s at)) 6

-- by the kind
abbrev pub key_fields : List (Field ℕ Key)
key_fields =
    byte key_kind (λ kind s at. ask (eqb kind 1 || eqb kind 2) 6)
    ∷ number key_table no_rule
    ∷ number key_column no_rule
    ∷ number key_referenced_table referenced_refusal
    ∷ number key_referenced_column referenced_refusal
    ∷ []

unfoldable pub key_refusal : List ℕ → ℕ → ℕ
key_refusal s at = fields_refusal key_fields (byte_at s at) s at
