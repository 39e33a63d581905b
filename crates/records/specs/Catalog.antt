-- Tables and keys. Definitions only.
use Rattle.std.specs.Prelude.{ℕ, ◌+◌, cond, List, eqb, Option, Some, None, Result, Ok, Err}
use Rattle.le.specs.Fields.{byte_at, u16_at, u64_at}
use Rattle.layout.specs.Places.{table_rows_offset, key_table_offset, key_column_offset, key_referenced_table_offset, key_referenced_column_offset, unknown_count}
use Rattle.records.specs.Columns.{column_of}
use Rattle.records.specs.declared.catalog.Table.{Table}
use Rattle.records.specs.declared.catalog.KeyKind.{KeyKind}
use Rattle.records.specs.declared.catalog.KeyKind.TheVariants.{Unique as UniqueKind, Foreign as ForeignKind}
use Rattle.records.specs.declared.catalog.UnknownKeyKind.{UnknownKeyKind}
use Rattle.records.specs.declared.catalog.Key.{Key}
use Rattle.records.specs.declared.catalog.Key.TheVariants.{Unique, Foreign}

abbrev pub unknown_key_kind : UnknownKeyKind
unknown_key_kind = record {}

-- what a key's first byte says that it is
abbrev pub key_kind_of : ℕ → Result KeyKind UnknownKeyKind
key_kind_of byte = cond (eqb byte 1) (Ok UniqueKind) (cond (eqb byte 2) (Ok ForeignKind) (Err unknown_key_kind))

-- the number of a kind
abbrev pub key_code : KeyKind → ℕ
key_code UniqueKind = 1
key_code ForeignKind = 2

-- all ones: unknown
abbrev pub row_count_of : ℕ → Option ℕ
row_count_of n = cond (eqb n unknown_count) None (Some n)

unfoldable pub table_at : List ℕ → ℕ → Table
table_at s at = record { table = u16_at s at; rows = row_count_of (u64_at s (at + table_rows_offset)) }

-- kind 1 is unique, every other foreign; of a unique key the referenced fields stand for nothing
unfoldable pub key_at : List ℕ → ℕ → Key
key_at s at =
    cond (eqb (byte_at s at) 1)
    (Unique (column_of (u16_at s (at + key_table_offset)) (u16_at s (at + key_column_offset))))
    (Foreign (column_of (u16_at s (at + key_table_offset)) (u16_at s (at + key_column_offset))) (column_of (u16_at s (at + key_referenced_table_offset)) (u16_at s (at + key_referenced_column_offset))))
