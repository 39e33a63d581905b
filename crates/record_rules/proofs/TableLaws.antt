-- A table's bytes: what is lawful is read as it was written and accepted where it ascends, what is accepted is lawful and written as it stood, and tables have an order. Assumes nothing.
use Prim.Native.Nat.{ℕ, ◌+◌, ◌^◌, ◌≤◌, ◌<◌}
use mathlib.Core.Path.{◌≡◌, refl, sym, ap, ◌∙◌}
use mathlib.Core.Bool.{Bool, true, false, cond, ◌||◌, false≢true}
use mathlib.Core.List.{List, ◌++◌}
use native.Mathlib.Omega.{arith}
use lib.Dec.{leb, eqb}
use lib.ListN.{length, take, drop}
use borrow.Author.Tests.{eqb-true, ne_eqb, leb-true, le-leb}
use Rattle.std.specs.Prelude.{Option, Some, None}
use Rattle.le.specs.Fields.{u16_at, u64_at, field_bytes}
use Rattle.le.proofs.FieldLaws.{Bytes, field_below, bytes_back}
use Rattle.layout.specs.Places.{count_limit, number_size, wide_size, table_rows_offset, table_size}
use Rattle.layout.specs.Fields.{size_of, bytes_of, no_rule}
use Rattle.layout.specs.Lawful.{LawfulField, as_field}
use Rattle.layout.proofs.LayoutLaws.{EachField, ◌and◌, sizes, record_kept, record_accepted, record_room, stands, written, record_lawful, sized_lawful, sized_read}
use Rattle.records.specs.Catalog.{row_count_of, table_at}
use Rattle.records.specs.declared.catalog.Table.{Table}
use Rattle.rules.specs.Rules.{ask}
use Rattle.rules.proofs.RuleLaws.{ask_kept}
use Rattle.record_rules.specs.Fields.{ascending}
use Rattle.record_rules.specs.Catalog.{row_count_lawful, row_count_number, table_fields, table_refusal}
use Rattle.record_rules.specs.Lawful.{LawfulRowCount, LawfulTable}

-- ---- a number of rows

row_count_small : (r : Option ℕ) → LawfulRowCount r → row_count_number r < 2 ^ 64
row_count_small None h = omega arith
row_count_small (Some n) h = omega arith

row_count_read : (r : Option ℕ) → LawfulRowCount r → row_count_of (row_count_number r) ≡ r
row_count_read None h = refl
row_count_read (Some n) h = ap (λ (t : Bool). cond t None (Some n)) (ne_eqb n 0xffff_ffff_ffff_ffff (λ (e : n ≡ 0xffff_ffff_ffff_ffff). omega arith))

row_count_kept : (r : Option ℕ) → LawfulRowCount r → ask (row_count_lawful (row_count_number r)) 4 ≡ 0
row_count_kept None h = refl
row_count_kept (Some n) h = ap (λ (t : Bool). ask (t || eqb n 0xffff_ffff_ffff_ffff) 4) (le-leb n count_limit h)

row_count_back : (n : ℕ) → row_count_number (row_count_of n) ≡ n
row_count_back n = go (eqb n 0xffff_ffff_ffff_ffff) (eqb-true n 0xffff_ffff_ffff_ffff)
  where
    go : (t : Bool) → (t ≡ true → n ≡ 0xffff_ffff_ffff_ffff) → row_count_number (cond t None (Some n)) ≡ n
    go true h = sym (h refl)
    go false h = refl

row_count_lawful_law : (n : ℕ) → row_count_lawful n ≡ true → LawfulRowCount (row_count_of n)
row_count_lawful_law n = go (leb n count_limit) (eqb n 0xffff_ffff_ffff_ffff) (leb-true n count_limit)
  where
    go : (t u : Bool) → (t ≡ true → n ≤ count_limit) → (t || u) ≡ true → LawfulRowCount (cond u None (Some n))
    go t true h e = tt
    go true false h e = h refl
    go false false h e = absurd (false≢true e)

-- ---- the record

pub table_size_law : size_of table_fields ≡ table_size
table_size_law = refl

table_fields_law : EachField (LawfulField LawfulTable) table_fields
table_fields_law =
    sized_lawful LawfulTable number_size (λ x. x.table) _ (λ x h. h.table)
    and sized_lawful LawfulTable wide_size (λ x. row_count_number x.rows) _ (λ x h. row_count_small x.rows h.rows)
    and tt

pub table_lawful : LawfulField LawfulTable (as_field table_fields)
table_lawful = record_lawful LawfulTable table_fields table_fields_law

-- ---- read, accepted, written

record Read (x : Table) (s : List ℕ) (at : ℕ) : Type 0 where
  table : u16_at s at ≡ x.table
  rows : u64_at s (at + table_rows_offset) ≡ row_count_number x.rows

fields_read : (x : Table) (s t : List ℕ) (at : ℕ) → LawfulTable x → drop at s ≡ bytes_of table_fields x ++ t → Read x s at
fields_read x s t at h e =
    let fields = stands table_fields (sizes LawfulTable table_fields table_fields_law) x s t at 0 e in
    record {
      table = sized_read {C = ℕ} number_size (λ y. y.table) no_rule x s at h.table fields.0;
      rows = sized_read {C = ℕ} wide_size (λ y. row_count_number y.rows) no_rule x s (at + table_rows_offset) (row_count_small x.rows h.rows) fields.1.0;
    }

pub table_read : (x : Table) (s t : List ℕ) (at : ℕ) → LawfulTable x → drop at s ≡ bytes_of table_fields x ++ t → table_at s at ≡ x
unfolding table_at
table_read x s t at h e =
    let r = fields_read x s t at h e in
    λ i. record { table = r.table i; rows = (ap row_count_of r.rows ∙ row_count_read x.rows h.rows) i }

pub table_accepted : (x : Table) (s t : List ℕ) (i at : ℕ) → LawfulTable x → ascending table_size s i at ≡ true → drop at s ≡ bytes_of table_fields x ++ t → table_refusal s i at ≡ 0
unfolding table_refusal
table_accepted x s t i at h a e =
    let r = fields_read x s t at h e in
    record_accepted table_fields (sizes LawfulTable table_fields table_fields_law) i x s t at e
    (ap (λ (b : Bool). ask b 7) a
    and ap (λ (n : ℕ). ask (row_count_lawful n) 4) r.rows ∙ row_count_kept x.rows h.rows
    and tt)

pub table_written : (s : List ℕ) (i at : ℕ) → Bytes s → table_refusal s i at ≡ 0 → bytes_of table_fields (table_at s at) ≡ take table_size (drop at s)
unfolding table_refusal table_at
table_written s i at b e =
    let room : at + table_size ≤ length s = record_room table_fields i s at (omega arith) e in
    written table_fields (table_at s at) s at 0
    (bytes_back number_size s at b (omega arith)
    and ap (field_bytes wide_size) (row_count_back (u64_at s (at + table_rows_offset))) ∙ bytes_back wide_size s (at + table_rows_offset) b (omega arith)
    and tt)

pub table_is_lawful : (s : List ℕ) (i at : ℕ) → Bytes s → table_refusal s i at ≡ 0 → LawfulTable (table_at s at)
unfolding table_refusal table_at
table_is_lawful s i at b e = record {
  table = field_below number_size s at b;
  rows = row_count_lawful_law (u64_at s (at + table_rows_offset)) (ask_kept (row_count_lawful (u64_at s (at + table_rows_offset))) 4 (omega arith) (record_kept table_fields i s at e).1.0);
}
