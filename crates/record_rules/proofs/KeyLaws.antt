-- A key's bytes: what is lawful is read as it was written and accepted, what is accepted is lawful and written as it stood, and keys have an order. Assumes nothing.
use Prim.Native.Nat.{ℕ, ◌+◌, ◌^◌, ◌≤◌, ◌<◌}
use mathlib.Core.Path.{◌≡◌, refl, sym, ap, ◌∙◌}
use mathlib.Core.Bool.{Bool, true, false, cond, ◌||◌}
use mathlib.Core.List.{List, ◌++◌}
use native.Mathlib.Omega.{arith}
use lib.Dec.{eqb}
use lib.ListN.{length, take, drop}
use borrow.Author.Tests.{eqb-true}
use Rattle.le.specs.Fields.{byte_at, u16_at, field_bytes}
use Rattle.le.proofs.FieldLaws.{Bytes, field_below, bytes_back}
use Rattle.rules.specs.Rules.{ask}
use Rattle.rules.proofs.RuleLaws.{ask_kept}
use Rattle.layout.specs.Places.{number_size, key_table_offset, key_column_offset, key_referenced_table_offset, key_referenced_column_offset, key_size}
use Rattle.layout.specs.Fields.{size_of, bytes_of, no_rule}
use Rattle.layout.specs.Lawful.{LawfulField, as_field}
use Rattle.layout.proofs.LayoutLaws.{EachField, ◌and◌, sizes, record_accepted, record_kept, record_room, stands, written, record_lawful, sized_lawful, sized_read, byte_read, byte_back, byte_lawful}
use Rattle.records.specs.Columns.{column_of}
use Rattle.records.specs.Catalog.{key_at}
use Rattle.records.specs.declared.catalog.Key.{Key}
use Rattle.records.specs.declared.catalog.Key.TheVariants.{Unique, Foreign}
use Rattle.record_rules.specs.Fields.{is_none}
use Rattle.record_rules.specs.Catalog.{key_kind, key_table, key_column, key_referenced_table, key_referenced_column, key_fields, key_refusal}
use Rattle.record_rules.specs.Lawful.{LawfulKey}

pub key_size_law : size_of key_fields ≡ key_size
key_size_law = refl

key_fields_law : EachField (LawfulField LawfulKey) key_fields
key_fields_law =
    byte_lawful LawfulKey key_kind _
    and sized_lawful LawfulKey number_size key_table _ (λ x h. h.table)
    and sized_lawful LawfulKey number_size key_column _ (λ x h. h.column)
    and sized_lawful LawfulKey number_size key_referenced_table _ (λ x h. h.referenced_table)
    and sized_lawful LawfulKey number_size key_referenced_column _ (λ x h. h.referenced_column)
    and tt

pub key_lawful : LawfulField LawfulKey (as_field key_fields)
key_lawful = record_lawful LawfulKey key_fields key_fields_law

-- ---- read, accepted

record Read (x : Key) (s : List ℕ) (at : ℕ) : Type 0 where
  kind : byte_at s at ≡ key_kind x
  table : u16_at s (at + key_table_offset) ≡ key_table x
  column : u16_at s (at + key_column_offset) ≡ key_column x
  referenced_table : u16_at s (at + key_referenced_table_offset) ≡ key_referenced_table x
  referenced_column : u16_at s (at + key_referenced_column_offset) ≡ key_referenced_column x

fields_read : (x : Key) (s t : List ℕ) (at : ℕ) → LawfulKey x → drop at s ≡ bytes_of key_fields x ++ t → Read x s at
fields_read x s t at h e =
    let fields = stands key_fields (sizes LawfulKey key_fields key_fields_law) x s t at 0 e in
    record {
      kind = byte_read {C = ℕ} key_kind no_rule x s at fields.0;
      table = sized_read {C = ℕ} number_size key_table no_rule x s (at + key_table_offset) h.table fields.1.0;
      column = sized_read {C = ℕ} number_size key_column no_rule x s (at + key_column_offset) h.column fields.1.1.0;
      referenced_table = sized_read {C = ℕ} number_size key_referenced_table no_rule x s (at + key_referenced_table_offset) h.referenced_table fields.1.1.1.0;
      referenced_column = sized_read {C = ℕ} number_size key_referenced_column no_rule x s (at + key_referenced_column_offset) h.referenced_column fields.1.1.1.1.0;
    }

key_back : (x : Key) → cond (eqb (key_kind x) 1) (Unique (column_of (key_table x) (key_column x))) (Foreign (column_of (key_table x) (key_column x)) (column_of (key_referenced_table x) (key_referenced_column x))) ≡ x
key_back (Unique column) = refl
key_back (Foreign column referenced) = refl

pub key_read : (x : Key) (s t : List ℕ) (at : ℕ) → LawfulKey x → drop at s ≡ bytes_of key_fields x ++ t → key_at s at ≡ x
unfolding key_at
key_read x s t at h e =
    let r = fields_read x s t at h e in
    (λ i. cond (eqb (r.kind i) 1) (Unique (column_of (r.table i) (r.column i))) (Foreign (column_of (r.table i) (r.column i)) (column_of (r.referenced_table i) (r.referenced_column i)))) ∙ key_back x

referenced_kept : (x : Key) → (ask (eqb (key_kind x) 2 || is_none (key_referenced_table x)) 6 ≡ 0) × (ask (eqb (key_kind x) 2 || is_none (key_referenced_column x)) 6 ≡ 0)
referenced_kept (Unique column) = (refl, refl)
referenced_kept (Foreign column referenced) = (refl, refl)

kind_kept : (x : Key) → ask (eqb (key_kind x) 1 || eqb (key_kind x) 2) 6 ≡ 0
kind_kept (Unique column) = refl
kind_kept (Foreign column referenced) = refl

pub key_accepted : (x : Key) (s t : List ℕ) (at : ℕ) → LawfulKey x → drop at s ≡ bytes_of key_fields x ++ t → key_refusal s at ≡ 0
unfolding key_refusal
key_accepted x s t at h e =
    let r = fields_read x s t at h e in
    record_accepted key_fields (sizes LawfulKey key_fields key_fields_law) (byte_at s at) x s t at e
    (ap (λ (k : ℕ). ask (eqb k 1 || eqb k 2) 6) r.kind ∙ kind_kept x
    and refl
    and refl
    and (λ i. ask (eqb (r.kind i) 2 || is_none (r.referenced_table i)) 6) ∙ (referenced_kept x).0
    and (λ i. ask (eqb (r.kind i) 2 || is_none (r.referenced_column i)) 6) ∙ (referenced_kept x).1
    and tt)

-- ---- written, lawful

-- of a key that keeps its rules: the fields of what is read
record Back (k a b c d : ℕ) (x : Key) : Type 0 where
  kind : key_kind x ≡ k
  table : key_table x ≡ a
  column : key_column x ≡ b
  referenced_table : key_referenced_table x ≡ c
  referenced_column : key_referenced_column x ≡ d

fields_back : (k a b c d : ℕ) → (eqb k 1 || eqb k 2) ≡ true → (eqb k 2 || is_none c) ≡ true → (eqb k 2 || is_none d) ≡ true → Back k a b c d (cond (eqb k 1) (Unique (column_of a b)) (Foreign (column_of a b) (column_of c d)))
fields_back k a b c d = go (eqb k 1) (eqb k 2) (is_none c) (is_none d) (eqb-true k 1) (eqb-true k 2) (eqb-true c 0xffff) (eqb-true d 0xffff)
  where
    go : (t u v w : Bool) → (t ≡ true → k ≡ 1) → (u ≡ true → k ≡ 2) → (v ≡ true → c ≡ 0xffff) → (w ≡ true → d ≡ 0xffff) → (t || u) ≡ true → (u || v) ≡ true → (u || w) ≡ true → Back k a b c d (cond t (Unique (column_of a b)) (Foreign (column_of a b) (column_of c d)))
    go true true v w e f g h p q r = let x = e refl in let y = f refl in absurd (omega arith)
    go true false v w e f g h p q r = record { kind = sym (e refl); table = refl; column = refl; referenced_table = sym (g q); referenced_column = sym (h r) }
    go false u v w e f g h p q r = record { kind = sym (f p); table = refl; column = refl; referenced_table = refl; referenced_column = refl }

module _ (s : List ℕ) (at : ℕ) (kept : key_refusal s at ≡ 0) where
  back : Back (byte_at s at) (u16_at s (at + key_table_offset)) (u16_at s (at + key_column_offset)) (u16_at s (at + key_referenced_table_offset)) (u16_at s (at + key_referenced_column_offset)) (key_at s at)
  unfolding key_refusal key_at
  back =
      let k = record_kept key_fields (byte_at s at) s at kept in
      fields_back (byte_at s at) (u16_at s (at + key_table_offset)) (u16_at s (at + key_column_offset)) (u16_at s (at + key_referenced_table_offset)) (u16_at s (at + key_referenced_column_offset))
      (ask_kept _ 6 (omega arith) k.0) (ask_kept _ 6 (omega arith) k.1.1.1.0) (ask_kept _ 6 (omega arith) k.1.1.1.1.0)

  room : at + key_size ≤ length s
  unfolding key_refusal
  room = record_room key_fields (byte_at s at) s at (omega arith) kept

  pub key_written : Bytes s → bytes_of key_fields (key_at s at) ≡ take key_size (drop at s)
  key_written b =
      let r = room in
      written key_fields (key_at s at) s at 0
      (byte_back (key_kind (key_at s at)) s at back.kind (omega arith)
      and ap (field_bytes number_size) back.table ∙ bytes_back number_size s (at + key_table_offset) b (omega arith)
      and ap (field_bytes number_size) back.column ∙ bytes_back number_size s (at + key_column_offset) b (omega arith)
      and ap (field_bytes number_size) back.referenced_table ∙ bytes_back number_size s (at + key_referenced_table_offset) b (omega arith)
      and ap (field_bytes number_size) back.referenced_column ∙ bytes_back number_size s (at + key_referenced_column_offset) b (omega arith)
      and tt)

  small : Bytes s → (n k : ℕ) → n ≡ u16_at s k → n < 2 ^ 16
  small b n k e = let l : u16_at s k < 2 ^ 16 = field_below number_size s k b in omega arith

  pub key_is_lawful : Bytes s → LawfulKey (key_at s at)
  key_is_lawful b = record {
    table = small b _ (at + key_table_offset) back.table;
    column = small b _ (at + key_column_offset) back.column;
    referenced_table = small b _ (at + key_referenced_table_offset) back.referenced_table;
    referenced_column = small b _ (at + key_referenced_column_offset) back.referenced_column;
  }
