-- A column's bytes: what is lawful is read as it was written and accepted where it ascends, what is accepted is lawful and written as it stood, and columns have an order. Assumes nothing.
use Prim.Native.Nat.{ℕ, ◌+◌, ◌^◌, ◌≤◌, ◌<◌}
use mathlib.Core.Path.{◌≡◌, refl, sym, ap, ◌∙◌}
use mathlib.Core.Bool.{Bool, beq, true, false, cond, ◌&&◌, ◌||◌, false≢true}
use mathlib.Core.List.{List, ◌++◌}
use native.Mathlib.Omega.{arith}
use lib.Dec.{eqb, ltb}
use lib.ListN.{length, take, drop}
use borrow.Author.Tests.{eqb-true, eqb-false, ne_eqb, ltb-true, lt-ltb}
use Rattle.std.specs.Prelude.{Option, Some, None}
use Rattle.le.specs.Fields.{u16_at, field_bytes}
use Rattle.le.proofs.FieldLaws.{Bytes, field_below, bytes_back}
use Rattle.rules.specs.Rules.{ask}
use Rattle.rules.proofs.RuleLaws.{ask_kept}
use Rattle.layout.specs.Places.{column_limit, number_size, base_size, base_column_offset, column_base_offset, column_lower_offset, column_upper_offset, column_frequency_offset, column_distinct_offset, column_sketch_offset, column_size}
use Rattle.layout.specs.Fields.{size_of, bytes_of, no_rule}
use Rattle.layout.specs.Lawful.{LawfulField, as_field}
use Rattle.layout.proofs.LayoutLaws.{EachField, ◌and◌, sizes, record_kept, record_accepted, record_room, stands, written, record_lawful, group_lawful, sized_lawful, sized_read}
use Rattle.scalar_bytes.specs.declared.reads.ScalarPlace.TheVariants.{Bound as AtBound}
use Rattle.scalar_bytes.proofs.EncodingLaws as Scalars
use Rattle.scalar_bytes.proofs.FieldLaws.{bound_lawful, bound_read, bound_accepted}
use Rattle.estimate.proofs.EstimateLaws.{part_lawful, estimate_read, estimate_accepted, estimate_written, accepted_lawful}
use Rattle.records.specs.Columns.{column_of, base_column_at, sketch_number_at, column_profile_at}
use Rattle.records.specs.declared.columns.BaseColumn.{BaseColumn}
use Rattle.records.specs.declared.columns.ColumnProfile.{ColumnProfile}
use Rattle.record_rules.specs.Fields.{ascending, is_none}
use Rattle.record_rules.specs.Columns.{column_number_refusal, sketch_number_refusal, base_table, base_column, base_fields, sketch_number, column_fields, column_refusal}
use Rattle.record_rules.specs.Lawful.{LawfulBase, LawfulSketchNumber, LawfulColumn}
use Rattle.record_rules.proofs.RoomLaws.{column_below}

-- ---- base and sketch

table_small : (b : Option BaseColumn) → LawfulBase b → base_table b < 2 ^ 16
table_small None h = omega arith
table_small (Some base) h = let a = h.0 in omega arith

name_small : (b : Option BaseColumn) → LawfulBase b → base_column b < 2 ^ 16
name_small None h = omega arith
name_small (Some base) h = let a = h.1 in omega arith

sketch_small : (n : ℕ) (x : Option ℕ) → LawfulSketchNumber n x → sketch_number x < 2 ^ 16
sketch_small n None h = omega arith
sketch_small n (Some i) h = let a = h.1 in omega arith

not_none : (n : ℕ) → n < 0xffff → is_none n ≡ false
not_none n h = ne_eqb n 0xffff (λ (e : n ≡ 0xffff). omega arith)

base_read : (x : Option BaseColumn) → LawfulBase x → cond (is_none (base_table x)) None (Some (column_of (base_table x) (base_column x))) ≡ x
base_read None h = refl
base_read (Some base) h = ap (λ (t : Bool). cond t None (Some base)) (not_none base.table h.0)

base_kept : (x : Option BaseColumn) → LawfulBase x → beq (is_none (base_table x)) (is_none (base_column x)) ≡ true
base_kept None h = refl
base_kept (Some base) h = λ i. beq (not_none base.table h.0 i) (not_none base.column h.1 i)

sketch_read : (n : ℕ) (x : Option ℕ) → LawfulSketchNumber n x → cond (is_none (sketch_number x)) None (Some (sketch_number x)) ≡ x
sketch_read n None h = refl
sketch_read n (Some i) h = ap (λ (t : Bool). cond t None (Some i)) (not_none i h.1)

sketch_kept : (n : ℕ) (x : Option ℕ) → LawfulSketchNumber n x → (is_none (sketch_number x) || ltb (sketch_number x) n) ≡ true
sketch_kept n None h = refl
sketch_kept n (Some i) h = λ j. not_none i h.1 j || lt-ltb i n h.0 j

sketch_back : (n : ℕ) → sketch_number (cond (eqb n 0xffff) None (Some n)) ≡ n
sketch_back n = go (eqb n 0xffff) (eqb-true n 0xffff)
  where
    go : (t : Bool) → (t ≡ true → n ≡ 0xffff) → sketch_number (cond t None (Some n)) ≡ n
    go true h = sym (h refl)
    go false h = refl

-- both there, or neither
base_back : (a b : ℕ) → beq (is_none a) (is_none b) ≡ true → (base_table (cond (eqb a 0xffff) None (Some (column_of a b))) ≡ a) × (base_column (cond (eqb a 0xffff) None (Some (column_of a b))) ≡ b)
base_back a b = go (eqb a 0xffff) (eqb b 0xffff) (eqb-true a 0xffff) (eqb-true b 0xffff)
  where
    go : (t u : Bool) → (t ≡ true → a ≡ 0xffff) → (u ≡ true → b ≡ 0xffff) → beq t u ≡ true → (base_table (cond t None (Some (column_of a b))) ≡ a) × (base_column (cond t None (Some (column_of a b))) ≡ b)
    go true true h k e = (sym (h refl), sym (k refl))
    go true false h k e = absurd (false≢true e)
    go false u h k e = (refl, refl)

some_below : (n : ℕ) → n < 2 ^ 16 → is_none n ≡ false → n < 0xffff
some_below n h e = let f = eqb-false n 0xffff e in omega arith

base_lawful : (a b : ℕ) → a < 2 ^ 16 → b < 2 ^ 16 → beq (is_none a) (is_none b) ≡ true → LawfulBase (cond (eqb a 0xffff) None (Some (column_of a b)))
base_lawful a b h k = go (eqb a 0xffff) (eqb b 0xffff) (some_below a h) (some_below b k)
  where
    go : (t u : Bool) → (t ≡ false → a < 0xffff) → (u ≡ false → b < 0xffff) → beq t u ≡ true → LawfulBase (cond t None (Some (column_of a b)))
    go true u f g e = tt
    go false true f g e = absurd (false≢true e)
    go false false f g e = (f refl, g refl)

sketch_lawful : (n i : ℕ) → i < 2 ^ 16 → (is_none i || ltb i n) ≡ true → LawfulSketchNumber n (cond (eqb i 0xffff) None (Some i))
sketch_lawful n i h = go (eqb i 0xffff) (some_below i h)
  where
    go : (t : Bool) → (t ≡ false → i < 0xffff) → (t || ltb i n) ≡ true → LawfulSketchNumber n (cond t None (Some i))
    go true f e = tt
    go false f e = (ltb-true i n e, f refl)

-- ---- the size and the order

pub base_size_law : size_of base_fields ≡ base_size
base_size_law = refl

pub column_size_law : size_of column_fields ≡ column_size
column_size_law = refl

base_parts : EachField (LawfulField LawfulBase) base_fields
base_parts = sized_lawful LawfulBase number_size base_table _ table_small and sized_lawful LawfulBase number_size base_column _ name_small and tt

column_fields_law : (n : ℕ) → EachField (LawfulField (LawfulColumn n)) column_fields
column_fields_law n =
    sized_lawful (LawfulColumn n) number_size (λ x. x.column) _ (λ x h. let a = h.column in omega arith)
    and group_lawful (LawfulColumn n) LawfulBase (λ x. x.base) _ base_fields (λ x h. h.base) (record_lawful LawfulBase base_fields base_parts)
    and bound_lawful (LawfulColumn n) (λ x. x.lower) _ (λ x h. h.lower)
    and bound_lawful (LawfulColumn n) (λ x. x.upper) _ (λ x h. h.upper)
    and part_lawful (LawfulColumn n) (λ x. x.frequency) (λ x h. h.frequency)
    and part_lawful (LawfulColumn n) (λ x. x.distinct) (λ x h. h.distinct)
    and sized_lawful (LawfulColumn n) number_size (λ x. sketch_number x.sketch) _ (λ x h. sketch_small n x.sketch h.sketch)
    and tt

pub column_lawful : (n : ℕ) → LawfulField (LawfulColumn n) (as_field column_fields)
column_lawful n = record_lawful (LawfulColumn n) column_fields (column_fields_law n)

-- ---- written as it stood

pub column_written : (s : List ℕ) (sketches i at : ℕ) → Bytes s → column_refusal s sketches i at ≡ 0 → bytes_of column_fields (column_profile_at s at) ≡ take column_size (drop at s)
unfolding column_refusal column_profile_at base_column_at sketch_number_at
column_written s sketches i at b e =
    let room : at + column_size ≤ length s = record_room column_fields (record { sketches = sketches; i = i }) s at (omega arith) e in
    let number = record_kept column_fields (record { sketches = sketches; i = i }) s at e in
    let base = number.1 in
    let lower = base.1 in
    let frequency = lower.1.1 in
    let front : ℕ = at + column_base_offset in
    let pair = base_back (u16_at s front) (u16_at s (front + base_column_offset)) (ask_kept (beq (is_none (u16_at s front)) (is_none (u16_at s (front + base_column_offset)))) 6 (omega arith) base.0) in
    let based = written base_fields (base_column_at s front) s front 0
    (ap (field_bytes number_size) pair.0 ∙ bytes_back number_size s front b (omega arith)
    and ap (field_bytes number_size) pair.1 ∙ bytes_back number_size s (front + base_column_offset) b (omega arith)
    and tt) in
    written column_fields (column_profile_at s at) s at 0
    (bytes_back number_size s at b (omega arith)
    and based
    and Scalars.written_back AtBound s (at + column_lower_offset) b (omega arith) lower.0
    and Scalars.written_back AtBound s (at + column_upper_offset) b (omega arith) lower.1.0
    and estimate_written s (at + column_frequency_offset) b (omega arith) frequency.0
    and estimate_written s (at + column_distinct_offset) b (omega arith) frequency.1.0
    and ap (field_bytes number_size) (sketch_back (u16_at s (at + column_sketch_offset))) ∙ bytes_back number_size s (at + column_sketch_offset) b (omega arith)
    and tt)

-- ---- lawful

pub column_is_lawful : (s : List ℕ) (n i at : ℕ) → Bytes s → column_refusal s n i at ≡ 0 → LawfulColumn n (column_profile_at s at)
unfolding column_refusal column_profile_at base_column_at sketch_number_at
column_is_lawful s n i at b e =
    let number = record_kept column_fields (record { sketches = n; i = i }) s at e in
    let lower = number.1.1 in
    let frequency = lower.1.1 in
    let table : ℕ = u16_at s (at + column_base_offset) in
    let name : ℕ = u16_at s (at + column_base_offset + base_column_offset) in
    let sketch : ℕ = u16_at s (at + column_sketch_offset) in
    record {
      column = column_below column_size s i at number.0;
      base = base_lawful table name (field_below number_size s (at + column_base_offset) b) (field_below number_size s (at + column_base_offset + base_column_offset) b) (ask_kept (beq (is_none table) (is_none name)) 6 (omega arith) number.1.0);
      lower = Scalars.accepted_lawful AtBound s (at + column_lower_offset) b lower.0;
      upper = Scalars.accepted_lawful AtBound s (at + column_upper_offset) b lower.1.0;
      frequency = accepted_lawful s (at + column_frequency_offset) frequency.0;
      distinct = accepted_lawful s (at + column_distinct_offset) frequency.1.0;
      sketch = sketch_lawful n sketch (field_below number_size s (at + column_sketch_offset) b) (ask_kept (is_none sketch || ltb sketch n) 8 (omega arith) frequency.1.1.0);
    }

-- ---- read as it was written, and accepted

module _ (n : ℕ) (x : ColumnProfile) (s t : List ℕ) (at : ℕ) (lawful : LawfulColumn n x) (e : drop at s ≡ bytes_of column_fields x ++ t) where
  record Read : Type 0 where
    column : u16_at s at ≡ x.column
    table : u16_at s (at + column_base_offset) ≡ base_table x.base
    name : u16_at s (at + column_base_offset + base_column_offset) ≡ base_column x.base
    sketch : u16_at s (at + column_sketch_offset) ≡ sketch_number x.sketch

  fields_read : Read
  fields_read =
      let number = stands column_fields (sizes (LawfulColumn n) column_fields (column_fields_law n)) x s t at 0 e in
      let base = number.1 in
      let sketch = base.1.1.1.1.1 in
      let pair = stands base_fields (sizes LawfulBase base_fields base_parts) x.base s base.0.0 (at + column_base_offset) 0 base.0.1 in
      record {
        column = sized_read {C = ℕ} number_size (λ y. y.column) no_rule x s at (let a = lawful.column in omega arith) number.0;
        table = sized_read {C = ℕ} number_size base_table no_rule x.base s (at + column_base_offset) (table_small x.base lawful.base) pair.0;
        name = sized_read {C = ℕ} number_size base_column no_rule x.base s (at + column_base_offset + base_column_offset) (name_small x.base lawful.base) pair.1.0;
        sketch = sized_read {C = ℕ} number_size (λ y. sketch_number y.sketch) no_rule x s (at + column_sketch_offset) (sketch_small n x.sketch lawful.sketch) sketch.0;
      }

  pub column_read : column_profile_at s at ≡ x
  unfolding column_profile_at base_column_at sketch_number_at
  column_read =
      let r = fields_read in
      let lower = (stands column_fields (sizes (LawfulColumn n) column_fields (column_fields_law n)) x s t at 0 e).1.1 in
      let frequency = lower.1.1 in
      let based = (λ i. cond (is_none (r.table i)) None (Some (column_of (r.table i) (r.name i)))) ∙ base_read x.base lawful.base in
      let sketched = (λ i. cond (is_none (r.sketch i)) None (Some (r.sketch i))) ∙ sketch_read n x.sketch lawful.sketch in
      let low = bound_read s (at + column_lower_offset) x.lower lower.0.0 lawful.lower lower.0.1 in
      let high = bound_read s (at + column_upper_offset) x.upper lower.1.0.0 lawful.upper lower.1.0.1 in
      let often = estimate_read x.frequency s frequency.0.0 (at + column_frequency_offset) lawful.frequency frequency.0.1 in
      let apart = estimate_read x.distinct s frequency.1.0.0 (at + column_distinct_offset) lawful.distinct frequency.1.0.1 in
      λ i. record { column = r.column i; base = based i; lower = low i; upper = high i; frequency = often i; distinct = apart i; sketch = sketched i }

  number_kept : (i : ℕ) → ascending column_size s i at ≡ true → column_number_refusal column_size s i at ≡ 0
  unfolding column_number_refusal
  number_kept i a = (λ j. ask (a j && ltb (fields_read.column j) column_limit) 7) ∙ ap (λ (b : Bool). ask b 7) (lt-ltb x.column column_limit lawful.column)

  pub column_accepted : (i : ℕ) → ascending column_size s i at ≡ true → column_refusal s n i at ≡ 0
  unfolding column_refusal
  column_accepted i a =
      let r = fields_read in
      let lower = (stands column_fields (sizes (LawfulColumn n) column_fields (column_fields_law n)) x s t at 0 e).1.1 in
      let frequency = lower.1.1 in
      record_accepted column_fields (sizes (LawfulColumn n) column_fields (column_fields_law n)) (record { sketches = n; i = i }) x s t at e
      (number_kept i a
      and (λ j. ask (beq (is_none (r.table j)) (is_none (r.name j))) 6) ∙ ap (λ (b : Bool). ask b 6) (base_kept x.base lawful.base)
      and bound_accepted s (at + column_lower_offset) AtBound x.lower lower.0.0 lawful.lower (Scalars.bound_allows x.lower) lower.0.1
      and bound_accepted s (at + column_upper_offset) AtBound x.upper lower.1.0.0 lawful.upper (Scalars.bound_allows x.upper) lower.1.0.1
      and estimate_accepted x.frequency s frequency.0.0 (at + column_frequency_offset) lawful.frequency frequency.0.1
      and estimate_accepted x.distinct s frequency.1.0.0 (at + column_distinct_offset) lawful.distinct frequency.1.0.1
      and ap (sketch_number_refusal n) r.sketch ∙ ap (λ (b : Bool). ask b 8) (sketch_kept n x.sketch lawful.sketch)
      and tt)
