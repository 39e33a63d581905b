-- The bytes of a class's head, and of its columns: what is lawful is read as it was written and accepted, what is accepted is written as it stood, and both have an order. Assumes nothing.
use Prim.Native.Nat.{ℕ, ◌+◌, ◌*◌, ◌≤◌}
use mathlib.Core.Path.{◌≡◌, refl, ap, ◌∙◌}
use mathlib.Core.Bool.{Bool, true, ◌&&◌}
use mathlib.Core.List.{List, ◌++◌}
use native.Mathlib.Omega.{arith}
use lib.Dec.{leb, ltb}
use lib.ListN.{length, take, drop}
use borrow.Author.Tests.{le-leb, lt-ltb}
use Rattle.le.specs.Fields.{u16_at}
use Rattle.le.proofs.FieldLaws.{Bytes, bytes_back}
use Rattle.rules.specs.Rules.{ask}
use Rattle.layout.specs.Places.{column_limit, number_size, class_least, class_most, class_distinct_offset, class_head_size}
use Rattle.layout.specs.Fields.{size_of, bytes_of, no_rule}
use Rattle.layout.specs.Lawful.{LawfulField, as_field}
use Rattle.layout.proofs.LayoutLaws.{EachField, ◌and◌, sizes, record_kept, record_accepted, record_room, stands, written, record_lawful, sized_lawful, sized_read}
use Rattle.estimate.proofs.EstimateLaws.{part_lawful, estimate_read, estimate_accepted, estimate_written}
use Rattle.records.specs.Classes.{class_head_at}
use Rattle.records.specs.declared.classes.ClassHead.{ClassHead}
use Rattle.record_rules.specs.Fields.{ascending}
use Rattle.record_rules.specs.Columns.{column_number_refusal}
use Rattle.record_rules.specs.Classes.{class_column_fields, class_column_refusal, class_head_fields, class_head_refusal}
use Rattle.record_rules.specs.Lawful.{LawfulClassHead, LawfulClassColumn}

-- ---- the head

pub head_size_law : size_of class_head_fields ≡ class_head_size
head_size_law = refl

head_fields : EachField (LawfulField LawfulClassHead) class_head_fields
head_fields =
    sized_lawful LawfulClassHead number_size (λ x. x.count) _ (λ x h. let a = h.most in omega arith)
    and part_lawful LawfulClassHead (λ x. x.distinct) (λ x h. h.distinct)
    and tt

pub head_lawful : LawfulField LawfulClassHead (as_field class_head_fields)
head_lawful = record_lawful LawfulClassHead class_head_fields head_fields

module _ (x : ClassHead) (s t : List ℕ) (at : ℕ) (lawful : LawfulClassHead x) (e : drop at s ≡ bytes_of class_head_fields x ++ t) where
  count_read : u16_at s at ≡ x.count
  count_read =
      let fields = stands class_head_fields (sizes LawfulClassHead class_head_fields head_fields) x s t at 0 e in
      sized_read {C = ℕ} number_size (λ y. y.count) no_rule x s at (let a = lawful.most in omega arith) fields.0

  pub head_read : class_head_at s at ≡ x
  unfolding class_head_at
  head_read =
      let fields = stands class_head_fields (sizes LawfulClassHead class_head_fields head_fields) x s t at 0 e in
      let distinct = estimate_read x.distinct s fields.1.0.0 (at + class_distinct_offset) lawful.distinct fields.1.0.1 in
      λ i. record { count = count_read i; distinct = distinct i }

  pub head_accepted : class_head_refusal s at ≡ 0
  unfolding class_head_refusal
  head_accepted =
      let fields = stands class_head_fields (sizes LawfulClassHead class_head_fields head_fields) x s t at 0 e in
      record_accepted class_head_fields (sizes LawfulClassHead class_head_fields head_fields) tt x s t at e
      ((λ i. ask (leb class_least (count_read i) && leb (count_read i) class_most) 3) ∙ (λ i. ask (le-leb class_least x.count lawful.least i && le-leb x.count class_most lawful.most i) 3)
      and estimate_accepted x.distinct s fields.1.0.0 (at + class_distinct_offset) lawful.distinct fields.1.0.1
      and tt)

pub head_written : (s : List ℕ) (at : ℕ) → Bytes s → class_head_refusal s at ≡ 0 → bytes_of class_head_fields (class_head_at s at) ≡ take class_head_size (drop at s)
unfolding class_head_refusal class_head_at
head_written s at b e =
    let room : at + class_head_size ≤ length s = record_room class_head_fields tt s at (omega arith) e in
    let fields = record_kept class_head_fields tt s at e in
    written class_head_fields (class_head_at s at) s at 0
    (bytes_back number_size s at b (omega arith)
    and estimate_written s (at + class_distinct_offset) b (omega arith) fields.1.0
    and tt)

-- ---- a column

pub column_size_law : size_of class_column_fields ≡ number_size
column_size_law = refl

column_fields_law : EachField (LawfulField LawfulClassColumn) class_column_fields
column_fields_law = sized_lawful LawfulClassColumn number_size (λ x. x) _ (λ x h. omega arith) and tt

pub column_lawful : LawfulField LawfulClassColumn (as_field class_column_fields)
column_lawful = record_lawful LawfulClassColumn class_column_fields column_fields_law

pub column_read : (x : ℕ) (s t : List ℕ) (at : ℕ) → LawfulClassColumn x → drop at s ≡ bytes_of class_column_fields x ++ t → u16_at s at ≡ x
column_read x s t at h e =
    let fields = stands class_column_fields (sizes LawfulClassColumn class_column_fields column_fields_law) x s t at 0 e in
    sized_read {C = ℕ} number_size (λ y. y) no_rule x s at (omega arith) fields.0

pub column_accepted : (x : ℕ) (s t : List ℕ) (first j : ℕ) → LawfulClassColumn x → ascending number_size s j (first + number_size * j) ≡ true → drop (first + number_size * j) s ≡ bytes_of class_column_fields x ++ t → class_column_refusal s first j ≡ 0
unfolding class_column_refusal column_number_refusal
column_accepted x s t first j h a e =
    let at : ℕ = first + number_size * j in
    let read = column_read x s t at h e in
    record_accepted class_column_fields (sizes LawfulClassColumn class_column_fields column_fields_law) j x s t at e
    ((λ i. ask (a i && ltb (read i) column_limit) 7) ∙ ap (λ (b : Bool). ask b 7) (lt-ltb x column_limit h)
    and tt)

pub column_written : (s : List ℕ) (first j : ℕ) → Bytes s → class_column_refusal s first j ≡ 0 → bytes_of class_column_fields (u16_at s (first + number_size * j)) ≡ take number_size (drop (first + number_size * j) s)
unfolding class_column_refusal
column_written s first j b e =
    let at : ℕ = first + number_size * j in
    let room : at + number_size ≤ length s = record_room class_column_fields j s at (omega arith) e in
    written class_column_fields (u16_at s at) s at 0 (bytes_back number_size s at b room and tt)
