-- The bytes of a sketch's head, and of an item: what is lawful is read as it was written and accepted, what is accepted is written as it stood, and both have an order. Assumes nothing.
use Prim.Native.Nat.{ℕ, ◌+◌, ◌*◌, ◌≤◌}
use mathlib.Core.Path.{◌≡◌, refl, sym, ap, ◌∙◌}
use mathlib.Core.Bool.{Bool, true, false, cond, ◌&&◌, false≢true}
use mathlib.Core.List.{List, ◌++◌}
use native.Mathlib.Omega.{arith}
use lib.Dec.{leb, eqb}
use lib.ListN.{length, take, drop}
use borrow.Author.Tests.{le-leb}
use Rattle.le.specs.Fields.{byte_at, u16_at, u64_at}
use Rattle.le.proofs.FieldLaws.{Bytes, bytes_back}
use Rattle.rules.specs.Rules.{ask, or_else, first_refusal}
use Rattle.rules.proofs.RuleLaws.{else_first}
use Rattle.layout.specs.Places.{count_limit, item_limit, items_limit, number_size, wide_size, sketch_count_offset, sketch_head_size, item_lower_offset, item_error_offset, item_size}
use Rattle.layout.specs.Fields.{size_of, bytes_of, no_rule}
use Rattle.layout.specs.Lawful.{LawfulField, as_field}
use Rattle.layout.proofs.LayoutLaws.{EachField, ◌and◌, sizes, record_kept, record_accepted, record_room, stands, written, record_lawful, sized_lawful, sized_read}
use Rattle.scalar.specs.Types.{is_null}
use Rattle.scalar.specs.declared.Scalar.{Scalar}
use Rattle.scalar.specs.declared.Scalar.TheVariants.{Null, Boolean, Int32, Int64, Float64, Decimal128, Date32, IntervalMonthDayNano, IntervalDayTime}
use Rattle.std.specs.Prelude.{Some, None}
use Rattle.scalar_bytes.specs.Reading.{scalar_refusal, scalar_at, bound_at}
use Rattle.scalar_bytes.specs.Encoding.{bound_bytes, lawful_scalar, lawful_bound, place_allows}
use Rattle.scalar_bytes.specs.declared.reads.ScalarPlace.TheVariants.{Sketch}
use Rattle.scalar_bytes.proofs.EncodingLaws.{accepted_allowed, written_back}
use Rattle.scalar_bytes.proofs.FieldLaws.{bound_lawful, bound_accepted, scalar_read}
use Rattle.records.specs.Sketches.{sketch_head_at, sketch_item_at}
use Rattle.records.specs.declared.sketches.SketchHead.{SketchHead}
use Rattle.records.specs.declared.sketches.SketchItem.{SketchItem}
use Rattle.sketch_rules.specs.Sketches.{alike_refusal, item_fields, item_refusal, sketch_head_fields, sketch_head_refusal}
use Rattle.sketch_rules.specs.Lawful.{LawfulSketchHead, LawfulItem}

count_kept : (n : ℕ) → n ≤ count_limit → ask (leb n count_limit) 4 ≡ 0
count_kept n h = ap (λ (b : Bool). ask b 4) (le-leb n count_limit h)

-- ---- the head

pub head_size_law : size_of sketch_head_fields ≡ sketch_head_size
head_size_law = refl

head_fields : (items : ℕ) → EachField (LawfulField (LawfulSketchHead items)) sketch_head_fields
head_fields items =
    sized_lawful (LawfulSketchHead items) wide_size (λ x. x.population) _ (λ x h. let a = h.population in omega arith)
    and sized_lawful (LawfulSketchHead items) number_size (λ x. x.count) _ (λ x h. let a = h.count in omega arith)
    and tt

pub head_lawful : (items : ℕ) → LawfulField (LawfulSketchHead items) (as_field sketch_head_fields)
head_lawful items = record_lawful (LawfulSketchHead items) sketch_head_fields (head_fields items)

module _ (items : ℕ) (x : SketchHead) (s t : List ℕ) (at : ℕ) (lawful : LawfulSketchHead items x) (e : drop at s ≡ bytes_of sketch_head_fields x ++ t) where
  population_read : u64_at s at ≡ x.population
  population_read =
      let fields = stands sketch_head_fields (sizes (LawfulSketchHead items) sketch_head_fields (head_fields items)) x s t at 0 e in
      sized_read {C = ℕ} wide_size (λ y. y.population) no_rule x s at (let a = lawful.population in omega arith) fields.0

  count_read : u16_at s (at + sketch_count_offset) ≡ x.count
  count_read =
      let fields = stands sketch_head_fields (sizes (LawfulSketchHead items) sketch_head_fields (head_fields items)) x s t at 0 e in
      sized_read {C = ℕ} number_size (λ y. y.count) no_rule x s (at + sketch_count_offset) (let a = lawful.count in omega arith) fields.1.0

  pub head_read : sketch_head_at s at ≡ x
  unfolding sketch_head_at
  head_read = λ i. record { population = population_read i; count = count_read i }

  pub head_accepted : sketch_head_refusal s items at ≡ 0
  unfolding sketch_head_refusal
  head_accepted =
      record_accepted sketch_head_fields (sizes (LawfulSketchHead items) sketch_head_fields (head_fields items)) items x s t at e
      (ap (λ (n : ℕ). ask (leb n count_limit) 4) population_read ∙ count_kept x.population lawful.population
      and ap (λ (n : ℕ). ask (leb n item_limit && leb (items + n) items_limit) 3) count_read ∙ (λ i. ask (le-leb x.count item_limit lawful.count i && le-leb (items + x.count) items_limit lawful.sum i) 3)
      and tt)

pub head_written : (s : List ℕ) (items at : ℕ) → Bytes s → sketch_head_refusal s items at ≡ 0 → bytes_of sketch_head_fields (sketch_head_at s at) ≡ take sketch_head_size (drop at s)
unfolding sketch_head_refusal sketch_head_at
head_written s items at b e =
    let room : at + sketch_head_size ≤ length s = record_room sketch_head_fields items s at (omega arith) e in
    written sketch_head_fields (sketch_head_at s at) s at 0
    (bytes_back wide_size s at b (omega arith)
    and bytes_back number_size s (at + sketch_count_offset) b (omega arith)
    and tt)

-- ---- an item

given_lawful : (x : Scalar) → lawful_scalar x ≡ true → lawful_bound (Some x) ≡ true
unfolding lawful_bound
given_lawful x h = h

given_allowed : (x : Scalar) → is_null x ≡ false → place_allows Sketch (Some x) ≡ true
unfolding place_allows
given_allowed Null h = absurd (false≢true (sym h))
given_allowed (Boolean b) h = refl
given_allowed (Int32 x) h = refl
given_allowed (Int64 x) h = refl
given_allowed (Float64 x) h = refl
given_allowed (Decimal128 value precision scale) h = refl
given_allowed (Date32 x) h = refl
given_allowed (IntervalMonthDayNano months days nanoseconds) h = refl
given_allowed (IntervalDayTime days milliseconds) h = refl

-- a sketch's scalar is there
given_at : (s : List ℕ) (at : ℕ) → scalar_refusal Sketch s at ≡ 0 → bound_at s at ≡ Some (scalar_at s at)
unfolding bound_at place_allows
given_at s at e = go (eqb (byte_at s at) 255) (accepted_allowed Sketch s at e)
  where
    go : (b : Bool) → place_allows Sketch (cond b None (Some (scalar_at s at))) ≡ true → cond b None (Some (scalar_at s at)) ≡ Some (scalar_at s at)
    go true h = absurd (false≢true h)
    go false h = refl

pub item_size_law : size_of item_fields ≡ item_size
item_size_law = refl

item_fields_law : EachField (LawfulField LawfulItem) item_fields
item_fields_law =
    bound_lawful LawfulItem (λ x. Some x.value) _ (λ x h. given_lawful x.value h.value)
    and sized_lawful LawfulItem wide_size (λ x. x.lower) _ (λ x h. let a = h.lower in omega arith)
    and sized_lawful LawfulItem wide_size (λ x. x.error) _ (λ x h. let a = h.error in omega arith)
    and tt

pub item_lawful : LawfulField LawfulItem (as_field item_fields)
item_lawful = record_lawful LawfulItem item_fields item_fields_law

module _ (x : SketchItem) (s t : List ℕ) (at : ℕ) (lawful : LawfulItem x) (e : drop at s ≡ bytes_of item_fields x ++ t) where
  lower_read : u64_at s (at + item_lower_offset) ≡ x.lower
  lower_read =
      let fields = stands item_fields (sizes LawfulItem item_fields item_fields_law) x s t at 0 e in
      sized_read {C = ℕ} wide_size (λ y. y.lower) no_rule x s (at + item_lower_offset) (let a = lawful.lower in omega arith) fields.1.0

  error_read : u64_at s (at + item_error_offset) ≡ x.error
  error_read =
      let fields = stands item_fields (sizes LawfulItem item_fields item_fields_law) x s t at 0 e in
      sized_read {C = ℕ} wide_size (λ y. y.error) no_rule x s (at + item_error_offset) (let a = lawful.error in omega arith) fields.1.1.0

  pub item_read : sketch_item_at s at ≡ x
  unfolding sketch_item_at
  item_read =
      let fields = stands item_fields (sizes LawfulItem item_fields item_fields_law) x s t at 0 e in
      let value = scalar_read s at x.value fields.0.0 lawful.value fields.0.1 in
      λ i. record { value = value i; lower = lower_read i; error = error_read i }

-- item j, whose value no item before it holds
pub item_accepted : (x : SketchItem) (s t : List ℕ) (first j : ℕ) → LawfulItem x → first_refusal (alike_refusal s first j) 0 j ≡ 0 → drop (first + item_size * j) s ≡ bytes_of item_fields x ++ t → item_refusal s first j ≡ 0
unfolding item_refusal
item_accepted x s t first j h a e =
    let at : ℕ = first + item_size * j in
    let fields = stands item_fields (sizes LawfulItem item_fields item_fields_law) x s t at 0 e in
    let scalar = bound_accepted s at Sketch (Some x.value) fields.0.0 (given_lawful x.value h.value) (given_allowed x.value h.present) fields.0.1 in
    record_accepted item_fields (sizes LawfulItem item_fields item_fields_law) (record { first = first; j = j }) x s t at e
    ((λ i. or_else (scalar i) (a i))
    and ap (λ (n : ℕ). ask (leb n count_limit) 4) (lower_read x s t at h e) ∙ count_kept x.lower h.lower
    and ap (λ (n : ℕ). ask (leb n count_limit) 4) (error_read x s t at h e) ∙ count_kept x.error h.error
    and tt)

pub item_written : (s : List ℕ) (first j : ℕ) → Bytes s → item_refusal s first j ≡ 0 → bytes_of item_fields (sketch_item_at s (first + item_size * j)) ≡ take item_size (drop (first + item_size * j) s)
unfolding item_refusal sketch_item_at
item_written s first j b e =
    let at : ℕ = first + item_size * j in
    let room : at + item_size ≤ length s = record_room item_fields (record { first = first; j = j }) s at (omega arith) e in
    let scalar = else_first (scalar_refusal Sketch s at) _ (record_kept item_fields (record { first = first; j = j }) s at e).0 in
    written item_fields (sketch_item_at s at) s at 0
    (ap bound_bytes (sym (given_at s at scalar)) ∙ written_back Sketch s at b (omega arith) scalar
    and bytes_back wide_size s (at + item_lower_offset) b (omega arith)
    and bytes_back wide_size s (at + item_error_offset) b (omega arith)
    and tt)
