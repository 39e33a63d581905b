-- An expression's bytes: what is lawful is read as it was written and accepted where its children and its run are, what is accepted is written as it stood, and expressions have an order. Assumes nothing.
use Prim.Native.Nat.{ℕ, zero, suc, ◌+◌, ◌^◌, ◌≤◌}
use mathlib.Core.Path.{◌≡◌, refl, sym, ap, ◌∙◌}
use mathlib.Core.Bool.{Bool, true, false, cond, false≢true}
use mathlib.Core.List.{List, ◌++◌}
use native.Mathlib.Omega.{arith}
use lib.Dec.{leb, eqb}
use lib.ListN.{length, take, drop}
use borrow.Author.Tests.{le-leb, leb-true, ltb-true, eqb-true}
use Rattle.le.specs.Fields.{byte_at, u16_at, field_at, field_bytes}
use Rattle.le.proofs.FieldLaws.{Bytes, bytes_back, field_found}
use Rattle.rules.specs.Rules.{ask}
use Rattle.rules.proofs.RuleLaws.{ask_kept}
use Rattle.layout.specs.Places.{number_size, expression_op_offset, expression_first_offset, expression_second_offset, expression_scalar_offset, expression_size, scalar_size}
use Rattle.layout.specs.Fields.{size_of, bytes_of, no_rule}
use Rattle.layout.specs.Lawful.{LawfulField, as_field}
use Rattle.layout.proofs.LayoutLaws.{EachField, ◌and◌, sizes, record_kept, record_accepted, record_room, stands, written, record_lawful, sized_lawful, sized_read, byte_lawful, byte_read, byte_back}
use Rattle.scalar.specs.declared.Scalar.{Scalar}
use Rattle.scalar.specs.declared.Scalar.TheVariants.{Null, Boolean, Int32, Int64, Float64, Decimal128, Date32, IntervalMonthDayNano, IntervalDayTime}
use Rattle.std.specs.Prelude.{Some, None}
use Rattle.scalar_bytes.specs.Reading.{scalar_refusal, scalar_at, bound_at, zeros_at}
use Rattle.scalar_bytes.specs.Encoding.{encoded_bytes, bound_bytes, lawful_scalar, lawful_bound, place_allows}
use Rattle.scalar_bytes.specs.declared.reads.ScalarPlace.TheVariants.{Literal as AtLiteral}
use Rattle.scalar_bytes.proofs.EncodingLaws.{accepted_allowed, written_back}
use Rattle.scalar_bytes.proofs.FieldLaws.{bound_lawful, bound_accepted, scalar_read}
use Rattle.records.specs.Expressions.{unary_op, binary_op, nary_op, expression_at}
use Rattle.records.specs.declared.expressions.UnaryOp.{UnaryOp}
use Rattle.records.specs.declared.expressions.UnaryOp.TheVariants.{Not, IsNull, IsNotNull, Negate}
use Rattle.records.specs.declared.expressions.BinaryOp.{BinaryOp}
use Rattle.records.specs.declared.expressions.BinaryOp.TheVariants.{Eq, IsNotDistinctFrom, NotEq, Lt, LtEq, Gt, GtEq, Add, Subtract, Multiply, Divide}
use Rattle.records.specs.declared.expressions.NaryOp.{NaryOp}
use Rattle.records.specs.declared.expressions.NaryOp.TheVariants.{And, Or}
use Rattle.records.specs.declared.expressions.Expression.{Expression}
use Rattle.records.specs.declared.expressions.Expression.TheVariants.{Literal, ColumnRef, Unary, Binary, Nary, Like, Other}
use Rattle.expression_rules.specs.Fields.{unary_number, binary_number, nary_number, kind_number, expression_op, expression_first, expression_second, expression_scalar}
use Rattle.expression_rules.specs.Expressions.{last_op, first_field_refusal, second_field_refusal, literal_refusal, expression_fields, expression_refusal}
use Rattle.expression_rules.specs.Lawful.{LawfulFields}

-- ---- the size and the order

pub expression_size_law : size_of expression_fields ≡ expression_size
expression_size_law = refl

given_lawful : (x : Scalar) → lawful_scalar x ≡ true → lawful_bound (Some x) ≡ true
unfolding lawful_bound
given_lawful x h = h

expression_fields_law : EachField (LawfulField LawfulFields) expression_fields
expression_fields_law =
    byte_lawful LawfulFields kind_number _
    and byte_lawful LawfulFields expression_op _
    and sized_lawful LawfulFields number_size expression_first _ (λ x h. h.first)
    and sized_lawful LawfulFields number_size expression_second _ (λ x h. h.second)
    and bound_lawful LawfulFields (λ x. Some (expression_scalar x)) _ (λ x h. given_lawful (expression_scalar x) h.scalar)
    and tt

pub expression_lawful : LawfulField LawfulFields (as_field expression_fields)
expression_lawful = record_lawful LawfulFields expression_fields expression_fields_law

-- ---- operators by their numbers

unary_back : (op : UnaryOp) → unary_op (unary_number op) ≡ op
unary_back Not = refl
unary_back IsNull = refl
unary_back IsNotNull = refl
unary_back Negate = refl

binary_back : (op : BinaryOp) → binary_op (binary_number op) ≡ op
binary_back Eq = refl
binary_back IsNotDistinctFrom = refl
binary_back NotEq = refl
binary_back Lt = refl
binary_back LtEq = refl
binary_back Gt = refl
binary_back GtEq = refl
binary_back Add = refl
binary_back Subtract = refl
binary_back Multiply = refl
binary_back Divide = refl

nary_back : (op : NaryOp) → nary_op (nary_number op) ≡ op
nary_back And = refl
nary_back Or = refl

unary_last : (op : UnaryOp) → unary_number op ≤ 3
unary_last Not = omega arith
unary_last IsNull = omega arith
unary_last IsNotNull = omega arith
unary_last Negate = omega arith

binary_last : (op : BinaryOp) → binary_number op ≤ 10
binary_last Eq = omega arith
binary_last IsNotDistinctFrom = omega arith
binary_last NotEq = omega arith
binary_last Lt = omega arith
binary_last LtEq = omega arith
binary_last Gt = omega arith
binary_last GtEq = omega arith
binary_last Add = omega arith
binary_last Subtract = omega arith
binary_last Multiply = omega arith
binary_last Divide = omega arith

nary_last : (op : NaryOp) → nary_number op ≤ 1
nary_last And = omega arith
nary_last Or = omega arith

op_kept : (x : Expression) → ask (leb (expression_op x) (last_op (kind_number x))) 6 ≡ 0
unfolding last_op
op_kept (Literal x) = refl
op_kept (ColumnRef column) = refl
op_kept (Unary op expr) = ap (λ (b : Bool). ask b 6) (le-leb (unary_number op) 3 (unary_last op))
op_kept (Binary op left right) = ap (λ (b : Bool). ask b 6) (le-leb (binary_number op) 10 (binary_last op))
op_kept (Nary op first count) = ap (λ (b : Bool). ask b 6) (le-leb (nary_number op) 1 (nary_last op))
op_kept Like = refl
op_kept Other = refl

kind_kept : (x : Expression) → ask (leb (kind_number x) 6) 6 ≡ 0
kind_kept (Literal x) = refl
kind_kept (ColumnRef column) = refl
kind_kept (Unary op expr) = refl
kind_kept (Binary op left right) = refl
kind_kept (Nary op first count) = refl
kind_kept Like = refl
kind_kept Other = refl

-- ---- scalars

given_allowed : (x : Scalar) → place_allows AtLiteral (Some x) ≡ true
unfolding place_allows
given_allowed Null = refl
given_allowed (Boolean b) = refl
given_allowed (Int32 x) = refl
given_allowed (Int64 x) = refl
given_allowed (Float64 x) = refl
given_allowed (Decimal128 value precision scale) = refl
given_allowed (Date32 x) = refl
given_allowed (IntervalMonthDayNano months days nanoseconds) = refl
given_allowed (IntervalDayTime days milliseconds) = refl

null_bytes : bound_bytes (Some Null) ≡ field_bytes scalar_size 0
unfolding bound_bytes encoded_bytes field_bytes
null_bytes = refl

null_zeros : (s t : List ℕ) (at : ℕ) → drop at s ≡ bound_bytes (Some Null) ++ t → ask (zeros_at scalar_size s at) 6 ≡ 0
null_zeros s t at e = ap (λ (n : ℕ). ask (eqb n 0) 6) (field_found scalar_size 0 s t at (ltb-true 0 (256 ^ scalar_size) refl) (e ∙ ap (λ (l : List ℕ). l ++ t) null_bytes))

literal_kept : (x : Expression) (s t : List ℕ) (at : ℕ) → lawful_scalar (expression_scalar x) ≡ true → drop at s ≡ bound_bytes (Some (expression_scalar x)) ++ t → literal_refusal (kind_number x) s at ≡ 0
unfolding literal_refusal
literal_kept (Literal x) s t at h e = bound_accepted s at AtLiteral (Some x) t (given_lawful x h) (given_allowed x) e
literal_kept (ColumnRef column) s t at h e = null_zeros s t at e
literal_kept (Unary op expr) s t at h e = null_zeros s t at e
literal_kept (Binary op left right) s t at h e = null_zeros s t at e
literal_kept (Nary op first count) s t at h e = null_zeros s t at e
literal_kept Like s t at h e = null_zeros s t at e
literal_kept Other s t at h e = null_zeros s t at e

-- ---- read as it was written, and accepted

-- what `expression_at` makes of the fields
abbrev expression_of : ℕ → ℕ → ℕ → ℕ → Scalar → Expression
expression_of kind op a b x =
    cond (eqb kind 0) (Literal x)
    (cond (eqb kind 1) (ColumnRef a)
    (cond (eqb kind 2) (Unary (unary_op op) a)
    (cond (eqb kind 3) (Binary (binary_op op) a b)
    (cond (eqb kind 4) (Nary (nary_op op) a b)
    (cond (eqb kind 5) Like Other)))))

expression_back : (x : Expression) → expression_of (kind_number x) (expression_op x) (expression_first x) (expression_second x) (expression_scalar x) ≡ x
expression_back (Literal x) = refl
expression_back (ColumnRef column) = refl
expression_back (Unary op expr) = ap (λ (o : UnaryOp). Unary o expr) (unary_back op)
expression_back (Binary op left right) = ap (λ (o : BinaryOp). Binary o left right) (binary_back op)
expression_back (Nary op first count) = ap (λ (o : NaryOp). Nary o first count) (nary_back op)
expression_back Like = refl
expression_back Other = refl

module _ (x : Expression) (s t : List ℕ) (at : ℕ) (lawful : LawfulFields x) (e : drop at s ≡ bytes_of expression_fields x ++ t) where
  record Read : Type 0 where
    kind : byte_at s at ≡ kind_number x
    op : byte_at s (at + expression_op_offset) ≡ expression_op x
    first : u16_at s (at + expression_first_offset) ≡ expression_first x
    second : u16_at s (at + expression_second_offset) ≡ expression_second x
    scalar : scalar_at s (at + expression_scalar_offset) ≡ expression_scalar x

  fields_read : Read
  fields_read =
      let fields = stands expression_fields (sizes LawfulFields expression_fields expression_fields_law) x s t at 0 e in
      let first = fields.1.1 in
      let scalar = first.1.1 in
      record {
        kind = byte_read {C = ℕ} kind_number no_rule x s at fields.0;
        op = byte_read {C = ℕ} expression_op no_rule x s (at + expression_op_offset) fields.1.0;
        first = sized_read {C = ℕ} number_size expression_first no_rule x s (at + expression_first_offset) lawful.first first.0;
        second = sized_read {C = ℕ} number_size expression_second no_rule x s (at + expression_second_offset) lawful.second first.1.0;
        scalar = scalar_read s (at + expression_scalar_offset) (expression_scalar x) scalar.0.0 lawful.scalar scalar.0.1;
      }

  pub expression_read : expression_at s at ≡ x
  unfolding expression_at
  expression_read =
      let r = fields_read in
      (λ i. expression_of (r.kind i) (r.op i) (r.first i) (r.second i) (r.scalar i)) ∙ expression_back x

  -- as expression i, behind runs that end at `run`
  pub expression_accepted : (run i : ℕ) → first_field_refusal (kind_number x) i run (expression_first x) ≡ 0 → second_field_refusal (kind_number x) i (expression_second x) ≡ 0 → expression_refusal s run i at ≡ 0
  unfolding expression_refusal
  expression_accepted run i f g =
      let r = fields_read in
      let scalar = (stands expression_fields (sizes LawfulFields expression_fields expression_fields_law) x s t at 0 e).1.1.1.1 in
      record_accepted expression_fields (sizes LawfulFields expression_fields expression_fields_law) (record { kind = byte_at s at; run = run; i = i }) x s t at e
      (ap (λ (n : ℕ). ask (leb n 6) 6) r.kind ∙ kind_kept x
      and (λ j. ask (leb (r.op j) (last_op (r.kind j))) 6) ∙ op_kept x
      and (λ j. first_field_refusal (r.kind j) i run (r.first j)) ∙ f
      and (λ j. second_field_refusal (r.kind j) i (r.second j)) ∙ g
      and ap (λ (n : ℕ). literal_refusal n s (at + expression_scalar_offset)) r.kind ∙ literal_kept x s scalar.0.0 (at + expression_scalar_offset) lawful.scalar scalar.0.1
      and tt)

-- ---- written as it stood

unary_number_law : (n : ℕ) → n ≤ 3 → unary_number (unary_op n) ≡ n
unary_number_law zero h = refl
unary_number_law (suc zero) h = refl
unary_number_law (suc (suc zero)) h = refl
unary_number_law (suc (suc (suc zero))) h = refl
unary_number_law (suc (suc (suc (suc n)))) h = absurd (omega arith)

binary_number_law : (n : ℕ) → n ≤ 10 → binary_number (binary_op n) ≡ n
binary_number_law zero h = refl
binary_number_law (suc zero) h = refl
binary_number_law (suc (suc zero)) h = refl
binary_number_law (suc (suc (suc zero))) h = refl
binary_number_law (suc (suc (suc (suc zero)))) h = refl
binary_number_law (suc (suc (suc (suc (suc zero))))) h = refl
binary_number_law (suc (suc (suc (suc (suc (suc zero)))))) h = refl
binary_number_law (suc (suc (suc (suc (suc (suc (suc zero))))))) h = refl
binary_number_law (suc (suc (suc (suc (suc (suc (suc (suc zero)))))))) h = refl
binary_number_law (suc (suc (suc (suc (suc (suc (suc (suc (suc zero))))))))) h = refl
binary_number_law (suc (suc (suc (suc (suc (suc (suc (suc (suc (suc zero)))))))))) h = refl
binary_number_law (suc (suc (suc (suc (suc (suc (suc (suc (suc (suc (suc n))))))))))) h = absurd (omega arith)

nary_number_law : (n : ℕ) → n ≤ 1 → nary_number (nary_op n) ≡ n
nary_number_law zero h = refl
nary_number_law (suc zero) h = refl
nary_number_law (suc (suc n)) h = absurd (omega arith)

none_there : (n : ℕ) → n ≤ 0 → 0 ≡ n
none_there n h = omega arith

zero_kept : (n : ℕ) → ask (eqb n 0) 6 ≡ 0 → 0 ≡ n
zero_kept n e = sym (eqb-true n 0 (ask_kept (eqb n 0) 6 (omega arith) e))

-- of fields that keep their rules: what is read has them
record Back (k o a b : ℕ) (x : Expression) : Type 0 where
  kind : kind_number x ≡ k
  op : expression_op x ≡ o
  first : expression_first x ≡ a
  second : expression_second x ≡ b

fields_back : (k o a b i run : ℕ) (v : Scalar) → k ≤ 6 → o ≤ last_op k → first_field_refusal k i run a ≡ 0 → second_field_refusal k i b ≡ 0 → Back k o a b (expression_of k o a b v)
unfolding last_op first_field_refusal second_field_refusal
fields_back zero o a b i run v h l f g = record { kind = refl; op = none_there o l; first = zero_kept a f; second = zero_kept b g }
fields_back (suc zero) o a b i run v h l f g = record { kind = refl; op = none_there o l; first = refl; second = zero_kept b g }
fields_back (suc (suc zero)) o a b i run v h l f g = record { kind = refl; op = unary_number_law o l; first = refl; second = zero_kept b g }
fields_back (suc (suc (suc zero))) o a b i run v h l f g = record { kind = refl; op = binary_number_law o l; first = refl; second = refl }
fields_back (suc (suc (suc (suc zero)))) o a b i run v h l f g = record { kind = refl; op = nary_number_law o l; first = refl; second = refl }
fields_back (suc (suc (suc (suc (suc zero))))) o a b i run v h l f g = record { kind = refl; op = none_there o l; first = zero_kept a f; second = zero_kept b g }
fields_back (suc (suc (suc (suc (suc (suc zero)))))) o a b i run v h l f g = record { kind = refl; op = none_there o l; first = zero_kept a f; second = zero_kept b g }
fields_back (suc (suc (suc (suc (suc (suc (suc k))))))) o a b i run v h l f g = absurd (omega arith)

-- a literal's scalar is there
given_at : (s : List ℕ) (at : ℕ) → scalar_refusal AtLiteral s at ≡ 0 → bound_at s at ≡ Some (scalar_at s at)
unfolding bound_at place_allows
given_at s at e = go (eqb (byte_at s at) 255) (accepted_allowed AtLiteral s at e)
  where
    go : (b : Bool) → place_allows AtLiteral (cond b None (Some (scalar_at s at))) ≡ true → cond b None (Some (scalar_at s at)) ≡ Some (scalar_at s at)
    go true h = absurd (false≢true h)
    go false h = refl

module _ (s : List ℕ) (at : ℕ) (bytes : Bytes s) (room : at + scalar_size ≤ length s) where
  scalar_written_law : scalar_refusal AtLiteral s at ≡ 0 → bound_bytes (Some (scalar_at s at)) ≡ take scalar_size (drop at s)
  scalar_written_law e = ap bound_bytes (sym (given_at s at e)) ∙ written_back AtLiteral s at bytes room e

  zeros_written : ask (zeros_at scalar_size s at) 6 ≡ 0 → bound_bytes (Some Null) ≡ take scalar_size (drop at s)
  zeros_written e = null_bytes ∙ ap (field_bytes scalar_size) (zero_kept (field_at scalar_size s at) e) ∙ bytes_back scalar_size s at bytes room

  literal_written : (k o a b : ℕ) → k ≤ 6 → literal_refusal k s at ≡ 0 → bound_bytes (Some (expression_scalar (expression_of k o a b (scalar_at s at)))) ≡ take scalar_size (drop at s)
  unfolding literal_refusal
  literal_written zero o a b h e = scalar_written_law e
  literal_written (suc zero) o a b h e = zeros_written e
  literal_written (suc (suc zero)) o a b h e = zeros_written e
  literal_written (suc (suc (suc zero))) o a b h e = zeros_written e
  literal_written (suc (suc (suc (suc zero)))) o a b h e = zeros_written e
  literal_written (suc (suc (suc (suc (suc zero))))) o a b h e = zeros_written e
  literal_written (suc (suc (suc (suc (suc (suc zero)))))) o a b h e = zeros_written e
  literal_written (suc (suc (suc (suc (suc (suc (suc k))))))) o a b h e = absurd (omega arith)

pub expression_written : (s : List ℕ) (run i at : ℕ) → Bytes s → expression_refusal s run i at ≡ 0 → bytes_of expression_fields (expression_at s at) ≡ take expression_size (drop at s)
unfolding expression_refusal expression_at
expression_written s run i at b e =
    let k : ℕ = byte_at s at in
    let o : ℕ = byte_at s (at + expression_op_offset) in
    let first : ℕ = u16_at s (at + expression_first_offset) in
    let second : ℕ = u16_at s (at + expression_second_offset) in
    let room : at + expression_size ≤ length s = record_room expression_fields (record { kind = byte_at s at; run = run; i = i }) s at (omega arith) e in
    let kept = record_kept expression_fields (record { kind = byte_at s at; run = run; i = i }) s at e in
    let known : byte_at s at ≤ 6 = leb-true (byte_at s at) 6 (ask_kept (leb (byte_at s at) 6) 6 (omega arith) kept.0) in
    let last = leb-true o (last_op k) (ask_kept (leb o (last_op k)) 6 (omega arith) kept.1.0) in
    let fields = kept.1.1 in
    let f = fields_back k o first second i run (scalar_at s (at + expression_scalar_offset)) known last fields.0 fields.1.0 in
    written expression_fields (expression_at s at) s at 0
    (byte_back _ s at f.kind (omega arith)
    and byte_back _ s (at + expression_op_offset) f.op (omega arith)
    and ap (field_bytes number_size) f.first ∙ bytes_back number_size s (at + expression_first_offset) b (omega arith)
    and ap (field_bytes number_size) f.second ∙ bytes_back number_size s (at + expression_second_offset) b (omega arith)
    and literal_written s (at + expression_scalar_offset) b (omega arith) k o first second known fields.1.1.0
    and tt)
