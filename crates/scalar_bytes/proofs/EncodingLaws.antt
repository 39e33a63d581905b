-- Laws of a scalar's 19 bytes: they are 19, what a sheet may hold is written, accepted and read back, and what is accepted is written as it stood. Assumes nothing.
use Prim.Native.Nat.{ℕ, zero, suc, ◌+◌, ◌-◌, ◌*◌, ◌/◌, ◌^◌, ◌≤◌, ◌<◌}
use mathlib.Core.Path.{◌≡◌, refl, sym, ap, ◌∙◌, subst}
use mathlib.Core.Logic.{◌↔◌}
use mathlib.Core.Bool.{Bool, true, false, not, cond, ◌&&◌, false≢true}
use mathlib.Core.List.{List, [], ◌∷◌, ◌++◌}
use native.Mathlib.Omega.{arith}
use native.Mathlib.Nat.{add-zero, mod-eq_of_lt}
use borrow.Author.Tests.{ltb-true, lt-ltb, leb-true, eqb-true, eq-eqb}
use lib.Dec.{T, eqb, ltb, leb, lit<}
use lib.IntN.{ℤ}
use lib.ListN.{length, take, drop}
use lib.Signed.{mag}
use lib.Ieee.{Float, nan, inf, fin, binary64, fits, le, neg, is_nan, to_bits}
use lib.Ieee.Bits.{is_true, of_bits-to_bits, to_bits-lt, to_bits-of_bits, of_bits-fits}
use Rattle.float.specs.Integers.{bit}
use Rattle.le.specs.Fields.{byte_at, field_at, field_bytes}
use Rattle.signed.specs.Signed.{signed, unsigned}
use Rattle.le.specs.Integers.{i64_at}
use Rattle.le.specs.Floats.{f64_at}
use Rattle.le.proofs.FieldLaws.{Bytes, FieldsAt, FieldsFit, widths, fields_bytes, field_below, field_split, u8_sum, fields_length, fields_found, fields_back}
use Rattle.signed.proofs.SignedLaws.{unsigned_below, unsigned_back, signed_in, signed_back}
use Rattle.rules.specs.Rules.{ask}
use Rattle.rules.proofs.RuleLaws.{ask_kept, else_first, else_second}
use Rattle.layout.specs.Places.{scalar_value_offset, scalar_value_size}
use Rattle.scalar_bytes.proofs.WritingLaws.{extension_below, extended, value_bytes}
use Rattle.scalar_bytes.proofs.FloatLaws.{lawful_bits}
use Rattle.scalar_bytes.specs.Reading.{Refused, Lawful, tag_allowed, float64_lawful, sign_extended, decimal_lawful, value_refusal, value_size, zeros_behind, scalar_refusal, bound_at, read_scalar}
use Rattle.scalar_bytes.specs.Encoding.{encoded_bytes, extension, scalar_bytes, bound_bytes, in32, in64, lawful_scalar, lawful_bound, place_allows}
use Rattle.scalar.specs.declared.Scalar.{Scalar}
use Rattle.scalar.specs.declared.Scalar.TheVariants.{Null, Boolean, Int32, Int64, Float64, Decimal128, Date32, IntervalMonthDayNano, IntervalDayTime}
use Rattle.std.specs.Prelude.{Option, Some, None}
use Rattle.scalar_bytes.specs.declared.reads.ScalarPlace.{ScalarPlace}
use Rattle.scalar_bytes.specs.declared.reads.ScalarPlace.TheVariants.{Bound as AtBound}

-- ---- the length

pub scalar_length : (x : Scalar) → length (scalar_bytes x) ≡ 19
unfolding encoded_bytes field_bytes
scalar_length Null = refl
scalar_length (Boolean b) = refl
scalar_length (Int32 x) = refl
scalar_length (Int64 x) = refl
scalar_length (Float64 x) = refl
scalar_length (Decimal128 value precision scale) = refl
scalar_length (Date32 x) = refl
scalar_length (IntervalMonthDayNano months days nanoseconds) = refl
scalar_length (IntervalDayTime days milliseconds) = refl

pub bound_length : (b : Option Scalar) → length (bound_bytes b) ≡ 19
unfolding bound_bytes
bound_length None = refl
bound_length (Some x) = scalar_length x

-- ---- the fields, each a width and a number

abbrev scalar_fields : Scalar → List (ℕ × ℕ)
scalar_fields Null = (1, 0) ∷ (18, 0) ∷ []
scalar_fields (Boolean b) = (1, 1) ∷ (1, bit b) ∷ (17, 0) ∷ []
scalar_fields (Int32 x) = (1, 2) ∷ (4, unsigned 4 x) ∷ (14, 0) ∷ []
scalar_fields (Int64 x) = (1, 3) ∷ (8, unsigned 8 x) ∷ (10, 0) ∷ []
scalar_fields (Float64 x) = (1, 4) ∷ (8, to_bits binary64 x) ∷ (10, 0) ∷ []
scalar_fields (Decimal128 value precision scale) = (1, 5) ∷ (1, precision) ∷ (1, scale) ∷ (8, unsigned 8 value) ∷ (8, extension value) ∷ []
scalar_fields (Date32 x) = (1, 6) ∷ (4, unsigned 4 x) ∷ (14, 0) ∷ []
scalar_fields (IntervalMonthDayNano months days nanoseconds) = (1, 8) ∷ (4, unsigned 4 months) ∷ (4, unsigned 4 days) ∷ (8, unsigned 8 nanoseconds) ∷ (2, 0) ∷ []
scalar_fields (IntervalDayTime days milliseconds) = (1, 9) ∷ (4, unsigned 4 days) ∷ (4, unsigned 4 milliseconds) ∷ (10, 0) ∷ []

abbrev bound_fields : Option Scalar → List (ℕ × ℕ)
bound_fields None = (1, 255) ∷ (18, 0) ∷ []
bound_fields (Some x) = scalar_fields x

-- ---- what the tests say

both_true : (a b : Bool) → (a && b) ≡ true → (a ≡ true) × (b ≡ true)
both_true true b e = (refl, e)
both_true false b e = absurd (false≢true e)

-- in32 and in64 are this test at 4 and 8 bytes
abbrev in_signed : ℕ → ℤ → Bool
in_signed n x = ltb (mag x) (256 ^ n / 2)

below : (n : ℕ) (x : ℤ) → in_signed n x ≡ true → unsigned n x < 256 ^ n
below n x h = unsigned_below n x (ltb-true (mag x) (256 ^ n / 2) h)

in64_is : (x : ℤ) → in64 x ≡ true → mag x < 2 ^ 63
in64_is x h = ltb-true (mag x) (2 ^ 63) h

back : (n : ℕ) (x : ℤ) → in_signed (suc n) x ≡ true → signed (suc n) (unsigned (suc n) x) ≡ x
back n x h = signed_back n x (ltb-true (mag x) (256 ^ suc n / 2) h)

fits_true : (x : Float) → (fits binary64 x && float64_lawful x) ≡ true → T (fits binary64 x)
fits_true x h = subst T (sym (both_true (fits binary64 x) (float64_lawful x) h).0) tt

decimal_parts : (x : ℤ) (p s : ℕ) → (in64 x && ((leb 1 p && leb p 38) && leb s 22)) ≡ true → (in64 x ≡ true) × (leb 1 p ≡ true) × (leb p 38 ≡ true) × (leb s 22 ≡ true)
decimal_parts x p s h =
    let a = both_true (in64 x) _ h in
    let b = both_true (leb 1 p && leb p 38) (leb s 22) a.1 in
    let c = both_true (leb 1 p) (leb p 38) b.0 in
    (a.0, c.0, c.1, b.1)

-- ---- the bytes of what is lawful are its fields

record Written (b : Option Scalar) : Type 0 where
  bytes : bound_bytes b ≡ fields_bytes (bound_fields b)
  fit : FieldsFit (bound_fields b)

written : (b : Option Scalar) → lawful_bound b ≡ true → Written b
unfolding bound_bytes encoded_bytes field_bytes lawful_bound
written None h = record { bytes = refl; fit = (lit< tt, (lit< tt, tt)) }
written (Some Null) h = record { bytes = refl; fit = (lit< tt, (lit< tt, tt)) }
written (Some (Boolean true)) h = record { bytes = refl; fit = (lit< tt, (lit< tt, (lit< tt, tt))) }
written (Some (Boolean false)) h = record { bytes = refl; fit = (lit< tt, (lit< tt, (lit< tt, tt))) }
written (Some (Int32 x)) h = record { bytes = refl; fit = (lit< tt, (below 4 x h, (lit< tt, tt))) }
written (Some (Int64 x)) h = record { bytes = refl; fit = (lit< tt, (below 8 x h, (lit< tt, tt))) }
written (Some (Float64 x)) h =
    let a = both_true (fits binary64 x) (float64_lawful x) h in
    record { bytes = rw (lawful_bits x a.1) refl; fit = (lit< tt, (to_bits-lt binary64 x (fits_true x h), (lit< tt, tt))) }
written (Some (Decimal128 value precision scale)) h =
    let a = decimal_parts value precision scale h in
    let p : precision ≤ 38 = leb-true precision 38 a.2 in
    let q : scale ≤ 22 = leb-true scale 22 a.3 in
    let u : precision < 256 = omega arith in
    let v : scale < 256 = omega arith in
    record {
      bytes = rw (value_bytes value (in64_is value a.0), mod-eq_of_lt u, mod-eq_of_lt v) refl;
      fit = (lit< tt, (u, (v, (below 8 value a.0, (extension_below value, tt)))));
    }
written (Some (Date32 x)) h = record { bytes = refl; fit = (lit< tt, (below 4 x h, (lit< tt, tt))) }
written (Some (IntervalMonthDayNano months days nanoseconds)) h =
    let a = both_true (in32 months) _ h in
    let b = both_true (in32 days) (in64 nanoseconds) a.1 in
    record { bytes = refl; fit = (lit< tt, (below 4 months a.0, (below 4 days b.0, (below 8 nanoseconds b.1, (lit< tt, tt))))) }
written (Some (IntervalDayTime days milliseconds)) h =
    let a = both_true (in32 days) (in32 milliseconds) h in
    record { bytes = refl; fit = (lit< tt, (below 4 days a.0, (below 4 milliseconds a.1, (lit< tt, tt)))) }

-- ---- where its fields stand, a lawful bound is read

byte_is : (s : List ℕ) (at v : ℕ) → field_at 1 s at ≡ v → byte_at s at ≡ v
byte_is s at v e = sym (u8_sum s at) ∙ e

tag_is : (s : List ℕ) (at tag : ℕ) → field_at 1 s (at + 0) ≡ tag → byte_at s at ≡ tag
tag_is s at tag e = ap (byte_at s) (sym (add-zero at)) ∙ byte_is s (at + 0) tag e

-- the decimal's test with its places counted from the tag
decimal_test : (s : List ℕ) (at : ℕ) → decimal_lawful s (at + 1) ≡ ((leb 1 (byte_at s (at + 1)) && leb (byte_at s (at + 1)) 38) && (leb (byte_at s (at + 2)) 22 && sign_extended s (at + 3)))
decimal_test s at =
    let a : at + 1 + 1 ≡ at + 2 = omega arith in
    let b : at + 1 + 2 ≡ at + 3 = omega arith in
    λ i. (leb 1 (byte_at s (at + 1)) && leb (byte_at s (at + 1)) 38) && (leb (byte_at s (a i)) 22 && sign_extended s (b i))

value_split : (s : List ℕ) (at : ℕ) → field_at 16 s (at + 3) ≡ field_at 8 s (at + 3) + field_at 8 s (at + 11) * 256 ^ 8
value_split s at = let a : at + 3 + 8 ≡ at + 11 = omega arith in field_split 8 8 s (at + 3) ∙ ap (λ (k : ℕ). field_at 8 s (at + 3) + field_at 8 s k * 256 ^ 8) a

value_extended : (x : ℤ) (s : List ℕ) (at : ℕ) → in64 x ≡ true → field_at 8 s (at + 3) ≡ unsigned 8 x → field_at 8 s (at + 11) ≡ extension x → sign_extended s (at + 3) ≡ true
unfolding sign_extended
value_extended x s at h e f =
    let q : field_at 16 s (at + 3) ≡ unsigned 16 x = value_split s at ∙ (λ i. e i + f i * 256 ^ 8) ∙ sym (extended x (in64_is x h)) in
    let v : i64_at s (at + 3) ≡ x = ap (signed 8) e ∙ back 7 x h in
    eq-eqb (field_at 16 s (at + 3)) (unsigned 16 (i64_at s (at + 3))) (q ∙ sym (ap (unsigned 16) v))

read_fields : (place : ScalarPlace) (b : Option Scalar) (s : List ℕ) (at : ℕ) → lawful_bound b ≡ true → place_allows place b ≡ true → FieldsAt (bound_fields b) s at 0 → read_scalar place s at ≡ Lawful b
unfolding read_scalar lawful_bound place_allows
read_fields place None s at h p f = rw (tag_is s at 255 f.0, p, f.1.0) refl
read_fields place (Some Null) s at h p f = rw (tag_is s at 0 f.0, p, f.1.0) refl
read_fields place (Some (Boolean true)) s at h p f = rw (tag_is s at 1 f.0, byte_is s (at + 1) 1 f.1.0, f.1.1.0) refl
read_fields place (Some (Boolean false)) s at h p f = rw (tag_is s at 1 f.0, byte_is s (at + 1) 0 f.1.0, f.1.1.0) refl
read_fields place (Some (Int32 x)) s at h p f = rw (tag_is s at 2 f.0, f.1.0, f.1.1.0, back 3 x h) refl
read_fields place (Some (Int64 x)) s at h p f = rw (tag_is s at 3 f.0, f.1.0, f.1.1.0, back 7 x h) refl
read_fields place (Some (Float64 x)) s at h p f =
    let a = both_true (fits binary64 x) (float64_lawful x) h in
    rw (tag_is s at 4 f.0, f.1.0, f.1.1.0, of_bits-to_bits binary64 x (fits_true x h), a.1) refl
read_fields place (Some (Decimal128 value precision scale)) s at h p f =
    let a = decimal_parts value precision scale h in
    let k : byte_at s (at + 1) ≡ precision = byte_is s (at + 1) precision f.1.0 in
    let l : byte_at s (at + 2) ≡ scale = byte_is s (at + 2) scale f.1.1.0 in
    let d : decimal_lawful s (at + 1) ≡ true = decimal_test s at ∙ rw (k, l, value_extended value s at a.0 f.1.1.1.0 f.1.1.1.1.0, a.1, a.2, a.3) refl in
    rw (tag_is s at 5 f.0, d, k, l, f.1.1.1.0, back 7 value a.0) refl
read_fields place (Some (Date32 x)) s at h p f = rw (tag_is s at 6 f.0, f.1.0, f.1.1.0, back 3 x h) refl
read_fields place (Some (IntervalMonthDayNano months days nanoseconds)) s at h p f =
    let a = both_true (in32 months) _ h in
    let b = both_true (in32 days) (in64 nanoseconds) a.1 in
    rw (tag_is s at 8 f.0, f.1.0, f.1.1.0, f.1.1.1.0, f.1.1.1.1.0, back 3 months a.0, back 3 days b.0, back 7 nanoseconds b.1) refl
read_fields place (Some (IntervalDayTime days milliseconds)) s at h p f =
    let a = both_true (in32 days) (in32 milliseconds) h in
    rw (tag_is s at 9 f.0, f.1.0, f.1.1.0, f.1.1.1.0, back 3 days a.0, back 3 milliseconds a.1) refl

-- ---- what is accepted

bit_of : (v : ℕ) → v ≤ 1 → v ≡ bit (eqb v 1)
bit_of zero h = refl
bit_of (suc zero) h = refl
bit_of (suc (suc v)) h = absurd (no h)
  where
    no : suc (suc v) ≤ 1 → ⊥
    no h = omega arith

no_nan : (x : Float) → float64_lawful x ≡ true → T (not (is_nan x))
unfolding is_nan le neg
no_nan nan h = absurd (false≢true h)
no_nan (inf s) h = tt
no_nan (fin s m e) h = tt

pick : {P : Type 0} (t : Bool) (x y : ℕ) → (t ≡ true → x ≡ 0 → P) → (y ≡ 0 → P) → cond t x y ≡ 0 → P
pick true x y f g e = f refl e
pick false x y f g e = g e

-- what the bytes keep that are accepted as b
record Accepted (place : ScalarPlace) (s : List ℕ) (at : ℕ) (b : Option Scalar) : Type 0 where
  allowed : place_allows place b ≡ true
  lawful : Bytes s → lawful_bound b ≡ true
  fields : Bytes s → FieldsAt (bound_fields b) s at 0

module _ (place : ScalarPlace) (s : List ℕ) (at : ℕ) where
  tag_field : (tag : ℕ) → eqb (byte_at s at) tag ≡ true → field_at 1 s (at + 0) ≡ tag
  tag_field tag t = u8_sum s (at + 0) ∙ ap (byte_at s) (add-zero at) ∙ eqb-true (byte_at s at) tag t

  kept : (t : Bool) → ask t 5 ≡ 0 → t ≡ true
  kept t = ask_kept t 5 (omega arith)

  signed_field : (n k : ℕ) → Bytes s → field_at n s k ≡ unsigned n (signed n (field_at n s k))
  signed_field n k b = sym (unsigned_back n (field_at n s k) (field_below n s k b))

  held : (n k : ℕ) → Bytes s → in_signed (suc n) (signed (suc n) (field_at (suc n) s k)) ≡ true
  held n k b = let v = field_at (suc n) s k in lt-ltb (mag (signed (suc n) v)) (256 ^ suc n / 2) (signed_in n v (field_below (suc n) s k b))

  float_field : Bytes s → float64_lawful (f64_at s (at + 1)) ≡ true → field_at 8 s (at + 1) ≡ to_bits binary64 (f64_at s (at + 1))
  float_field b e = sym (to_bits-of_bits binary64 (field_at 8 s (at + 1)) (field_below 8 s (at + 1) b) (no_nan (f64_at s (at + 1)) e))

  extension_field : Bytes s → sign_extended s (at + 3) ≡ true → field_at 8 s (at + 11) ≡ extension (i64_at s (at + 3))
  unfolding sign_extended
  extension_field b t =
      let e : field_at 16 s (at + 3) ≡ unsigned 16 (i64_at s (at + 3)) = eqb-true (field_at 16 s (at + 3)) (unsigned 16 (i64_at s (at + 3))) t in
      let x = extended (i64_at s (at + 3)) (in64_is (i64_at s (at + 3)) (held 7 (at + 3) b)) in
      let u = signed_field 8 (at + 3) b in
      let v = value_split s at in
      omega arith

  module _ (refusal : scalar_refusal place s at ≡ 0) where
    -- under a tag: it may stand at the place, and zeros stand behind the value
    allowed_as : (tag : ℕ) → eqb (byte_at s at) tag ≡ true → tag_allowed place tag ≡ true
    unfolding scalar_refusal
    allowed_as tag t = subst (λ (k : ℕ). tag_allowed place k ≡ true) (eqb-true (byte_at s at) tag t) (kept (tag_allowed place (byte_at s at)) (else_first _ _ refusal))

    value_kept : value_refusal (byte_at s at) s (at + scalar_value_offset) ≡ 0
    unfolding scalar_refusal
    value_kept = else_first _ _ (else_second (ask (tag_allowed place (byte_at s at)) 5) _ refusal)

    zeros : (tag : ℕ) → eqb (byte_at s at) tag ≡ true → field_at (scalar_value_size - value_size tag) s (at + (scalar_value_offset + value_size tag)) ≡ 0
    unfolding scalar_refusal
    zeros tag t =
        let z = kept (zeros_behind (byte_at s at) s at) (else_second (value_refusal (byte_at s at) s (at + scalar_value_offset)) _ (else_second (ask (tag_allowed place (byte_at s at)) 5) _ refusal)) in
        eqb-true (field_at (scalar_value_size - value_size tag) s (at + (scalar_value_offset + value_size tag))) 0 (subst (λ (k : ℕ). zeros_behind k s at ≡ true) (eqb-true (byte_at s at) tag t) z)

  by_tag : scalar_refusal place s at ≡ 0 → value_refusal (byte_at s at) s (at + scalar_value_offset) ≡ 0 → Accepted place s at (bound_at s at)
  unfolding value_refusal value_size bound_at place_allows lawful_bound
  by_tag r =
      pick (eqb (byte_at s at) 0) _ _
      (λ t e. rw (eqb-true (byte_at s at) 0 t) record { allowed = allowed_as r 0 t; lawful = λ b. refl; fields = λ b. (tag_field 0 t, (zeros r 0 t, tt)) })
      (pick (eqb (byte_at s at) 1) _ _
      (λ t e.
      let v : field_at 1 s (at + 1) ≡ bit (eqb (byte_at s (at + 1)) 1) = u8_sum s (at + 1) ∙ bit_of (byte_at s (at + 1)) (leb-true (byte_at s (at + 1)) 1 (kept (leb (byte_at s (at + 1)) 1) e)) in
      rw (eqb-true (byte_at s at) 1 t) record { allowed = refl; lawful = λ b. refl; fields = λ b. (tag_field 1 t, (v, (zeros r 1 t, tt))) })
      (pick (eqb (byte_at s at) 2) _ _
      (λ t e. rw (eqb-true (byte_at s at) 2 t) record { allowed = refl; lawful = held 3 (at + 1); fields = λ b. (tag_field 2 t, (signed_field 4 (at + 1) b, (zeros r 2 t, tt))) })
      (pick (eqb (byte_at s at) 3) _ _
      (λ t e. rw (eqb-true (byte_at s at) 3 t) record { allowed = refl; lawful = held 7 (at + 1); fields = λ b. (tag_field 3 t, (signed_field 8 (at + 1) b, (zeros r 3 t, tt))) })
      (pick (eqb (byte_at s at) 4) _ _
      (λ t e.
      let a = kept (float64_lawful (f64_at s (at + 1))) e in
      rw (eqb-true (byte_at s at) 4 t)
      record {
        allowed = refl;
        lawful = λ b. rw (is_true (fits binary64 (f64_at s (at + 1))) (of_bits-fits binary64 (field_at 8 s (at + 1)))) a;
        fields = λ b. (tag_field 4 t, (float_field b a, (zeros r 4 t, tt)));
      })
      (pick (eqb (byte_at s at) 5) _ _
      (λ t e.
      let p = byte_at s (at + 1) in
      let q = byte_at s (at + 2) in
      let a = both_true (leb 1 p && leb p 38) _ (sym (decimal_test s at) ∙ kept (decimal_lawful s (at + 1)) e) in
      let c = both_true (leb q 22) (sign_extended s (at + 3)) a.1 in
      rw (eqb-true (byte_at s at) 5 t)
      record {
        allowed = refl;
        lawful = λ b. rw (held 7 (at + 3) b, a.0, c.0) refl;
        fields = λ b. (tag_field 5 t, (u8_sum s (at + 1), (u8_sum s (at + 2), (signed_field 8 (at + 3) b, (extension_field b c.1, tt)))));
      })
      (pick (eqb (byte_at s at) 6) _ _
      (λ t e. rw (eqb-true (byte_at s at) 6 t) record { allowed = refl; lawful = held 3 (at + 1); fields = λ b. (tag_field 6 t, (signed_field 4 (at + 1) b, (zeros r 6 t, tt))) })
      (pick (eqb (byte_at s at) 8) _ _
      (λ t e.
      rw (eqb-true (byte_at s at) 8 t)
      record {
        allowed = refl;
        lawful = λ b. rw (held 3 (at + 1) b, held 3 (at + 5) b, held 7 (at + 9) b) refl;
        fields = λ b. (tag_field 8 t, (signed_field 4 (at + 1) b, (signed_field 4 (at + 5) b, (signed_field 8 (at + 9) b, (zeros r 8 t, tt)))));
      })
      (pick (eqb (byte_at s at) 9) _ _
      (λ t e.
      rw (eqb-true (byte_at s at) 9 t)
      record {
        allowed = refl;
        lawful = λ b. rw (held 3 (at + 1) b, held 3 (at + 5) b) refl;
        fields = λ b. (tag_field 9 t, (signed_field 4 (at + 1) b, (signed_field 4 (at + 5) b, (zeros r 9 t, tt))));
      })
      (pick (eqb (byte_at s at) 255) _ _
      (λ t e. rw (eqb-true (byte_at s at) 255 t) record { allowed = allowed_as r 255 t; lawful = λ b. refl; fields = λ b. (tag_field 255 t, (zeros r 255 t, tt)) })
      (λ e. absurd (none e)))))))))))
    where
      none : ◌≡◌ {A = ℕ} 5 0 → ⊥
      none e = omega arith

  accepted : scalar_refusal place s at ≡ 0 → Accepted place s at (bound_at s at)
  accepted r = by_tag r (value_kept r)

-- what was read was accepted
read_accepts : (place : ScalarPlace) (s : List ℕ) (at : ℕ) (b : Option Scalar) → read_scalar place s at ≡ Lawful b → (scalar_refusal place s at ≡ 0) × (bound_at s at ≡ b)
unfolding read_scalar
read_accepts place s at b = go (eqb (scalar_refusal place s at) 0) (scalar_refusal place s at) (bound_at s at) (eqb-true (scalar_refusal place s at) 0)
  where
    go : (t : Bool) (n : ℕ) (x : Option Scalar) → (t ≡ true → n ≡ 0) → cond t (Lawful x) (Refused n) ≡ Lawful b → (n ≡ 0) × (x ≡ b)
    go true n x f e = (f refl, cc)
    go false n x f e = let z : ◌≡◌ {A = ℕ} 0 1 = cc in absurd (omega arith)

-- ---- the laws

pub accepted_allowed : (place : ScalarPlace) (s : List ℕ) (at : ℕ) → scalar_refusal place s at ≡ 0 → place_allows place (bound_at s at) ≡ true
accepted_allowed place s at e = (accepted place s at e).allowed

pub accepted_lawful : (place : ScalarPlace) (s : List ℕ) (at : ℕ) → Bytes s → scalar_refusal place s at ≡ 0 → lawful_bound (bound_at s at) ≡ true
accepted_lawful place s at k e = (accepted place s at e).lawful k

-- an accepted scalar is written as it stood
pub written_back : (place : ScalarPlace) (s : List ℕ) (at : ℕ) → Bytes s → at + 19 ≤ length s → scalar_refusal place s at ≡ 0 → bound_bytes (bound_at s at) ≡ take 19 (drop at s)
written_back place s at k h e =
    let b : Option Scalar = bound_at s at in
    let w = written b (accepted_lawful place s at k e) in
    let n : widths (bound_fields b) ≡ 19 = sym (fields_length (bound_fields b)) ∙ ap length (sym w.bytes) ∙ bound_length b in
    let m : at + 0 + widths (bound_fields b) ≤ length s = omega arith in
    w.bytes ∙ fields_back (bound_fields b) s at 0 k m ((accepted place s at e).fields k) ∙ λ i. take (n i) (drop (add-zero at i) s)

pub reads_lawful : (place : ScalarPlace) (b : Option Scalar) (t : List ℕ) → lawful_bound b ≡ true → place_allows place b ≡ true → read_scalar place (bound_bytes b ++ t) 0 ≡ Lawful b
reads_lawful place b t h p =
    let w = written b h in
    read_fields place b (bound_bytes b ++ t) 0 h p (fields_found (bound_fields b) (bound_bytes b ++ t) t 0 0 w.fit (ap (λ (l : List ℕ). l ++ t) w.bytes))

pub reads_back : (place : ScalarPlace) (s : List ℕ) (at : ℕ) (b : Option Scalar) → Bytes s → at + 19 ≤ length s → read_scalar place s at ≡ Lawful b → bound_bytes b ≡ take 19 (drop at s)
reads_back place s at b k h e = let a = read_accepts place s at b e in ap bound_bytes (sym a.1) ∙ written_back place s at k h a.0

-- every lawful bound is accepted where the place allows it
pub read_accepted : (place : ScalarPlace) (b : Option Scalar) (t : List ℕ) → lawful_bound b ≡ true → place_allows place b ≡ true → scalar_refusal place (bound_bytes b ++ t) 0 ≡ 0
read_accepted place b t h p = (read_accepts place (bound_bytes b ++ t) 0 b (reads_lawful place b t h p)).0

pub bound_allows : (b : Option Scalar) → place_allows AtBound b ≡ true
unfolding place_allows
bound_allows None = refl
bound_allows (Some Null) = refl
bound_allows (Some _) = refl

pub read_back : (b : Option Scalar) (t : List ℕ) → lawful_bound b ≡ true → bound_at (bound_bytes b ++ t) 0 ≡ b
read_back b t h = (read_accepts AtBound (bound_bytes b ++ t) 0 b (reads_lawful AtBound b t h (bound_allows b))).1

-- lawful scalars are the same exactly where their bytes are
pub equal_bytes : (a b : Scalar) → lawful_scalar a ≡ true → lawful_scalar b ≡ true → (scalar_bytes a ≡ scalar_bytes b) ↔ (a ≡ b)
unfolding bound_bytes lawful_bound
equal_bytes a b h k = (
  λ e.
      let p : bound_at (scalar_bytes a ++ []) 0 ≡ Some a = read_back (Some a) [] h in
      let q : bound_at (scalar_bytes b ++ []) 0 ≡ Some b = read_back (Some b) [] k in
      cc,
  ap scalar_bytes,
)
