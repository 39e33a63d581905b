-- Two scalars that a sheet may hold are equal exactly where `scalar_order` calls them so; Null alone has no order. Assumes nothing.
use Rattle.std.proofs.Common.{◌≡◌, ℕ, zero, suc, ◌*◌, ◌<◌, Bool, true, false, T, eqb, ltb, ◌↔◌, ℤ, pos, sym, refl, ap, ◌∙◌, subst, lt_irrefl, zero-lt-suc, mul-pos, eq-eqb, eqb-true}
use mathlib.Core.Bool.{false≢true}
use lib.Ieee.{Float, nan, inf, fin, binary64, up, down, fits, eq, level}
use lib.Ieee.Fits.{up_pos, down_pos}
use Rattle.rules.proofs.RuleLaws.{both_first, both_second}
use Rattle.float.specs.Integers.{bit}
use Rattle.float.specs.Order.{ordinary}
use Rattle.float.proofs.RoundLaws.{value_unique}
use Rattle.scalar.specs.Types.{is_null}
use Rattle.std.specs.Prelude.{Option, Some, None, option_and_then}
use Rattle.std.specs.Ordering.{float_partial_cmp, partial_ordering_then}
use Rattle.std.specs.declared.cmp.Ordering.{Ordering}
use Rattle.std.specs.declared.cmp.Ordering.TheVariants.{Less, Equal, Greater}
use Rattle.std.specs.Cmp.{signed_Decides}
use Rattle.std.proofs.lemmas.Cmp.{tied_itself, int_cmp_total}
use Rattle.std.proofs.lemmas.Float.{floats_po}
use Rattle.scalar.specs.Order.{integer_order, month_day_nano_order, day_time_order, scalar_order, is_equal}
use Rattle.scalar.specs.declared.Scalar.{Scalar}
use Rattle.scalar.specs.declared.Scalar.TheVariants.{Null, Boolean, Int32, Int64, Float64, Decimal128, Date32, IntervalMonthDayNano, IntervalDayTime}
use Rattle.scalar.proofs.TypeLaws.{boolean_or_none, int32_or_none, int64_or_none, date32_or_none, float64_or_none, decimal128_or_none, month_day_nano_or_none, day_time_or_none}
use Rattle.scalar.proofs.OrderCases.{boolean_order, int32_order, int64_order, date32_order, float64_order, decimal_order, month_day_nano_order_law, day_time_order_law}
use Rattle.scalar_bytes.specs.Encoding.{lawful_scalar}
use Rattle.scalar_bytes.proofs.FloatLaws.{lawful_ordinary}

-- ---- whole numbers

pub integer_own : (x : ℤ) → integer_order x x ≡ Some Equal
integer_own x = ap Some (tied_itself int_cmp_total x)

pub integer_same : (a b : ℤ) → is_equal (integer_order a b) ≡ true → a ≡ b
integer_same a b = (signed_Decides a b).0

both_equal : (o p : Option Ordering) → is_equal (partial_ordering_then o p) ≡ true → (is_equal o ≡ true) × (is_equal p ≡ true)
both_equal None p h = absurd (false≢true h)
both_equal (Some Less) p h = absurd (false≢true h)
both_equal (Some Equal) p h = (refl, h)
both_equal (Some Greater) p h = absurd (false≢true h)

-- ---- floats

above_zero : (m u d : ℕ) → 0 < u → 0 < d → m * u * d ≡ 0 → m ≡ 0
above_zero zero u d hu hd h = refl
above_zero (suc m) u d hu hd h = absurd (lt_irrefl 0 (subst (λ (x : ℕ). 0 < x) h (mul-pos (mul-pos (zero-lt-suc m) hu) hd)))

-- -0 is not among them, so numbers that are equal have one sign
one_sign : (s t : Bool) (m n : ℕ) (e d : ℤ) → T (ordinary (fin s m e)) → T (ordinary (fin t n d))
    → level s (m * up e * down d) t (n * up d * down e) ≡ true → s ≡ t
one_sign true true m n e d o p h = refl
one_sign false false m n e d o p h = refl
one_sign true false m n e d o p h =
    let z : m ≡ 0 = above_zero m (up e) (down d) (up_pos e) (down_pos d) (eqb-true (m * up e * down d) 0 (both_second (eqb (m * up e * down d) (n * up d * down e)) _ h)) in
    absurd (subst (λ (k : ℕ). T (ltb 0 k)) z o)
one_sign false true m n e d o p h =
    let same = eqb-true (m * up e * down d) (n * up d * down e) (both_first (eqb (m * up e * down d) (n * up d * down e)) _ h) in
    let z : n ≡ 0 = above_zero n (up d) (down e) (up_pos d) (down_pos e) (sym same ∙ eqb-true (m * up e * down d) 0 (both_second (eqb (m * up e * down d) (n * up d * down e)) _ h)) in
    absurd (subst (λ (k : ℕ). T (ltb 0 k)) z p)

float_same : (x y : Float) → T (fits binary64 x) → T (fits binary64 y) → T (ordinary x) → T (ordinary y) → eq x y ≡ true → x ≡ y
unfolding eq
float_same nan y f g o p h = absurd o
float_same (inf s) nan f g o p h = absurd p
float_same (inf true) (inf true) f g o p h = refl
float_same (inf true) (inf false) f g o p h = absurd (false≢true h)
float_same (inf false) (inf true) f g o p h = absurd (false≢true h)
float_same (inf false) (inf false) f g o p h = refl
float_same (inf s) (fin t n d) f g o p h = absurd (false≢true h)
float_same (fin s m e) nan f g o p h = absurd p
float_same (fin s m e) (inf t) f g o p h = absurd (false≢true h)
float_same (fin s m e) (fin t n d) f g o p h =
    value_unique binary64 (fin s m e) (fin t n d) t (n * up d) (down d) (down_pos d) f g
    (one_sign s t m n e d o p h, eqb-true (m * up e * down d) (n * up d * down e) (both_first (eqb (m * up e * down d) (n * up d * down e)) _ h))
    (refl, refl)

own_equal : (x : Float) → T (ordinary x) → eq x x ≡ true
unfolding eq
own_equal nan o = absurd o
own_equal (inf true) o = refl
own_equal (inf false) o = refl
own_equal (fin true m e) o = rw (eq-eqb (m * up e * down e) (m * up e * down e) refl) refl
own_equal (fin false m e) o = rw (eq-eqb (m * up e * down e) (m * up e * down e) refl) refl

float_own : (x : Float) → T (ordinary x) → float_partial_cmp x x ≡ Some Equal
float_own x o = (floats_po.matches_eq x x).0 (own_equal x o)

equal_is : (o : Option Ordering) → is_equal o ≡ true → o ≡ Some Equal
equal_is None h = absurd (false≢true h)
equal_is (Some Less) h = absurd (false≢true h)
equal_is (Some Equal) h = refl
equal_is (Some Greater) h = absurd (false≢true h)

floats_equal : (x y : Float) → is_equal (float_partial_cmp x y) ≡ true → eq x y ≡ true
floats_equal x y h = (floats_po.matches_eq x y).1 (equal_is (float_partial_cmp x y) h)

-- ---- the law

float_held : (x : Float) → lawful_scalar (Float64 x) ≡ true → T (fits binary64 x) × T (ordinary x)
unfolding lawful_scalar
float_held x h = (subst T (sym (both_first (fits binary64 x) _ h)) tt, lawful_ordinary x (both_second (fits binary64 x) _ h))

bit_same : (a b : Bool) → pos (bit a) ≡ pos (bit b) → a ≡ b
bit_same true true e = refl
bit_same true false e = cc
bit_same false true e = cc
bit_same false false e = refl

ordered_same : (a b : Scalar) → lawful_scalar a ≡ true → lawful_scalar b ≡ true → is_equal (scalar_order a b) ≡ true → a ≡ b
unfolding scalar_order
ordered_same Null b la = λ lb h. absurd (false≢true h)
ordered_same (Boolean x) b la =
    boolean_or_none (λ b o. lawful_scalar b ≡ true → is_equal (option_and_then (integer_order (pos (bit x))) o) ≡ true → Boolean x ≡ b) (λ b lb h. absurd (false≢true h))
    (λ y lb h. ap Boolean (bit_same x y (integer_same (pos (bit x)) (pos (bit y)) h))) b
ordered_same (Int32 x) b la =
    int32_or_none (λ b o. lawful_scalar b ≡ true → is_equal (option_and_then (integer_order x) o) ≡ true → Int32 x ≡ b) (λ b lb h. absurd (false≢true h))
    (λ y lb h. ap Int32 (integer_same x y h)) b
ordered_same (Int64 x) b la =
    int64_or_none (λ b o. lawful_scalar b ≡ true → is_equal (option_and_then (integer_order x) o) ≡ true → Int64 x ≡ b) (λ b lb h. absurd (false≢true h))
    (λ y lb h. ap Int64 (integer_same x y h)) b
ordered_same (Float64 x) b la =
    float64_or_none (λ b o. lawful_scalar b ≡ true → is_equal (option_and_then (float_partial_cmp x) o) ≡ true → Float64 x ≡ b) (λ b lb h. absurd (false≢true h))
    (λ y lb h. let f = float_held x la in let g = float_held y lb in ap Float64 (float_same x y f.0 g.0 f.1 g.1 (floats_equal x y h))) b
ordered_same (Decimal128 x p s) b la =
    decimal128_or_none p s (λ b o. lawful_scalar b ≡ true → is_equal (option_and_then (integer_order x) o) ≡ true → Decimal128 x p s ≡ b) (λ b lb h. absurd (false≢true h))
    (λ y lb h. ap (λ (z : ℤ). Decimal128 z p s) (integer_same x y h)) b
ordered_same (Date32 x) b la =
    date32_or_none (λ b o. lawful_scalar b ≡ true → is_equal (option_and_then (integer_order x) o) ≡ true → Date32 x ≡ b) (λ b lb h. absurd (false≢true h))
    (λ y lb h. ap Date32 (integer_same x y h)) b
ordered_same (IntervalMonthDayNano m d n) b la =
    month_day_nano_or_none (λ b o. lawful_scalar b ≡ true → is_equal (option_and_then (month_day_nano_order (record { months = m; days = d; nanoseconds = n })) o) ≡ true → IntervalMonthDayNano m d n ≡ b) (λ b lb h. absurd (false≢true h))
    (λ m' d' n' lb h.
    let p = both_equal (partial_ordering_then (integer_order m m') (integer_order d d')) (integer_order n n') h in
    let q = both_equal (integer_order m m') (integer_order d d') p.0 in
    let x = integer_same m m' q.0 in
    let y = integer_same d d' q.1 in
    let z = integer_same n n' p.1 in
    λ i. IntervalMonthDayNano (x i) (y i) (z i)) b
ordered_same (IntervalDayTime d t) b la =
    day_time_or_none (λ b o. lawful_scalar b ≡ true → is_equal (option_and_then (day_time_order (record { days = d; milliseconds = t })) o) ≡ true → IntervalDayTime d t ≡ b) (λ b lb h. absurd (false≢true h))
    (λ d' t' lb h.
    let p = both_equal (integer_order d d') _ h in
    let x = integer_same d d' p.0 in
    let y = integer_same t t' p.1 in
    λ i. IntervalDayTime (x i) (y i)) b

own_order : (a : Scalar) → lawful_scalar a ≡ true → is_null a ≡ false → scalar_order a a ≡ Some Equal
own_order Null l n = absurd (false≢true (sym n))
own_order (Boolean x) l n = boolean_order x x ∙ integer_own (pos (bit x))
own_order (Int32 x) l n = int32_order x x ∙ integer_own x
own_order (Int64 x) l n = int64_order x x ∙ integer_own x
own_order (Float64 x) l n = float64_order x x ∙ float_own x (float_held x l).1
own_order (Decimal128 value precision scale) l n = decimal_order value value precision scale ∙ integer_own value
own_order (Date32 x) l n = date32_order x x ∙ integer_own x
own_order (IntervalMonthDayNano m d t) l n = month_day_nano_order_law m d t m d t ∙ rw (integer_own m, integer_own d, integer_own t) refl
own_order (IntervalDayTime d t) l n = day_time_order_law d t d t ∙ rw (integer_own d, integer_own t) refl

pub equal_law : (a b : Scalar) → lawful_scalar a ≡ true → lawful_scalar b ≡ true → is_null a ≡ false → (is_equal (scalar_order a b) ≡ true) ↔ (a ≡ b)
equal_law a b la lb n = (
  ordered_same a b la lb,
  λ e. ap (λ (x : Scalar). is_equal (scalar_order a x)) (sym e) ∙ ap is_equal (own_order a la n),
)
