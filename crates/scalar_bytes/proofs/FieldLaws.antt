-- What a sheet may hold as a scalar has an order, in which two are the same exactly where their bytes are. Assumes nothing.
use Prim.Native.Nat.{ℕ, zero, suc, ◌+◌, ◌-◌, ◌*◌, ◌^◌, ◌≤◌, ◌<◌}
use mathlib.Core.Path.{◌≡◌, refl, sym, ap, ◌∙◌, subst}
use mathlib.Core.Logic.{◌⊎◌, inl, inr}
use mathlib.Core.Bool.{Bool, true, false, cond, ◌&&◌, ◌||◌, false≢true}
use mathlib.Core.List.{List, [], ◌++◌}
use native.Mathlib.Omega.{arith}
use native.Mathlib.Nat.{mul-pos, zero-lt-suc, add-zero}
use lib.Dec.{T, ltb, leb, eqb}
use lib.ListN.{drop}
use lib.Seq.{get_or-drop}
use borrow.Author.Tests.{lt-ltb, le-ltb, ltb-true, ltb-false, eqb-false}
use lib.IntN.{ℤ, pos, negsuc}
use lib.Signed.{mag, lt_z}
use lib.Ieee.{Float, nan, inf, fin, binary64, of_bits, to_bits, lt, le, neg, fits, up, down}
use lib.Ieee.Bits.{of_bits-to_bits}
use lib.Ieee.Fits.{and_l, and_r, up_pos, down_pos}
use lib.Ieee.Positive as Positive
use lib.Ieee.Positive.{positive}
use Rattle.float.specs.Integers.{bit}
use Rattle.float.specs.Order.{f64_zero}
use Rattle.float.specs.Ranges.{plus_zero, between, zero_or_between}
use Rattle.float.proofs.RangeLaws.{plus_zero_is, plus_zero_bits}
use Rattle.signed.specs.Signed.{signed, unsigned}
use Rattle.le.specs.Fields.{byte_at, field_at}
use Rattle.le.proofs.FieldLaws.{field_drop}
use Rattle.rules.specs.Rules.{ask, or_else}
use Rattle.scalar.specs.declared.Scalar.{Scalar}
use Rattle.scalar.specs.declared.Scalar.TheVariants.{Null, Boolean, Int32, Int64, Float64, Decimal128, Date32, IntervalMonthDayNano, IntervalDayTime}
use Rattle.std.specs.Prelude.{Option, Some, None}
use Rattle.std.proofs.lemmas.Option.{none-some, same_Some}
use Rattle.layout.specs.Fields.{before, same, after, number_order, integer_order, float_order}
use Rattle.layout.specs.Lawful.{Ordered, LawfulField, Figure}
use Rattle.layout.proofs.OrderLaws.{keyed, then_ordered, same_equal, reverse_same}
use Rattle.layout.proofs.LayoutLaws.{both_same, part_ordered}
use Rattle.layout.proofs.FloatLaws.{positive_figure, zero_figure, lt_bits}
use Rattle.scalar_bytes.specs.Reading.{tag_allowed, float64_lawful, sign_extended, decimal_lawful, value_refusal, value_size, zeros_behind, scalar_refusal, scalar_at, bound_at}
use Rattle.scalar_bytes.specs.Encoding.{bound_bytes, in32, in64, lawful_scalar, lawful_bound, place_allows}
use Rattle.scalar_bytes.specs.declared.reads.ScalarPlace.{ScalarPlace}
use Rattle.scalar_bytes.specs.Fields.{Parts, bound_parts, bound_order, bound}
use Rattle.scalar_bytes.proofs.EncodingLaws.{bound_length, read_accepted, read_back}

same_ltb : (a b c d : ℕ) → (a < b → c < d) → (b ≤ a → d ≤ c) → ltb a b ≡ ltb c d
same_ltb a b c d f g = go (ltb a b) (ltb-true a b) (ltb-false a b)
  where
    go : (t : Bool) → (t ≡ true → a < b) → (t ≡ false → b ≤ a) → t ≡ ltb c d
    go true h k = sym (lt-ltb c d (f (h refl)))
    go false h k = sym (le-ltb c d (g (k refl)))

-- ---- whole numbers, lifted above zero

abbrev key_z : ℤ → ℕ
key_z (pos v) = 2 ^ 64 + v
key_z (negsuc v) = 2 ^ 64 - suc v

integer_key : (a b : ℤ) → mag a < 2 ^ 63 → mag b < 2 ^ 63 → lt_z a b ≡ ltb (key_z a) (key_z b)
integer_key (pos a) (pos b) h k = same_ltb a b (2 ^ 64 + a) (2 ^ 64 + b) (λ l. omega arith) (λ l. omega arith)
integer_key (pos a) (negsuc b) h k = sym (le-ltb (2 ^ 64 + a) (2 ^ 64 - suc b) (omega arith))
integer_key (negsuc a) (pos b) h k = sym (lt-ltb (2 ^ 64 - suc a) (2 ^ 64 + b) (omega arith))
integer_key (negsuc a) (negsuc b) h k = same_ltb b a (2 ^ 64 - suc a) (2 ^ 64 - suc b) (λ l. omega arith) (λ l. omega arith)

key_integer : (a b : ℤ) → mag a < 2 ^ 63 → mag b < 2 ^ 63 → key_z a ≡ key_z b → a ≡ b
key_integer (pos a) (pos b) h k e = let q : a ≡ b = omega arith in ap pos q
key_integer (pos a) (negsuc b) h k e = absurd (omega arith)
key_integer (negsuc a) (pos b) h k e = absurd (omega arith)
key_integer (negsuc a) (negsuc b) h k e = let q : a ≡ b = omega arith in ap negsuc q

-- ---- floats of either sign

data Sized (x : Float) : Type 0 where
  plus : (m : ℕ) (e : ℤ) → x ≡ fin false m e → Figure (fin false m e) → Sized x
  minus : (m : ℕ) (e : ℤ) → x ≡ fin true (suc m) e → Figure (fin false (suc m) e) → Sized x

abbrev key_f : Float → ℕ
key_f nan = 0
key_f (inf s) = 0
key_f (fin true m e) = 2 ^ 64 - to_bits binary64 (fin false m e)
key_f (fin false m e) = 2 ^ 64 + to_bits binary64 (fin false m e)

above : (m : ℕ) (e : ℤ) → Figure (fin false (suc m) e) → 0 < to_bits binary64 (fin false (suc m) e)
above m e f =
    let n : to_bits binary64 (fin false (suc m) e) ≡ 0 → ⊥ = eqb-false (to_bits binary64 (fin false (suc m) e)) 0 (plus_zero_bits (fin false (suc m) e) f.held) in
    go (to_bits binary64 (fin false (suc m) e)) n
  where
    go : (n : ℕ) → (n ≡ 0 → ⊥) → 0 < n
    go zero h = absurd (h refl)
    go (suc n) h = omega arith

plus_plus : (m : ℕ) (e : ℤ) (n : ℕ) (d : ℤ) → Figure (fin false m e) → Figure (fin false n d) → lt (fin false m e) (fin false n d) ≡ ltb (key_f (fin false m e)) (key_f (fin false n d))
plus_plus m e n d f g = lt_bits (fin false m e) (fin false n d) f g ∙ same_ltb (to_bits binary64 (fin false m e)) (to_bits binary64 (fin false n d)) (key_f (fin false m e)) (key_f (fin false n d)) (λ l. omega arith) (λ l. omega arith)

turned_lt : (m : ℕ) (e : ℤ) (n : ℕ) (d : ℤ) → lt (fin true m e) (fin true n d) ≡ lt (fin false n d) (fin false m e)
unfolding lt
turned_lt m e n d = refl

minus_minus : (m : ℕ) (e : ℤ) (n : ℕ) (d : ℤ) → Figure (fin false m e) → Figure (fin false n d) → lt (fin true m e) (fin true n d) ≡ ltb (key_f (fin true m e)) (key_f (fin true n d))
minus_minus m e n d f g =
    let a = f.bits in
    let b = g.bits in
    turned_lt m e n d ∙ lt_bits (fin false n d) (fin false m e) g f ∙ same_ltb (to_bits binary64 (fin false n d)) (to_bits binary64 (fin false m e)) (key_f (fin true m e)) (key_f (fin true n d)) (λ l. omega arith) (λ l. omega arith)

minus_lt : (m : ℕ) (e : ℤ) (n : ℕ) (d : ℤ) → lt (fin true (suc m) e) (fin false n d) ≡ true
unfolding lt
minus_lt m e n d =
    let p : 0 < suc m * up e * down d = mul-pos (mul-pos (zero-lt-suc m) (up_pos e)) (down_pos d) in
    lt-ltb 0 (suc m * up e * down d + n * up d * down e) (omega arith)

plus_lt : (m : ℕ) (e : ℤ) (n : ℕ) (d : ℤ) → lt (fin false m e) (fin true n d) ≡ false
unfolding lt
plus_lt m e n d = refl

float_key : (x y : Float) → Sized x → Sized y → lt x y ≡ ltb (key_f x) (key_f y)
float_key x y (plus m e p f) (plus n d q g) = rw (p, q) (plus_plus m e n d f g)
float_key x y (plus m e p f) (minus n d q g) =
    let a = above n d g in
    rw (p, q) (plus_lt m e (suc n) d ∙ sym (le-ltb (key_f (fin false m e)) (key_f (fin true (suc n) d)) (omega arith)))
float_key x y (minus m e p f) (plus n d q g) =
    let a = above m e f in
    rw (p, q) (minus_lt m e n d ∙ sym (lt-ltb (key_f (fin true (suc m) e)) (key_f (fin false n d)) (omega arith)))
float_key x y (minus m e p f) (minus n d q g) = rw (p, q) (minus_minus (suc m) e (suc n) d f g)

same_bits : (x y : Float) → Figure x → Figure y → to_bits binary64 x ≡ to_bits binary64 y → x ≡ y
same_bits x y f g e = sym (of_bits-to_bits binary64 x f.held) ∙ ap (of_bits binary64) e ∙ of_bits-to_bits binary64 y g.held

negated : (m : ℕ) (e : ℤ) → neg (fin false m e) ≡ fin true m e
unfolding neg
negated m e = refl

key_float : (x y : Float) → Sized x → Sized y → key_f x ≡ key_f y → x ≡ y
key_float x y (plus m e p f) (plus n d q g) k =
    let r : key_f (fin false m e) ≡ key_f (fin false n d) = ap key_f (sym p) ∙ k ∙ ap key_f q in
    p ∙ same_bits (fin false m e) (fin false n d) f g (omega arith) ∙ sym q
key_float x y (plus m e p f) (minus n d q g) k =
    let r : key_f (fin false m e) ≡ key_f (fin true (suc n) d) = ap key_f (sym p) ∙ k ∙ ap key_f q in
    let a = above n d g in
    absurd (omega arith)
key_float x y (minus m e p f) (plus n d q g) k =
    let r : key_f (fin true (suc m) e) ≡ key_f (fin false n d) = ap key_f (sym p) ∙ k ∙ ap key_f q in
    let a = above m e f in
    absurd (omega arith)
key_float x y (minus m e p f) (minus n d q g) k =
    let r : key_f (fin true (suc m) e) ≡ key_f (fin true (suc n) d) = ap key_f (sym p) ∙ k ∙ ap key_f q in
    let a = f.bits in
    let b = g.bits in
    p ∙ sym (negated (suc m) e) ∙ ap neg (same_bits (fin false (suc m) e) (fin false (suc n) d) f g (omega arith)) ∙ negated (suc n) d ∙ sym q

zero_sized : Sized f64_zero
zero_sized = plus 0 (pos 0) refl zero_figure

-- ---- what is lawful, by its parts

both_true : (a b : Bool) → (a && b) ≡ true → (a ≡ true) × (b ≡ true)
both_true true b e = (refl, e)
both_true false b e = absurd (false≢true e)

is_t : (b : Bool) → b ≡ true → T b
is_t b e = subst T (sym e) tt

or_split : (a b : Bool) → T (a || b) → T a ⊎ T b
or_split true b t = inl tt
or_split false b t = inr t

abbrev low : Float
low = fin false 1 (negsuc 399)

abbrev high : Float
high = fin false 1 (pos 400)

between_positive : (x : Float) → T (between low high x) → T (positive x)
between_positive x b = Positive.between low x high tt tt (and_l (le low x) (le x high) b) (and_r (le low x) (le x high) b)

fits_turned : (m : ℕ) (e : ℤ) → T (fits binary64 (fin true (suc m) e)) → T (fits binary64 (fin false (suc m) e))
unfolding fits
fits_turned m e h = h

positive_sized : (x : Float) → T (fits binary64 x) → T (positive x) → Sized x
positive_sized nan h p = absurd p
positive_sized (inf s) h p = absurd p
positive_sized (fin true m e) h p = absurd p
positive_sized (fin false m e) h p = plus m e refl (positive_figure (fin false m e) h p)

negative_sized : (x : Float) → T (fits binary64 x) → T (positive (neg x)) → Sized x
unfolding neg
negative_sized nan h p = absurd p
negative_sized (inf s) h p = absurd p
negative_sized (fin true zero e) h p = absurd p
negative_sized (fin true (suc m) e) h p = minus m e refl (positive_figure (fin false (suc m) e) (fits_turned m e h) p)
negative_sized (fin false m e) h p = absurd p

float_sized : (x : Float) → T (fits binary64 x) → T (float64_lawful x) → Sized x
float_sized x h l = elim (or_split (zero_or_between low high x) (between low high (neg x)) l) [
  | inl a ↦ elim (or_split (plus_zero x) (between low high x) a) [
    | inl z ↦ subst Sized (sym (plus_zero_is x h z)) zero_sized
    | inr b ↦ positive_sized x h (between_positive x b)
  ]
  | inr b ↦ negative_sized x h (between_positive (neg x) b)
]

record Held (p : Parts) : Type 0 where
  first : mag p.first < 2 ^ 63
  second : mag p.second < 2 ^ 63
  third : mag p.third < 2 ^ 63
  float : Sized p.float

none : 0 < 2 ^ 63
none = omega arith

wide : (x : ℤ) → in32 x ≡ true → mag x < 2 ^ 63
wide x h = let l = ltb-true (mag x) (2 ^ 31) h in omega arith

long : (x : ℤ) → in64 x ≡ true → mag x < 2 ^ 63
long x h = ltb-true (mag x) (2 ^ 63) h

bit_small : (t : Bool) → bit t < 2 ^ 63
bit_small true = omega arith
bit_small false = omega arith

held : (b : Option Scalar) → lawful_bound b ≡ true → Held (bound_parts b)
unfolding lawful_bound bound_parts
held None h = record { first = none; second = none; third = none; float = zero_sized }
held (Some Null) h = record { first = none; second = none; third = none; float = zero_sized }
held (Some (Boolean t)) h = record { first = bit_small t; second = none; third = none; float = zero_sized }
held (Some (Int32 x)) h = record { first = wide x h; second = none; third = none; float = zero_sized }
held (Some (Int64 x)) h = record { first = long x h; second = none; third = none; float = zero_sized }
held (Some (Float64 x)) h =
    let a = both_true (fits binary64 x) (float64_lawful x) h in
    record { first = none; second = none; third = none; float = float_sized x (is_t (fits binary64 x) a.0) (is_t (float64_lawful x) a.1) }
held (Some (Decimal128 value precision scale)) h = record { first = long value (both_true (in64 value) _ h).0; second = none; third = none; float = zero_sized }
held (Some (Date32 x)) h = record { first = wide x h; second = none; third = none; float = zero_sized }
held (Some (IntervalMonthDayNano months days nanoseconds)) h =
    let a = both_true (in32 months) _ h in
    let b = both_true (in32 days) (in64 nanoseconds) a.1 in
    record { first = wide months a.0; second = wide days b.0; third = long nanoseconds b.1; float = zero_sized }
held (Some (IntervalDayTime days milliseconds)) h =
    let a = both_true (in32 days) (in32 milliseconds) h in
    record { first = wide days a.0; second = wide milliseconds a.1; third = none; float = zero_sized }

-- ---- its parts give a bound

abbrev is_one : ℤ → Bool
is_one (pos n) = eqb n 1
is_one (negsuc n) = false

abbrev rebuilt : Parts → Option Scalar
rebuilt p =
    cond (eqb p.tag 255) None
    (Some (cond (eqb p.tag 1) (Boolean (is_one p.first))
    (cond (eqb p.tag 2) (Int32 p.first)
    (cond (eqb p.tag 3) (Int64 p.first)
    (cond (eqb p.tag 4) (Float64 p.float)
    (cond (eqb p.tag 5) (Decimal128 p.first p.precision p.scale)
    (cond (eqb p.tag 6) (Date32 p.first)
    (cond (eqb p.tag 8) (IntervalMonthDayNano p.first p.second p.third)
    (cond (eqb p.tag 9) (IntervalDayTime p.first p.second) Null)))))))))

rebuilt_is : (b : Option Scalar) → rebuilt (bound_parts b) ≡ b
unfolding bound_parts
rebuilt_is None = refl
rebuilt_is (Some Null) = refl
rebuilt_is (Some (Boolean true)) = refl
rebuilt_is (Some (Boolean false)) = refl
rebuilt_is (Some (Int32 x)) = refl
rebuilt_is (Some (Int64 x)) = refl
rebuilt_is (Some (Float64 x)) = refl
rebuilt_is (Some (Decimal128 value precision scale)) = refl
rebuilt_is (Some (Date32 x)) = refl
rebuilt_is (Some (IntervalMonthDayNano months days nanoseconds)) = refl
rebuilt_is (Some (IntervalDayTime days milliseconds)) = refl

-- ---- the order

abbrev Lawful : Option Scalar → Type 0
Lawful b = lawful_bound b ≡ true

integer_is : (a b : ℤ) → mag a < 2 ^ 63 → mag b < 2 ^ 63 → integer_order a b ≡ number_order (key_z a) (key_z b)
integer_is a b h k = λ i. cond (integer_key a b h k i) before (cond (integer_key b a k h i) after same)

float_is : (x y : Float) → Sized x → Sized y → float_order x y ≡ number_order (key_f x) (key_f y)
float_is x y f g = λ i. cond (float_key x y f g i) before (cond (float_key y x g f i) after same)

by_number : (get : Option Scalar → ℕ) → Ordered Lawful (λ x y. number_order (get x) (get y))
by_number get = keyed Lawful (λ x y. number_order (get x) (get y)) get (λ x y a b. refl)

by_integer : (get : Option Scalar → ℤ) → ((b : Option Scalar) → Lawful b → mag (get b) < 2 ^ 63) → Ordered Lawful (λ x y. integer_order (get x) (get y))
by_integer get h = keyed Lawful (λ x y. integer_order (get x) (get y)) (λ x. key_z (get x)) (λ x y a b. integer_is (get x) (get y) (h x a) (h y b))

by_float : (get : Option Scalar → Float) → ((b : Option Scalar) → Lawful b → Sized (get b)) → Ordered Lawful (λ x y. float_order (get x) (get y))
by_float get h = keyed Lawful (λ x y. float_order (get x) (get y)) (λ x. key_f (get x)) (λ x y a b. float_is (get x) (get y) (h x a) (h y b))

bound_ordered : Ordered Lawful bound_order
unfolding bound_order
bound_ordered =
    then_ordered Lawful _ _ (by_number (λ b. (bound_parts b).tag))
    (then_ordered Lawful _ _ (by_number (λ b. (bound_parts b).precision))
    (then_ordered Lawful _ _ (by_number (λ b. (bound_parts b).scale))
    (then_ordered Lawful _ _ (by_integer (λ b. (bound_parts b).first) (λ b h. (held b h).first))
    (then_ordered Lawful _ _ (by_integer (λ b. (bound_parts b).second) (λ b h. (held b h).second))
    (then_ordered Lawful _ _ (by_integer (λ b. (bound_parts b).third) (λ b h. (held b h).third))
    (by_float (λ b. (bound_parts b).float) (λ b h. (held b h).float)))))))

same_integer : (a b : ℤ) → mag a < 2 ^ 63 → mag b < 2 ^ 63 → integer_order a b ≡ same → a ≡ b
same_integer a b h k e = key_integer a b h k (same_equal (key_z a) (key_z b) (sym (integer_is a b h k) ∙ e))

same_float : (x y : Float) → Sized x → Sized y → float_order x y ≡ same → x ≡ y
same_float x y f g e = key_float x y f g (same_equal (key_f x) (key_f y) (sym (float_is x y f g) ∙ e))

same_bound : (x y : Option Scalar) → Lawful x → Lawful y → bound_order x y ≡ same → x ≡ y
unfolding bound_order
same_bound x y h k e =
    let p : Parts = bound_parts x in
    let q : Parts = bound_parts y in
    let a = both_same _ _ e in
    let b = both_same _ _ a.1 in
    let c = both_same _ _ b.1 in
    let d = both_same _ _ c.1 in
    let f = both_same _ _ d.1 in
    let g = both_same _ _ f.1 in
    let tag = same_equal p.tag q.tag a.0 in
    let precision = same_equal p.precision q.precision b.0 in
    let scale = same_equal p.scale q.scale c.0 in
    let first = same_integer p.first q.first (held x h).first (held y k).first d.0 in
    let second = same_integer p.second q.second (held x h).second (held y k).second f.0 in
    let third = same_integer p.third q.third (held x h).third (held y k).third g.0 in
    let float = same_float p.float q.float (held x h).float (held y k).float g.1 in
    sym (rebuilt_is x)
    ∙ (λ i. rebuilt (record { tag = tag i; precision = precision i; scale = scale i; first = first i; second = second i; third = third i; float = float i }))
    ∙ rebuilt_is y

level_same : (b : Option Scalar) → Lawful b → bound_order b b ≡ same
level_same b h = reverse_same (bound_order b b) (bound_ordered.converse b b h h)

pub bound_lawful : {C A : Type 0} (L : A → Type 0) (get : A → Option Scalar) (rule : C → List ℕ → ℕ → ℕ) → ((x : A) → L x → lawful_bound (get x) ≡ true) → LawfulField {C = C} L (bound get rule)
bound_lawful L get rule h = record {
  sized = λ x. bound_length (get x);
  ordered = part_ordered L Lawful get bound_order h bound_ordered;
  alike = λ x y a b e. ap bound_bytes (same_bound (get x) (get y) (h x a) (h y b) e);
  equal = λ x y a b e.
      let p : get x ≡ get y = sym (read_back (get x) [] (h x a)) ∙ ap (λ (l : List ℕ). bound_at (l ++ []) 0) e ∙ read_back (get y) [] (h y b) in
      ap (λ (v : Option Scalar). bound_order v (get y)) p ∙ level_same (get y) (h y b);
}

-- ---- read and accepted wherever its bytes stand

module _ (s : List ℕ) (at : ℕ) where
  byte_shift : (k : ℕ) → byte_at (drop at s) k ≡ byte_at s (at + k)
  byte_shift k = get_or-drop at s k 0

  byte_front : byte_at (drop at s) 0 ≡ byte_at s at
  byte_front = get_or-drop at s 0 0 ∙ ap (byte_at s) (add-zero at)

  bound_shift : bound_at (drop at s) 0 ≡ bound_at s at
  unfolding bound_at
  bound_shift = rw (byte_front, byte_shift 1, byte_shift 2, field_drop 4 at s 1, field_drop 8 at s 1, field_drop 8 at s 3, field_drop 4 at s 5, field_drop 8 at s 9) refl

  sign_shift : sign_extended (drop at s) 3 ≡ sign_extended s (at + 1 + 2)
  unfolding sign_extended
  sign_shift =
      let three : at + 3 ≡ at + 1 + 2 = omega arith in
      let digits : field_at 16 (drop at s) 3 ≡ field_at 16 s (at + 1 + 2) = field_drop 16 at s 3 ∙ ap (field_at 16 s) three in
      let low : field_at 8 (drop at s) 3 ≡ field_at 8 s (at + 1 + 2) = field_drop 8 at s 3 ∙ ap (field_at 8 s) three in
      λ i. eqb (digits i) (unsigned 16 (signed 8 (low i)))

  decimal_shift : decimal_lawful (drop at s) 1 ≡ decimal_lawful s (at + 1)
  decimal_shift =
      let two : at + 2 ≡ at + 1 + 1 = omega arith in
      let scale : byte_at (drop at s) 2 ≡ byte_at s (at + 1 + 1) = byte_shift 2 ∙ ap (byte_at s) two in
      λ i. (leb 1 (byte_shift 1 i) && leb (byte_shift 1 i) 38) && (leb (scale i) 22 && sign_shift i)

  -- a value's rule, by its first byte, its float and its decimal
  abbrev rule_of : ℕ → ℕ → Float → Bool → ℕ
  rule_of tag b x d =
      cond (eqb tag 0) 0
      (cond (eqb tag 1) (ask (leb b 1) 5)
      (cond (eqb tag 2) 0
      (cond (eqb tag 3) 0
      (cond (eqb tag 4) (ask (float64_lawful x) 5)
      (cond (eqb tag 5) (ask d 5)
      (cond (eqb tag 6) 0
      (cond (eqb tag 8) 0
      (cond (eqb tag 9) 0
      (cond (eqb tag 255) 0 5)))))))))

  value_shift : (tag : ℕ) → value_refusal tag (drop at s) 1 ≡ value_refusal tag s (at + 1)
  unfolding value_refusal
  value_shift tag = λ i. rule_of tag (byte_shift 1 i) (of_bits binary64 (field_drop 8 at s 1 i)) (decimal_shift i)

  zeros_shift : (tag : ℕ) → zeros_behind tag (drop at s) 0 ≡ zeros_behind tag s at
  unfolding zeros_behind
  zeros_shift tag =
      let place : at + (0 + (1 + value_size tag)) ≡ at + (1 + value_size tag) = omega arith in
      ap (λ (n : ℕ). eqb n 0) (field_drop (18 - value_size tag) at s (0 + (1 + value_size tag)) ∙ ap (field_at (18 - value_size tag) s) place)

  scalar_shift : (place : ScalarPlace) → scalar_refusal place (drop at s) 0 ≡ scalar_refusal place s at
  unfolding scalar_refusal
  scalar_shift place =
      (λ i. or_else (ask (tag_allowed place (byte_front i)) 5) (or_else (value_refusal (byte_front i) (drop at s) 1) (ask (zeros_behind (byte_front i) (drop at s) 0) 5)))
      ∙ λ i. or_else (ask (tag_allowed place (byte_at s at)) 5) (or_else (value_shift (byte_at s at) i) (ask (zeros_shift (byte_at s at) i) 5))

  pub bound_read : (x : Option Scalar) (t : List ℕ) → lawful_bound x ≡ true → drop at s ≡ bound_bytes x ++ t → bound_at s at ≡ x
  bound_read x t h e = sym bound_shift ∙ ap (λ (l : List ℕ). bound_at l 0) e ∙ read_back x t h

  pub bound_accepted : (place : ScalarPlace) (x : Option Scalar) (t : List ℕ) → lawful_bound x ≡ true → place_allows place x ≡ true → drop at s ≡ bound_bytes x ++ t → scalar_refusal place s at ≡ 0
  bound_accepted place x t h p e = sym (scalar_shift place) ∙ ap (λ (l : List ℕ). scalar_refusal place l 0) e ∙ read_accepted place x t h p

  pub scalar_read : (x : Scalar) (t : List ℕ) → lawful_scalar x ≡ true → drop at s ≡ bound_bytes (Some x) ++ t → scalar_at s at ≡ x
  unfolding bound_at lawful_bound
  scalar_read x t h e = go (eqb (byte_at s at) 255) (bound_read (Some x) t h e)
    where
      go : (b : Bool) → cond b None (Some (scalar_at s at)) ≡ Some x → scalar_at s at ≡ x
      go true q = absurd (none-some x q)
      go false q = same_Some (scalar_at s at) x q
