-- The bit patterns of binary64: the sign, the field of the exponent, and 52 digits. Assumes nothing.
use Rattle.std.proofs.Common.{◌≡◌, ℕ, zero, suc, ◌+◌, ◌*◌, ◌/◌, ◌%◌, ◌^◌, ◌<◌, ◌≤◌, Bool, true, false, cond, not, T, eqb, ltb, leb, sym, refl, ap, ◌∙◌, subst, inl, inr, lt_of_lt_of_le, lt_of_le_of_lt, lt_irrefl, mod-eq_of_lt, zero-lt-suc, div-lt_iff_lt-mul, mul-le-mul, eq-or-lt_of_le, pow-suc, not-le_of_lt, arith, lit<, eqb→eq, lt→ltb, leb→le, pow_mono, lt-ltb}
use mathlib.Core.Bool.{false≢true}
use lib.Dec.{not_T}
use lib.Arith.{le→nltb}
use lib.Count.{count_trailing_zeros, under}
use lib.Ieee.{Float, nan, inf, fin, binary64, minus, odd, units, of_fields, of_bits, nan_bits, is_nan}
use lib.Ieee.Bits.{is_false, cond_no, nan_bits_is, nan_bits_above}

pub of_bits_is : (b : ℕ) → of_bits binary64 b ≡ of_fields binary64 (leb 0x8000_0000_0000_0000 b) (b % 0x8000_0000_0000_0000 / 0x10_0000_0000_0000) (b % 0x10_0000_0000_0000)
unfolding of_bits
of_bits_is b = refl

is_nan_law : (x : Float) → is_nan x ≡ true → x ≡ nan
unfolding is_nan
is_nan_law nan h = refl
is_nan_law (inf s) h = absurd (false≢true h)
is_nan_law (fin s m e) h = absurd (false≢true h)

differ : (x : ℕ) → suc x < 2047 → suc x ≡ 2047 → ⊥
differ x h e = omega arith

under_ones : (t x : ℕ) → suc x < 2047 → of_fields binary64 false (suc x) t ≡ odd 53 false (0x10_0000_0000_0000 + t) x 1074
unfolding of_fields
under_ones t x h = cond_no (eqb (suc x) 2047) (cond (eqb t 0) (inf false) nan) (odd 53 false (0x10_0000_0000_0000 + t) x 1074) (not_T (eqb (suc x) 2047) (λ (u : T (eqb (suc x) 2047)). differ x h (eqb→eq (suc x) 2047 u)))

at_zero : (t : ℕ) → of_fields binary64 false 0 t ≡ odd 53 false t 0 1074
unfolding of_fields
at_zero t = refl

small : (b : ℕ) → b < 0x7ff0_0000_0000_0000 → b < 0x8000_0000_0000_0000
small b h = omega arith

-- the sign's bit is clear
plus : (b : ℕ) → b < 0x8000_0000_0000_0000 → of_bits binary64 b ≡ of_fields binary64 false (b / 0x10_0000_0000_0000) (b % 0x10_0000_0000_0000)
plus b k =
    of_bits_is b
    ∙ ap (λ (s : Bool). of_fields binary64 s (b % 0x8000_0000_0000_0000 / 0x10_0000_0000_0000) (b % 0x10_0000_0000_0000)) (is_false (leb 0x8000_0000_0000_0000 b) (not_T (leb 0x8000_0000_0000_0000 b) (λ (u : T (leb 0x8000_0000_0000_0000 b)). not-le_of_lt k (leb→le 0x8000_0000_0000_0000 b u))))
    ∙ ap (λ (x : ℕ). of_fields binary64 false (x / 0x10_0000_0000_0000) (b % 0x10_0000_0000_0000)) (mod-eq_of_lt k)

-- ---- below the pattern of the infinity, 0x7ff0_0000_0000_0000: with a field above 0, and with a field of 0
pub normal : (b x : ℕ) → b / 0x10_0000_0000_0000 ≡ suc x → b < 0x7ff0_0000_0000_0000 → of_bits binary64 b ≡ odd 53 false (0x10_0000_0000_0000 + b % 0x10_0000_0000_0000) x 1074
normal b x e k = plus b (small b k) ∙ ap (λ (y : ℕ). of_fields binary64 false y (b % 0x10_0000_0000_0000)) e ∙ under_ones (b % 0x10_0000_0000_0000) x (field_lt b x e k)
  where
    field_lt : (b x : ℕ) → b / 0x10_0000_0000_0000 ≡ suc x → b < 0x7ff0_0000_0000_0000 → suc x < 2047
    field_lt b x e k = omega arith

pub subnormal : (b : ℕ) → b / 0x10_0000_0000_0000 ≡ 0 → of_bits binary64 b ≡ odd 53 false (b % 0x10_0000_0000_0000) 0 1074
subnormal b e = plus b (tiny b e) ∙ ap (λ (y : ℕ). of_fields binary64 false y (b % 0x10_0000_0000_0000)) e ∙ at_zero (b % 0x10_0000_0000_0000)
  where
    tiny : (b : ℕ) → b / 0x10_0000_0000_0000 ≡ 0 → b < 0x8000_0000_0000_0000
    tiny b e = omega arith

-- ---- which patterns are a NaN's
pub no_nan : (b : ℕ) → b % 0x8000_0000_0000_0000 ≤ 0x7ff0_0000_0000_0000 → T (not (nan_bits binary64 b))
no_nan b h = subst (λ (t : Bool). T (not t)) (sym (nan_bits_above binary64 b)) (le→nltb 0x7ff0_0000_0000_0000 (b % 0x8000_0000_0000_0000) h)

pub nan_bits_law : (b : ℕ) → 0x7ff0_0000_0000_0000 < b % 0x8000_0000_0000_0000 → of_bits binary64 b ≡ nan
nan_bits_law b h = is_nan_law (of_bits binary64 b) (sym (nan_bits_is binary64 b) ∙ nan_bits_above binary64 b ∙ lt-ltb 0x7ff0_0000_0000_0000 (b % 0x8000_0000_0000_0000) h)

-- ---- a place more than a number has changes no count of closing zeros
half_pos : (q : ℕ) → 0 < q → q % 2 ≡ 0 → 0 < q / 2
half_pos q h e = omega arith

none : (q : ℕ) → 0 < q → q < 1 → ⊥
none q h k = omega arith

tz_more : (d q : ℕ) → 0 < q → q < 2 ^ d → count_trailing_zeros (suc d) q ≡ count_trailing_zeros d q
unfolding count_trailing_zeros
tz_more zero q h k = absurd (none q h k)
tz_more (suc d) q h k = go (q % 2) refl (λ (e : q % 2 ≡ 0). tz_more d (q / 2) (half_pos q h e) ((div-lt_iff_lt-mul (zero-lt-suc 1)).1 (subst (λ (x : ℕ). q < x) (pow-suc 2 d) k)))
  where
    go : (r : ℕ) → q % 2 ≡ r → (q % 2 ≡ 0 → count_trailing_zeros (suc d) (q / 2) ≡ count_trailing_zeros d (q / 2)) → under r (count_trailing_zeros (suc d) (q / 2)) ≡ under r (count_trailing_zeros d (q / 2))
    go zero e ih = ap suc (ih e)
    go (suc r) e ih = refl

odd_pos : (d : ℕ) (s : Bool) (q k l : ℕ) → 0 < q → odd d s q k l ≡ fin s (q / 2 ^ count_trailing_zeros d q) (minus (k + count_trailing_zeros d q) l)
unfolding odd
odd_pos d s zero k l h = absurd (lt_irrefl 0 h)
odd_pos d s (suc q) k l h = refl

odd_more : (q k : ℕ) → 0 < q → q < 2 ^ 53 → odd 53 false q k 1074 ≡ odd 54 false q k 1074
odd_more q k h l = odd_pos 53 false q k 1074 h ∙ ap (λ (t : ℕ). fin false (q / 2 ^ t) (minus (k + t) 1074)) (sym (tz_more 53 q h l)) ∙ sym (odd_pos 54 false q k 1074 h)

-- ---- `units` below the overflow
units_at : (q k : ℕ) → q ≤ 2 ^ 53 → k < 2000 → units binary64 false q k ≡ odd 54 false q k 1074
unfolding units
units_at q k h l = go (ltb (q * 2 ^ k) (2 ^ 2098)) (lt→ltb (q * 2 ^ k) (2 ^ 2098) (lt_of_le_of_lt (mul-le-mul h (pow_mono {i = k} {j = 2000} (below l))) (lit< tt)))
  where
    below : k < 2000 → k ≤ 2000
    below l = omega arith

    go : (b : Bool) → T b → cond b (odd 54 false q k 1074) (inf false) ≡ odd 54 false q k 1074
    go true t = refl
    go false t = absurd t

-- 2 ^ 53 carries into the exponent's field
carried : (k : ℕ) → odd 53 false 0x10_0000_0000_0000 (suc k) 1074 ≡ odd 54 false 0x20_0000_0000_0000 k 1074
unfolding odd
carried k = ap (λ (n : ℕ). fin false 1 (minus n 1074)) (is k)
  where
    is : (k : ℕ) → suc k + 52 ≡ k + 53
    is k = omega arith

-- m * 2 ^ k smallest values, for an m of 53 digits or 2 ^ 53, have the bits k * 2 ^ 52 + m
pub units_bits : (m k : ℕ) → 2 ^ 52 ≤ m → m ≤ 2 ^ 53 → k < 2000 → of_bits binary64 (k * 0x10_0000_0000_0000 + m) ≡ units binary64 false m k
units_bits m k lo hi l =
    elim (eq-or-lt_of_le hi) [
      | inl e ↦
          normal (k * 0x10_0000_0000_0000 + m) (suc k) (field_2 m k e) (in_range m k hi l)
          ∙ ap (λ (q : ℕ). odd 53 false q (suc k) 1074) (digits_2 m k e)
          ∙ carried k
          ∙ ap (λ (q : ℕ). odd 54 false q k 1074) (sym e)
          ∙ sym (units_at m k hi l)
      | inr h ↦
          normal (k * 0x10_0000_0000_0000 + m) k (field_1 m k lo h) (in_range m k hi l)
          ∙ ap (λ (q : ℕ). odd 53 false q k 1074) (digits_1 m k lo h)
          ∙ odd_more m k (lt_of_lt_of_le (lit< tt) lo) h
          ∙ sym (units_at m k hi l)
    ]
  where
    in_range : (m k : ℕ) → m ≤ 2 ^ 53 → k < 2000 → k * 0x10_0000_0000_0000 + m < 0x7ff0_0000_0000_0000
    in_range m k hi l = omega arith

    field_1 : (m k : ℕ) → 2 ^ 52 ≤ m → m < 2 ^ 53 → (k * 0x10_0000_0000_0000 + m) / 0x10_0000_0000_0000 ≡ suc k
    field_1 m k lo h = omega arith

    digits_1 : (m k : ℕ) → 2 ^ 52 ≤ m → m < 2 ^ 53 → 0x10_0000_0000_0000 + (k * 0x10_0000_0000_0000 + m) % 0x10_0000_0000_0000 ≡ m
    digits_1 m k lo h = omega arith

    field_2 : (m k : ℕ) → m ≡ 2 ^ 53 → (k * 0x10_0000_0000_0000 + m) / 0x10_0000_0000_0000 ≡ suc (suc k)
    field_2 m k e = omega arith

    digits_2 : (m k : ℕ) → m ≡ 2 ^ 53 → 0x10_0000_0000_0000 + (k * 0x10_0000_0000_0000 + m) % 0x10_0000_0000_0000 ≡ 0x10_0000_0000_0000
    digits_2 m k e = omega arith
