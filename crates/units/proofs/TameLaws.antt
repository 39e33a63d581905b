-- The numbers of a range: the differences of tame floats never round to -0, so a share of a range, clamped, lies from 0 to 1. Assumes nothing.
use mathlib.Core.Path.{sym, ap, ◌∙◌, subst}
use mathlib.Core.Logic.{inl, inr}
use mathlib.Core.Bool.{Bool, true, false, ◌||◌}
use Prim.Native.Nat.{ℕ, zero, suc, ◌+◌, ◌*◌, ◌^◌, ◌≤◌, ◌<◌}
use native.Mathlib.Nat as Nat
use native.Mathlib.Nat.{le_of_eq, lt_of_le_of_lt, lt_of_lt_of_le, lt_irrefl, lt_of_not-le, mul-lt-mul_of_pos_right}
use native.Mathlib.Omega.{arith}
use lib.IntN.{ℤ, pos, negsuc}
use lib.Dec.{T, lit≤}
use lib.Pow.{pow-add, pow_pos, pow_mono}
use lib.Ieee.{Float, nan, inf, fin, binary64, up, down, neg, sub, div, le, fits}
use lib.Ieee.Fits.{and_i, and_l, and_r, neg-fits}
use lib.Ieee.Positive as Positive
use lib.Ieee.Positive.{positive}
use Rattle.float.specs.Order.{f64_max, f64_zero, f64_one, clamp_unit, Unit01, absolute}
use Rattle.float.specs.Ranges.{plus_zero, between, zero_or_between}
use Rattle.float.proofs.RangeLaws.{plus_zero_is}
use Rattle.float.proofs.RoundLaws.{fit, own_units}
use Rattle.scalar_bytes.specs.Reading.{float64_lawful}
use Rattle.units.specs.Sizes.{UpTo, AtLeast, Spread, Stepped, Tame}
use Rattle.units.proofs.SizeLaws.{le_up_to, up_to_le, up_to_more, le_at_least, at_least_le, at_least_more, at_least_positive, zero_up_to, max_one}
use Rattle.units.proofs.FigureLaws.{or_split, positive_nonneg}
use Rattle.units.proofs.SpreadLaws.{neg_neg, sub_spread, spread_fits, spread_absolute, div_spread, spread_clamped}

-- ---- what a tame float is
abbrev least : Float
least = fin false 1 (negsuc 399)

abbrev most : Float
most = fin false 1 (pos 400)

sized_between : (x : Float) → T (fits binary64 x) → T (between least most x) → AtLeast 400 x × UpTo 400 x
sized_between x h b =
    let lo = and_l (le least x) (le x most) b in
    let hi = and_r (le least x) (le x most) b in
    let p = positive_nonneg x (Positive.between least x most tt tt lo hi) in
    (le_at_least 400 x p lo, le_up_to 400 x h p hi)

pub tame_spread : (x : Float) → Tame x → Spread 400 400 x
tame_spread x t = elim (or_split (zero_or_between least most x) (between least most (neg x)) t.lawful) [
  | inl s ↦ elim (or_split (plus_zero x) (between least most x) s) [
    | inl z ↦ inl (plus_zero_is x t.held z)
    | inr b ↦ inr (inl (sized_between x t.held b))
  ]
  | inr b ↦ let s = sized_between (neg x) (neg-fits binary64 x t.held) b in inr (inr (neg x, sym (neg_neg x), s.0, s.1))
]

or_l : (a b : Bool) → T a → T (a || b)
or_l true b t = tt
or_l false b t = absurd t

or_r : (a b : Bool) → T b → T (a || b)
or_r true b t = tt
or_r false b t = t

between_sized : (l h : ℕ) (x : Float) → l ≤ 400 → h ≤ 400 → AtLeast l x → UpTo h x → T (between least most x)
between_sized l h x L H a u = and_i (le least x) (le x most) (at_least_le 400 x (at_least_more l 400 x L a)) (up_to_le 400 x (up_to_more h 400 x H u))

spread_lawful : (l h : ℕ) (x : Float) → l ≤ 400 → h ≤ 400 → Spread l h x → T (float64_lawful x)
spread_lawful l h x L H (inl e) = subst (λ (z : Float). T (float64_lawful z)) (sym e) tt
spread_lawful l h x L H (inr (inl w)) = or_l (zero_or_between least most x) (between least most (neg x)) (or_r (plus_zero x) (between least most x) (between_sized l h x L H w.0 w.1))
spread_lawful l h x L H (inr (inr w)) =
    or_r (zero_or_between least most x) (between least most (neg x))
    (subst (λ (z : Float). T (between least most z)) (sym (ap neg w.1 ∙ neg_neg w.0)) (between_sized l h w.0 L H w.2 w.3))

pub spread_tame : (l h : ℕ) (x : Float) → l ≤ 400 → h ≤ 400 → Spread l h x → Tame x
spread_tame l h x L H s = record { held = spread_fits l h x s; lawful = spread_lawful l h x L H s }

-- ---- a float of 53 digits that is 2 ^ - l at least is a multiple of 2 ^ - (l + 52)
pow_back : (a b : ℕ) → 2 ^ a < 2 ^ b → a < b
pow_back a b h = lt_of_not-le (λ (g : b ≤ a). lt_irrefl (2 ^ a) (lt_of_lt_of_le h (pow_mono g)))

low_end : (l m : ℕ) (e : ℤ) → m < 2 ^ 53 → down e ≤ m * up e * 2 ^ l → down e ≤ 2 ^ (l + 52)
low_end l m (pos k) h f = pow_pos (l + 52)
low_end l m (negsuc k) h f = pow_mono (last k l (pow_back (suc k) (53 + l) (lt_of_le_of_lt (Nat.le_trans f (le_of_eq (ap (λ (z : ℕ). z * 2 ^ l) (Nat.mul-one m)))) (lt_of_lt_of_le (mul-lt-mul_of_pos_right h (pow_pos l)) (le_of_eq (sym (pow-add 2 53 l)))))))
  where
    last : (k l : ℕ) → suc k < 53 + l → suc k ≤ l + 52
    last k l h = omega arith

sized_stepped : (l h : ℕ) (x : Float) → AtLeast l x → UpTo h x → Stepped (l + 52) h x
sized_stepped l h nan a u = absurd a.low
sized_stepped l h (inf s) a u = absurd a.low
sized_stepped l h (fin true m e) a u = absurd a.low
sized_stepped l h (fin false zero e) a u = absurd (at_least_positive l (fin false zero e) a)
sized_stepped l h (fin false (suc m) e) a u =
    let w = own_units (suc m) (l + 52) e (low_end l (suc m) e (fit binary64 false m e u.held).few a.floor) in
    record { whole = tt; plain = tt; steps = (suc m * 2 ^ w.0, w.1); high = u.high }

neg_stepped : (l h : ℕ) (x : Float) → T (positive x) → Stepped l h x → Stepped l h (neg x)
unfolding neg
neg_stepped l h nan p s = absurd p
neg_stepped l h (inf t) p s = absurd p
neg_stepped l h (fin true m e) p s = absurd p
neg_stepped l h (fin false m e) p s = record { whole = tt; plain = p; steps = s.steps; high = s.high }

zero_stepped : (l h : ℕ) → Stepped l h f64_zero
zero_stepped l h = record { whole = tt; plain = tt; steps = (0, Nat.zero-mul (2 ^ l)); high = (zero_up_to h).high }

pub spread_stepped : (l h : ℕ) (x : Float) → Spread l h x → Stepped (l + 52) h x
spread_stepped l h x (inl e) = subst (Stepped (l + 52) h) (sym e) (zero_stepped (l + 52) h)
spread_stepped l h x (inr (inl w)) = sized_stepped l h x w.0 w.1
spread_stepped l h x (inr (inr w)) = subst (Stepped (l + 52) h) (sym w.1) (neg_stepped (l + 52) h w.0 (at_least_positive l w.0 w.2) (sized_stepped l h w.0 w.2 w.3))

-- ---- differences and shares
pub tame_difference : (x y : Float) → Tame x → Tame y → Spread 452 401 (sub binary64 x y)
tame_difference x y a b = sub_spread 452 400 x y (lit≤ tt) (lit≤ tt) (spread_stepped 400 400 x (tame_spread x a)) (spread_stepped 400 400 y (tame_spread y b))

pub tame_width : (low high : Float) → Tame low → Tame high → UpTo 401 (f64_max (absolute (sub binary64 high low)) f64_one) × AtLeast 0 (f64_max (absolute (sub binary64 high low)) f64_one)
tame_width low high a b = max_one 401 (absolute (sub binary64 high low)) (spread_absolute 452 401 (sub binary64 high low) (tame_difference high low b a))

tame_share : (x y w : Float) → Tame x → Tame y → UpTo 401 w × AtLeast 0 w → Unit01 (clamp_unit (div binary64 (sub binary64 x y) w))
tame_share x y w a b u = spread_clamped 853 401 (div binary64 (sub binary64 x y) w) (div_spread 452 401 0 401 (sub binary64 x y) w (lit≤ tt) (lit≤ tt) (tame_difference x y a b) u.1 u.0)

pub share_below_unit : (low high v : Float) → Tame low → Tame high → Tame v → Unit01 (clamp_unit (div binary64 (sub binary64 v low) (f64_max (absolute (sub binary64 high low)) f64_one)))
share_below_unit low high v a b t = tame_share v low (f64_max (absolute (sub binary64 high low)) f64_one) t a (tame_width low high a b)

pub share_above_unit : (low high v : Float) → Tame low → Tame high → Tame v → Unit01 (clamp_unit (div binary64 (sub binary64 high v) (f64_max (absolute (sub binary64 high low)) f64_one)))
share_above_unit low high v a b t = tame_share high v (f64_max (absolute (sub binary64 high low)) f64_one) b t (tame_width low high a b)
