-- Figures that a sheet may hold, +0 or from 2 ^ -64 to 2 ^ 64: the larger of two is one, and the clamped quotient of two lies from 0 to 1. Assumes nothing.
use mathlib.Core.Path.{◌≡◌, refl, sym, ap, ◌∙◌, subst}
use mathlib.Core.Logic.{◌⊎◌, inl, inr}
use mathlib.Core.Bool.{Bool, true, false, cond, ◌||◌, true≢false}
use lib.Dec.{T, lit≤}
use lib.IntN.{pos, negsuc}
use lib.Ieee.{Float, nan, inf, fin, binary64, div, lt, le, fits}
use lib.Ieee.Fits.{and_l, and_r}
use lib.Ieee.Positive as Positive
use lib.Ieee.Positive.{positive}
use Rattle.float.specs.Order.{f64_max, f64_zero, f64_one, clamp_unit, nonneg, Unit01}
use Rattle.float.specs.Ranges.{plus_zero, between}
use Rattle.float.proofs.RangeLaws.{plus_zero_is}
use Rattle.float.proofs.UnitLaws.{zero_unit}
use Rattle.estimate.specs.Bytes.{LawfulFigure}
use Rattle.units.specs.Sizes.{UpTo, AtLeast}
use Rattle.units.proofs.SizeLaws.{le_up_to, up_to_le, le_at_least, at_least_le, unit_up_to, up_to_unit, div_up_to, zero_up_to, max_one, clamped_up_to}

-- ---- what a figure is
abbrev least : Float
least = fin false 1 (negsuc 63)

abbrev most : Float
most = fin false 1 (pos 64)

pub or_split : (a b : Bool) → T (a || b) → T a ⊎ T b
or_split true b t = inl tt
or_split false b t = inr t

pub positive_nonneg : (x : Float) → T (positive x) → T (nonneg x)
positive_nonneg nan p = absurd p
positive_nonneg (inf s) p = absurd p
positive_nonneg (fin true m e) p = absurd p
positive_nonneg (fin false m e) p = tt

-- +0, or between the two ends
figure_kind : (x : Float) → LawfulFigure x → (x ≡ f64_zero) ⊎ (AtLeast 64 x × UpTo 64 x)
figure_kind x f = elim (or_split (plus_zero x) (between least most x) f.lawful) [
  | inl z ↦ inl (plus_zero_is x f.held z)
  | inr b ↦
      let lo = and_l (le least x) (le x most) b in
      let hi = and_r (le least x) (le x most) b in
      let p = positive_nonneg x (Positive.between least x most tt tt lo hi) in
      inr (le_at_least 64 x p lo, le_up_to 64 x f.held p hi)
]

pub figure_up_to : (x : Float) → LawfulFigure x → UpTo 64 x
figure_up_to x f = elim (figure_kind x f) [ inl e ↦ subst (UpTo 64) (sym e) (zero_up_to 64) | inr h ↦ h.1 ]

zero_level : le f64_zero f64_zero ≡ true
unfolding le
zero_level = refl

pub figure_at_least : (x : Float) → LawfulFigure x → le x f64_zero ≡ false → AtLeast 64 x
figure_at_least x f k = elim (figure_kind x f) [ inl e ↦ absurd (true≢false (sym zero_level ∙ ap (λ (z : Float). le z f64_zero) (sym e) ∙ k)) | inr h ↦ h.0 ]

-- ---- the larger of two
pub figure_max : (x y : Float) → LawfulFigure x → LawfulFigure y → LawfulFigure (f64_max x y)
figure_max x y f g = go (lt x y)
  where
    go : (b : Bool) → LawfulFigure (cond b y x)
    go true = g
    go false = f

pub figure_max_one : (x : Float) → LawfulFigure x → UpTo 64 (f64_max x f64_one) × AtLeast 0 (f64_max x f64_one)
figure_max_one x f = max_one 64 x (figure_up_to x f)

-- the same in the order of floats
pub record MaxOne (y : Float) : Type 0 where
  pub held : T (fits binary64 y)
  pub low : T (nonneg y)
  pub above : T (le f64_one y)
  pub high : T (le y (fin false 1 (pos 64)))

pub figure_max_one_order : (x : Float) → LawfulFigure x → MaxOne (f64_max x f64_one)
figure_max_one_order x f =
    let u = figure_max_one x f in
    record { held = u.0.held; low = u.0.low; above = at_least_le 0 (f64_max x f64_one) u.1; high = up_to_le 64 (f64_max x f64_one) u.0 }

-- ---- quotients
pub share_unit : (x d : Float) → Unit01 x → LawfulFigure d → Unit01 (div binary64 x (f64_max d f64_one))
share_unit x d u f = up_to_unit (div binary64 x (f64_max d f64_one)) (div_up_to 0 0 x (f64_max d f64_one) (lit≤ tt) (unit_up_to x u) (figure_max_one d f).1)

pub figure_quotient_unit : (f r : Float) → LawfulFigure f → T (nonneg r) → T (le f64_one r) → Unit01 (clamp_unit (div binary64 f r))
figure_quotient_unit f r h p k = clamped_up_to 64 (div binary64 f r) (div_up_to 64 0 f r (lit≤ tt) (figure_up_to f h) (le_at_least 0 r p k))

pub non_null_unit : (f r : Float) → LawfulFigure f → LawfulFigure r → Unit01 (cond (le r f64_zero) f64_zero (clamp_unit (div binary64 f r)))
non_null_unit f r h k = go (le r f64_zero) (figure_at_least r k)
  where
    go : (b : Bool) → (b ≡ false → AtLeast 64 r) → Unit01 (cond b f64_zero (clamp_unit (div binary64 f r)))
    go true a = zero_unit
    go false a = clamped_up_to 128 (div binary64 f r) (div_up_to 64 64 f r (lit≤ tt) (figure_up_to f h) (a refl))
