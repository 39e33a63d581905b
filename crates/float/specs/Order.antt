-- The larger and the smaller of two floats, and a float brought into 0 .. 1: as Rust's `f64::max`, `f64::min` and `clamp(0.0, 1.0)` where no NaN and no -0 stands. Definitions only.
use Rattle.std.specs.Prelude.{Bool, true, false, cond, not, T, pos, nat_lt, Float}
use Rattle.std.specs.Float.{nan, inf, fin, binary64}
use Rattle.std.specs.Float.Ieee.{fits, lt, le, neg}

abbrev pub f64_max : Float → Float → Float
f64_max x y = cond (lt x y) y x

abbrev pub f64_min : Float → Float → Float
f64_min x y = cond (lt y x) y x

abbrev pub f64_zero : Float
f64_zero = fin false 0 (pos 0)

abbrev pub f64_one : Float
f64_one = fin false 1 (pos 0)

abbrev pub clamp_unit : Float → Float
clamp_unit x = cond (lt x f64_zero) f64_zero (cond (lt f64_one x) f64_one x)

-- without its sign; -0 stays as it is
abbrev pub absolute : Float → Float
absolute x = cond (lt x f64_zero) (neg x) x

-- finite, with the sign clear
abbrev pub nonneg : Float → Bool
nonneg nan = false
nonneg (inf s) = false
nonneg (fin s m e) = not s

-- no NaN and no -0
abbrev pub ordinary : Float → Bool
ordinary nan = false
ordinary (inf s) = true
ordinary (fin true m e) = nat_lt 0 m
ordinary (fin false m e) = true

-- a value of binary64 from 0 to 1, and not -0
pub record Unit01 (x : Float) : Type 0 where
  pub held : T (fits binary64 x)
  pub low : T (nonneg x)
  pub high : T (le x f64_one)
