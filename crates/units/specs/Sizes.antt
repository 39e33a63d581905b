-- Floats between powers of two. `num` / `den` is a finite value's size as a fraction. Definitions only.
use Rattle.std.specs.Prelude.{ℕ, ◌*◌, ◌^◌, ◌≤◌, ◌≡◌, ◌⊎◌, T, Float}
use Rattle.std.specs.Float.{binary64}
use Rattle.std.specs.Float.Ieee.{fits, neg}
use Rattle.std.specs.Float.Ieee.Positive.{num, den}
use Rattle.std.specs.Float.Ieee.Scale.{finite}
use Rattle.float.specs.Order.{f64_zero, nonneg, ordinary}
use Rattle.scalar_bytes.specs.Reading.{float64_lawful}

-- a value of binary64 from 0 to 2 ^ h, and not -0
pub record UpTo (h : ℕ) (x : Float) : Type 0 where
  pub held : T (fits binary64 x)
  pub low : T (nonneg x)
  pub high : num x ≤ 2 ^ h * den x

-- finite, with the sign clear, and no less than 2 ^ - l
pub record AtLeast (l : ℕ) (x : Float) : Type 0 where
  pub low : T (nonneg x)
  pub floor : den x ≤ num x * 2 ^ l

-- +0, or a value of binary64 of either sign whose size lies from 2 ^ - l to 2 ^ h
abbrev pub Spread : ℕ → ℕ → Float → Type 0
Spread l h x = (x ≡ f64_zero) ⊎ ((AtLeast l x × UpTo h x) ⊎ ((z : Float) × (x ≡ neg z) × AtLeast l z × UpTo h z))

-- finite and not -0, a multiple of 2 ^ - l, and of a size up to 2 ^ h
pub record Stepped (l h : ℕ) (x : Float) : Type 0 where
  pub whole : T (finite x)
  pub plain : T (ordinary x)
  pub steps : (u : ℕ) × (num x * 2 ^ l ≡ u * den x)
  pub high : num x ≤ 2 ^ h * den x

-- a value of binary64 that is +0 or whose size lies from 2 ^ -400 to 2 ^ 400
pub record Tame (x : Float) : Type 0 where
  pub held : T (fits binary64 x)
  pub lawful : T (float64_lawful x)
