-- Laws of two's complement: what the machine's casts leave of a signed number, and the round trip over the width in bytes. Assumes nothing.
use Prim.Native.Nat.{ℕ, suc, ◌-◌, ◌*◌, ◌/◌, ◌^◌, ◌≤◌, ◌<◌}
use mathlib.Core.Path.{◌≡◌, refl}
use mathlib.Core.Bool.{Bool, true, false, cond}
use native.Mathlib.Omega.{arith}
use native.Mathlib.Nat.{pow-succ'}
use borrow.Author.Tests.{ltb-true, ltb-false, lt-ltb, le-ltb}
use lib.IntN.{ℤ, pos, negsuc}
use lib.Dec.{ltb}
use lib.Signed.{mag}
use mir.Syntax.{Width}
use mir.Val.{to_z, of_z, hbits}
use mir.ValLaws.{to_z-of_z}
use Rattle.signed.specs.Signed.{signed, unsigned}

-- the machine's reading of a signed number, which is the number
abbrev back : Width → ℤ → ℤ
back w z = to_z w (of_z w z)

pub kept : (w : Width) (z : ℤ) → mag z < 2 ^ hbits w → back w z ≡ z
kept w z h = to_z-of_z w z (record { sfits = h })

-- ---- the round trip, over the width in bytes

-- the signed numbers that n bytes hold
abbrev pub InSigned : ℕ → ℤ → Type 0
InSigned n z = mag z < 256 ^ n / 2

even : (n : ℕ) → 256 ^ suc n ≡ 2 * (256 ^ suc n / 2)
even n = let p : 256 ^ suc n ≡ 256 * 256 ^ n = pow-succ' 256 n in omega arith

pub unsigned_below : (n : ℕ) (z : ℤ) → InSigned n z → unsigned n z < 256 ^ n
unfolding unsigned
unsigned_below n (pos v) h = omega arith
unsigned_below n (negsuc v) h = omega arith

pub unsigned_back : (n v : ℕ) → v < 256 ^ n → unsigned n (signed n v) ≡ v
unfolding signed unsigned
unsigned_back n v h = go (ltb v (256 ^ n / 2))
  where
    go : (b : Bool) → unsigned n (cond b (pos v) (negsuc (256 ^ n - suc v))) ≡ v
    go true = refl
    go false = omega arith

pub signed_in : (n v : ℕ) → v < 256 ^ suc n → InSigned (suc n) (signed (suc n) v)
unfolding signed
signed_in n v h = go (ltb v (256 ^ suc n / 2)) (ltb-true v (256 ^ suc n / 2)) (ltb-false v (256 ^ suc n / 2))
  where
    go : (b : Bool) → (b ≡ true → v < 256 ^ suc n / 2) → (b ≡ false → 256 ^ suc n / 2 ≤ v) → mag (cond b (pos v) (negsuc (256 ^ suc n - suc v))) < 256 ^ suc n / 2
    go true y z = y refl
    go false y z = let k : 256 ^ suc n / 2 ≤ v = z refl in let e : 256 ^ suc n ≡ 2 * (256 ^ suc n / 2) = even n in omega arith

pub signed_back : (n : ℕ) (z : ℤ) → InSigned (suc n) z → signed (suc n) (unsigned (suc n) z) ≡ z
unfolding signed unsigned
signed_back n (pos v) h = simp (lt-ltb v (256 ^ suc n / 2) h)
signed_back n (negsuc v) h =
    let e : 256 ^ suc n ≡ 2 * (256 ^ suc n / 2) = even n in
    let k : 256 ^ suc n / 2 ≤ 256 ^ suc n - suc v = omega arith in
    let d : 256 ^ suc n - suc (256 ^ suc n - suc v) ≡ v = omega arith in
    simp (le-ltb (256 ^ suc n - suc v) (256 ^ suc n / 2) k, d)
