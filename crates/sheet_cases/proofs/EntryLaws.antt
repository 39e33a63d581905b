-- Comparing bytes from the first to the last gives what `same_bytes` gives, which goes from the last to the first.
-- Assumes nothing.
use Prim.Native.Nat.{ℕ, zero, suc, ◌+◌}
use mathlib.Core.Path.{◌≡◌, refl, sym, ap, ◌∙◌}
use mathlib.Core.Bool.{Bool, true, false, ◌&&◌}
use mathlib.Core.List.{List}
use native.Mathlib.Omega.{arith}
use lib.Dec.{eqb}
use Rattle.std.specs.List.{list_all, range_with_len}
use Rattle.le.specs.Fields.{byte_at}
use Rattle.sheet_cases.specs.Entries.{same_bytes}

swap : (x y z : Bool) → (x && (y && z)) ≡ (y && (x && z))
swap true y z = refl
swap false true z = refl
swap false false z = refl

plus_none : (a : ℕ) → a ≡ a + 0
plus_none a = omega arith

shift : (a n : ℕ) → a + 1 + n ≡ a + suc n
shift a n = omega arith

none_plus : (n : ℕ) → 0 + n ≡ n
none_plus n = omega arith

all_last : (p : ℕ → Bool) (a n : ℕ) → list_all p (range_with_len a (suc n)) ≡ (p (a + n) && list_all p (range_with_len a n))
all_last p a zero = ap (λ (i : ℕ). p i && true) (plus_none a)
all_last p a (suc n) =
    ap (λ (b : Bool). p a && b) (all_last p (a + 1) n)
    ∙ swap (p a) (p (a + 1 + n)) (list_all p (range_with_len (a + 1) n))
    ∙ ap (λ (i : ℕ). p i && list_all p (range_with_len a (suc n))) (shift a n)

-- whether a byte of one list is the other's
abbrev pub same_byte : List ℕ → List ℕ → ℕ → Bool
same_byte out expected i = eqb (byte_at out i) (byte_at expected i)

pub same_all : (out expected : List ℕ) (n : ℕ) → list_all (same_byte out expected) (range_with_len 0 n) ≡ same_bytes out expected n
unfolding same_bytes
same_all out expected zero = refl
same_all out expected (suc n) =
    all_last (same_byte out expected) 0 n
    ∙ ap (λ (i : ℕ). same_byte out expected i && list_all (same_byte out expected) (range_with_len 0 n)) (none_plus n)
    ∙ ap (λ (b : Bool). same_byte out expected n && b) (same_all out expected n)

-- the last of the bytes, and those before it
pub split_off : (out expected : List ℕ) (i : ℕ) (all : Bool) (j : ℕ) → i ≡ suc j → same_bytes out expected i ≡ all → (eqb (byte_at out j) (byte_at expected j) && same_bytes out expected j) ≡ all
unfolding same_bytes
split_off out expected i all j h e = ap (same_bytes out expected) (sym h) ∙ e
