-- Laws of numbers that are written one after the other. Assumes nothing.
use Prim.Native.Nat.{ℕ, suc, ◌+◌, ◌*◌}
use mathlib.Core.Path.{◌≡◌, refl, ap, ◌∙◌}
use mathlib.Core.List.{List, [], ◌∷◌, ◌++◌}
use native.Mathlib.Omega.{arith}
use lib.ListN.{length, length-append}
use Rattle.le.specs.Fields.{field_bytes, u16_bytes}
use Rattle.le.proofs.FieldLaws.{bytes_length}
use Rattle.layout.specs.Places.{count_size, number_size}
use Rattle.number_bytes.specs.Numbers.{numbers_bytes, counted}

pub numbers_length : (l : List ℕ) → length (numbers_bytes l) ≡ number_size * length l
unfolding numbers_bytes field_bytes
numbers_length [] = refl
numbers_length (n ∷ ns) = two (length (numbers_bytes ns)) (length ns) (numbers_length ns)
  where
    two : (a b : ℕ) → a ≡ number_size * b → suc (suc a) ≡ number_size * suc b
    two a b h = omega arith

pub numbers_append : (a b : List ℕ) → numbers_bytes (a ++ b) ≡ numbers_bytes a ++ numbers_bytes b
unfolding numbers_bytes field_bytes
numbers_append [] b = refl
numbers_append (n ∷ ns) b = ap (λ (l : List ℕ). u16_bytes n ++ l) (numbers_append ns b)

pub counted_length : (n : ℕ) (bs : List ℕ) → length (counted n bs) ≡ count_size + length bs
counted_length n bs = length-append (u16_bytes n) bs ∙ ap (λ (k : ℕ). k + length bs) (bytes_length 2 n)
