-- The first record with a number, in a list and in the bytes. Definitions only.
use Rattle.std.specs.Prelude.{ℕ, zero, suc, ◌+◌, Bool, true, false, cond, List, [], ◌∷◌, eqb, Option, None, Some}
use Rattle.le.specs.Fields.{u16_at}
use Rattle.layout.specs.Places.{count_size}

-- ---- in a list

-- what the first one gives, and `absent` where there is none
unfoldable pub first_with : {A B : Type 0} → (A → ℕ) → B → (A → B) → ℕ → List A → B
first_with number_of absent present number [] = absent
first_with number_of absent present number (x ∷ xs) = cond (eqb (number_of x) number) (present x) (first_with number_of absent present number xs)

-- whether there is one
abbrev pub is_numbered : {A : Type 0} → (A → ℕ) → ℕ → List A → Bool
is_numbered {A = A} number_of number xs = first_with number_of false (λ (x : A). true) number xs

-- ---- by where it stands in the bytes

-- among n records of a size with their numbers in front, the first of which stands at `at`
unfoldable pub place_from : List ℕ → ℕ → ℕ → ℕ → ℕ → Option ℕ
place_from s size number at zero = None
place_from s size number at (suc n) = cond (eqb (u16_at s at) number) (Some at) (place_from s size number (at + size) n)

-- in the section whose count stands at `start`
abbrev pub first_place : List ℕ → ℕ → ℕ → ℕ → Option ℕ
first_place s start size number = place_from s size number (start + count_size) (u16_at s start)
