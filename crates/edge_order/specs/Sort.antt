-- A stable sort, by a test that says whether one element must stand before another. Definitions only.
use Rattle.std.specs.Prelude.{Bool, cond, List, [], ◌∷◌}

-- before the first that need not stand before it
unfoldable pub insert {ℓ} : {A : Type ℓ} → (A → A → Bool) → A → List A → List A
insert before x [] = x ∷ []
insert before x (y ∷ ys) = let rest = insert before x ys in cond (before y x) (y ∷ rest) (x ∷ y ∷ ys)

unfoldable pub sort {ℓ} : {A : Type ℓ} → (A → A → Bool) → List A → List A
unfolding insert
sort before [] = []
sort before (x ∷ xs) = insert before x (sort before xs)
