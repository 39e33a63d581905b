-- Worked cases of the columns that are shown to be non-null. Assumes nothing.
use Rattle.std.specs.Prelude.{◌≡◌, refl, ℕ, true, false, [], ◌∷◌}
use Rattle.equality_pairs.specs.NonNull.{non_null_marks, marked_columns}
use Rattle.equality_pairs.specs.declared.pairs.EqualityPair.{EqualityPair}

abbrev ordinary : ℕ → ℕ → EqualityPair
ordinary left right = record { left = left; right = right; null_safe = false }

abbrev null_safe : ℕ → ℕ → EqualityPair
null_safe left right = record { left = left; right = right; null_safe = true }

-- 2 null-safe 3 and 1 = 2: the null-safe pair stands first, so that the second pass adds a column
through_a_null_safe : marked_columns (non_null_marks (null_safe 2 3 ∷ ordinary 1 2 ∷ [])) ≡ 1 ∷ 2 ∷ 3 ∷ []
unfolding marked_columns non_null_marks
through_a_null_safe = refl

-- 1 = 1
to_itself : marked_columns (non_null_marks (ordinary 1 1 ∷ [])) ≡ 1 ∷ []
unfolding marked_columns non_null_marks
to_itself = refl

-- a null-safe equality by itself
null_safe_alone : marked_columns (non_null_marks (null_safe 4 5 ∷ [])) ≡ []
unfolding marked_columns non_null_marks
null_safe_alone = refl
