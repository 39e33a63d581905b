-- Numbers that pass a test. Definitions only.
use Rattle.std.specs.Prelude.{ℕ, zero, suc, ◌+◌, Bool, cond, List, [], ◌∷◌}

-- those of n numbers from i on, ascending
unfoldable pub selected : (ℕ → Bool) → ℕ → ℕ → List ℕ
selected test i zero = []
selected test i (suc n) = let rest = selected test (i + 1) n in cond (test i) (i ∷ rest) rest
