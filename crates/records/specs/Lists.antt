-- Lists by their elements' places. Definitions only.
use Rattle.std.specs.Prelude.{ℕ, zero, suc, ◌+◌, List, [], ◌∷◌}

-- n elements, f i and those behind it
unfoldable pub tabulate_from {ℓ} : {A : Type ℓ} → (ℕ → A) → ℕ → ℕ → List A
tabulate_from f i zero = []
tabulate_from f i (suc n) = f i ∷ tabulate_from f (i + 1) n

-- f 0 up to f (n - 1); with `itself` the numbers below n
abbrev pub tabulate {ℓ} : {A : Type ℓ} → (ℕ → A) → ℕ → List A
tabulate f n = tabulate_from f 0 n

abbrev pub itself : ℕ → ℕ
itself i = i
