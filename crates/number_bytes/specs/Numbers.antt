-- Numbers one after the other, and the parts of an answer that begin with a count. Definitions only.
use Rattle.std.specs.Prelude.{ℕ, List, [], ◌∷◌, ◌++◌, length}
use Rattle.le.specs.Fields.{field_bytes, u16_bytes}

unfoldable pub numbers_bytes : List ℕ → List ℕ
unfolding field_bytes
numbers_bytes [] = []
numbers_bytes (n ∷ ns) = u16_bytes n ++ numbers_bytes ns

-- a part of an answer: how many there are, then their bytes
abbrev pub counted : ℕ → List ℕ → List ℕ
counted n bs = u16_bytes n ++ bs

abbrev pub counted_numbers : List ℕ → List ℕ
counted_numbers ns = counted (length ns) (numbers_bytes ns)
