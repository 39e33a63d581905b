-- How many bytes the returned classes take. Definitions only.
use Rattle.std.specs.Prelude.{ℕ, ◌+◌, ◌*◌, cond, List, [], ◌∷◌, leb, length}
use Rattle.float.specs.Integers.{bit}
use Rattle.layout.specs.Places.{class_least, number_size, class_head_size}
use Rattle.class_state.specs.State.{members}

-- how many columns have a root
abbrev pub member_count : List ℕ → ℕ → ℕ
member_count roots root = length (members roots root)

-- of a class of n columns
abbrev pub class_size : ℕ → ℕ
class_size n = class_head_size + number_size * n

-- of a class that is returned only if it has two columns or more
abbrev pub returned_size : ℕ → ℕ
returned_size n = cond (leb class_least n) (class_size n) 0

abbrev pub size_at_root : List ℕ → ℕ → ℕ
size_at_root roots root = class_size (member_count roots root)

unfoldable pub sum_over : (ℕ → ℕ) → List ℕ → ℕ
sum_over f [] = 0
sum_over f (x ∷ l) = f x + sum_over f l

-- of so many columns at each root: how many classes are returned
abbrev pub returned_count : List ℕ → ℕ
returned_count counts = sum_over (λ (n : ℕ). bit (leb class_least n)) counts

-- and how many bytes they take
abbrev pub counts_size : List ℕ → ℕ
counts_size counts = sum_over returned_size counts
