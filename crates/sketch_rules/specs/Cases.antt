-- Worked sketches, their bytes written by hand: some that keep every rule, and one for each rule broken. Assumes nothing.
use Rattle.std.specs.Prelude.{ℕ, ◌≡◌, refl, List, [], ◌∷◌, ◌++◌, replicate}
use Rattle.le.specs.Fields.{field_at}
use Rattle.sketch_rules.specs.Sketches.{sketch_refusal}

abbrev zeros : ℕ → List ℕ
zeros n = replicate n 0

-- 2 ^ 53, and one more
abbrev most : List ℕ
most = zeros 6 ++ (0x20 ∷ 0 ∷ [])

abbrev more : List ℕ
more = (1 ∷ zeros 5) ++ (0x20 ∷ 0 ∷ [])

-- 2 ^ 53 values, n of them in items
abbrev head : ℕ → List ℕ
head n = most ++ (n ∷ 0 ∷ [])

-- 5 and 9 of Int32, 9 of Date32
abbrev five : List ℕ
five = 2 ∷ 5 ∷ zeros 17

abbrev nine : List ℕ
nine = 2 ∷ 9 ∷ zeros 17

abbrev day : List ℕ
day = 6 ∷ 9 ∷ zeros 17

-- found 2 ^ 53 times, with no error
abbrev item : List ℕ → List ℕ
item value = value ++ (most ++ zeros 8)

-- ---- kept

no_items : sketch_refusal (head 0) 512 0 ≡ 0
unfolding sketch_refusal field_at
no_items = refl

three_items : sketch_refusal (head 3 ++ (item five ++ (item nine ++ item day))) 0 0 ≡ 0
unfolding sketch_refusal field_at
three_items = refl

-- the 512th item
last_item : sketch_refusal (head 1 ++ item five) 511 0 ≡ 0
unfolding sketch_refusal field_at
last_item = refl

-- two intervals that differ in the seventeenth byte alone
late_byte : sketch_refusal (head 2 ++ (item (8 ∷ zeros 18) ++ item (8 ∷ zeros 15 ++ (1 ∷ 0 ∷ 0 ∷ [])))) 0 0 ≡ 0
unfolding sketch_refusal field_at
late_byte = refl

-- ---- broken

head_cut : sketch_refusal (most ++ (0 ∷ [])) 0 0 ≡ 2
unfolding sketch_refusal field_at
head_cut = refl

population : sketch_refusal (more ++ (0 ∷ 0 ∷ [])) 0 0 ≡ 4
unfolding sketch_refusal field_at
population = refl

items_65 : sketch_refusal (head 65) 0 0 ≡ 3
unfolding sketch_refusal field_at
items_65 = refl

-- 64 items, the last of 512, that are not there
items_64 : sketch_refusal (head 64) 448 0 ≡ 2
unfolding sketch_refusal field_at
items_64 = refl

items_513 : sketch_refusal (head 64) 449 0 ≡ 3
unfolding sketch_refusal field_at
items_513 = refl

item_cut : sketch_refusal (head 1 ++ (five ++ (most ++ zeros 7))) 0 0 ≡ 2
unfolding sketch_refusal field_at
item_cut = refl

no_null : sketch_refusal (head 1 ++ item (zeros 19)) 0 0 ≡ 5
unfolding sketch_refusal field_at
no_null = refl

no_absent : sketch_refusal (head 1 ++ item (255 ∷ zeros 18)) 0 0 ≡ 5
unfolding sketch_refusal field_at
no_absent = refl

twice : sketch_refusal (head 2 ++ (item five ++ item five)) 0 0 ≡ 7
unfolding sketch_refusal field_at
twice = refl

twice_apart : sketch_refusal (head 3 ++ (item five ++ (item nine ++ item five))) 0 0 ≡ 7
unfolding sketch_refusal field_at
twice_apart = refl

lower : sketch_refusal (head 1 ++ (five ++ (more ++ zeros 8))) 0 0 ≡ 4
unfolding sketch_refusal field_at
lower = refl

error : sketch_refusal (head 1 ++ (five ++ (most ++ more))) 0 0 ≡ 4
unfolding sketch_refusal field_at
error = refl

-- ---- two rules broken: the one that stands first

population_before_n : sketch_refusal (more ++ (65 ∷ 0 ∷ [])) 0 0 ≡ 4
unfolding sketch_refusal field_at
population_before_n = refl

value_before_lower : sketch_refusal (head 1 ++ (zeros 19 ++ (more ++ zeros 8))) 0 0 ≡ 5
unfolding sketch_refusal field_at
value_before_lower = refl

twice_before_lower : sketch_refusal (head 2 ++ (item five ++ (five ++ (more ++ zeros 8)))) 0 0 ≡ 7
unfolding sketch_refusal field_at
twice_before_lower = refl

earlier_item : sketch_refusal (head 2 ++ ((five ++ (more ++ zeros 8)) ++ item (zeros 19))) 0 0 ≡ 4
unfolding sketch_refusal field_at
earlier_item = refl
