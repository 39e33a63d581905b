-- Worked joins: what the answers of small sheets are read as, and a call. Assumes nothing.
use Rattle.std.specs.Prelude.{ℕ, ◌≡◌, refl, List, [], ◌∷◌, ◌++◌, replicate}
use Rattle.std.specs.Float.Ieee.{of_bits, le}
use Rattle.le.specs.Fields.{field_at, field_bytes}
use Rattle.sheet.specs.Sheet.{sheet_in, conjuncts_in}
use Rattle.join.specs.Join.{join_selectivity_from_conjuncts}
use Rattle.answers.specs.Answers.{answered, leaves}
use Rattle.join_answer.specs.Join.{join_bytes, join_result}
use Rattle.demand.specs.Reader.{blocks, non_nulls}
use Rattle.demand.specs.Demand.{AcceptedJoin}

abbrev zeros : ℕ → List ℕ
zeros n = replicate n 0

-- source 1, no bounds, 100
abbrev hundred : List ℕ
hundred = 1 ∷ 0 ∷ 0 ∷ 0 ∷ 0 ∷ 0 ∷ 0 ∷ 0 ∷ 0x59 ∷ 0x40 ∷ zeros 16

-- rows, and the settings 0.1, 0.25, 0.33, 1000, 100; no sketch, table, key or column
abbrev front : List ℕ
front =
    2 ∷ 0 ∷ hundred ++ hundred
    ++ 5 ∷ 0 ∷ 0x9a ∷ 0x99 ∷ 0x99 ∷ 0x99 ∷ 0x99 ∷ 0x99 ∷ 0xb9 ∷ 0x3f ∷ []
    ++ 0 ∷ 0 ∷ 0 ∷ 0 ∷ 0 ∷ 0 ∷ 0xd0 ∷ 0x3f ∷ []
    ++ 0x1f ∷ 0x85 ∷ 0xeb ∷ 0x51 ∷ 0xb8 ∷ 0x1e ∷ 0xd5 ∷ 0x3f ∷ []
    ++ 0 ∷ 0 ∷ 0 ∷ 0 ∷ 0 ∷ 0x40 ∷ 0x8f ∷ 0x40 ∷ []
    ++ 0 ∷ 0 ∷ 0 ∷ 0 ∷ 0 ∷ 0 ∷ 0x59 ∷ 0x40 ∷ []
    ++ zeros 10

-- the columns 1, 2 and 3; 1 = 2 (number 3), 2 null-safe 3 (4), 1 = 1 (5); no operand
abbrev expressions : List ℕ
expressions =
    6 ∷ 0 ∷ 1 ∷ 0 ∷ 1 ∷ 0 ∷ zeros 21 ++ 1 ∷ 0 ∷ 2 ∷ 0 ∷ zeros 21 ++ 1 ∷ 0 ∷ 3 ∷ 0 ∷ zeros 21
    ++ 3 ∷ 0 ∷ 0 ∷ 0 ∷ 1 ∷ 0 ∷ zeros 19 ++ 3 ∷ 1 ∷ 1 ∷ 0 ∷ 2 ∷ 0 ∷ zeros 19 ++ 3 ∷ 0 ∷ 0 ∷ 0 ∷ 0 ∷ 0 ∷ zeros 19
    ++ 0 ∷ 0 ∷ []

-- classes of both sides, and conjuncts
abbrev sheet : List ℕ → List ℕ → List ℕ
sheet classes conjuncts = front ++ (classes ++ (expressions ++ conjuncts))

abbrev answer : List ℕ → List ℕ
answer s = join_bytes (join_selectivity_from_conjuncts (sheet_in s) (conjuncts_in s))

abbrev Says : List ℕ → List (List ℕ) → List ℕ → Type 0
Says s bs ns = (blocks (answer s) ≡ bs) × (non_nulls (answer s) ≡ ns)

-- 1 = 2 and 2 null-safe 3: the walk goes on over the null-safe one
chain : Says (sheet (zeros 4) (2 ∷ 0 ∷ 3 ∷ 0 ∷ 4 ∷ 0 ∷ [])) ((1 ∷ 2 ∷ 3 ∷ []) ∷ []) (1 ∷ 2 ∷ 3 ∷ [])
unfolding sheet_in conjuncts_in join_selectivity_from_conjuncts join_bytes blocks non_nulls field_at field_bytes of_bits le
chain = (refl, refl)

-- a left class of 3 and 9, and 2 null-safe 3: the walk has nowhere to start
null_safe_law : Says (sheet (1 ∷ 0 ∷ 2 ∷ 0 ∷ hundred ++ 3 ∷ 0 ∷ 9 ∷ 0 ∷ 0 ∷ 0 ∷ []) (1 ∷ 0 ∷ 4 ∷ 0 ∷ [])) ((2 ∷ 3 ∷ 9 ∷ []) ∷ []) []
unfolding sheet_in conjuncts_in join_selectivity_from_conjuncts join_bytes blocks non_nulls field_at field_bytes of_bits le
null_safe_law = (refl, refl)

-- right classes of 1 and 9 and of 2 and 8, and 1 = 2 twice: the walk goes over conjuncts alone
joined : Says (sheet (0 ∷ 0 ∷ 2 ∷ 0 ∷ 2 ∷ 0 ∷ hundred ++ 1 ∷ 0 ∷ 9 ∷ 0 ∷ 2 ∷ 0 ∷ hundred ++ 2 ∷ 0 ∷ 8 ∷ 0 ∷ []) (2 ∷ 0 ∷ 3 ∷ 0 ∷ 3 ∷ 0 ∷ [])) ((1 ∷ 2 ∷ 8 ∷ 9 ∷ []) ∷ []) (1 ∷ 2 ∷ [])
unfolding sheet_in conjuncts_in join_selectivity_from_conjuncts join_bytes blocks non_nulls field_at field_bytes of_bits le
joined = (refl, refl)

-- two left classes, 1 = 1: two blocks
two_blocks : Says (sheet (2 ∷ 0 ∷ 2 ∷ 0 ∷ hundred ++ 4 ∷ 0 ∷ 6 ∷ 0 ∷ 3 ∷ 0 ∷ hundred ++ 3 ∷ 0 ∷ 5 ∷ 0 ∷ 127 ∷ 0 ∷ 0 ∷ 0 ∷ []) (1 ∷ 0 ∷ 5 ∷ 0 ∷ [])) ((3 ∷ 5 ∷ 127 ∷ []) ∷ (4 ∷ 6 ∷ []) ∷ []) (1 ∷ [])
unfolding sheet_in conjuncts_in join_selectivity_from_conjuncts join_bytes blocks non_nulls field_at field_bytes of_bits le
two_blocks = (refl, refl)

-- ---- a call: 1 = 1, written into 100 bytes

abbrev self_equal : List ℕ
self_equal = sheet (zeros 4) (1 ∷ 0 ∷ 5 ∷ 0 ∷ [])

call : AcceptedJoin
unfolding join_result answered field_at field_bytes of_bits le
call = record {
  sheet = self_equal;
  lent = zeros 100;
  size = 70;
  after = leaves (join_result self_equal) (zeros 100);
  comes = (refl, refl);
}
