-- A record as the list of its fields, from which its rule, size, bytes and order follow. Definitions only.
use Rattle.std.specs.Prelude.{ℕ, zero, suc, ◌+◌, ◌-◌, cond, List, [], ◌∷◌, ◌++◌, leb, ltb, ℤ, length, Float}
use Rattle.std.specs.Int.Signed.{lt_z}
use Rattle.std.specs.Float.{binary64}
use Rattle.std.specs.Float.Ieee.{to_bits, lt}
use Rattle.le.specs.Fields.{field_bytes, u64_bytes}
use Rattle.rules.specs.Rules.{ask, or_else}
use Rattle.layout.specs.Places.{number_size, wide_size, float_size}

pub data Order : Type 0 where
  before : Order
  same : Order
  after : Order

-- the first that differs decides
abbrev pub order_then : Order → Order → Order
order_then before second = before
order_then same second = second
order_then after second = after

-- C is what a rule knows besides the bytes, A the record's value
pub record Field (C A : Type 0) : Type 0 where
  pub width : ℕ
  pub refusal : C → List ℕ → ℕ → ℕ
  pub bytes : A → List ℕ
  pub order : A → A → Order

-- ---- the record

abbrev pub size_of : {C A : Type 0} → List (Field C A) → ℕ
size_of [] = 0
size_of (f ∷ fs) = f.width + size_of fs

-- the place k bytes behind another
abbrev pub behind : ℕ → ℕ → ℕ
behind at zero = at
behind at (suc k) = at + suc k

-- the fields' rules in byte order, the first field k bytes behind the record's place
abbrev pub refusal_from : {C A : Type 0} → List (Field C A) → C → List ℕ → ℕ → ℕ → ℕ
refusal_from [] c s at k = 0
refusal_from (f ∷ []) c s at k = f.refusal c s (behind at k)
refusal_from (f ∷ g ∷ fs) c s at k = or_else (f.refusal c s (behind at k)) (refusal_from (g ∷ fs) c s at (k + f.width))

-- 2: n bytes are not there
abbrev pub whole : ℕ → List ℕ → ℕ → ℕ
whole n s at = ask (leb n (length s - at)) 2

-- the record is there whole, and each field keeps its rule
abbrev pub fields_refusal : {C A : Type 0} → List (Field C A) → C → List ℕ → ℕ → ℕ
fields_refusal fs c s at = or_else (whole (size_of fs) s at) (refusal_from fs c s at 0)

abbrev pub bytes_of : {C A : Type 0} → List (Field C A) → A → List ℕ
bytes_of [] x = []
bytes_of (f ∷ fs) x = f.bytes x ++ bytes_of fs x

abbrev pub order_of : {C A : Type 0} → List (Field C A) → A → A → Order
order_of [] x y = same
order_of (f ∷ fs) x y = order_then (f.order x y) (order_of fs x y)

-- ---- numbers

abbrev pub number_order : ℕ → ℕ → Order
number_order a b = cond (ltb a b) before (cond (ltb b a) after same)

-- so many bytes
abbrev pub sized : {C A : Type 0} → ℕ → (A → ℕ) → (C → List ℕ → ℕ → ℕ) → Field C A
sized n get rule = record {
  width = n;
  refusal = rule;
  bytes = λ x. field_bytes n (get x);
  order = λ x y. number_order (get x) (get y);
}

-- a column, a table, an expression, a count of records
abbrev pub number : {C A : Type 0} → (A → ℕ) → (C → List ℕ → ℕ → ℕ) → Field C A
number = sized number_size

-- a count of rows or values
abbrev pub wide : {C A : Type 0} → (A → ℕ) → (C → List ℕ → ℕ → ℕ) → Field C A
wide = sized wide_size

abbrev pub byte : {C A : Type 0} → (A → ℕ) → (C → List ℕ → ℕ → ℕ) → Field C A
byte get rule = record {
  width = 1;
  refusal = rule;
  bytes = λ x. get x ∷ [];
  order = λ x y. number_order (get x) (get y);
}

-- ---- whole numbers and floats, by value

abbrev pub integer_order : ℤ → ℤ → Order
integer_order a b = cond (lt_z a b) before (cond (lt_z b a) after same)

abbrev pub float_order : Float → Float → Order
float_order x y = cond (lt x y) before (cond (lt y x) after same)

-- a float by the pattern that is written for it
abbrev pub pattern : {C A : Type 0} → (A → Float) → (A → ℕ) → (C → List ℕ → ℕ → ℕ) → Field C A
pattern get bits rule = record {
  width = float_size;
  refusal = rule;
  bytes = λ x. u64_bytes (bits x);
  order = λ x y. float_order (get x) (get y);
}

abbrev pub float : {C A : Type 0} → (A → Float) → (C → List ℕ → ℕ → ℕ) → Field C A
float get = pattern get (λ x. to_bits binary64 (get x))

-- ---- parts

-- a part of the record that has fields of its own, and a rule for them together
abbrev pub group : {C D A B : Type 0} → (A → B) → (C → List ℕ → ℕ → ℕ) → List (Field D B) → Field C A
group get rule fs = record {
  width = size_of fs;
  refusal = rule;
  bytes = λ x. bytes_of fs (get x);
  order = λ x y. order_of fs (get x) (get y);
}

-- no rule
abbrev pub no_rule : {C : Type 0} → C → List ℕ → ℕ → ℕ
no_rule c s at = 0
