-- Where records and sections stand. Assumes nothing.
use Prim.Native.Nat.{ℕ, zero, suc, ◌+◌, ◌*◌, ◌<◌, ◌≤◌}
use mathlib.Core.Path.{◌≡◌, refl, sym, ap, ◌∙◌}
use mathlib.Core.List.{List, [], ◌∷◌}
use native.Mathlib.Omega.{arith}
use native.Mathlib.Nat.{add-zero, mul-zero, mul-suc, mul-le-mul, le_of_lt}
use native.Mathlib.Numerals.{add-one}
use lib.ListN.{get_or, set, replicate}
use Rattle.le.specs.Fields.{u16_at}
use Rattle.layout.specs.Places.{count_size, number_size, float_size, table_size, key_size, column_size, expression_size}
use Rattle.sheet.specs.Order.{kind_at, section_count, record_end, record_at, section_at, sections_of, sections_in}
use Rattle.sheet.specs.declared.order.Kind.{Kind}
use Rattle.sheet.specs.declared.order.Kind.TheVariants.{Settings, Tables, Keys, Columns, Expressions, Operands, Conjuncts}

-- ---- sections of records of one size

-- each record of the kind is w bytes long
abbrev pub Fixed : Kind → ℕ → Type 0
Fixed kind w = (s : List ℕ) (at : ℕ) → record_end kind s at ≡ at + w

pub settings_fixed : Fixed Settings float_size
unfolding record_end
settings_fixed s at = refl

pub tables_fixed : Fixed Tables table_size
unfolding record_end
tables_fixed s at = refl

pub keys_fixed : Fixed Keys key_size
unfolding record_end
keys_fixed s at = refl

pub columns_fixed : Fixed Columns column_size
unfolding record_end
columns_fixed s at = refl

pub expressions_fixed : Fixed Expressions expression_size
unfolding record_end
expressions_fixed s at = refl

pub operands_fixed : Fixed Operands number_size
unfolding record_end
operands_fixed s at = refl

pub conjuncts_fixed : Fixed Conjuncts number_size
unfolding record_end
conjuncts_fixed s at = refl

pub fixed_place : (kind : Kind) (w : ℕ) → Fixed kind w → (s : List ℕ) (start i : ℕ) → record_at kind s start i ≡ start + count_size + w * i
unfolding record_at
fixed_place kind w h s start zero = rw mul-zero (sym (add-zero (start + count_size)))
fixed_place kind w h s start (suc i) =
    h s (record_at kind s start i) ∙ (ap (λ (at : ℕ). at + w) (fixed_place kind w h s start i) ∙ one_more (start + count_size) w i)
  where
    one_more : (a w i : ℕ) → a + w * i + w ≡ a + w * suc i
    one_more a w i = rw mul-suc (regroup a (w * i) w)
      where
        regroup : (a b c : ℕ) → a + b + c ≡ a + (b + c)
        regroup a b c = omega arith

-- the items of a record whose count and items' size are two bytes each
pub items_below : (item n : ℕ) → item < 65536 → n < 65536 → item * n ≤ 4294967296
items_below item n h k = mul-le-mul {n₂ = 65536} (le_of_lt h) (le_of_lt k)

-- ---- one more

pub record_next : (kind : Kind) (s : List ℕ) (start i : ℕ) → record_end kind s (record_at kind s start i) ≡ record_at kind s start (i + 1)
unfolding record_at
record_next kind s start i = rw add-one refl

pub section_next : (s : List ℕ) (k : ℕ) → record_at (kind_at k) s (section_at s k) (u16_at s (section_at s k)) ≡ section_at s (k + 1)
unfolding section_at
section_next s k = ap (section_at s) (sym (add-one k))

-- ---- the sections' starts, noted one by one

-- of the sections' starts the first k are noted, and the others are 0
unfoldable pub starts_before : List ℕ → ℕ → List ℕ
starts_before s zero = replicate section_count 0
starts_before s (suc k) = set (starts_before s k) k (section_at s k)

pub starts_next : (s : List ℕ) (k : ℕ) → set (starts_before s k) k (section_at s k) ≡ starts_before s (k + 1)
unfolding starts_before
starts_next s k = rw add-one refl

pub starts_all : (s : List ℕ) → sections_of (starts_before s section_count) ≡ sections_in s
unfolding starts_before sections_in
starts_all s = refl

-- ---- starts that a u16 holds

below_set : (l : List ℕ) (k v m : ℕ) → v < m → ((j : ℕ) → get_or l j 0 < m) → (j : ℕ) → get_or (set l k v) j 0 < m
below_set [] k v m h b j = b j
below_set (x ∷ xs) zero v m h b zero = h
below_set (x ∷ xs) zero v m h b (suc j) = b (suc j)
below_set (x ∷ xs) (suc k) v m h b zero = b 0
below_set (x ∷ xs) (suc k) v m h b (suc j) = below_set xs k v m h (λ i. b (suc i)) j

-- each is below 2 ^ 16
pub record Short (starts : List ℕ) : Type 0 where
  pub each : (j : ℕ) → get_or starts j 0 < 65536

pub short_none : Short (replicate section_count 0)
short_none = record { each = none section_count }
  where
    none : (n j : ℕ) → get_or (replicate n 0) j 0 < 65536
    none zero j = omega arith
    none (suc n) zero = omega arith
    none (suc n) (suc j) = none n j

pub short_set : (starts : List ℕ) (k at : ℕ) → at < 65536 → Short starts → Short (set starts k at)
short_set starts k at h b = record { each = below_set starts k at 65536 h b.each }
