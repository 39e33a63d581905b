-- The state of columns that are all alone. Assumes nothing.
use Prim.Native.Nat.{ℕ, zero, suc, ◌+◌, ◌-◌, ◌≤◌, ◌<◌}
use mathlib.Core.Path.{◌≡◌, refl, sym, ap, ◌∙◌, subst}
use mathlib.Core.Bool.{Bool, true, false, cond}
use mathlib.Core.List.{List}
use native.Mathlib.Omega.{arith}
use borrow.Author.Tests.{eqb-true, eqb-false}
use lib.Dec.{eqb}
use lib.Ieee.{Float}
use Rattle.std.specs.Prelude.{Option, None, Some}
use Rattle.std.specs.Option.{option_or}
use lib.ListN.{length, get_or, set, replicate, length-set, length-replicate, get_or-replicate}
use lib.Seq.{get_or-set_same, get_or-set_other, set_out, ext_get_or}
use Rattle.le.specs.Fields.{u16_at}
use Rattle.estimate.specs.Bytes.{estimate_at}
use Rattle.estimate.specs.declared.Estimate.{Estimate}
use Rattle.records.specs.Lists.{tabulate_from, tabulate, itself}
use Rattle.records.specs.Columns.{column_profile_at}
use Rattle.records.specs.declared.columns.ColumnProfile.{ColumnProfile}
use Rattle.records.proofs.ListLaws.{tabulate_length, tabulate_at, tabulate_alike}
use Rattle.sheet.specs.Sheet.{Sheet, record_in, records_in, sheet_of}
use Rattle.sheet.specs.declared.Sections.{Sections}
use Rattle.sheet.specs.declared.order.Kind.TheVariants.{Columns}
use Rattle.sheet.proofs.PlaceLaws.{columns_fixed, fixed_place}
use Rattle.scan.specs.Scan.{first_with}
use Rattle.lookup.specs.Lookup.{ProfileAndRows, profile_in, left_profile, right_profile, profile_and_rows}
use Rattle.class_state.specs.declared.EquivalenceClassState.{EquivalenceClassState}
use Rattle.layout.specs.Places.{column_limit}
use Rattle.class_state.specs.Distincts.{record_place, stored_from, store_distincts}
use Rattle.class_state.specs.State.{unknown_distinct, own_distinct, column_distinct, apart}

-- ---- each column its own root, of the first i

abbrev pub Own : List ℕ → ℕ → Type 0
Own out i = (k : ℕ) → k < i → get_or out k 0 ≡ k

pub own_all : (out : List ℕ) (i : ℕ) → length out ≡ 128 → 128 ≤ i → Own out i → out ≡ tabulate itself column_limit
own_all out i n h o = ext_get_or 0 out (tabulate itself 128) (n ∙ sym (tabulate_length itself 128)) (λ (k : ℕ) (l : k < length out). each k l)
  where
    each : (k : ℕ) → k < length out → get_or out k 0 ≡ get_or (tabulate itself 128) k 0
    each k l = o k (omega arith) ∙ sym (tabulate_at itself 128 k 0 (omega arith))

-- ---- distincts stored from the last profile to the first

module _ (s : List ℕ) (start : ℕ) (l₀ : List Estimate) where
  pub stored_first : (n : ℕ) → l₀ ≡ stored_from s start n (n - n) l₀
  unfolding stored_from
  stored_first n = ap (λ (m : ℕ). stored_from s start n m l₀) (none n)
    where
      none : (n : ℕ) → 0 ≡ n - n
      none n = omega arith

  pub stored_length : (i n : ℕ) → length (stored_from s start i n l₀) ≡ length l₀
  unfolding stored_from
  stored_length i zero = refl
  stored_length i (suc n) = length-set (stored_from s start (i + 1) n l₀) (u16_at s (record_place start i)) (estimate_at s (record_place start i + 70)) ∙ stored_length (i + 1) n

  pub stored_next : (l l' : List Estimate) (i n column : ℕ) → 1 ≤ i → i ≤ n → column ≡ u16_at s (record_place start (i - 1)) → l' ≡ set l column (estimate_at s (record_place start (i - 1) + 70))
      → l ≡ stored_from s start i (n - i) l₀ → l' ≡ stored_from s start (i - 1) (n - (i - 1)) l₀
  unfolding stored_from
  stored_next l l' i n column h k c p e =
      p
      ∙ (λ j. set ((e ∙ ap (λ (m : ℕ). stored_from s start m (n - i) l₀) (back i h)) j) (c j) (estimate_at s (record_place start (i - 1) + 70)))
      ∙ ap (λ (m : ℕ). stored_from s start (i - 1) m l₀) (more i n h k)
    where
      back : (i : ℕ) → 1 ≤ i → i ≡ i - 1 + 1
      back i h = omega arith

      more : (i n : ℕ) → 1 ≤ i → i ≤ n → suc (n - i) ≡ n - (i - 1)
      more i n h k = omega arith

  -- a column that the state does not have changes nothing
  pub stored_past : (l : List Estimate) (i n column : ℕ) → 1 ≤ i → i ≤ n → column ≡ u16_at s (record_place start (i - 1)) → length l ≤ column → l ≡ stored_from s start i (n - i) l₀ → l ≡ stored_from s start (i - 1) (n - (i - 1)) l₀
  stored_past l i n column h k c past e = stored_next l l i n column h k c (sym (set_out l column (estimate_at s (record_place start (i - 1) + 70)) past)) e

  pub stored_all : (l : List Estimate) (i n : ℕ) → i ≤ 0 → n ≡ u16_at s start → l ≡ stored_from s start i (n - i) l₀ → l ≡ store_distincts s start l₀
  stored_all l i n h c e = e ∙ (λ j. stored_from s start (zeroth i h j) (rest i n (u16_at s start) h c j) l₀)
    where
      zeroth : (i : ℕ) → i ≤ 0 → i ≡ 0
      zeroth i h = omega arith

      rest : (i n m : ℕ) → i ≤ 0 → n ≡ m → n - i ≡ m
      rest i n m h c = omega arith

-- ---- a column's distinct

-- a profile's distinct, or another where there is none
abbrev own_or : Estimate → Option ProfileAndRows → Estimate
own_or other None = other
own_or other (Some (profile, rows)) = profile.distinct

own_either : (sheet : Sheet) (left right : Option ProfileAndRows) → own_or (own_or (unknown_distinct sheet) right) left ≡ own_distinct sheet (option_or left right)
own_either sheet None None = refl
own_either sheet None (Some (profile, rows)) = refl
own_either sheet (Some (profile, rows)) right = refl

abbrev profile_at : List ℕ → ℕ → ℕ → ColumnProfile
profile_at s start i = column_profile_at s (record_place start i)

module _ (s : List ℕ) (start : ℕ) (l : List Estimate) (d : Estimate) (rows : Float) (column : ℕ) (h : column < length l) where
  stored_from_law : (i n : ℕ) → get_or (stored_from s start i n l) column d ≡ own_or (get_or l column d) (profile_in rows column (tabulate_from (profile_at s start) i n))
  unfolding stored_from first_with tabulate_from column_profile_at
  stored_from_law i zero = refl
  stored_from_law i (suc n) = go (eqb (u16_at s (record_place start i)) column) (eqb-true _ _) (eqb-false _ _) (stored_from_law (i + 1) n)
    where
      go : (t : Bool) → (t ≡ true → u16_at s (record_place start i) ≡ column) → (t ≡ false → u16_at s (record_place start i) ≡ column → ⊥)
          → get_or (stored_from s start (i + 1) n l) column d ≡ own_or (get_or l column d) (profile_in rows column (tabulate_from (profile_at s start) (i + 1) n))
          → get_or (set (stored_from s start (i + 1) n l) (u16_at s (record_place start i)) (estimate_at s (record_place start i + 70))) column d
          ≡ own_or (get_or l column d) (cond t (Some (profile_at s start i, rows)) (profile_in rows column (tabulate_from (profile_at s start) (i + 1) n)))
      go true e f r =
          let k : column < length (stored_from s start (i + 1) n l) = subst (λ (m : ℕ). column < m) (sym (stored_length s start l (i + 1) n)) h in
          subst
          (λ (j : ℕ). get_or (set (stored_from s start (i + 1) n l) j (estimate_at s (record_place start i + 70))) column d ≡ estimate_at s (record_place start i + 70))
          (sym (e refl))
          (get_or-set_same (stored_from s start (i + 1) n l) column (estimate_at s (record_place start i + 70)) d k)
      go false e f r =
          get_or-set_other (stored_from s start (i + 1) n l) (u16_at s (record_place start i)) column (estimate_at s (record_place start i + 70)) d (λ (z : column ≡ u16_at s (record_place start i)). f refl (sym z)) ∙ r

  -- of a whole section
  stored_at : get_or (store_distincts s start l) column d ≡ own_or (get_or l column d) (profile_in rows column (records_in Columns column_profile_at s start))
  unfolding records_in
  stored_at =
      stored_from_law 0 (u16_at s start)
      ∙ ap (λ (k : List ColumnProfile). own_or (get_or l column d) (profile_in rows column k)) (tabulate_alike (profile_at s start) (record_in Columns column_profile_at s start) (u16_at s start) (λ (i : ℕ) (k : i < u16_at s start). ap (column_profile_at s) (sym (fixed_place Columns 98 columns_fixed s start i))))

-- ---- the state

module _ (s : List ℕ) (q : Sections) where
  abbrev unknown : Estimate
  unknown = unknown_distinct (sheet_of s q)

  -- the left columns over the right ones, over none
  abbrev pub all_stored : List Estimate
  all_stored = store_distincts s q.left_columns (store_distincts s q.right_columns (replicate 128 unknown))

  right_length : length (store_distincts s q.right_columns (replicate 128 unknown)) ≡ 128
  right_length = stored_length s q.right_columns (replicate 128 unknown) 0 _ ∙ length-replicate {A = Estimate} 128 unknown

  all_length : length all_stored ≡ 128
  all_length = stored_length s q.left_columns (store_distincts s q.right_columns (replicate 128 unknown)) 0 _ ∙ right_length

  column_distinct_law : (column : ℕ) → column < 128 → get_or all_stored column unknown ≡ column_distinct (sheet_of s q) column
  unfolding sheet_of profile_and_rows
  column_distinct_law column h =
      let right = store_distincts s q.right_columns (replicate 128 unknown) in
      let n = length-replicate {A = Estimate} 128 unknown in
      let m = right_length in
      stored_at s q.left_columns right unknown (sheet_of s q).left_rows.value column (omega arith)
      ∙ ap (λ (d : Estimate). own_or d (left_profile (sheet_of s q) column))
      (stored_at s q.right_columns (replicate 128 unknown) unknown (sheet_of s q).right_rows.value column (omega arith)
      ∙ ap (λ (d : Estimate). own_or d (right_profile (sheet_of s q) column)) (get_or-replicate {A = Estimate} 128 column unknown unknown h))
      ∙ own_either (sheet_of s q) (left_profile (sheet_of s q) column) (right_profile (sheet_of s q) column)

  all_distincts : all_stored ≡ tabulate (column_distinct (sheet_of s q)) column_limit
  all_distincts = ext_get_or unknown all_stored (tabulate (column_distinct (sheet_of s q)) column_limit) (all_length ∙ sym (tabulate_length (column_distinct (sheet_of s q)) column_limit)) (λ (k : ℕ) (h : k < length all_stored). at k (subst (λ (m : ℕ). k < m) all_length h))
    where
      at : (k : ℕ) → k < 128 → get_or all_stored k unknown ≡ get_or (tabulate (column_distinct (sheet_of s q)) column_limit) k unknown
      at k h = column_distinct_law k h ∙ sym (tabulate_at (column_distinct (sheet_of s q)) column_limit k unknown h)

  pub apart_is : (roots : List ℕ) (right left : List Estimate) → roots ≡ tabulate itself column_limit → right ≡ store_distincts s q.right_columns (replicate 128 unknown) → left ≡ store_distincts s q.left_columns right
      → ◌≡◌ {A = EquivalenceClassState} (record { roots = roots; distincts = left }) (apart (sheet_of s q))
  unfolding apart
  apart_is roots right left e f g = λ i. record { roots = e i; distincts = (g ∙ ap (store_distincts s q.left_columns) f ∙ all_distincts) i }
