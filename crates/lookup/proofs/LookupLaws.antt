-- What is looked up in a sheet's lists, by where it stands in the bytes. Assumes nothing.
use Prim.Native.Nat.{ℕ, zero, suc, ◌+◌, ◌-◌, ◌≤◌, ◌<◌, min}
use mathlib.Core.Path.{◌≡◌, refl, sym, ap, ◌∙◌}
use mathlib.Core.Bool.{Bool, true, false, cond}
use mathlib.Core.List.{List, ◌∷◌}
use native.Mathlib.Omega.{arith}
use native.Mathlib.Nat.{add-zero, zero-add, sub-zero}
use borrow.Author.Tests.{ltb-true, ltb-false, lt-ltb, le-ltb}
use lib.Dec.{ltb}
use lib.Ieee.{Float}
use Rattle.std.specs.Prelude.{Option, None, Some, option_map}
use Rattle.std.specs.Option.{option_or}
use lib.ListN.{length, take, drop, get_or-eq_default}
use Rattle.le.specs.Fields.{byte_at, u16_at}
use Rattle.layout.specs.Places.{number_size, column_size, expression_size}
use Rattle.records.specs.Lists.{tabulate_from}
use Rattle.records.specs.Columns.{column_profile_at}
use Rattle.records.specs.Expressions.{kind_of, expression_at}
use Rattle.records.specs.declared.expressions.Expression.TheVariants.{Other}
use Rattle.records.proofs.ListLaws.{tabulate_alike}
use Rattle.expression_rules.specs.Operands.{expression_place}
use Rattle.sheet.specs.Sheet.{record_in, records_in, sheet_of}
use Rattle.sheet.specs.declared.Sections.{Sections}
use Rattle.sheet.specs.declared.order.Kind.TheVariants.{Columns, Expressions, Operands}
use Rattle.sheet.proofs.PlaceLaws.{columns_fixed, expressions_fixed, operands_fixed, fixed_place}
use Rattle.sheet.proofs.SheetLaws.{records_length, fixed_record_at}
use Rattle.scan.proofs.ScanLaws.{placed, placed_is}
use Rattle.lookup.specs.Lookup.{expression_of, operand_in, operands_of, column_of, beside_rows, profile_in, left_profile, right_profile, profile_and_rows, PlaceAndRows, placed_profile, column_place, place_beside, profile_place, expression_kind}
pub use Rattle.records.proofs.KindLaws.{of_kind, kind_read}
use Rattle.records.specs.declared.expressions.ExpressionKind.{ExpressionKind}
use Rattle.records.specs.declared.expressions.ExpressionKind.TheVariants.{Other as OtherKind}

-- ---- expressions

module _ (s : List ℕ) (q : Sections) where
  pub expressions_length : u16_at s q.expressions ≡ length (sheet_of s q).expressions
  unfolding sheet_of
  expressions_length = sym (records_length Expressions expression_at s q.expressions)

  pub expression_found : (e : ℕ) → e < length (sheet_of s q).expressions → expression_at s (expression_place q.expressions e) ≡ expression_of (sheet_of s q) e
  unfolding sheet_of
  expression_found e h =
      let l = records_length Expressions expression_at s q.expressions in
      let below : e < u16_at s q.expressions = omega arith in
      sym (fixed_record_at Expressions expression_at s q.expressions expression_size expressions_fixed e Other below)

  pub expression_missing : (e : ℕ) → length (sheet_of s q).expressions ≤ e → Other ≡ expression_of (sheet_of s q) e
  expression_missing e h = sym (get_or-eq_default (sheet_of s q).expressions Other h)

  -- ---- operands

  pub operands_length : u16_at s q.operands ≡ length (sheet_of s q).operands
  unfolding sheet_of
  operands_length = sym (records_length Operands u16_at s q.operands)

drop_from : (f : ℕ → ℕ) (i n k : ℕ) → drop k (tabulate_from f i n) ≡ tabulate_from f (i + k) (n - k)
unfolding tabulate_from
drop_from f i n zero = rw (add-zero i, sub-zero n) refl
drop_from f i zero (suc k) = ap (tabulate_from f (i + suc k)) (none k)
  where
    none : (k : ℕ) → 0 ≡ 0 - suc k
    none k = omega arith
drop_from f i (suc n) (suc k) = drop_from f (i + 1) n k ∙ ap (λ (j : ℕ). tabulate_from f j (n - k)) (shift i k) ∙ ap (tabulate_from f (i + suc k)) (less n k)
  where
    less : (n k : ℕ) → n - k ≡ suc n - suc k
    less n k = omega arith

    shift : (i k : ℕ) → i + 1 + k ≡ i + suc k
    shift i k = omega arith

take_from : (f : ℕ → ℕ) (i n c : ℕ) → take c (tabulate_from f i n) ≡ tabulate_from f i (min c n)
unfolding tabulate_from
take_from f i n zero = ap (tabulate_from f i) (none n)
  where
    none : (n : ℕ) → 0 ≡ min 0 n
    none n = omega arith
take_from f i zero (suc c) = ap (tabulate_from f i) (none c)
  where
    none : (c : ℕ) → 0 ≡ min (suc c) 0
    none c = omega arith
take_from f i (suc n) (suc c) = ap (◌∷◌ (f i)) (take_from f (i + 1) n c) ∙ ap (tabulate_from f i) (one c n)
  where
    one : (c n : ℕ) → suc (min c n) ≡ min (suc c) (suc n)
    one c n = omega arith

-- the operands of a run, one by one
pub operands_from : (s : List ℕ) (q : Sections) (first count : ℕ) → operands_of (sheet_of s q) first count ≡ tabulate_from (operand_in s q.operands) first (min (first + count) (length (sheet_of s q).operands) - first)
unfolding sheet_of records_in
operands_from s q first count =
    let start = q.operands in
    let n = u16_at s start in
    let f = operand_in s start in
    ap (λ (l : List ℕ). take count (drop first l)) (tabulate_alike (record_in Operands u16_at s start) f n (λ i l. ap (u16_at s) (fixed_place Operands number_size operands_fixed s start i)))
    ∙ ap (take count) (drop_from f 0 n first)
    ∙ take_from f (0 + first) (n - first) count
    ∙ ap (λ (i : ℕ). tabulate_from f i (min count (n - first))) (zero-add first)
    ∙ ap (tabulate_from f first) (rest first count n (length (sheet_of s q).operands) (operands_length s q))
  where
    rest : (first count n m : ℕ) → n ≡ m → min count (n - first) ≡ min (first + count) m - first
    rest first count n m e = omega arith

-- ---- the profile at a place

front : (s : List ℕ) (at : ℕ) → (column_profile_at s at).column ≡ u16_at s at
unfolding column_profile_at
front s at = refl

placed_in : (s : List ℕ) (start column : ℕ) (rows : Float) → option_map (placed_profile s) (option_map (place_beside rows) (column_place s start column)) ≡ profile_in rows column (records_in Columns column_profile_at s start)
placed_in s start column rows = go (column_place s start column) ∙ placed_is Columns column_profile_at column_size columns_fixed column_of front None (beside_rows rows) s start column
  where
    go : (o : Option ℕ) → option_map (placed_profile s) (option_map (place_beside rows) o) ≡ placed Columns column_profile_at column_size columns_fixed column_of front None (beside_rows rows) s o
    go None = refl
    go (Some at) = refl

module _ (s : List ℕ) (q : Sections) (column : ℕ) where
  pub left_is : option_map (placed_profile s) (option_map (place_beside (sheet_of s q).left_rows.value) (column_place s q.left_columns column)) ≡ left_profile (sheet_of s q) column
  unfolding sheet_of
  left_is = placed_in s q.left_columns column (sheet_of s q).left_rows.value

  pub right_is : option_map (placed_profile s) (option_map (place_beside (sheet_of s q).right_rows.value) (column_place s q.right_columns column)) ≡ right_profile (sheet_of s q) column
  unfolding sheet_of
  right_is = placed_in s q.right_columns column (sheet_of s q).right_rows.value

  -- the left side's profile, and the right side's where there is none
  pub place_left : (at : ℕ) (rows : Float) → Some at ≡ column_place s q.left_columns column → rows ≡ (sheet_of s q).left_rows.value → Some (at, rows) ≡ profile_place s q column
  unfolding profile_place
  place_left at rows f e = rw (← f, e) refl

  pub place_right : (at : ℕ) (rows : Float) → None ≡ column_place s q.left_columns column → Some at ≡ column_place s q.right_columns column → rows ≡ (sheet_of s q).right_rows.value → Some (at, rows) ≡ profile_place s q column
  unfolding profile_place
  place_right at rows f g e = rw (← f, ← g, e) refl

  pub place_none : None ≡ column_place s q.left_columns column → None ≡ column_place s q.right_columns column → None ≡ profile_place s q column
  unfolding profile_place
  place_none f g = rw (← f, ← g) refl

  pub placed_profile_law : (place : Option PlaceAndRows) → place ≡ profile_place s q column → option_map (placed_profile s) place ≡ profile_and_rows (sheet_of s q) column
  unfolding profile_place profile_and_rows
  placed_profile_law place is = ap (option_map (placed_profile s)) is ∙ go (option_map (place_beside (sheet_of s q).left_rows.value) (column_place s q.left_columns column)) _ ∙ (λ k. option_or (left_is k) (right_is k))
    where
      go : (a b : Option PlaceAndRows) → option_map (placed_profile s) (option_or a b) ≡ option_or (option_map (placed_profile s) a) (option_map (placed_profile s) b)
      go None b = refl
      go (Some p) b = refl

-- ---- expressions by their kinds

module _ (s : List ℕ) (q : Sections) (e : ℕ) where
  pub kind_there : e < length (sheet_of s q).expressions → kind_of (byte_at s (expression_place q.expressions e)) ≡ expression_kind s q e
  kind_there h =
      let l = expressions_length s q in
      let b : e < u16_at s q.expressions = omega arith in
      rw (lt-ltb _ _ b) refl

  pub kind_missing : length (sheet_of s q).expressions ≤ e → OtherKind ≡ expression_kind s q e
  kind_missing h =
      let l = expressions_length s q in
      let b : u16_at s q.expressions ≤ e = omega arith in
      rw (le-ltb _ _ b) refl

pub expression_of_kind : (s : List ℕ) (q : Sections) (e : ℕ) → expression_of (sheet_of s q) e ≡ of_kind s (expression_place q.expressions e) (expression_kind s q e)
expression_of_kind s q e = go (ltb e (u16_at s q.expressions)) refl
  where
    at : ℕ
    at = expression_place q.expressions e

    go : (b : Bool) → ltb e (u16_at s q.expressions) ≡ b → expression_of (sheet_of s q) e ≡ of_kind s at (cond b (kind_of (byte_at s at)) OtherKind)
    go true h =
        let below = ltb-true e (u16_at s q.expressions) h in
        let l = expressions_length s q in
        sym (expression_found s q e (omega arith)) ∙ kind_read s at
    go false h =
        let past = ltb-false e (u16_at s q.expressions) h in
        let l = expressions_length s q in
        sym (expression_missing s q e (omega arith))

-- and so for a kind that is told
pub expression_is : (s : List ℕ) (q : Sections) (e : ℕ) (kind : ExpressionKind) → expression_kind s q e ≡ kind → expression_of (sheet_of s q) e ≡ of_kind s (expression_place q.expressions e) kind
expression_is s q e kind h = expression_of_kind s q e ∙ ap (of_kind s (expression_place q.expressions e)) h
