-- What a join's answer is read back as: the blocks are its classes' columns, the non-null columns are its own. What stands from a place on is what is left behind the bytes before it. Assumes nothing.
use Prim.Native.Nat.{ℕ, ◌+◌, ◌*◌, ◌<◌}
use mathlib.Core.Path.{◌≡◌, refl, sym, ap, ◌∙◌}
use mathlib.Core.List.{List, [], ◌∷◌, ◌++◌, map, append_assoc, append-nil, Memᴰ}
use native.Mathlib.Omega.{arith}
use native.Mathlib.Nat.{add-zero}
use lib.ListN.{length, drop}
use lib.Seq.{drop_at, drop-drop}
use Rattle.le.specs.Fields.{u16_at, u16_bytes}
use Rattle.le.proofs.FieldLaws.{bytes_length, field_found}
use Rattle.layout.specs.Places.{coverage_size}
use Rattle.estimate.specs.Bytes.{estimate_bytes}
use Rattle.estimate.proofs.EstimateLaws.{estimate_length}
use Rattle.number_bytes.specs.Numbers.{numbers_bytes}
use Rattle.number_bytes.proofs.NumberLaws.{numbers_length}
use Rattle.records.specs.Lists.{tabulate_from, tabulate}
use Rattle.records.specs.Classes.{ColumnEquivalenceClass, class_head_at, class_column, class_at}
use Rattle.class_state.specs.Bytes.{class_bytes, classes_bytes}
use Rattle.class_state.proofs.SizeLaws.{class_parts}
use Rattle.join.specs.Join.{JoinSelectivityEstimate}
use Rattle.edge_fold.specs.Coverages.{coverages_bytes}
use Rattle.edge_fold.proofs.CoverageLaws.{coverages_length}
use Rattle.join_parts.specs.Parts.{figures_bytes}
use Rattle.join_parts.proofs.PartLaws.{figures_length}
use Rattle.join_answer.specs.Join.{join_bytes}
use Rattle.demand.specs.Reader.{classes_place, block_at, behind_class, blocks_from, behind_classes, blocks, coverages_place, non_null_place, column_in, non_nulls}
use Rattle.demand.specs.Claim.{Columns}

-- two bytes have room for each number of a list, and for their count
pub record Short (l : List ℕ) : Type 0 where
  pub count : length l < 65536
  pub each : (n : ℕ) → Memᴰ n l → n < 65536

pub record ShortJoin (j : JoinSelectivityEstimate) : Type 0 where
  pub class_count : length j.equivalence_classes < 65536
  pub classes : (class : ColumnEquivalenceClass) → Memᴰ class j.equivalence_classes → Short class.columns
  pub coverage_count : length j.left_equality_coverages < 65536
  pub non_null : Short j.non_null_equality_columns

abbrev pub columns_of : ColumnEquivalenceClass → Columns
columns_of class = class.columns

-- ---- one step

skip : (s p q : List ℕ) (at n : ℕ) → drop at s ≡ p ++ q → length p ≡ n → drop (at + n) s ≡ q
skip s p q at n e l = sym (drop-drop n at s) ∙ ap (drop n) e ∙ drop_at p q n l

read_count : (s q : List ℕ) (at v : ℕ) → v < 65536 → drop at s ≡ u16_bytes v ++ q → (u16_at s at ≡ v) × (drop (at + 2) s ≡ q)
read_count s q at v h e = (field_found 2 v s q at h e, skip s (u16_bytes v) q at 2 e (bytes_length 2 v))

-- ---- columns

-- the i-th of those that stand at a place, and the ones behind it
columns_from_law : (cs s q : List ℕ) (at i : ℕ) → ((c : ℕ) → Memᴰ c cs → c < 65536) → drop (at + 2 * i) s ≡ numbers_bytes cs ++ q → tabulate_from (λ (i : ℕ). u16_at s (at + 2 * i)) i (length cs) ≡ cs
unfolding tabulate_from numbers_bytes
columns_from_law [] s q at i h e = refl
columns_from_law (c ∷ cs) s q at i h e =
    let r = read_count s (numbers_bytes cs ++ q) (at + 2 * i) c (h c (Memᴰ.head refl)) (e ∙ append_assoc (u16_bytes c) (numbers_bytes cs) q) in
    let n = columns_from_law cs s q at (i + 1) (λ (d : ℕ) (m : Memᴰ d cs). h d (Memᴰ.tail m)) (ap (λ (k : ℕ). drop k s) (more at i) ∙ r.1) in
    λ k. r.0 k ∷ n k
  where
    more : (at i : ℕ) → at + 2 * (i + 1) ≡ at + 2 * i + 2
    more at i = omega arith

read_columns : (cs s q : List ℕ) (at : ℕ) → Short cs → drop at s ≡ numbers_bytes cs ++ q → (tabulate (λ (i : ℕ). u16_at s (at + 2 * i)) (length cs) ≡ cs) × (drop (at + 2 * length cs) s ≡ q)
read_columns cs s q at h e = (columns_from_law cs s q at 0 h.each (ap (λ (k : ℕ). drop k s) (add-zero at) ∙ e), skip s (numbers_bytes cs) q at (2 * length cs) e (numbers_length cs))

-- ---- classes

read_class : (class : ColumnEquivalenceClass) (s q : List ℕ) (at : ℕ) → Short class.columns → drop at s ≡ class_bytes class ++ q → (block_at s at ≡ class.columns) × (drop (behind_class s at) s ≡ q)
unfolding class_at class_head_at
read_class class s q at h given =
    let e = given ∙ ap (λ (l : List ℕ). l ++ q) (class_parts class) in
    let cs = class.columns in
    let head = estimate_bytes class.distinct in
    let r = read_count s ((head ++ numbers_bytes cs) ++ q) at (length cs) h.count (e ∙ append_assoc (u16_bytes (length cs)) (head ++ numbers_bytes cs) q) in
    let d = skip s head (numbers_bytes cs ++ q) (at + 2) 26 (r.1 ∙ append_assoc head (numbers_bytes cs) q) (estimate_length class.distinct) in
    let c = read_columns cs s q (at + 28) h (ap (λ (k : ℕ). drop k s) (sum at) ∙ d) in
    (ap (tabulate (class_column s at)) r.0 ∙ c.0, ap (λ (n : ℕ). drop (at + 28 + 2 * n) s) r.0 ∙ c.1)
  where
    sum : (at : ℕ) → at + 28 ≡ at + 2 + 26
    sum at = omega arith

read_classes : (classes : List ColumnEquivalenceClass) (s q : List ℕ) (at : ℕ) → ((class : ColumnEquivalenceClass) → Memᴰ class classes → Short class.columns) → drop at s ≡ classes_bytes classes ++ q
    → (blocks_from s at (length classes) ≡ map columns_of classes) × (drop (behind_classes s at (length classes)) s ≡ q)
unfolding blocks_from behind_classes classes_bytes
read_classes [] s q at h e = (refl, e)
read_classes (class ∷ classes) s q at h e =
    let c = read_class class s (classes_bytes classes ++ q) at (h class (Memᴰ.head refl)) (e ∙ append_assoc (class_bytes class) (classes_bytes classes) q) in
    let n = read_classes classes s q (behind_class s at) (λ (d : ColumnEquivalenceClass) (m : Memᴰ d classes). h d (Memᴰ.tail m)) c.1 in
    (λ k. c.0 k ∷ n.0 k, n.1)

-- ---- the answer

module _ (j : JoinSelectivityEstimate) (h : ShortJoin j) where
  abbrev answer : List ℕ
  answer = join_bytes j

  abbrev figures : List ℕ
  figures = figures_bytes j.selectivity j.match_probability j.residual_selectivity

  abbrev non_null_part : List ℕ
  non_null_part = u16_bytes (length j.non_null_equality_columns) ++ numbers_bytes j.non_null_equality_columns

  abbrev coverage_part : List ℕ
  coverage_part = u16_bytes (length j.left_equality_coverages) ++ (coverages_bytes j.left_equality_coverages ++ non_null_part)

  abbrev class_part : List ℕ
  class_part = u16_bytes (length j.equivalence_classes) ++ (classes_bytes j.equivalence_classes ++ coverage_part)

  classes_stand : drop classes_place answer ≡ class_part
  unfolding join_bytes
  classes_stand = skip answer figures class_part 2 60 (drop_at (u16_bytes 1) (figures ++ class_part) 2 (bytes_length 2 1)) (figures_length j.selectivity j.match_probability j.residual_selectivity)

  class_count_law : (u16_at answer classes_place ≡ length j.equivalence_classes) × (drop (classes_place + 2) answer ≡ classes_bytes j.equivalence_classes ++ coverage_part)
  class_count_law = read_count answer (classes_bytes j.equivalence_classes ++ coverage_part) classes_place (length j.equivalence_classes) h.class_count classes_stand

  classes_read : (blocks_from answer (classes_place + 2) (length j.equivalence_classes) ≡ map columns_of j.equivalence_classes) × (drop (behind_classes answer (classes_place + 2) (length j.equivalence_classes)) answer ≡ coverage_part)
  classes_read = read_classes j.equivalence_classes answer coverage_part (classes_place + 2) h.classes class_count_law.1

  pub blocks_read : blocks (join_bytes j) ≡ map columns_of j.equivalence_classes
  unfolding blocks
  blocks_read = ap (blocks_from answer (classes_place + 2)) class_count_law.0 ∙ classes_read.0

  coverages_stand : drop (coverages_place answer) answer ≡ coverage_part
  unfolding coverages_place
  coverages_stand = ap (λ (n : ℕ). drop (behind_classes answer (classes_place + 2) n) answer) class_count_law.0 ∙ classes_read.1

  coverage_count_law : (u16_at answer (coverages_place answer) ≡ length j.left_equality_coverages) × (drop (coverages_place answer + 2) answer ≡ coverages_bytes j.left_equality_coverages ++ non_null_part)
  coverage_count_law = read_count answer (coverages_bytes j.left_equality_coverages ++ non_null_part) (coverages_place answer) (length j.left_equality_coverages) h.coverage_count coverages_stand

  non_nulls_stand : drop (non_null_place answer) answer ≡ non_null_part
  unfolding non_null_place
  non_nulls_stand =
      ap (λ (n : ℕ). drop (coverages_place answer + 2 + coverage_size * n) answer) coverage_count_law.0
      ∙ skip answer (coverages_bytes j.left_equality_coverages) non_null_part (coverages_place answer + 2) (coverage_size * length j.left_equality_coverages) coverage_count_law.1 (coverages_length j.left_equality_coverages)

  non_null_count : (u16_at answer (non_null_place answer) ≡ length j.non_null_equality_columns) × (drop (non_null_place answer + 2) answer ≡ numbers_bytes j.non_null_equality_columns)
  non_null_count = read_count answer (numbers_bytes j.non_null_equality_columns) (non_null_place answer) (length j.non_null_equality_columns) h.non_null.count non_nulls_stand

  pub non_nulls_read : non_nulls (join_bytes j) ≡ j.non_null_equality_columns
  unfolding non_nulls
  non_nulls_read =
      ap (tabulate (column_in answer (non_null_place answer))) non_null_count.0
      ∙ (read_columns j.non_null_equality_columns answer [] (non_null_place answer + 2) h.non_null (non_null_count.1 ∙ sym (append-nil (numbers_bytes j.non_null_equality_columns)))).0
