-- The bytes of a join's answer: how many there are, and that what the join hands out gives them. Assumes nothing.
use Prim.Native.Nat.{ℕ, ◌+◌, ◌-◌, ◌*◌, ◌/◌, ◌≤◌}
use mathlib.Core.Path.{◌≡◌, sym, ap, ◌∙◌}
use mathlib.Core.Bool.{Bool}
use mathlib.Core.List.{List, ◌++◌}
use native.Mathlib.Omega.{arith}
use lib.Ieee.{Float}
use lib.ListN.{length, take, drop, length-append, length-map}
use lib.Seq.{take_at, length-take-le}
use Rattle.le.specs.Fields.{field_bytes, u16_bytes, onto}
use Rattle.le.proofs.FieldLaws.{bytes_length}
use Rattle.le.proofs.OntoLaws.{onto_part, onto_length}
use Rattle.estimate.specs.declared.Estimate.{Estimate}
use Rattle.number_bytes.specs.Numbers.{numbers_bytes, counted, counted_numbers}
use Rattle.number_bytes.proofs.NumberLaws.{numbers_length, counted_length}
use Rattle.records.specs.Classes.{ColumnEquivalenceClass}
use Rattle.records.specs.Lists.{tabulate}
use Rattle.sheet.specs.Sheet.{Sheet}
use Rattle.layout.specs.Places.{column_limit, conjunct_limit, number_size, coverage_size, join_classes_offset, first_class_offset, join_fixed_size}
use Rattle.class_state.specs.State.{returned_roots, class_at_root, into_classes}
use Rattle.class_state.specs.Bytes.{classes_bytes}
use Rattle.class_state.specs.Sizes.{member_count, returned_count, counts_size}
use Rattle.class_state.proofs.SizeLaws.{classes_size_law}
use Rattle.class_state.proofs.CountLaws.{counts_size_law, counts_returned}
use Rattle.equality_pairs.specs.Pairs.{equality_pairs}
use Rattle.equality_pairs.specs.NonNull.{marked_columns}
use Rattle.equality_pairs.proofs.PairLaws.{pairs_length}
use Rattle.edge_fold.specs.Coverages.{coverages_bytes}
use Rattle.edge_fold.proofs.CoverageLaws.{coverages_length}
use Rattle.edge_fold.proofs.CountLaws.{coverage_count_law}
use Rattle.join_parts.specs.Parts.{figures_bytes}
use Rattle.join_parts.proofs.PartLaws.{figures_length}
use Rattle.join.specs.Join.{JoinSelectivityEstimate, join_estimate, join_selectivity_from_conjuncts}
use Rattle.join.specs.Joined.{joined}
use Rattle.join.specs.declared.Joined.{Joined}
use Rattle.join_answer.specs.Join.{join_bytes}

-- ---- how many there are

counted_figures : (a b : Estimate) (x : Float) → length (counted 1 (figures_bytes a b x)) ≡ join_classes_offset
counted_figures a b x = let c = counted_length 1 (figures_bytes a b x) in let f = figures_length a b x in omega arith

module _ (j : JoinSelectivityEstimate) where
  abbrev figures : List ℕ
  figures = figures_bytes j.selectivity j.match_probability j.residual_selectivity

  abbrev class_list : List ℕ
  class_list = classes_bytes j.equivalence_classes

  abbrev coverage_list : List ℕ
  coverage_list = coverages_bytes j.left_equality_coverages

  pub join_length : length (join_bytes j) ≡ join_fixed_size + length (classes_bytes j.equivalence_classes) + coverage_size * length j.left_equality_coverages + number_size * length j.non_null_equality_columns
  unfolding join_bytes
  join_length =
      let p = counted (length j.equivalence_classes) class_list in
      let q = counted (length j.left_equality_coverages) coverage_list in
      let r = counted_numbers j.non_null_equality_columns in
      let a = length-append (counted 1 figures) (p ++ (q ++ r)) in
      let b = length-append p (q ++ r) in
      let c = length-append q r in
      let d = counted_figures j.selectivity j.match_probability j.residual_selectivity in
      let e = counted_length (length j.equivalence_classes) class_list in
      let f = counted_length (length j.left_equality_coverages) coverage_list in
      let g = counted_length (length j.non_null_equality_columns) (numbers_bytes j.non_null_equality_columns) in
      let n = coverages_length j.left_equality_coverages in
      let o = numbers_length j.non_null_equality_columns in
      omega arith

-- ---- bytes put behind others

-- the figures, then the number of classes behind them
module _ (a b : Estimate) (x : Float) (n : ℕ) where
  abbrev front : List ℕ
  front = counted 1 (figures_bytes a b x) ++ u16_bytes n

  front_length : length front ≡ first_class_offset
  front_length =
      let l = length-append (counted 1 (figures_bytes a b x)) (u16_bytes n) in
      let f = counted_figures a b x in
      let u = bytes_length 2 n in
      omega arith

  module _ (out X Y : List ℕ) (k : ℕ) (room : first_class_offset ≤ length out) (f : X ≡ onto (counted 1 (figures_bytes a b x)) out) (g : k ≡ length X - join_classes_offset) (h : Y ≡ onto (u16_bytes n) (take k (drop join_classes_offset X))) where
    pub front_put : take join_classes_offset X ++ (Y ++ drop k (drop join_classes_offset X)) ≡ onto front out
    front_put = onto_part (counted 1 (figures_bytes a b x)) (u16_bytes n) out X Y join_classes_offset k (counted_figures a b x) g (omega arith) f h

    pub front_put_length : length (take join_classes_offset X ++ (Y ++ drop k (drop join_classes_offset X))) ≡ length out
    front_put_length = let l = front_length in ap length front_put ∙ onto_length front out (omega arith)

-- ---- what the join hands out

module _ (sheet : Sheet) (conjuncts : List ℕ) (r : Joined) (e : r ≡ joined sheet conjuncts) where
  abbrev j : JoinSelectivityEstimate
  j = join_selectivity_from_conjuncts sheet conjuncts

  figures_are : figures_bytes r.selectivity r.match_probability r.residual_selectivity ≡ figures_bytes j.selectivity j.match_probability j.residual_selectivity
  unfolding joined join_selectivity_from_conjuncts join_estimate
  figures_are = ap (λ (x : Joined). figures_bytes x.selectivity x.match_probability x.residual_selectivity) e

  classes_are : into_classes r.classes ≡ j.equivalence_classes
  unfolding joined join_selectivity_from_conjuncts join_estimate
  classes_are = ap (λ (x : Joined). into_classes x.classes) e

  coverages_are : r.coverages ≡ length j.left_equality_coverages
  unfolding joined join_selectivity_from_conjuncts join_estimate
  coverages_are = ap (λ (x : Joined). x.coverages) e

  columns_are : marked_columns r.marks ≡ j.non_null_equality_columns
  unfolding joined join_selectivity_from_conjuncts join_estimate
  columns_are = ap (λ (x : Joined). marked_columns x.marks) e

  pub coverages_below : length conjuncts ≤ conjunct_limit → r.coverages ≤ conjunct_limit
  unfolding join_selectivity_from_conjuncts join_estimate
  coverages_below h =
      let c = coverages_are in
      let p = coverage_count_law sheet (equality_pairs sheet conjuncts) in
      let q = pairs_length sheet conjuncts in
      omega arith

  -- by how many columns each root has
  module _ (counts : List ℕ) (c : counts ≡ tabulate (member_count r.classes.roots) column_limit) where
    pub join_size : (classes marked : ℕ) → classes ≡ counts_size counts → marked ≡ length (marked_columns r.marks) → join_fixed_size + classes + coverage_size * r.coverages + number_size * marked ≡ length (join_bytes j)
    join_size classes marked f g =
        let a = join_length j in
        let k = counts_size_law r.classes.roots counts c in
        let s = classes_size_law r.classes in
        let l = ap (λ (cs : List ColumnEquivalenceClass). length (classes_bytes cs)) classes_are in
        let n = coverages_are in
        let m = ap length columns_are in
        omega arith

    class_count_law : returned_count counts ≡ length (into_classes r.classes)
    unfolding into_classes
    class_count_law = counts_returned r.classes.roots counts c ∙ sym (length-map (returned_roots r.classes.roots) (class_at_root r.classes))

  -- the coverages at the front of what was lent for them
  module _ (out bytes : List ℕ) (b : bytes ≡ onto (coverages_bytes j.left_equality_coverages) out) where
    coverages_size_law : length (coverages_bytes j.left_equality_coverages) ≡ coverage_size * r.coverages
    coverages_size_law = coverages_length j.left_equality_coverages ∙ ap (λ (n : ℕ). coverage_size * n) (sym coverages_are)

    coverages_front : take (coverage_size * r.coverages) bytes ≡ coverages_bytes j.left_equality_coverages
    unfolding onto
    coverages_front =
        let cs : List ℕ = coverages_bytes j.left_equality_coverages in
        ap (take (coverage_size * r.coverages)) b ∙ take_at cs (drop (length cs) out) (coverage_size * r.coverages) coverages_size_law

    pub coverages_within : coverage_size * r.coverages ≤ length bytes
    unfolding onto
    coverages_within =
        let cs : List ℕ = coverages_bytes j.left_equality_coverages in
        let a = ap length b ∙ length-append cs (drop (length cs) out) in
        let z = coverages_size_law in
        omega arith

    abbrev pub cut : List ℕ
    cut = take (coverage_size * r.coverages) bytes

    pub cut_length : length cut ≡ coverage_size * r.coverages
    cut_length = length-take-le (coverage_size * r.coverages) bytes coverages_within

    cut_count : length cut / coverage_size ≡ length j.left_equality_coverages
    cut_count = let k = cut_length in let n = coverages_are in omega arith

    module _ (counts : List ℕ) (c : counts ≡ tabulate (member_count r.classes.roots) column_limit) (n : ℕ) (f : n ≡ returned_count counts) where
      abbrev in_front : List ℕ
      in_front = front r.selectivity r.match_probability r.residual_selectivity n

      abbrev classes : List ℕ
      classes = classes_bytes (into_classes r.classes)

      abbrev behind : List ℕ
      behind = counted (length cut / coverage_size) cut ++ counted_numbers (marked_columns r.marks)

      -- the parts as they are put give the join's bytes
      parts_are : (in_front ++ classes) ++ behind ≡ join_bytes j
      unfolding join_bytes figures_bytes field_bytes
      parts_are =
          let count : n ≡ length j.equivalence_classes = f ∙ class_count_law counts c ∙ ap length classes_are in
          λ i.
          ((counted 1 (figures_are i) ++ u16_bytes (count i)) ++ classes_bytes (classes_are i))
          ++ (counted (cut_count i) (coverages_front i) ++ counted_numbers (columns_are i))

      -- a slice holds the figures and the count at its front, then gets the classes behind them, then the rest
      module _ (lent X Y : List ℕ) (k : ℕ) (room : length (join_bytes j) ≤ length lent) (x : X ≡ onto in_front lent) (l : k ≡ length X - first_class_offset) (y : Y ≡ onto classes (take k (drop first_class_offset X))) where
        abbrev with_classes : List ℕ
        with_classes = take first_class_offset X ++ (Y ++ drop k (drop first_class_offset X))

        classes_put : with_classes ≡ onto (in_front ++ classes) lent
        classes_put = onto_part in_front classes lent X Y first_class_offset k (front_length r.selectivity r.match_probability r.residual_selectivity n) l (let a = join_length j in omega arith) x y

        all_length : length (in_front ++ classes) + length behind ≡ length (join_bytes j)
        all_length = sym (length-append (in_front ++ classes) behind) ∙ ap length parts_are

        pub classes_put_length : length with_classes ≡ length lent
        classes_put_length = let a = all_length in ap length classes_put ∙ onto_length (in_front ++ classes) lent (omega arith)

        pub all_put : (marks : List Bool) (Z : List ℕ) (at m : ℕ) → marks ≡ r.marks → at ≡ first_class_offset + counts_size counts → m ≡ length with_classes - at
            → Z ≡ onto (counted (length cut / coverage_size) cut ++ counted_numbers (marked_columns marks)) (take m (drop at with_classes)) → take at with_classes ++ (Z ++ drop m (drop at with_classes)) ≡ onto (join_bytes j) lent
        all_put marks Z at m are a g z =
            let d = length-append in_front classes in
            let f = front_length r.selectivity r.match_probability r.residual_selectivity n in
            let s = classes_size_law r.classes in
            let u = counts_size_law r.classes.roots counts c in
            let w = all_length in
            onto_part (in_front ++ classes) behind lent with_classes Z at m (omega arith) g (omega arith) classes_put (z ∙ ap (λ (ms : List Bool). onto (counted (length cut / coverage_size) cut ++ counted_numbers (marked_columns ms)) (take m (drop at with_classes))) are) ∙ ap (λ (bs : List ℕ). onto bs lent) parts_are
