-- The profiles of an equality's columns, by their places in the two inputs. Assumes nothing.
use Prim.Native.Nat.{ℕ}
use mathlib.Core.Path.{◌≡◌, refl, sym, ap, ◌∙◌}
use mathlib.Core.List.{List}
use lib.Ieee.{Float}
use Rattle.std.specs.Prelude.{Option, None, Some, option_map}
use Rattle.std.specs.Option.{option_or, option_zip}
use Rattle.std.proofs.lemmas.Option.{none-some}
use Rattle.records.specs.Columns.{column_profile_at}
use Rattle.records.specs.declared.columns.ColumnProfile.{ColumnProfile}
use Rattle.sheet.specs.Sheet.{Sheet, sheet_of}
use Rattle.sheet.specs.declared.Sections.{Sections}
use Rattle.lookup.specs.Lookup.{ProfileAndRows, left_profile, right_profile, profile_and_rows, placed_profile, place_beside, column_place}
use Rattle.lookup.proofs.LookupLaws.{left_is, right_is}
use Rattle.range.specs.Selectivity.{non_null_fraction}
use Rattle.edge.specs.Places.{edge_places, placed_distinct, placed_fraction}
use Rattle.edge.specs.Oriented.{OrientedColumns, oriented_as, oriented_join_columns, distinct_or_one, join_column_distinct, fraction_or_one, join_column_non_null_fraction}
use Rattle.edge.specs.declared.places.EdgePlaces.{EdgePlaces}

module _ (s : List ℕ) (q : Sections) where
  abbrev sheet : Sheet
  sheet = sheet_of s q

  abbrev left_rows : Float
  left_rows = sheet.left_rows.value

  abbrev right_rows : Float
  right_rows = sheet.right_rows.value

  -- ---- a column of one input

  abbrev at_place : Float → Option ℕ → Option ProfileAndRows
  at_place rows place = option_map (placed_profile s) (option_map (place_beside rows) place)

  module _ (column : ℕ) (place : Option ℕ) where
    pub found_left : place ≡ column_place s q.left_columns column → at_place left_rows place ≡ left_profile sheet column
    found_left f = ap (at_place left_rows) f ∙ left_is s q column

    pub found_right : place ≡ column_place s q.right_columns column → at_place right_rows place ≡ right_profile sheet column
    found_right f = ap (at_place right_rows) f ∙ right_is s q column

  -- ---- a column of each input

  abbrev pub pair_at : ℕ → ℕ → ℕ × ℕ → OrientedColumns
  pair_at u v places = record { left_column = u; right_column = v; left = column_profile_at s places.0; right = column_profile_at s places.1 }

  as_placed : (u v : ℕ) (a b : Option ℕ) → a ≡ column_place s q.left_columns u → b ≡ column_place s q.right_columns v → oriented_as u v (left_profile sheet u) (right_profile sheet v) ≡ option_map (pair_at u v) (option_zip a b)
  as_placed u v a b f g = (λ k. oriented_as u v (sym (found_left u a f) k) (sym (found_right v b g) k)) ∙ go a b
    where
      go : (x y : Option ℕ) → oriented_as u v (at_place left_rows x) (at_place right_rows y) ≡ option_map (pair_at u v) (option_zip x y)
      go None None = refl
      go None (Some y) = refl
      go (Some x) None = refl
      go (Some x) (Some y) = refl

  -- ---- the columns as they stand, or else exchanged

  module _ (left right : ℕ) (places : EdgePlaces) (is : places ≡ edge_places s q left right) where
    abbrev straight : Option (ℕ × ℕ)
    straight = option_zip places.left_in_left places.right_in_right

    abbrev exchanged : Option (ℕ × ℕ)
    exchanged = option_zip places.right_in_left places.left_in_right

    either : (x y : Option (ℕ × ℕ)) → straight ≡ x → exchanged ≡ y → oriented_join_columns sheet left right ≡ option_or (option_map (pair_at left right) x) (option_map (pair_at right left) y)
    unfolding oriented_join_columns
    either x y e f =
        (λ k. option_or
        (as_placed left right places.left_in_left places.right_in_right (ap (λ (p : EdgePlaces). p.left_in_left) is) (ap (λ (p : EdgePlaces). p.right_in_right) is) k)
        (as_placed right left places.right_in_left places.left_in_right (ap (λ (p : EdgePlaces). p.right_in_left) is) (ap (λ (p : EdgePlaces). p.left_in_right) is) k))
        ∙ (λ k. option_or (option_map (pair_at left right) (e k)) (option_map (pair_at right left) (f k)))

    module _ (a b : ℕ) where
      pub oriented_straight : straight ≡ Some (a, b) → oriented_join_columns sheet left right ≡ Some (pair_at left right (a, b))
      oriented_straight e = either (Some (a, b)) exchanged e refl

      pub oriented_exchanged : straight ≡ None → exchanged ≡ Some (a, b) → oriented_join_columns sheet left right ≡ Some (pair_at right left (a, b))
      oriented_exchanged e f = either None (Some (a, b)) e f

      -- a column and itself are not exchanged
      pub exchanged_apart : straight ≡ None → exchanged ≡ Some (a, b) → right ≡ left → ⊥
      exchanged_apart e f same = none-some (a, b) (sym e ∙ (λ k. option_zip (on_left k) (on_right k)) ∙ f)
        where
          on_left : places.left_in_left ≡ places.right_in_left
          on_left = ap (λ (p : EdgePlaces). p.left_in_left) is ∙ ap (column_place s q.left_columns) (sym same) ∙ sym (ap (λ (p : EdgePlaces). p.right_in_left) is)

          on_right : places.right_in_right ≡ places.left_in_right
          on_right = ap (λ (p : EdgePlaces). p.right_in_right) is ∙ ap (column_place s q.right_columns) same ∙ sym (ap (λ (p : EdgePlaces). p.left_in_right) is)

    pub oriented_none : straight ≡ None → exchanged ≡ None → oriented_join_columns sheet left right ≡ None
    oriented_none e f = either None None e f

  -- ---- one column

  module _ (column : ℕ) (a : Option ℕ) (f : a ≡ column_place s q.left_columns column) where
    pub distinct_placed : (b : Option ℕ) → b ≡ column_place s q.right_columns column → placed_distinct s a b ≡ join_column_distinct sheet column
    unfolding join_column_distinct profile_and_rows
    distinct_placed b g = go a b ∙ (λ k. distinct_or_one (option_or (found_left column a f k) (found_right column b g k)))
      where
        go : (x y : Option ℕ) → placed_distinct s x y ≡ distinct_or_one (option_or (at_place left_rows x) (at_place right_rows y))
        go None None = refl
        go None (Some y) = refl
        go (Some x) y = refl

    pub fraction_placed : (p : ColumnProfile) → right_profile sheet column ≡ Some (p, right_rows) → placed_fraction s a left_rows p.frequency.value right_rows ≡ join_column_non_null_fraction sheet column
    unfolding join_column_non_null_fraction profile_and_rows
    fraction_placed p e = go a ∙ (λ k. fraction_or_one (option_or (found_left column a f k) (sym e k)))
      where
        go : (x : Option ℕ) → placed_fraction s x left_rows p.frequency.value right_rows ≡ fraction_or_one (option_or (at_place left_rows x) (Some (p, right_rows)))
        go None = refl
        go (Some x) = refl

pub fraction_left : (sheet : Sheet) (column : ℕ) (p : ColumnProfile) (rows : Float) → left_profile sheet column ≡ Some (p, rows) → non_null_fraction p.frequency.value rows ≡ join_column_non_null_fraction sheet column
unfolding join_column_non_null_fraction profile_and_rows
fraction_left sheet column p rows e = rw e refl
