-- What is found in a lawful sheet is lawful. Assumes nothing.
use Prim.Native.Nat.{ℕ, ◌^◌, ◌≤◌, ◌<◌}
use mathlib.Core.Path.{refl, sym, subst}
use mathlib.Core.Bool.{Bool, true, false, not}
use mathlib.Core.List.Memᴰ
use mathlib.Core.List.{List, [], ◌∷◌}
use lib.Dec.{T, eqb, ltb, ltb→lt, nltb→le, lit≤}
use lib.ListN.{length, get_or, get_or-eq_default}
use lib.Ieee.{Float}
use Rattle.std.specs.Prelude.{Option, Some, None}
use Rattle.scalar.specs.Order.{scalar_order, is_equal}
use Rattle.scalar.specs.declared.Scalar.{Scalar}
use Rattle.estimate.specs.Bytes.{LawfulFigure}
use Rattle.records.specs.Sketches.{Sketch}
use Rattle.records.specs.declared.sketches.SketchItem.{SketchItem}
use Rattle.records.specs.declared.columns.ColumnProfile.{ColumnProfile}
use Rattle.records.specs.declared.expressions.Expression.TheVariants.{Other}
use Rattle.sheet.specs.Sheet.{Sheet}
use Rattle.record_rules.specs.Lawful.{LawfulColumn}
use Rattle.sketch_rules.specs.Lawful.{LawfulItem}
use Rattle.lawful.specs.Lawful.{Each, LawfulSketch, LawfulExpression, LawfulSheet}
use Rattle.lawful.proofs.EachLaws.{each_at}
use Rattle.std.specs.Prelude.{Option, None, Some}
use Rattle.std.specs.Option.{option_or}
use Rattle.scan.specs.Scan.{first_with}
use Rattle.lookup.specs.Lookup.{ProfileAndRows, expression_of, profile_in, profile_and_rows}
use Rattle.sketch.specs.declared.items.Counts.{Counts}
use Rattle.sketch.specs.Frequent.{counts_of, no_sketch, sketch_of, find_item}
use Rattle.predicate_range.proofs.NumberRange.{either}

-- ---- what holds of a member and of what stands for a missing one
at_or_default : {A : Type 0} (P : A → Type 0) (l : List A) (i : ℕ) (d : A) → (i < length l → P (get_or l i d)) → P d → P (get_or l i d)
at_or_default P l i d h k = go (ltb i (length l)) (ltb→lt i (length l)) (nltb→le i (length l))
  where
    go : (b : Bool) → (T b → i < length l) → (T (not b) → length l ≤ i) → P (get_or l i d)
    go true f g = h (f tt)
    go false f g = subst P (sym (get_or-eq_default l d (g tt))) k

-- ---- expressions; a number that names none stands for Other
pub expression_lawful : (sheet : Sheet) → LawfulSheet sheet → (e : ℕ) → LawfulExpression e (expression_of sheet e)
expression_lawful sheet h e = at_or_default (LawfulExpression e) sheet.expressions e Other (h.expressions e) tt

-- ---- profiles
abbrev pub LawfulFound : ℕ → Option ProfileAndRows → Type 0
LawfulFound n None = Unit {0}
LawfulFound n (Some (profile, rows)) = LawfulColumn n profile × LawfulFigure rows

pub profile_in_lawful : (n : ℕ) (rows : Float) → LawfulFigure rows → (column : ℕ) (l : List ColumnProfile) → Each (LawfulColumn n) l → LawfulFound n (profile_in rows column l)
unfolding first_with
profile_in_lawful n rows f column [] h = tt
profile_in_lawful n rows f column (p ∷ ps) h =
    either (LawfulFound n) (eqb p.column column) (Some (p, rows)) (profile_in rows column ps) (h p (Memᴰ.head refl), f) (profile_in_lawful n rows f column ps (λ x m. h x (Memᴰ.tail m)))

or_else_lawful : (n : ℕ) (x y : Option ProfileAndRows) → LawfulFound n x → LawfulFound n y → LawfulFound n (option_or x y)
or_else_lawful n None y f g = g
or_else_lawful n (Some (profile, rows)) y f g = f

pub profile_lawful : (sheet : Sheet) → LawfulSheet sheet → (column : ℕ) → LawfulFound (length sheet.sketches) (profile_and_rows sheet column)
unfolding profile_and_rows
profile_lawful sheet h column =
    let n = length sheet.sketches in
    or_else_lawful n (profile_in sheet.left_rows.value column sheet.left_columns) (profile_in sheet.right_rows.value column sheet.right_columns)
    (profile_in_lawful n sheet.left_rows.value h.left_rows.value column sheet.left_columns h.left_columns)
    (profile_in_lawful n sheet.right_rows.value h.right_rows.value column sheet.right_columns h.right_columns)

-- ---- sketches; a number that names none stands for one of no rows
no_sketch_lawful : LawfulSketch no_sketch
no_sketch_lawful = record { population = lit≤ tt; items = λ x m. absurd (Memᴰ.not-nil m); count = lit≤ tt }

pub sketch_lawful : (l : List Sketch) → Each LawfulSketch l → (k : ℕ) → LawfulSketch (sketch_of l k)
sketch_lawful l h k = at_or_default LawfulSketch l k no_sketch (each_at LawfulSketch l h k no_sketch) no_sketch_lawful

abbrev pub LawfulItemFound : Option Counts → Type 0
LawfulItemFound None = Unit {0}
LawfulItemFound (Some counts) = (counts.lower ≤ 2 ^ 53) × (counts.error ≤ 2 ^ 53)

pub item_lawful : (value : Scalar) (l : List SketchItem) → Each LawfulItem l → LawfulItemFound (find_item value l)
unfolding find_item
item_lawful value [] h = tt
item_lawful value (x ∷ xs) h =
    let i = h x (Memᴰ.head refl) in
    either LawfulItemFound (is_equal (scalar_order x.value value)) (Some (counts_of x)) (find_item value xs) (i.lower, i.error) (item_lawful value xs (λ y m. h y (Memᴰ.tail m)))
