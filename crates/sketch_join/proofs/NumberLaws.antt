-- Two sketches by their numbers: read where they stand, and none where the section lacks one. Assumes nothing.
use Rattle.std.proofs.Common.{◌≡◌, ℕ, Bool, true, false, ◌||◌, eqb, List, Option, Some, None, sym, refl}
use lib.Ieee.{Float}
use Rattle.records.specs.Sketches.{Sketch, sketch_at}
use Rattle.records.specs.declared.columns.ColumnProfile.{ColumnProfile}
use Rattle.sheet.specs.Sheet.{records_in}
use Rattle.sheet.specs.declared.order.Kind.TheVariants.{Sketches}
use Rattle.sketch.specs.Places.{numbered_place}
use Rattle.sketch.specs.Frequent.{sketch_of}
use Rattle.sketch.proofs.PlaceLaws.{numbered_there, numbered_past}
use Rattle.sketch_join.specs.SketchJoin.{either_empty, numbered, sketches_join, sketches_match}

second_true : (a : Bool) → (a || true) ≡ true
second_true true = refl
second_true false = refl

module _ {A : Type 0} (lacking : A) (f : Sketch → Sketch → A) (empty : (x y : Sketch) → either_empty x y ≡ true → f x y ≡ lacking) (s : List ℕ) (start : ℕ) where
  abbrev by_number : ℕ → Sketch
  by_number k = sketch_of (records_in Sketches sketch_at s start) k

  past : (k : ℕ) → None ≡ numbered_place s start (Some k) → eqb (by_number k).population 0 ≡ true
  past k h = rw (numbered_past s start k h) refl

  pub numbered_found : (left right : Option ℕ) (a b : ℕ) → Some a ≡ numbered_place s start left → Some b ≡ numbered_place s start right → f (sketch_at s a) (sketch_at s b) ≡ numbered lacking f (records_in Sketches sketch_at s start) left right
  numbered_found None right a b e h = cc
  numbered_found (Some i) None a b e h = cc
  numbered_found (Some i) (Some j) a b e h = rw (numbered_there s start i a e, numbered_there s start j b h) refl

  pub left_lacking : (left right : Option ℕ) → None ≡ numbered_place s start left → lacking ≡ numbered lacking f (records_in Sketches sketch_at s start) left right
  left_lacking None right e = refl
  left_lacking (Some i) None e = refl
  left_lacking (Some i) (Some j) e = sym (empty (by_number i) (by_number j) (rw (past i e) refl))

  pub right_lacking : (left right : Option ℕ) → None ≡ numbered_place s start right → lacking ≡ numbered lacking f (records_in Sketches sketch_at s start) left right
  right_lacking None right e = refl
  right_lacking (Some i) None e = refl
  right_lacking (Some i) (Some j) e = sym (empty (by_number i) (by_number j) (rw (past j e) (second_true (eqb (by_number i).population 0))))

pub join_empty : (p : ColumnProfile) (x : Float) (q : ColumnProfile) (y : Float) (left right : Sketch) → either_empty left right ≡ true → sketches_join left right p x q y ≡ None
unfolding sketches_join
join_empty p x q y left right e = rw e refl

pub match_empty : (p : ColumnProfile) (x y z : Float) (left right : Sketch) → either_empty left right ≡ true → sketches_match left right p x y z ≡ None
unfolding sketches_match
match_empty p x y z left right e = rw e refl
