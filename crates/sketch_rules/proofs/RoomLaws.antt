-- What holds of a sketch that keeps its rules: it lies within the sheet, and its items are within the limit. Assumes nothing.
use Prim.Native.Nat.{ℕ, zero, suc, ◌+◌, ◌*◌, ◌≤◌, ◌<◌}
use mathlib.Core.Path.{◌≡◌}
use mathlib.Core.List.{List}
use native.Mathlib.Omega.{arith}
use lib.ListN.{length}
use Rattle.le.specs.Fields.{u16_at}
use Rattle.rules.proofs.RuleLaws.{else_first, else_second, each_kept}
use Rattle.layout.specs.Fields.{whole}
use Rattle.layout.proofs.LayoutLaws.{whole_room}
use Rattle.sketch_rules.specs.Sketches.{item_refusal, sketch_head_refusal, sketch_refusal}

item_room : (s : List ℕ) (first j : ℕ) → item_refusal s first j ≡ 0 → first + 35 * j + 35 ≤ length s
unfolding item_refusal
item_room s first j e = whole_room 35 s (first + 35 * j) (omega arith) (else_first (whole 35 s (first + 35 * j)) _ e)

head_room : (s : List ℕ) (items at : ℕ) → sketch_head_refusal s items at ≡ 0 → at + 10 ≤ length s
unfolding sketch_head_refusal
head_room s items at e = whole_room 10 s at (omega arith) (else_first (whole 10 s at) _ e)

sketch_head : (s : List ℕ) (items at : ℕ) → sketch_refusal s items at ≡ 0 → sketch_head_refusal s items at ≡ 0
unfolding sketch_refusal
sketch_head s items at e = else_first (sketch_head_refusal s items at) _ e

sketch_each : (s : List ℕ) (items at : ℕ) → sketch_refusal s items at ≡ 0 → (j : ℕ) → j < u16_at s (at + 8) → item_refusal s (at + 10) j ≡ 0
unfolding sketch_refusal
sketch_each s items at e = each_kept (item_refusal s (at + 10)) (u16_at s (at + 8)) (else_second (sketch_head_refusal s items at) _ e)

-- n items, the last of them there, or none
items_room : (s : List ℕ) (first n : ℕ) → first ≤ length s → ((j : ℕ) → j < n → item_refusal s first j ≡ 0) → first + 35 * n ≤ length s
items_room s first zero h e = omega arith
items_room s first (suc n) h e = let last : first + 35 * n + 35 ≤ length s = item_room s first n (e n (omega arith)) in omega arith

pub sketch_room : (s : List ℕ) (items at : ℕ) → sketch_refusal s items at ≡ 0 → at + 10 + 35 * u16_at s (at + 8) ≤ length s
sketch_room s items at e = items_room s (at + 10) (u16_at s (at + 8)) (head_room s items at (sketch_head s items at e)) (sketch_each s items at e)
