-- What holds of a record that keeps its rules: it lies within the sheet, and its columns are below 128. Assumes nothing.
use Prim.Native.Nat.{ℕ, ◌+◌, ◌-◌, ◌*◌, ◌≤◌, ◌<◌}
use mathlib.Core.Path.{◌≡◌}
use mathlib.Core.Bool.{◌&&◌}
use mathlib.Core.List.{List}
use native.Mathlib.Omega.{arith}
use lib.ListN.{length}
use lib.Dec.{leb, ltb}
use borrow.Author.Tests.{leb-true, ltb-true}
use Rattle.le.specs.Fields.{u16_at}
use Rattle.rules.proofs.RuleLaws.{ask_kept, both_first, both_second, else_first, else_second, each_kept}
use Rattle.layout.specs.Fields.{whole}
use Rattle.layout.proofs.LayoutLaws.{whole_room}
use Rattle.record_rules.specs.Fields.{ascending}
use Rattle.record_rules.specs.Rows.{rows_refusal, setting_refusal}
use Rattle.record_rules.specs.Catalog.{table_refusal, key_refusal}
use Rattle.record_rules.specs.Columns.{column_number_refusal, column_refusal}
use Rattle.record_rules.specs.Classes.{class_column_refusal, class_head_refusal, class_refusal}

-- ---- records of one size

pub rows_room : (s : List ℕ) (at : ℕ) → rows_refusal s at ≡ 0 → at + 26 ≤ length s
unfolding rows_refusal
rows_room s at e = whole_room 26 s at (omega arith) (else_first (whole 26 s at) _ e)

pub setting_room : (s : List ℕ) (i at : ℕ) → setting_refusal s i at ≡ 0 → at + 8 ≤ length s
unfolding setting_refusal
setting_room s i at e = whole_room 8 s at (omega arith) (else_first (whole 8 s at) _ e)

pub table_room : (s : List ℕ) (i at : ℕ) → table_refusal s i at ≡ 0 → at + 10 ≤ length s
unfolding table_refusal
table_room s i at e = whole_room 10 s at (omega arith) (else_first (whole 10 s at) _ e)

pub key_room : (s : List ℕ) (at : ℕ) → key_refusal s at ≡ 0 → at + 9 ≤ length s
unfolding key_refusal
key_room s at e = whole_room 9 s at (omega arith) (else_first (whole 9 s at) _ e)

pub column_room : (s : List ℕ) (sketches i at : ℕ) → column_refusal s sketches i at ≡ 0 → at + 98 ≤ length s
unfolding column_refusal
column_room s sketches i at e = whole_room 98 s at (omega arith) (else_first (whole 98 s at) _ e)

pub column_below : (size : ℕ) (s : List ℕ) (i at : ℕ) → column_number_refusal size s i at ≡ 0 → u16_at s at < 128
unfolding column_number_refusal
column_below size s i at e =
    ltb-true (u16_at s at) 128 (both_second (ascending size s i at) _ (ask_kept (ascending size s i at && ltb (u16_at s at) 128) 7 (omega arith) e))

-- ---- classes

class_column_room : (s : List ℕ) (first j : ℕ) → class_column_refusal s first j ≡ 0 → first + 2 * j + 2 ≤ length s
unfolding class_column_refusal
class_column_room s first j e = whole_room 2 s (first + 2 * j) (omega arith) (else_first (whole 2 s (first + 2 * j)) _ e)

class_column_below : (s : List ℕ) (first j : ℕ) → class_column_refusal s first j ≡ 0 → u16_at s (first + 2 * j) < 128
unfolding class_column_refusal
class_column_below s first j e = column_below 2 s j (first + 2 * j) (else_second (whole 2 s (first + 2 * j)) _ e)

-- a class that keeps its rules has columns
class_some : (s : List ℕ) (at : ℕ) → class_head_refusal s at ≡ 0 → 2 ≤ u16_at s at
unfolding class_head_refusal
class_some s at e =
    let n : ℕ = u16_at s at in
    leb-true 2 n (both_first (leb 2 n) (leb n 128) (ask_kept (leb 2 n && leb n 128) 3 (omega arith) (else_first _ _ (else_second (whole 28 s at) _ e))))

class_columns : (s : List ℕ) (at : ℕ) → class_refusal s at ≡ 0 → (j : ℕ) → j < u16_at s at → class_column_refusal s (at + 28) j ≡ 0
unfolding class_refusal
class_columns s at e = each_kept (class_column_refusal s (at + 28)) (u16_at s at) (else_second (class_head_refusal s at) _ e)

class_head_law : (s : List ℕ) (at : ℕ) → class_refusal s at ≡ 0 → class_head_refusal s at ≡ 0
unfolding class_refusal
class_head_law s at e = else_first (class_head_refusal s at) _ e

pub class_room : (s : List ℕ) (at : ℕ) → class_refusal s at ≡ 0 → at + 28 + 2 * u16_at s at ≤ length s
class_room s at e =
    let n : ℕ = u16_at s at in
    let two : 2 ≤ u16_at s at = class_some s at (class_head_law s at e) in
    let last : at + 28 + 2 * (n - 1) + 2 ≤ length s = class_column_room s (at + 28) (n - 1) (class_columns s at e (n - 1) (omega arith)) in
    omega arith

pub class_columns_below : (s : List ℕ) (at : ℕ) → class_refusal s at ≡ 0 → (j : ℕ) → j < u16_at s at → u16_at s (at + 28 + 2 * j) < 128
class_columns_below s at e j l = class_column_below s (at + 28) j (class_columns s at e j l)
