-- A record that keeps its rules lies within the sheet, whatever its kind. Assumes nothing.
use Prim.Native.Nat.{ℕ, zero, suc, ◌+◌, ◌≤◌, ◌<◌}
use mathlib.Core.Path.{◌≡◌, sym, subst}
use mathlib.Core.List.{List}
use lib.ListN.{length}
use native.Mathlib.Omega.{arith}
use Rattle.le.specs.Fields.{u16_at}
use Rattle.layout.specs.Places.{count_size, number_size}
use Rattle.rules.proofs.RuleLaws.{else_first, else_second, each_kept}
use Rattle.expression_rules.specs.Operands.{runs_before, nary_of}
use Rattle.expression_rules.proofs.RoomLaws.{expression_room, operand_room, conjunct_room}
use Rattle.layout.specs.Fields.{whole}
use Rattle.layout.proofs.LayoutLaws.{whole_room}
use Rattle.record_rules.proofs.RoomLaws.{rows_room, setting_room, table_room, key_room, column_room, class_room}
use Rattle.sketch_rules.proofs.RoomLaws.{sketch_room}
use Rattle.sheet.specs.Order.{kind_at, sketches_number, expressions_number, record_end, record_at, section_at}
use Rattle.sheet.specs.Rules.{items_before, count_refusal, record_refusal, records_refusal, section_refusal}
use Rattle.sheet.specs.Check.{refusal_in}
use Rattle.sheet.specs.declared.order.Kind.{Kind}
use Rattle.sheet.specs.declared.order.Kind.TheVariants.{Rows, Settings, Sketches, Tables, Keys, Columns, Classes, Expressions, Operands, Conjuncts}
use Rattle.sheet.proofs.PlaceLaws.{fixed_place, operands_fixed, section_next}

module _ (s : List ℕ) (sketches expressions start i : ℕ) where
  pub record_room : (kind : Kind) → records_refusal kind s sketches expressions start i ≡ 0 → record_end kind s (record_at kind s start i) ≤ length s
  unfolding record_refusal record_end
  record_room Rows e = rows_room s (record_at Rows s start i) e
  record_room Settings e = setting_room s i (record_at Settings s start i) e
  record_room Sketches e = sketch_room s (items_before s start i) (record_at Sketches s start i) e
  record_room Tables e = table_room s i (record_at Tables s start i) e
  record_room Keys e = key_room s (record_at Keys s start i) e
  record_room Columns e = column_room s (u16_at s sketches) i (record_at Columns s start i) e
  record_room Classes e = class_room s (record_at Classes s start i) e
  record_room Expressions e = expression_room s (runs_before s start i) i (record_at Expressions s start i) e
  record_room Operands e =
      subst (λ (at : ℕ). at + number_size ≤ length s) (sym (fixed_place Operands number_size operands_fixed s start i))
      (operand_room s expressions (nary_of s expressions i) (start + count_size) i e)
  record_room Conjuncts e = conjunct_room s expressions (record_at Conjuncts s start i) e

pub count_room : (kind : Kind) (s : List ℕ) (expressions start : ℕ) → count_refusal kind s expressions start ≡ 0 → start + count_size ≤ length s
unfolding count_refusal
count_room kind s expressions start e = whole_room count_size s start (omega arith) (else_first (whole count_size s start) _ e)

-- the section behind one that keeps its rules stands within the sheet, or at its end
pub section_room : (kind : Kind) (s : List ℕ) (sketches expressions start : ℕ) → section_refusal kind s sketches expressions start ≡ 0 → record_at kind s start (u16_at s start) ≤ length s
unfolding section_refusal record_at
section_room kind s sketches expressions start e =
    go (u16_at s start) (each_kept (records_refusal kind s sketches expressions start) (u16_at s start) (else_second (count_refusal kind s expressions start) _ e))
  where
    count : start + count_size ≤ length s
    count = count_room kind s expressions start (else_first (count_refusal kind s expressions start) _ e)

    less : (n : ℕ) → n < suc n
    less n = omega arith

    go : (n : ℕ) → ((i : ℕ) → i < n → records_refusal kind s sketches expressions start i ≡ 0) → record_at kind s start n ≤ length s
    go zero h = count
    go (suc n) h = record_room s sketches expressions start n kind (h n (less n))

pub next_room : (s : List ℕ) (k : ℕ) → refusal_in s k ≡ 0 → section_at s (k + 1) ≤ length s
unfolding refusal_in
next_room s k e = subst (λ (at : ℕ). at ≤ length s) (section_next s k) (section_room (kind_at k) s (section_at s sketches_number) (section_at s expressions_number) (section_at s k) e)
