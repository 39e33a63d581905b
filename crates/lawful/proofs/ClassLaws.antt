-- Classes that keep their rules are lawful. Assumes nothing.
use Prim.Native.Nat.{ℕ, ◌+◌, ◌≤◌, ◌<◌}
use mathlib.Core.Path.{◌≡◌, sym, subst}
use mathlib.Core.Bool.{true, ◌&&◌}
use mathlib.Core.List.{List}
use native.Mathlib.Omega.{arith}
use lib.Dec.{leb}
use borrow.Author.Tests.{leb-true}
use Rattle.le.specs.Fields.{u16_at}
use Rattle.rules.proofs.RuleLaws.{ask_kept, both_first, both_second, else_first}
use Rattle.layout.specs.Places.{column_limit, class_least, class_most, class_distinct_offset}
use Rattle.layout.proofs.LayoutLaws.{Kept, record_kept}
use Rattle.estimate.proofs.EstimateLaws.{accepted_lawful}
use Rattle.records.specs.Classes.{class_column, class_at}
use Rattle.records.proofs.ListLaws.{tabulate_length}
use Rattle.record_rules.specs.Classes.{class_head_fields, class_head_refusal, class_refusal}
use Rattle.record_rules.proofs.RoomLaws.{class_columns_below}
use Rattle.lawful.specs.Lawful.{LawfulClass}
use Rattle.lawful.proofs.EachLaws.{each_tabulate}

module _ (s : List ℕ) (at : ℕ) (kept : class_refusal s at ≡ 0) where
  abbrev n : ℕ
  n = u16_at s at

  head : class_head_refusal s at ≡ 0
  unfolding class_refusal
  head = else_first (class_head_refusal s at) _ kept

  fields : Kept class_head_fields tt s at 0
  unfolding class_head_refusal
  fields = record_kept class_head_fields tt s at head

  count : (leb class_least n && leb n class_most) ≡ true
  count = ask_kept (leb class_least n && leb n class_most) 3 (omega arith) fields.0

  pub class_lawful : LawfulClass (class_at s at)
  unfolding class_at
  class_lawful =
      let length-is = sym (tabulate_length (class_column s at) n) in
      record {
        distinct = accepted_lawful s (at + class_distinct_offset) fields.1.0;
        columns = each_tabulate (λ (c : ℕ). c < column_limit) (class_column s at) n (class_columns_below s at kept);
        least = subst (λ (k : ℕ). class_least ≤ k) length-is (leb-true class_least n (both_first (leb class_least n) (leb n class_most) count));
        most = subst (λ (k : ℕ). k ≤ class_most) length-is (leb-true n class_most (both_second (leb class_least n) (leb n class_most) count));
      }
