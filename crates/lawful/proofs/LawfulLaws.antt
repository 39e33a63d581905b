-- Every accepted sheet is lawful. Assumes nothing.
use Prim.Native.Nat.{ℕ, ◌+◌, ◌<◌, ◌≤◌}
use mathlib.Core.Path.{◌≡◌, sym, ap, ◌∙◌, subst}
use mathlib.Core.List.{List}
use native.Mathlib.Omega.{arith}
use lib.ListN.{length, get_or}
use native.Mathlib.Nat.{le_antisymm}
use Rattle.le.specs.Fields.{u16_at}
use Rattle.le.proofs.FieldLaws.{Bytes}
use Rattle.layout.specs.Places.{conjunct_limit, count_size, float_size, expression_size}
use Rattle.estimate.specs.Bytes.{estimate_at, LawfulEstimate}
use Rattle.records.specs.Settings.{settings_at}
use Rattle.records.specs.Sketches.{sketch_at}
use Rattle.records.specs.Columns.{column_profile_at}
use Rattle.records.specs.Classes.{class_at}
use Rattle.records.specs.Expressions.{expression_at}
use Rattle.records.specs.declared.expressions.NaryOp.{NaryOp}
use Rattle.records.specs.declared.expressions.Expression.{Expression}
use Rattle.records.specs.declared.expressions.Expression.TheVariants.{Nary, Other}
use Rattle.record_rules.specs.Lawful.{LawfulColumn}
use Rattle.record_rules.proofs.ColumnLaws.{column_is_lawful}
use Rattle.record_rules.specs.Rows.{setting_refusal}
use Rattle.record_rules.specs.Columns.{column_refusal}
use Rattle.expression_rules.specs.Operands.{expression_place, runs_before}
use Rattle.expression_rules.proofs.RoomLaws.{conjunct_below}
use Rattle.sheet.specs.Table.{section_of}
use Rattle.sheet.specs.Order.{rows_number, settings_number, sketches_number, left_columns_number, right_columns_number, left_classes_number, right_classes_number, expressions_number, operands_number, conjuncts_number, record_at, section_at}
use Rattle.sheet.specs.Rules.{items_before, record_refusal}
use Rattle.sheet.specs.Check.{sheet_refusal}
use Rattle.sheet.specs.Sheet.{records_in, sheet_in, conjuncts_in}
use Rattle.sheet.specs.declared.order.Kind.TheVariants.{Rows, Settings, Sketches, Columns, Classes, Expressions, Operands, Conjuncts}
use Rattle.sheet.proofs.PlaceLaws.{fixed_place, settings_fixed, expressions_fixed}
use Rattle.sheet.proofs.AcceptedLaws.{accepted_within, accepted_record}
use Rattle.sheet.proofs.OwnerLaws.{accepted_expression, accepted_runs, accepted_operand}
use Rattle.sheet.proofs.SheetLaws.{records_length, fixed_record_at}
use Rattle.lawful.specs.Lawful.{Each, LawfulSettings, LawfulSketch, LawfulExpression, LawfulRun, LawfulClass, LawfulSheet, LawfulConjuncts}
use Rattle.lawful.proofs.EachLaws.{each_record}
use Rattle.lawful.proofs.RowLaws.{rows_lawful, settings_lawful}
use Rattle.lawful.proofs.SketchLaws.{sketch_lawful}
use Rattle.lawful.proofs.ClassLaws.{class_lawful}
use Rattle.lawful.proofs.ExpressionLaws.{expression_lawful}
use Rattle.lawful.proofs.OperandLaws.{operands_lawful}

-- ---- what holds whether or not the numbers are bytes

module _ (s : List ℕ) (kept : sheet_refusal s ≡ 0) where
  pub left_classes_law : Each LawfulClass (records_in Classes class_at s (section_at s left_classes_number))
  unfolding record_refusal
  left_classes_law = each_record LawfulClass Classes class_at s (section_at s left_classes_number) (λ i l. class_lawful s _ (accepted_record s kept left_classes_number (omega arith) i l))

  pub right_classes_law : Each LawfulClass (records_in Classes class_at s (section_at s right_classes_number))
  unfolding record_refusal
  right_classes_law = each_record LawfulClass Classes class_at s (section_at s right_classes_number) (λ i l. class_lawful s _ (accepted_record s kept right_classes_number (omega arith) i l))

  pub conjunct_count_law : length (records_in Conjuncts u16_at s (section_at s conjuncts_number)) ≤ conjunct_limit
  conjunct_count_law = subst (λ (n : ℕ). n ≤ conjunct_limit) (sym (records_length Conjuncts u16_at s (section_at s conjuncts_number))) (accepted_within s kept conjuncts_number (omega arith)).1

-- ---- of bytes

module _ (s : List ℕ) (bytes : Bytes s) (kept : sheet_refusal s ≡ 0) where
  -- ---- rows and settings

  two_rows : u16_at s (section_at s rows_number) ≡ 2
  two_rows = let within = accepted_within s kept rows_number (omega arith) in le_antisymm within.1 within.0

  five_settings : u16_at s (section_at s settings_number) ≡ 5
  five_settings = let within = accepted_within s kept settings_number (omega arith) in le_antisymm within.1 within.0

  rows : (i : ℕ) → i < 2 → LawfulEstimate (estimate_at s (record_at Rows s (section_at s rows_number) i))
  unfolding record_refusal
  rows i l = rows_lawful s _ (accepted_record s kept rows_number (omega arith) i (subst (λ (n : ℕ). i < n) (sym two_rows) l))

  setting : (i : ℕ) → i < 5 → setting_refusal s i (record_at Settings s (section_at s settings_number) i) ≡ 0
  unfolding record_refusal
  setting i l = accepted_record s kept settings_number (omega arith) i (subst (λ (n : ℕ). i < n) (sym five_settings) l)

  settings : LawfulSettings (settings_at s (record_at Settings s (section_at s settings_number) 0))
  unfolding record_at
  settings = settings_lawful s (section_at s settings_number + count_size) (λ i l. ap (setting_refusal s i) (sym (fixed_place Settings float_size settings_fixed s (section_at s settings_number) i)) ∙ setting i l)

  -- ---- sketches and columns

  sketches : Each LawfulSketch (records_in Sketches sketch_at s (section_at s sketches_number))
  unfolding record_refusal
  sketches = each_record LawfulSketch Sketches sketch_at s (section_at s sketches_number) (λ i l. sketch_lawful s (items_before s (section_at s sketches_number) i) _ (accepted_record s kept sketches_number (omega arith) i l) bytes)

  -- how many sketches there are
  abbrev n : ℕ
  n = length (records_in Sketches sketch_at s (section_at s sketches_number))

  column : (i at : ℕ) → column_refusal s (u16_at s (section_at s sketches_number)) i at ≡ 0 → LawfulColumn n (column_profile_at s at)
  column i at e = column_is_lawful s n i at bytes (ap (λ (m : ℕ). column_refusal s m i at) (records_length Sketches sketch_at s (section_at s sketches_number)) ∙ e)

  left_columns_law : Each (LawfulColumn n) (records_in Columns column_profile_at s (section_at s left_columns_number))
  unfolding record_refusal
  left_columns_law = each_record (LawfulColumn n) Columns column_profile_at s (section_at s left_columns_number) (λ i l. column i _ (accepted_record s kept left_columns_number (omega arith) i l))

  right_columns_law : Each (LawfulColumn n) (records_in Columns column_profile_at s (section_at s right_columns_number))
  unfolding record_refusal
  right_columns_law = each_record (LawfulColumn n) Columns column_profile_at s (section_at s right_columns_number) (λ i l. column i _ (accepted_record s kept right_columns_number (omega arith) i l))

  -- ---- expressions, operands and conjuncts

  -- where the expressions' count stands
  abbrev x : ℕ
  x = section_at s expressions_number

  abbrev all : List Expression
  all = records_in Expressions expression_at s x

  how_many : length all ≡ u16_at s x
  how_many = records_length Expressions expression_at s x

  expression_is : (e : ℕ) → e < u16_at s x → get_or all e Other ≡ expression_at s (expression_place x e)
  expression_is e l = fixed_record_at Expressions expression_at s x expression_size expressions_fixed e Other l

  expressions : (e : ℕ) → e < length all → LawfulExpression e (get_or all e Other)
  expressions e l =
      let h : e < u16_at s x = subst (λ (n : ℕ). e < n) how_many l in
      subst (LawfulExpression e) (sym (expression_is e h)) (expression_lawful s (runs_before s x e) e (expression_place x e) (accepted_expression s kept e h) bytes)

  operands : (e : ℕ) → e < length all → (op : NaryOp) (first count : ℕ) → get_or all e Other ≡ Nary op first count → LawfulRun (records_in Operands u16_at s (section_at s operands_number)) e first count
  operands e l op first count q =
      let h : e < u16_at s x = subst (λ (n : ℕ). e < n) how_many l in
      operands_lawful s x (section_at s operands_number) (accepted_expression s kept) (accepted_runs s kept) (accepted_operand s kept) e h op first count (sym (expression_is e h) ∙ q)

  conjuncts : Each (λ (e : ℕ). e < length all) (records_in Conjuncts u16_at s (section_at s conjuncts_number))
  unfolding record_refusal
  conjuncts =
      each_record (λ (e : ℕ). e < length all) Conjuncts u16_at s (section_at s conjuncts_number)
      (λ i l. subst (λ (n : ℕ). u16_at s (record_at Conjuncts s (section_at s conjuncts_number) i) < n) (sym how_many) (conjunct_below s x _ (accepted_record s kept conjuncts_number (omega arith) i l)))

  expression_count_law : length all ≤ (section_of Expressions).most
  expression_count_law = subst (λ (n : ℕ). n ≤ (section_of Expressions).most) (sym how_many) (accepted_within s kept expressions_number (omega arith)).1

  operand_count_law : length (records_in Operands u16_at s (section_at s operands_number)) ≤ (section_of Operands).most
  operand_count_law = subst (λ (n : ℕ). n ≤ (section_of Operands).most) (sym (records_length Operands u16_at s (section_at s operands_number))) (accepted_within s kept operands_number (omega arith)).1

  -- ---- the sheet

  pub accepted_sheet : LawfulSheet (sheet_in s)
  unfolding sheet_in
  accepted_sheet = record {
    left_rows = rows 0 (omega arith);
    right_rows = rows 1 (omega arith);
    settings = settings;
    sketches = sketches;
    left_columns = left_columns_law;
    right_columns = right_columns_law;
    left_classes = left_classes_law s kept;
    right_classes = right_classes_law s kept;
    expression_count = expression_count_law;
    expressions = expressions;
    operand_count = operand_count_law;
    operands = operands;
  }

  pub accepted_conjuncts : LawfulConjuncts (sheet_in s) (conjuncts_in s)
  unfolding sheet_in conjuncts_in
  accepted_conjuncts = record { count = conjunct_count_law s kept; named = conjuncts }
