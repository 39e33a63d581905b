-- What holds of the records of every accepted sheet, as values (document 01, "The join sheet"). Definitions only.
use Rattle.std.specs.Prelude.{ℕ, ◌+◌, ◌≤◌, ◌<◌, ◌≡◌, true, T, length, get_or, Float}
use mathlib.Core.List.{List, Memᴰ}
use Rattle.std.specs.Float.{binary64}
use Rattle.std.specs.Float.Ieee.{fits}
use Rattle.layout.specs.Places.{column_limit, count_limit, conjunct_limit, item_limit, class_least, class_most}
use Rattle.scalar_bytes.specs.Encoding.{lawful_scalar}
use Rattle.estimate.specs.Bytes.{LawfulFigure, LawfulEstimate}
use Rattle.records.specs.Sketches.{Sketch}
use Rattle.records.specs.Classes.{ColumnEquivalenceClass}
use Rattle.records.specs.declared.settings.CardinalityEstimationConfig.{CardinalityEstimationConfig}
use Rattle.records.specs.declared.expressions.NaryOp.{NaryOp}
use Rattle.records.specs.declared.expressions.Expression.{Expression}
use Rattle.records.specs.declared.expressions.Expression.TheVariants.{Literal, ColumnRef, Unary, Binary, Nary, Like, Other}
use Rattle.record_rules.specs.Rows.{selectivity_lawful}
use Rattle.record_rules.specs.Lawful.{LawfulColumn}
use Rattle.sketch_rules.specs.Lawful.{LawfulItem}
use Rattle.sheet.specs.Table.{section_of}
use Rattle.sheet.specs.Sheet.{Sheet}
use Rattle.sheet.specs.declared.order.Kind.TheVariants.{Expressions, Operands}

-- each member of a list
abbrev pub Each : {A : Type 0} → (A → Type 0) → List A → Type 0
Each {A = A} P l = (x : A) → Memᴰ x l → P x

-- ---- settings

-- +0, or from 2 ^ -64 to 1
pub record LawfulSelectivity (x : Float) : Type 0 where
  pub held : T (fits binary64 x)
  pub lawful : T (selectivity_lawful x)

pub record LawfulSettings (x : CardinalityEstimationConfig) : Type 0 where
  pub like_selectivity : LawfulSelectivity x.like_selectivity
  pub default_predicate_selectivity : LawfulSelectivity x.default_predicate_selectivity
  pub range_fallback_selectivity : LawfulSelectivity x.range_fallback_selectivity
  pub unknown_scan_rows : LawfulFigure x.unknown_scan_rows
  pub unknown_column_ndv_cap : LawfulFigure x.unknown_column_ndv_cap

-- ---- sketches

pub record LawfulSketch (x : Sketch) : Type 0 where
  pub population : x.population ≤ count_limit
  pub items : Each LawfulItem x.items
  pub count : length x.items ≤ item_limit

-- ---- expressions

-- expression e: its own scalar or column, and children below it; of an n-ary one nothing, for its operands stand apart
abbrev pub LawfulExpression : ℕ → Expression → Type 0
LawfulExpression e (Literal x) = lawful_scalar x ≡ true
LawfulExpression e (ColumnRef column) = column < column_limit
LawfulExpression e (Unary op expr) = expr < e
LawfulExpression e (Binary op left right) = (left < e) × (right < e)
LawfulExpression e (Nary op first count) = Unit {0}
LawfulExpression e Like = Unit {0}
LawfulExpression e Other = Unit {0}

-- the run of n-ary expression e: so many operands from the first on are there, and each names an expression below e
pub record LawfulRun (operands : List ℕ) (e first count : ℕ) : Type 0 where
  pub within : first + count ≤ length operands
  pub below : (i : ℕ) → i < count → get_or operands (first + i) 0 < e

-- ---- classes

pub record LawfulClass (x : ColumnEquivalenceClass) : Type 0 where
  pub distinct : LawfulEstimate x.distinct
  pub columns : Each (λ (c : ℕ). c < column_limit) x.columns
  pub least : class_least ≤ length x.columns
  pub most : length x.columns ≤ class_most

-- ---- the sheet

pub record LawfulSheet (x : Sheet) : Type 0 where
  pub left_rows : LawfulEstimate x.left_rows
  pub right_rows : LawfulEstimate x.right_rows
  pub settings : LawfulSettings x.settings
  pub sketches : Each LawfulSketch x.sketches
  pub left_columns : Each (LawfulColumn (length x.sketches)) x.left_columns
  pub right_columns : Each (LawfulColumn (length x.sketches)) x.right_columns
  pub left_classes : Each LawfulClass x.left_classes
  pub right_classes : Each LawfulClass x.right_classes
  pub expression_count : length x.expressions ≤ (section_of Expressions).most
  pub expressions : (e : ℕ) → e < length x.expressions → LawfulExpression e (get_or x.expressions e Other)
  pub operand_count : length x.operands ≤ (section_of Operands).most
  pub operands : (e : ℕ) → e < length x.expressions → (op : NaryOp) (first count : ℕ) → get_or x.expressions e Other ≡ Nary op first count → LawfulRun x.operands e first count

-- the conjuncts of a join on it
pub record LawfulConjuncts (x : Sheet) (conjuncts : List ℕ) : Type 0 where
  pub count : length conjuncts ≤ conjunct_limit
  pub named : Each (λ (e : ℕ). e < length x.expressions) conjuncts
