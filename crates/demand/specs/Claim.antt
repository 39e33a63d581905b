-- Demand 3: what a join returns as blocks and as non-null columns, in the words of document 01 ("The words of demand 3"), by its facts alone. How a join is worked out has no part in it. "Exactly when" is ↔; what stands on its two sides is data, so each side is turned into the other, which is more than that both hold or neither. Definitions only.
use Rattle.std.specs.Prelude.{ℕ, ◌≡◌, ◌↔◌, ◌≢◌, ◌⊎◌, Bool, true, false, get_or}
use mathlib.Core.List.{List, [], ◌∷◌, Memᴰ}
use Rattle.records.specs.Classes.{ColumnEquivalenceClass}
use Rattle.records.specs.declared.expressions.BinaryOp.{BinaryOp}
use Rattle.records.specs.declared.expressions.BinaryOp.TheVariants.{Eq, IsNotDistinctFrom}
use Rattle.records.specs.declared.expressions.Expression.TheVariants.{ColumnRef, Binary}
use Rattle.sheet.specs.Sheet.{Sheet}
use Rattle.lookup.specs.Lookup.{expression_of}
use Rattle.demand.specs.Reader.{blocks, non_nulls}

-- ---- sets

-- a set of columns is a list of which only the members count, which are told by the library's `List.Memᴰ`
abbrev pub Columns : Type 0
Columns = List ℕ

abbrev pub Same : Columns → Columns → Type 0
Same f g = (a : ℕ) → Memᴰ a f ↔ Memᴰ a g

-- a set of sets of columns is told by which are in it
abbrev pub Within : (Columns → Type 0) → (Columns → Type 0) → Type 0
Within F G = (f : Columns) → F f → (g : Columns) × G g × Same f g

abbrev pub SameSet : (Columns → Type 0) → (Columns → Type 0) → Type 0
SameSet F G = Within F G × Within G F

-- ---- a join

-- a sheet, and the expressions that are the conjuncts, by number
pub record Join : Type 0 where
  pub sheet : Sheet
  pub conjuncts : List ℕ

-- ---- equating conjuncts

-- ordinary: SQL's equality; null-safe: IS NOT DISTINCT FROM
abbrev pub op_of : Bool → BinaryOp
op_of false = Eq
op_of true = IsNotDistinctFrom

-- a conjunct that names an expression which is itself binary (kind 3) with one of these operators, both its children being columns (kind 1), which may be the same
pub record Equates (join : Join) (first second : ℕ) (null_safe : Bool) : Type 0 where
  pub conjunct : ℕ
  pub stands : Memᴰ conjunct join.conjuncts
  pub left : ℕ
  pub right : ℕ
  pub binary : expression_of join.sheet conjunct ≡ Binary (op_of null_safe) left right
  pub left_column : expression_of join.sheet left ≡ ColumnRef first
  pub right_column : expression_of join.sheet right ≡ ColumnRef second

-- ---- facts

-- the one or two columns of an equating conjunct; no operator
pub data Equated (join : Join) (f : Columns) : Type 0 where
  equated : (first second : ℕ) (null_safe : Bool) → Equates join first second null_safe → first ∷ second ∷ [] ≡ f → Equated join f

-- these, or the columns of a profile class of either side; no distinct
pub data Fact (join : Join) (f : Columns) : Type 0 where
  of_left : (class : ColumnEquivalenceClass) → Memᴰ class join.sheet.left_classes → class.columns ≡ f → Fact join f
  of_right : (class : ColumnEquivalenceClass) → Memᴰ class join.sheet.right_classes → class.columns ≡ f → Fact join f
  of_conjunct : Equated join f → Fact join f

-- ---- chains

-- two columns in one fact
abbrev pub Together : (Columns → Type 0) → ℕ → ℕ → Type 0
Together F a b = (f : Columns) × F f × Memᴰ a f × Memᴰ b f

-- from column to column, neighbours together in one fact; perhaps with no step
pub data Linked (F : Columns → Type 0) : ℕ → ℕ → Type 0 where
  no_step : {a b : ℕ} → a ≡ b → Linked F a b
  step : {a b c : ℕ} → Together F a b → Linked F b c → Linked F a c

-- a set of columns follows from facts when a chain of them links every two different ones of it
abbrev pub Follows : (Columns → Type 0) → Columns → Type 0
Follows G f = (a b : ℕ) → Memᴰ a f → Memᴰ b f → a ≢ b → Linked G a b

abbrev pub AllFollow : (Columns → Type 0) → (Columns → Type 0) → Type 0
AllFollow G F = (f : Columns) → F f → Follows G f

-- a column of an ordinary equating conjunct
pub record InOrdinary (join : Join) (column : ℕ) : Type 0 where
  pub first : ℕ
  pub second : ℕ
  pub equates : Equates join first second false
  pub stands : Memᴰ column (first ∷ second ∷ [])

-- equating conjuncts lead from a column, in any number or none, to a column of an ordinary one
abbrev pub LeadsToOrdinary : Join → ℕ → Type 0
LeadsToOrdinary join a = (c : ℕ) × Linked (Equated join) a c × InOrdinary join c

-- ---- likeness

-- the same set of facts
abbrev pub AlikeInFacts : Join → Join → Type 0
AlikeInFacts s t = SameSet (Fact s) (Fact t)

-- the same columns, either way round, under the same operator; order and repeats don't count
abbrev pub EquatedIn : Join → Join → Type 0
EquatedIn s t = (first second : ℕ) (null_safe : Bool) → Equates s first second null_safe → Equates t first second null_safe ⊎ Equates t second first null_safe

abbrev pub AlikeInEquating : Join → Join → Type 0
AlikeInEquating s t = EquatedIn s t × EquatedIn t s

-- ---- what an answer says

abbrev pub Block : List ℕ → Columns → Type 0
Block answer k = Memᴰ k (blocks answer)

abbrev pub ShareBlock : List ℕ → ℕ → ℕ → Type 0
ShareBlock answer a b = (k : Columns) × Block answer k × Memᴰ a k × Memᴰ b k

-- ---- the claim

-- of one join, and the bytes of its answer
pub record OneJoin (join : Join) (answer : List ℕ) : Type 0 where
  -- a returned block has two columns or more
  pub two : (k : Columns) → Block answer k → (a : ℕ) × (b : ℕ) × Memᴰ a k × Memᴰ b k × (a ≢ b)
  -- no two blocks share a column: blocks with a common column stand at one place
  pub apart : (i j a : ℕ) → Memᴰ a (get_or (blocks answer) i []) → Memᴰ a (get_or (blocks answer) j []) → i ≡ j
  -- two different columns share a block exactly when a chain of facts links them
  pub share : (a b : ℕ) → a ≢ b → ShareBlock answer a b ↔ Linked (Fact join) a b
  -- a column is non-null exactly when equating conjuncts lead from it to a column of an ordinary one
  pub non_null : (a : ℕ) → Memᴰ a (non_nulls answer) ↔ LeadsToOrdinary join a

-- of any two joins
pub record TwoJoins (s t : Join) (x y : List ℕ) : Type 0 where
  pub first : OneJoin s x
  pub second : OneJoin t y
  -- the same set of blocks exactly when each one's facts follow from the other's
  pub same_blocks : SameSet (Block x) (Block y) ↔ (AllFollow (Fact t) (Fact s) × AllFollow (Fact s) (Fact t))
  -- alike in facts: the same set of blocks
  pub alike_in_facts : AlikeInFacts s t → SameSet (Block x) (Block y)
  -- alike in equating conjuncts: the same non-null columns
  pub alike_in_equating : AlikeInEquating s t → Same (non_nulls x) (non_nulls y)
