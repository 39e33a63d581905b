-- `conjuncts` of the source's analysis.rs: an And taken apart to any depth. Definitions only.
use Rattle.std.specs.Prelude.{ℕ, List, [], ◌∷◌, ◌++◌, Option, None, Some}
use Rattle.records.specs.declared.expressions.NaryOp.TheVariants.{And}
use Rattle.records.specs.declared.expressions.Expression.{Expression}
use Rattle.records.specs.declared.expressions.Expression.TheVariants.{Nary}
use Rattle.sheet.specs.Sheet.{Sheet}
use Rattle.lookup.specs.Lookup.{expression_of, operands_of}
use Rattle.lookup.specs.Recursion.{by_number}
use Rattle.lookup.specs.declared.numbers.Run.{Run}

-- the operands of an And
abbrev pub and_run : Expression → Option Run
and_run (Nary And first count) = Some (record { first = first; count = count })
and_run _ = None

-- the conjuncts of each operand, one after the other
unfoldable pub flattened : (ℕ → List ℕ) → List ℕ → List ℕ
flattened conjuncts_of [] = []
flattened conjuncts_of (o ∷ os) = conjuncts_of o ++ flattened conjuncts_of os

abbrev pub run_conjuncts : Sheet → (ℕ → List ℕ) → ℕ → Option Run → List ℕ
run_conjuncts sheet conjuncts_of e None = e ∷ []
run_conjuncts sheet conjuncts_of e (Some run) = flattened conjuncts_of (operands_of sheet run.first run.count)

-- by the conjuncts of smaller numbers
unfoldable pub conjuncts_by : Sheet → (ℕ → List ℕ) → ℕ → List ℕ
unfolding flattened
conjuncts_by sheet conjuncts_of e = run_conjuncts sheet conjuncts_of e (and_run (expression_of sheet e))

-- a number that is not below an expression's own, which no accepted sheet has as an operand, is kept as it is
abbrev pub itself : ℕ → List ℕ
itself o = o ∷ []

unfoldable pub conjuncts : Sheet → ℕ → List ℕ
unfolding by_number conjuncts_by
conjuncts sheet e = by_number (conjuncts_by sheet) itself e
