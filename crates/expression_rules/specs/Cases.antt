-- Worked expressions, operands and conjuncts: one of each kind that keeps every rule, and each rule broken. Assumes nothing.
use Rattle.std.specs.Prelude.{◌≡◌, refl, ℕ, List, [], ◌∷◌, ◌++◌}
use Rattle.le.specs.Fields.{field_at}
use Rattle.expression_rules.specs.Expressions.{expression_refusal}
use Rattle.expression_rules.specs.Operands.{expression_place, runs_before, nary_of, operand_refusal, conjunct_refusal}

abbrev no_scalar : List ℕ
no_scalar = 0 ∷ 0 ∷ 0 ∷ 0 ∷ 0 ∷ 0 ∷ 0 ∷ 0 ∷ 0 ∷ 0 ∷ 0 ∷ 0 ∷ 0 ∷ 0 ∷ 0 ∷ 0 ∷ 0 ∷ 0 ∷ 0 ∷ []

-- ---- kept: kind, op, a, b, scalar

-- the Int32 5
literal : expression_refusal (0 ∷ 0 ∷ 0 ∷ 0 ∷ 0 ∷ 0 ∷ 2 ∷ 5 ∷ 0 ∷ 0 ∷ 0 ∷ 0 ∷ 0 ∷ 0 ∷ 0 ∷ 0 ∷ 0 ∷ 0 ∷ 0 ∷ 0 ∷ 0 ∷ 0 ∷ 0 ∷ 0 ∷ 0 ∷ []) 0 0 0 ≡ 0
unfolding expression_refusal field_at
literal = refl

null : expression_refusal (0 ∷ 0 ∷ 0 ∷ 0 ∷ 0 ∷ 0 ∷ no_scalar) 0 0 0 ≡ 0
unfolding expression_refusal field_at
null = refl

last_column : expression_refusal (1 ∷ 0 ∷ 127 ∷ 0 ∷ 0 ∷ 0 ∷ no_scalar) 0 0 0 ≡ 0
unfolding expression_refusal field_at
last_column = refl

-- expression 1, over expression 0
negated : expression_refusal (2 ∷ 3 ∷ 0 ∷ 0 ∷ 0 ∷ 0 ∷ no_scalar) 0 1 0 ≡ 0
unfolding expression_refusal field_at
negated = refl

-- expression 258, over 256 and 257
compared : expression_refusal (3 ∷ 10 ∷ 0 ∷ 1 ∷ 1 ∷ 1 ∷ no_scalar) 0 258 0 ≡ 0
unfolding expression_refusal field_at
compared = refl

-- an Or of 65,535 operands from operand 7 on
or_of_many : expression_refusal (4 ∷ 1 ∷ 7 ∷ 0 ∷ 255 ∷ 255 ∷ no_scalar) 7 0 0 ≡ 0
unfolding expression_refusal field_at
or_of_many = refl

like : expression_refusal (5 ∷ 0 ∷ 0 ∷ 0 ∷ 0 ∷ 0 ∷ no_scalar) 0 0 0 ≡ 0
unfolding expression_refusal field_at
like = refl

any_other : expression_refusal (6 ∷ 0 ∷ 0 ∷ 0 ∷ 0 ∷ 0 ∷ no_scalar) 0 0 0 ≡ 0
unfolding expression_refusal field_at
any_other = refl

-- ---- broken, one rule at a time

-- 24 bytes
cut : expression_refusal (6 ∷ 0 ∷ 0 ∷ 0 ∷ 0 ∷ 0 ∷ 0 ∷ 0 ∷ 0 ∷ 0 ∷ 0 ∷ 0 ∷ 0 ∷ 0 ∷ 0 ∷ 0 ∷ 0 ∷ 0 ∷ 0 ∷ 0 ∷ 0 ∷ 0 ∷ 0 ∷ 0 ∷ []) 0 0 0 ≡ 2
unfolding expression_refusal field_at
cut = refl

no_kind : expression_refusal (7 ∷ 0 ∷ 0 ∷ 0 ∷ 0 ∷ 0 ∷ no_scalar) 0 0 0 ≡ 6
unfolding expression_refusal field_at
no_kind = refl

-- the first number that is no operator's
no_unary : expression_refusal (2 ∷ 4 ∷ 0 ∷ 0 ∷ 0 ∷ 0 ∷ no_scalar) 0 1 0 ≡ 6
unfolding expression_refusal field_at
no_unary = refl

no_binary : expression_refusal (3 ∷ 11 ∷ 0 ∷ 0 ∷ 0 ∷ 0 ∷ no_scalar) 0 1 0 ≡ 6
unfolding expression_refusal field_at
no_binary = refl

no_nary : expression_refusal (4 ∷ 2 ∷ 0 ∷ 0 ∷ 0 ∷ 0 ∷ no_scalar) 0 0 0 ≡ 6
unfolding expression_refusal field_at
no_nary = refl

-- op where the kind has none: literal, column, LIKE, any other
literal_op : expression_refusal (0 ∷ 1 ∷ 0 ∷ 0 ∷ 0 ∷ 0 ∷ no_scalar) 0 0 0 ≡ 6
unfolding expression_refusal field_at
literal_op = refl

column_op : expression_refusal (1 ∷ 1 ∷ 0 ∷ 0 ∷ 0 ∷ 0 ∷ no_scalar) 0 0 0 ≡ 6
unfolding expression_refusal field_at
column_op = refl

like_op : expression_refusal (5 ∷ 1 ∷ 0 ∷ 0 ∷ 0 ∷ 0 ∷ no_scalar) 0 0 0 ≡ 6
unfolding expression_refusal field_at
like_op = refl

other_op : expression_refusal (6 ∷ 1 ∷ 0 ∷ 0 ∷ 0 ∷ 0 ∷ no_scalar) 0 0 0 ≡ 6
unfolding expression_refusal field_at
other_op = refl

-- column 128
column_above : expression_refusal (1 ∷ 0 ∷ 128 ∷ 0 ∷ 0 ∷ 0 ∷ no_scalar) 0 0 0 ≡ 7
unfolding expression_refusal field_at
column_above = refl

-- expression 1 over itself
unary_itself : expression_refusal (2 ∷ 0 ∷ 1 ∷ 0 ∷ 0 ∷ 0 ∷ no_scalar) 0 1 0 ≡ 8
unfolding expression_refusal field_at
unary_itself = refl

-- expression 2 with itself as the first child, and as the second
first_itself : expression_refusal (3 ∷ 0 ∷ 2 ∷ 0 ∷ 0 ∷ 0 ∷ no_scalar) 0 2 0 ≡ 8
unfolding expression_refusal field_at
first_itself = refl

second_itself : expression_refusal (3 ∷ 0 ∷ 0 ∷ 0 ∷ 2 ∷ 0 ∷ no_scalar) 0 2 0 ≡ 8
unfolding expression_refusal field_at
second_itself = refl

-- runs before it end at operand 7: a run from 6, one from 8, and an empty one from 0
overlap : expression_refusal (4 ∷ 0 ∷ 6 ∷ 0 ∷ 1 ∷ 0 ∷ no_scalar) 7 0 0 ≡ 9
unfolding expression_refusal field_at
overlap = refl

gap : expression_refusal (4 ∷ 0 ∷ 8 ∷ 0 ∷ 1 ∷ 0 ∷ no_scalar) 7 0 0 ≡ 9
unfolding expression_refusal field_at
gap = refl

empty_run : expression_refusal (4 ∷ 0 ∷ 0 ∷ 0 ∷ 0 ∷ 0 ∷ no_scalar) 7 0 0 ≡ 9
unfolding expression_refusal field_at
empty_run = refl

-- runs before it end at operand 65,536, which no a can say
run_beyond : expression_refusal (4 ∷ 0 ∷ 0 ∷ 0 ∷ 0 ∷ 0 ∷ no_scalar) 65536 0 0 ≡ 9
unfolding expression_refusal field_at
run_beyond = refl

-- a or b where the kind has none
literal_a : expression_refusal (0 ∷ 0 ∷ 0 ∷ 1 ∷ 0 ∷ 0 ∷ no_scalar) 0 0 0 ≡ 6
unfolding expression_refusal field_at
literal_a = refl

column_b : expression_refusal (1 ∷ 0 ∷ 0 ∷ 0 ∷ 1 ∷ 0 ∷ no_scalar) 0 0 0 ≡ 6
unfolding expression_refusal field_at
column_b = refl

unary_b : expression_refusal (2 ∷ 0 ∷ 0 ∷ 0 ∷ 0 ∷ 1 ∷ no_scalar) 0 1 0 ≡ 6
unfolding expression_refusal field_at
unary_b = refl

like_a : expression_refusal (5 ∷ 0 ∷ 1 ∷ 0 ∷ 0 ∷ 0 ∷ no_scalar) 0 0 0 ≡ 6
unfolding expression_refusal field_at
like_a = refl

other_b : expression_refusal (6 ∷ 0 ∷ 0 ∷ 0 ∷ 1 ∷ 0 ∷ no_scalar) 0 0 0 ≡ 6
unfolding expression_refusal field_at
other_b = refl

-- a literal of tag 7, and one that is absent
literal_text : expression_refusal (0 ∷ 0 ∷ 0 ∷ 0 ∷ 0 ∷ 0 ∷ 7 ∷ 0 ∷ 0 ∷ 0 ∷ 0 ∷ 0 ∷ 0 ∷ 0 ∷ 0 ∷ 0 ∷ 0 ∷ 0 ∷ 0 ∷ 0 ∷ 0 ∷ 0 ∷ 0 ∷ 0 ∷ 0 ∷ []) 0 0 0 ≡ 5
unfolding expression_refusal field_at
literal_text = refl

literal_absent : expression_refusal (0 ∷ 0 ∷ 0 ∷ 0 ∷ 0 ∷ 0 ∷ 255 ∷ 0 ∷ 0 ∷ 0 ∷ 0 ∷ 0 ∷ 0 ∷ 0 ∷ 0 ∷ 0 ∷ 0 ∷ 0 ∷ 0 ∷ 0 ∷ 0 ∷ 0 ∷ 0 ∷ 0 ∷ 0 ∷ []) 0 0 0 ≡ 5
unfolding expression_refusal field_at
literal_absent = refl

-- the same bytes where only zeros may stand
column_text : expression_refusal (1 ∷ 0 ∷ 0 ∷ 0 ∷ 0 ∷ 0 ∷ 7 ∷ 0 ∷ 0 ∷ 0 ∷ 0 ∷ 0 ∷ 0 ∷ 0 ∷ 0 ∷ 0 ∷ 0 ∷ 0 ∷ 0 ∷ 0 ∷ 0 ∷ 0 ∷ 0 ∷ 0 ∷ 0 ∷ []) 0 0 0 ≡ 6
unfolding expression_refusal field_at
column_text = refl

other_last_byte : expression_refusal (6 ∷ 0 ∷ 0 ∷ 0 ∷ 0 ∷ 0 ∷ 0 ∷ 0 ∷ 0 ∷ 0 ∷ 0 ∷ 0 ∷ 0 ∷ 0 ∷ 0 ∷ 0 ∷ 0 ∷ 0 ∷ 0 ∷ 0 ∷ 0 ∷ 0 ∷ 0 ∷ 0 ∷ 1 ∷ []) 0 0 0 ≡ 6
unfolding expression_refusal field_at
other_last_byte = refl

-- ---- broken, two rules: the bytes that stand first decide

-- column 128 with a b
column_then_b : expression_refusal (1 ∷ 0 ∷ 128 ∷ 0 ∷ 1 ∷ 0 ∷ no_scalar) 0 0 0 ≡ 7
unfolding expression_refusal field_at
column_then_b = refl

-- a unary operator 4 over itself
op_then_child : expression_refusal (2 ∷ 4 ∷ 1 ∷ 0 ∷ 0 ∷ 0 ∷ no_scalar) 0 1 0 ≡ 6
unfolding expression_refusal field_at
op_then_child = refl

-- kind 7 in a record of one byte
cut_then_kind : expression_refusal (7 ∷ []) 0 0 0 ≡ 2
unfolding expression_refusal field_at
cut_then_kind = refl

-- ---- a section of expressions, at byte 0, and the operands behind it, the first of them at byte 104

-- 0: column 0; 1: an Or of nothing; 2: an And of operand 0; 3: an Or of operands 1 and 2
abbrev four : List ℕ
four =
    4 ∷ 0 ∷ 1 ∷ 0 ∷ 0 ∷ 0 ∷ 0 ∷ 0 ∷ no_scalar
    ++ 4 ∷ 1 ∷ 0 ∷ 0 ∷ 0 ∷ 0 ∷ no_scalar
    ++ 4 ∷ 0 ∷ 0 ∷ 0 ∷ 1 ∷ 0 ∷ no_scalar
    ++ 4 ∷ 1 ∷ 1 ∷ 0 ∷ 2 ∷ 0 ∷ no_scalar

-- operands 0, 1, 2: the column, the empty Or, the column again
abbrev sheet : List ℕ
sheet = four ++ 3 ∷ 0 ∷ 0 ∷ 0 ∷ 1 ∷ 0 ∷ 0 ∷ 0 ∷ []

abbrev expression_at : ℕ → ℕ
expression_at i = expression_refusal sheet (runs_before sheet 0 i) i (expression_place 0 i)

expressions_kept : (expression_at 0 ∷ expression_at 1 ∷ expression_at 2 ∷ expression_at 3 ∷ []) ≡ (0 ∷ 0 ∷ 0 ∷ 0 ∷ [])
unfolding expression_refusal runs_before field_at
expressions_kept = refl

-- there is no operand 3
owners : (nary_of sheet 0 0 ∷ nary_of sheet 0 1 ∷ nary_of sheet 0 2 ∷ nary_of sheet 0 3 ∷ []) ≡ (2 ∷ 3 ∷ 3 ∷ 4 ∷ [])
unfolding nary_of field_at
owners = refl

abbrev operand_at : List ℕ → ℕ → ℕ
operand_at s i = operand_refusal s 0 (nary_of s 0 i) 104 i

operands_kept : (operand_at sheet 0 ∷ operand_at sheet 1 ∷ operand_at sheet 2 ∷ []) ≡ (0 ∷ 0 ∷ 0 ∷ [])
unfolding operand_refusal nary_of field_at
operands_kept = refl

-- the empty Or twice, in one run and in two
shared : operand_at (four ++ 3 ∷ 0 ∷ 0 ∷ 0 ∷ 1 ∷ 0 ∷ 1 ∷ 0 ∷ []) 2 ≡ 9
unfolding operand_refusal nary_of field_at
shared = refl

shared_over_runs : operand_at (four ++ 3 ∷ 0 ∷ 1 ∷ 0 ∷ 1 ∷ 0 ∷ 0 ∷ 0 ∷ []) 1 ≡ 9
unfolding operand_refusal nary_of field_at
shared_over_runs = refl

-- operand 0 is in expression 2's run, and names expression 2
not_below : operand_at (four ++ 3 ∷ 0 ∷ 2 ∷ 0 ∷ 1 ∷ 0 ∷ 0 ∷ 0 ∷ []) 0 ≡ 8
unfolding operand_refusal nary_of field_at
not_below = refl

-- expression 4, of four
none_such : operand_at (four ++ 3 ∷ 0 ∷ 0 ∷ 0 ∷ 4 ∷ 0 ∷ 0 ∷ 0 ∷ []) 1 ≡ 8
unfolding operand_refusal nary_of field_at
none_such = refl

-- expression 3 in its own run, named before it in expression 2's: broken twice
below_then_shared : operand_at (four ++ 3 ∷ 0 ∷ 3 ∷ 0 ∷ 3 ∷ 0 ∷ 0 ∷ 0 ∷ []) 1 ≡ 8
unfolding operand_refusal nary_of field_at
below_then_shared = refl

-- half of operand 2, and none of it
operand_cut : operand_at (four ++ 3 ∷ 0 ∷ 0 ∷ 0 ∷ 1 ∷ 0 ∷ 0 ∷ []) 2 ≡ 2
unfolding operand_refusal nary_of field_at
operand_cut = refl

operand_missing : operand_at (four ++ 3 ∷ 0 ∷ 0 ∷ 0 ∷ 1 ∷ 0 ∷ []) 2 ≡ 2
unfolding operand_refusal nary_of field_at
operand_missing = refl

-- conjuncts: two bytes at byte 102
conjunct : conjunct_refusal (four ++ 3 ∷ 0 ∷ []) 0 102 ≡ 0
unfolding conjunct_refusal field_at
conjunct = refl

conjunct_none_such : conjunct_refusal (four ++ 4 ∷ 0 ∷ []) 0 102 ≡ 8
unfolding conjunct_refusal field_at
conjunct_none_such = refl

conjunct_cut : conjunct_refusal (four ++ 3 ∷ []) 0 102 ≡ 2
unfolding conjunct_refusal field_at
conjunct_cut = refl
