-- The fields of operands and conjuncts. `expressions` is the place of the expressions' count. Definitions only.
use Rattle.std.specs.Prelude.{ℕ, zero, suc, ◌+◌, ◌-◌, ◌*◌, ◌<◌, ◌≡◌, Bool, true, cond, not, ◌&&◌, List, [], ◌∷◌, ltb, leb, eqb}
use Rattle.le.specs.Fields.{byte_at, u16_at}
use Rattle.rules.specs.Rules.{ask, or_else, first_refusal}
use Rattle.layout.specs.Places.{count_size, number_size, expression_first_offset, expression_second_offset, expression_size}
use Rattle.layout.specs.Fields.{Field, number, fields_refusal}

-- ---- runs of operands

abbrev pub expression_place : ℕ → ℕ → ℕ
expression_place expressions e = expressions + count_size + expression_size * e

abbrev pub is_nary : List ℕ → ℕ → Bool
is_nary s at = eqb (byte_at s at) 4

-- how many operands the expression at a place has
abbrev pub run_length : List ℕ → ℕ → ℕ
run_length s at = cond (is_nary s at) (u16_at s (at + expression_second_offset)) 0

-- how many the first n expressions have
unfoldable pub runs_before : List ℕ → ℕ → ℕ → ℕ
runs_before s expressions zero = 0
runs_before s expressions (suc n) = runs_before s expressions n + run_length s (expression_place expressions n)

-- expression e is n-ary, and operand i stands in its run
abbrev pub run_holds : List ℕ → ℕ → ℕ → ℕ → Bool
run_holds s expressions i e =
    let at = expression_place expressions e in
    is_nary s at && (leb (u16_at s (at + expression_first_offset)) i && ltb i (u16_at s (at + expression_first_offset) + u16_at s (at + expression_second_offset)))

-- among n expressions, e and those behind it, the first whose run holds operand i
unfoldable pub first_holding : List ℕ → ℕ → ℕ → ℕ → ℕ → ℕ
first_holding s expressions i e zero = e
first_holding s expressions i e (suc n) = cond (run_holds s expressions i e) e (first_holding s expressions i (e + 1) n)

-- among the sheet's, from e on
abbrev pub nary_from : List ℕ → ℕ → ℕ → ℕ → ℕ
nary_from s expressions i e = first_holding s expressions i e (u16_at s expressions - e)

-- the n-ary expression to which operand i belongs
unfoldable pub nary_of : List ℕ → ℕ → ℕ → ℕ
unfolding first_holding
nary_of s expressions i = nary_from s expressions i 0

-- every n-ary expression starts its run where the runs before it end
abbrev pub RunsFollow : List ℕ → ℕ → Type 0
RunsFollow s expressions = (e : ℕ) → e < u16_at s expressions → is_nary s (expression_place expressions e) ≡ true → u16_at s (expression_place expressions e + expression_first_offset) ≡ runs_before s expressions e

-- ---- the rules

-- there are n operands: the runs fill them
unfoldable pub fill_refusal : List ℕ → ℕ → ℕ → ℕ
unfolding runs_before
fill_refusal s expressions n = ask (eqb n (runs_before s expressions (u16_at s expressions))) 9

unfoldable pub same_operand_refusal : List ℕ → ℕ → ℕ → ℕ → ℕ
same_operand_refusal s first o j = ask (not (eqb (u16_at s (first + number_size * j)) o)) 9

-- where operand i names an And or an Or, no operand before it does
unfoldable pub shared_refusal : List ℕ → ℕ → ℕ → ℕ → ℕ → ℕ
unfolding first_refusal same_operand_refusal
shared_refusal s expressions first i o = cond (is_nary s (expression_place expressions o)) (first_refusal (same_operand_refusal s first o) 0 i) 0

-- operand i, which stands in the run of expression `owner`; the first operand is at `first`
pub record OperandPlace : Type 0 where
  pub expressions : ℕ
  pub owner : ℕ
  pub first : ℕ
  pub i : ℕ

-- an expression of the sheet, below the owner, and no And or Or of an operand before it
abbrev pub operand_number_refusal : OperandPlace → List ℕ → ℕ → ℕ
operand_number_refusal c s at =
    let o = u16_at s at in
    or_else (ask (ltb o (u16_at s c.expressions) && ltb o c.owner) 8) (shared_refusal s c.expressions c.first c.i o)

abbrev pub operand_fields : List (Field OperandPlace ℕ)
operand_fields = number (λ x. x) operand_number_refusal ∷ []

unfoldable pub operand_refusal : List ℕ → ℕ → ℕ → ℕ → ℕ → ℕ
unfolding shared_refusal
operand_refusal s expressions owner first i = fields_refusal operand_fields (record { expressions = expressions; owner = owner; first = first; i = i }) s (first + number_size * i)

abbrev pub conjunct_fields : List (Field ℕ ℕ)
conjunct_fields = number (λ x. x) (λ expressions s at. ask (ltb (u16_at s at) (u16_at s expressions)) 8) ∷ []

unfoldable pub conjunct_refusal : List ℕ → ℕ → ℕ → ℕ
conjunct_refusal s expressions = fields_refusal conjunct_fields expressions s
