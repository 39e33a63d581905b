-- Demand 3 for calls of `estimates::join`: any two that were given a length and no refusal number. Definitions only.
use Rattle.std.specs.Prelude.{ℕ, List, take}
use Rattle.sheet.specs.Sheet.{sheet_in, conjuncts_in}
use Rattle.answers.specs.Answers.{Written, Comes}
use Rattle.join_answer.specs.Join.{join_result}
use Rattle.demand.specs.Claim.{Join, TwoJoins}

-- a call of `join`: the bytes of its sheet and the output that it was lent; `comes` is the entry's contract
pub record AcceptedJoin : Type 0 where
  pub sheet : List ℕ
  pub lent : List ℕ
  pub size : ℕ
  pub after : List ℕ
  pub comes : Comes (join_result sheet) lent (Written size) after

-- what it returns: so many bytes of the output as it left it
abbrev pub returned : AcceptedJoin → List ℕ
returned call = take call.size call.after

-- the join that a sheet of bytes asks for: of its own conjuncts
abbrev pub join_in : List ℕ → Join
join_in s = record { sheet = sheet_in s; conjuncts = conjuncts_in s }

abbrev pub Demand3 : Type 0
Demand3 = (X Y : AcceptedJoin) → TwoJoins (join_in X.sheet) (join_in Y.sheet) (returned X) (returned Y)
