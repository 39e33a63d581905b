-- Demand 3: a call that was given a length has an accepted sheet, and what it returns is the answer of that sheet's join. Assumes nothing.
use Prim.Native.Nat.{ℕ}
use mathlib.Core.Path.{◌≡◌, refl, sym, ap, ◌∙◌, subst}
use mathlib.Core.Bool.{Bool, true, false, cond}
use mathlib.Core.List.{List}
use native.Mathlib.Omega.{arith}
use lib.Dec.{leb}
use lib.ListN.{length, take, drop}
use lib.Seq.{take_at}
use Rattle.le.specs.Fields.{onto}
use Rattle.sheet.specs.Check.{Checked, Refused as SheetRefused, Accepted, sheet_refusal, check}
use Rattle.sheet.specs.Sheet.{sheet_in, conjuncts_in}
use Rattle.sheet.proofs.AcceptedLaws.{accepted}
use Rattle.join.specs.Join.{join_selectivity_from_conjuncts}
use Rattle.answers.specs.Answers.{Refused, Written, Result, refusal, bytes, answered, leaves, sheet_result}
use Rattle.join_answer.specs.Join.{join_bytes, join_result}
use Rattle.demand.specs.Claim.{OneJoin}
use Rattle.demand.specs.Demand.{AcceptedJoin, returned, join_in, Demand3}
use Rattle.demand.proofs.KeptLaws.{kept}
use Rattle.demand.proofs.AnswerLaws.{one_join}
use Rattle.demand.proofs.TwoJoinLaws.{two_joins}

-- a length is given where the result is bytes, and the output begins with them
written : (result : Result) (out : List ℕ) (n : ℕ) → Written n ≡ answered result out → (bs : List ℕ) × (result ≡ bytes bs) × (take n (leaves result out) ≡ bs)
unfolding answered leaves onto
written (refusal k) out n e = let z : ◌≡◌ {A = ℕ} 0 1 = cc in absurd (no z)
  where
    no : ◌≡◌ {A = ℕ} 0 1 → ⊥
    no z = omega arith
written (bytes bs) out n e = (bs, refl, go (leb (length bs) (length out)) e)
  where
    no : ◌≡◌ {A = ℕ} 0 1 → ⊥
    no z = omega arith

    go : (fits : Bool) → Written n ≡ cond fits (Written (length bs)) (Refused 12) → take n (cond fits (onto bs out) out) ≡ bs
    go true q = let l : length bs ≡ n = cc in take_at bs (drop (length bs) out) n l
    go false q = let z : ◌≡◌ {A = ℕ} 0 1 = cc in absurd (no z)

-- bytes come of an accepted sheet
accepted_bytes : (s bs : List ℕ) → join_result s ≡ bytes bs → (sheet_refusal s ≡ 0) × (join_bytes (join_selectivity_from_conjuncts (sheet_in s) (conjuncts_in s)) ≡ bs)
unfolding join_result
accepted_bytes s bs e = go (check s) refl e
  where
    no : ◌≡◌ {A = ℕ} 0 1 → ⊥
    no z = omega arith

    go : (checked : Checked) → check s ≡ checked → sheet_result checked (bytes (join_bytes (join_selectivity_from_conjuncts (sheet_in s) (conjuncts_in s)))) ≡ bytes bs → (sheet_refusal s ≡ 0) × (join_bytes (join_selectivity_from_conjuncts (sheet_in s) (conjuncts_in s)) ≡ bs)
    go (SheetRefused n) p q = let z : ◌≡◌ {A = ℕ} 0 1 = cc in absurd (no z)
    go (Accepted x) p q = let f : join_bytes (join_selectivity_from_conjuncts (sheet_in s) (conjuncts_in s)) ≡ bs = cc in ((accepted s x p).0, f)

call_join : (call : AcceptedJoin) → OneJoin (join_in call.sheet) (returned call)
call_join call =
    let s = call.sheet in
    let w = written (join_result s) call.lent call.size call.comes.0 in
    let b = accepted_bytes s w.0 w.1 in
    let e : returned call ≡ join_bytes (join_selectivity_from_conjuncts (sheet_in s) (conjuncts_in s)) = ap (take call.size) call.comes.1 ∙ w.2 ∙ sym b.1 in
    subst (OneJoin (join_in s)) (sym e) (one_join (join_in s) (kept s b.0))

pub demand3 : Demand3
demand3 X Y = two_joins (call_join X) (call_join Y)
