-- A refusal is the sheet's own, since the answer fits; the rest is the answer.
use Rattle.std.proofs.Common.{ℕ, ap, ◌∙◌, [], ◌∷◌}
use Rattle.le.specs.Fields.{onto}
use Rattle.join_answer.specs.Join.{join_result}
use Rattle.join_sheet.proofs.ReplyLaws.{reply_fits, refused_reply, written_reply}
use Rattle.join_sheet.proofs.put_reply.Goals as goal

pub returns-in-Err : goal.returns-in-Err
returns-in-Err c =
    let e = c.put_refusal.ensures ∙ ap (λ (n : ℕ). onto (0xFF ∷ n ∷ []) c.join.new.out) c.from.ensures in
    let put = refused_reply (join_result _) _ _ _ _ (reply_fits _) c.requires c.in-Err.ensures e in
    record { value = put.0; out_after = put.1.0; prefix_len = put.1.1 }

pub returns-in-Ok : goal.returns-in-Ok
returns-in-Ok c =
    let put = written_reply (join_result _) _ _ _ (reply_fits _) c.requires c.in-Ok.ensures in
    record { value = put.0; out_after = put.1.0; prefix_len = put.1.1 }
