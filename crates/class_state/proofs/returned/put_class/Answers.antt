use Prim.Native.Nat.{ℕ}
use mathlib.Core.Path.{refl, ap, ◌∙◌}
use mathlib.Core.List.{List}
use native.Mathlib.Omega.{arith}
use Rattle.le.specs.Fields.{field_bytes, onto}
use Rattle.le.proofs.OntoLaws.{onto_part}
use Rattle.class_state.proofs.ReturnedLaws.{head_length, class_written}
use Rattle.class_state.proofs.returned.put_class.Goals as goal

pub returns-clause-out_after : goal.returns-clause-out_after
unfolding field_bytes
returns-clause-out_after c =
    let x2 = onto_part _ _ _ _ _ 2 _ refl refl (omega arith) c.put_u16.ensures c.put_estimate.ensures in
    let x3 = onto_part _ _ _ _ _ 28 _ (head_length c.from.result _) refl (omega arith) x2 c.put_members.ensures.out_after in
    x3 ∙ ap (λ (bs : List ℕ). onto bs c.args.out.now) (class_written c.args.class.now.roots.now c.args.class.now.root c.from.result (c.from.ensures ∙ c.args.class.now.counted) c.args.distinct)
