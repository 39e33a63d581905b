use Prim.Native.Nat.{ℕ}
use mathlib.Core.Path.{refl, ap, ◌∙◌}
use mathlib.Core.List.{List}
use native.Mathlib.Omega.{arith}
use Rattle.le.specs.Fields.{field_bytes, onto}
use Rattle.le.proofs.OntoLaws.{onto_part}
use Rattle.layout.specs.Places.{figures_match_offset, figures_residual_offset}
use Rattle.estimate.specs.Bytes.{estimate_bytes}
use Rattle.join_parts.proofs.PartLaws.{figures_joined}
use Rattle.join_parts.proofs.put_figures.Goals as goal

pub returns : goal.returns
unfolding field_bytes estimate_bytes
returns c =
    let a = c.args in
    let x2 = onto_part _ _ _ _ _ figures_match_offset _ refl refl (omega arith) c.put_estimate.ensures c.put_estimate-2.ensures in
    onto_part _ _ _ _ _ figures_residual_offset _ refl refl (omega arith) x2 c.put_f64.ensures
    ∙ ap (λ (bs : List ℕ). onto bs a.out.now) (figures_joined a.figures.selectivity a.figures.match_probability a.figures.residual_selectivity)
