use Prim.Native.Nat.{ℕ}
use mathlib.Core.Path.{refl, ap, ◌∙◌}
use mathlib.Core.List.{List}
use native.Mathlib.Omega.{arith}
use Rattle.le.specs.Fields.{onto, field_bytes}
use Rattle.le.proofs.OntoLaws.{onto_part}
use Rattle.edge_fold.proofs.CoverageLaws.{figures_joined}
use Rattle.edge_fold.proofs.coverages.put_coverage_figures.Goals as goal

pub returns : goal.returns
unfolding field_bytes
returns c =
    let x2 = onto_part _ _ _ _ _ 8 _ refl refl (omega arith) c.put_f64.ensures c.put_f64-2.ensures in
    let x3 = onto_part _ _ _ _ _ 16 _ refl refl (omega arith) x2 c.put_f64-3.ensures in
    let x4 = onto_part _ _ _ _ _ 24 _ refl refl (omega arith) x3 c.put_f64-4.ensures in
    onto_part _ _ _ _ _ 32 _ refl refl (omega arith) x4 c.put_f64-5.ensures
    ∙ ap (λ (bs : List ℕ). onto bs c.args.out.now) (figures_joined c.args.c)
