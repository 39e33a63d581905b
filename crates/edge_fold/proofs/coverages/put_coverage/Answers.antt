use Prim.Native.Nat.{ℕ}
use mathlib.Core.Path.{refl, ap, ◌∙◌}
use mathlib.Core.List.{List}
use native.Mathlib.Omega.{arith}
use Rattle.le.specs.Fields.{onto, field_bytes}
use Rattle.le.proofs.OntoLaws.{onto_part}
use Rattle.layout.specs.Places.{coverage_figures_offset, coverage_ordinary_offset}
use Rattle.edge_fold.proofs.CoverageLaws.{front_length, coverage_joined}
use Rattle.edge_fold.proofs.coverages.put_coverage.Goals as goal

pub returns : goal.returns
unfolding field_bytes
returns c =
    let x2 = onto_part _ _ _ _ _ coverage_figures_offset _ refl refl (omega arith) c.put_u16.ensures c.put_coverage_figures.ensures in
    onto_part _ _ _ _ _ coverage_ordinary_offset _ (front_length c.args.c) refl (omega arith) x2 c.put_byte.ensures
    ∙ ap (λ (bs : List ℕ). onto bs c.args.out.now) (coverage_joined c.args.c _ c.one_if.ensures)
