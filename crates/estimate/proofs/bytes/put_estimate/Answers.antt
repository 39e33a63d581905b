use Prim.Native.Nat.{ℕ}
use mathlib.Core.Path.{refl, ap, ◌∙◌}
use mathlib.Core.List.{List}
use native.Mathlib.Omega.{arith}
use Rattle.le.specs.Fields.{onto, field_bytes}
use Rattle.le.proofs.OntoLaws.{onto_part}
use Rattle.estimate.specs.Bytes.{option_bits}
use Rattle.estimate.proofs.EstimateLaws.{fields_joined}
use Rattle.estimate.proofs.bytes.put_estimate.Goals as goal

pub returns : goal.returns
unfolding field_bytes
returns c =
    let x2 = onto_part _ _ _ _ _ 1 _ refl refl (omega arith) c.put_byte.ensures c.put_byte-2.ensures in
    let x3 = onto_part _ _ _ _ _ 2 _ refl refl (omega arith) x2 c.put_f64.ensures in
    let x4 = onto_part _ _ _ _ _ 10 _ refl refl (omega arith) x3 c.put_u64.ensures in
    onto_part _ _ _ _ _ 18 _ refl refl (omega arith) x4 c.put_u64-2.ensures
    ∙ ap (λ (bs : List ℕ). onto bs c.args.out.now)
    (fields_joined c.args.e _ _ _ _ c.from.ensures c.flags_number.ensures (c.option_bits.ensures ∙ ap option_bits c.lower_bound.ensures) (c.option_bits-2.ensures ∙ ap option_bits c.upper_bound.ensures))
