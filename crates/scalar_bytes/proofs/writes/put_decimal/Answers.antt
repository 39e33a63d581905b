use Rattle.scalar_bytes.proofs.WritingLaws.{value_bytes}
use Rattle.scalar_bytes.specs.Encoding.{extension}
use mir.Syntax.{w64}
use Rattle.signed.proofs.SignedLaws.{kept}
use Rattle.le.specs.Integers.{i64_bytes}
use Rattle.le.specs.Fields.{field_bytes}
use Rattle.le.proofs.OntoLaws.{onto_part, onto_as}
use native.Mathlib.Omega.{arith}
use mathlib.Core.List.{List, [], ◌∷◌}
use mathlib.Core.Path.{refl, ap, ◌∙◌, sym}
use Prim.Native.Nat.{ℕ, suc}
use Rattle.le.proofs.FieldLaws.{bytes_length}
use Rattle.scalar_bytes.proofs.writes.put_decimal.Goals as goal

pub returns : goal.returns
returns c = onto_as _ _ _ _ (onto_part (5 ∷ c.args.precision ∷ c.args.scale ∷ i64_bytes c.args.value) (field_bytes 8 (extension c.args.value)) c.args.out.now _ _ 11 _ (ap (λ (k : ℕ). suc (suc (suc k))) (bytes_length 8 _)) refl (omega arith) (onto_part (5 ∷ c.args.precision ∷ c.args.scale ∷ []) (i64_bytes c.args.value) c.args.out.now _ _ 3 _ refl refl (omega arith) (onto_part (5 ∷ c.args.precision ∷ []) (c.args.scale ∷ []) c.args.out.now _ _ 2 _ refl refl (omega arith) (onto_part (5 ∷ []) (c.args.precision ∷ []) c.args.out.now _ _ 1 _ refl refl (omega arith) c.put_byte.ensures c.put_byte-2.ensures) c.put_byte-3.ensures) (onto_as _ _ _ _ c.put_i64.ensures (ap i64_bytes (kept w64 c.args.value c.ranges.value.sfits)))) (onto_as _ _ _ _ c.put_u64.ensures (ap (field_bytes 8) (c.extension.ensures ∙ ap extension (kept w64 c.args.value c.ranges.value.sfits))))) (ap (λ (l : List ℕ). 5 ∷ c.args.precision ∷ c.args.scale ∷ l) (sym (value_bytes c.args.value c.ranges.value.sfits)))
