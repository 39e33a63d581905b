-- The parts of a join's answer: how they are put one after the other, and how long they are. Assumes nothing.
use Prim.Native.Nat.{ℕ, ◌-◌, ◌≤◌}
use mathlib.Core.Path.{◌≡◌, refl, ap, ◌∙◌}
use mathlib.Core.List.{List, ◌++◌}
use lib.Ieee.{Float}
use lib.ListN.{length, take, drop}
use Rattle.le.specs.Fields.{field_bytes, u16_bytes, onto}
use Rattle.le.specs.Floats.{f64_bytes}
use Rattle.le.proofs.FieldLaws.{bytes_length}
use Rattle.le.proofs.OntoLaws.{onto_part}
use Rattle.layout.specs.Places.{count_size, figures_size}
use Rattle.estimate.specs.Bytes.{estimate_bytes}
use Rattle.estimate.specs.declared.Estimate.{Estimate}
use Rattle.number_bytes.specs.Numbers.{counted}
use Rattle.join_parts.specs.Parts.{figures_bytes}

-- ---- the parts one after the other

-- a count is put to the front, and what it counts to the front of the part behind it
pub counted_written : (n m k : ℕ) (bs out X Y : List ℕ) → n ≡ m → count_size ≤ length out → X ≡ onto (u16_bytes n) out → k ≡ length X - count_size → Y ≡ onto bs (take k (drop count_size X))
    → take count_size X ++ (Y ++ drop k (drop count_size X)) ≡ onto (counted m bs) out
counted_written n m k bs out X Y f h x g y =
    onto_part (u16_bytes n) bs out X Y count_size k (bytes_length 2 n) g h x y
    ∙ ap (λ (i : ℕ). onto (counted i bs) out) f

-- two estimates and a float, as `put_figures` puts them
pub figures_joined : (a b : Estimate) (x : Float) → (estimate_bytes a ++ estimate_bytes b) ++ f64_bytes x ≡ figures_bytes a b x
unfolding figures_bytes estimate_bytes field_bytes
figures_joined a b x = refl

-- ---- sizes

pub figures_length : (a b : Estimate) (x : Float) → length (figures_bytes a b x) ≡ figures_size
unfolding figures_bytes estimate_bytes field_bytes
figures_length a b x = refl
