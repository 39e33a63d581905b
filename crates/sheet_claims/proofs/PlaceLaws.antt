-- The places are the list's exactly if each is. Assumes nothing.
use Prim.Native.Nat.{ℕ, ◌+◌, ◌*◌}
use mathlib.Core.Path.{◌≡◌, refl, ap, ◌∙◌}
use mathlib.Core.Bool.{Bool, true, false, cond, ◌&&◌}
use mathlib.Core.List.{List, [], ◌∷◌}
use native.Mathlib.Omega.{arith}
use lib.Dec.{eqb}
use Rattle.std.specs.List.{list_all, enumerate_from}
use Rattle.le.specs.Fields.{u16_at}
use Rattle.layout.specs.Places.{number_size}
use Rattle.sheet_claims.specs.Claims.{same_places}

-- whether a place is the one that the bytes hold at its number
abbrev pub same_place : List ℕ → ℕ × ℕ → Bool
same_place a p = eqb p.1 (u16_at a (number_size * p.0))

and_cond : (b c : Bool) → (b && c) ≡ cond b c false
and_cond true c = refl
and_cond false c = refl

at_next : (i : ℕ) → number_size * (i + 1) ≡ number_size * i + number_size
at_next i = omega arith

pub places_from : (a ps : List ℕ) (i : ℕ) → list_all (same_place a) (enumerate_from i ps) ≡ same_places ps a (number_size * i)
unfolding same_places
places_from a [] i = refl
places_from a (p ∷ ps) i =
    ap (λ (b : Bool). same_place a (i, p) && b) (places_from a ps (i + 1) ∙ ap (same_places ps a) (at_next i))
    ∙ and_cond (same_place a (i, p)) (same_places ps a (number_size * i + number_size))
