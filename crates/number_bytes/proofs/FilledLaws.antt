-- Laws of a loop that writes its pieces one after the other. Assumes nothing.
use Prim.Native.Nat.{ℕ, ◌+◌, ◌-◌, ◌≤◌}
use mathlib.Core.Path.{◌≡◌, refl, sym, ap, ◌∙◌}
use mathlib.Core.List.{List, [], ◌∷◌, ◌++◌, append-nil, append_assoc}
use native.Mathlib.Omega.{arith}
use lib.ListN.{length, take, drop, length-append, length-take, length-drop}
use Rattle.le.specs.Fields.{onto}
use Rattle.le.proofs.OntoLaws.{onto_part, onto_length}

-- what a loop that stands at i has written of all bytes into a slice that held out₀, where rest i are those from i on
pub record Filled (rest : ℕ → List ℕ) (all out₀ out : List ℕ) (at i : ℕ) : Type 0 where
  pub done : List ℕ
  pub placed : out ≡ onto done out₀
  pub reached : at ≡ length done
  pub left : done ++ rest i ≡ all

module _ (rest : ℕ → List ℕ) (all out₀ : List ℕ) where
  pub filled_first : (i : ℕ) → rest i ≡ all → Filled rest all out₀ out₀ 0 i
  unfolding onto
  filled_first i e = record { done = []; placed = refl; reached = refl; left = e }

  module _ (room : length all ≤ length out₀) where
    -- the slice keeps its length, and what was written lies within it
    pub filled_within : (out : List ℕ) (at i : ℕ) → Filled rest all out₀ out at i → (length out ≡ length out₀) × (at ≤ length out)
    filled_within out at i f =
        let a = ap length (sym f.left) ∙ length-append f.done (rest i) in
        let r = f.reached in
        let l = ap length f.placed ∙ onto_length f.done out₀ (omega arith) in
        (l, omega arith)

    module _ (out piece : List ℕ) (at i : ℕ) (f : Filled rest all out₀ out at i) (next : rest i ≡ piece ++ rest (i + 1)) where
      next_left : (f.done ++ piece) ++ rest (i + 1) ≡ all
      next_left = append_assoc f.done piece (rest (i + 1)) ∙ ap (λ (l : List ℕ). f.done ++ l) (sym next) ∙ f.left

      -- there is room for the next piece
      pub filled_room : at + length piece ≤ length out
      filled_room =
          let a = ap length (sym next_left) ∙ length-append (f.done ++ piece) (rest (i + 1)) in
          let b = length-append f.done piece in
          let r = f.reached in
          let w = filled_within out at i f in
          let l = w.0 in
          omega arith

      -- also in the part that is lent for it
      pub filled_part : length piece ≤ length (take (length out - at) (drop at out))
      filled_part =
          let m = filled_room in
          let d = length-drop at out in
          let t = length-take (length out - at) (drop at out) in
          omega arith

      pub filled_next : (Y : List ℕ) (k m : ℕ) → m ≡ length piece → k ≡ length out - at → Y ≡ onto piece (take k (drop at out))
          → Filled rest all out₀ (take at out ++ (Y ++ drop k (drop at out))) (at + m) (i + 1)
      filled_next Y k m e g y =
          let w = filled_within out at i f in
          let l = w.0 in
          let b = w.1 in
          let r = f.reached in
          let a = length-append f.done piece in
          record {
            done = f.done ++ piece;
            placed = onto_part f.done piece out₀ out Y at k (sym r) g (omega arith) f.placed y;
            reached = omega arith;
            left = next_left;
          }

  -- where all bytes are written nothing is left
  pub filled_none : (out : List ℕ) (at i : ℕ) → length all ≤ at → Filled rest all out₀ out at i → rest i ≡ []
  filled_none out at i h f =
      let a = ap length (sym f.left) ∙ length-append f.done (rest i) in
      let r = f.reached in
      empty (rest i) (omega arith)
    where
      empty : (l : List ℕ) → length l ≡ 0 → l ≡ []
      empty [] e = refl
      empty (x ∷ l) e = absurd (omega arith)

  module _ (out : List ℕ) (at i : ℕ) (none : rest i ≡ []) (f : Filled rest all out₀ out at i) where
    all_done : f.done ≡ all
    all_done = sym (append-nil f.done) ∙ ap (λ (l : List ℕ). f.done ++ l) (sym none) ∙ f.left

    pub filled_length : at ≡ length all
    filled_length = f.reached ∙ ap length all_done

    pub filled_all : out ≡ onto all out₀
    filled_all = f.placed ∙ ap (λ (l : List ℕ). onto l out₀) all_done
