-- A loop that writes the selected numbers one after the other, two bytes each: a case of `Filled`. Assumes nothing.
use Prim.Native.Nat.{ℕ, ◌+◌, ◌-◌, ◌*◌, ◌≤◌, ◌<◌}
use mathlib.Core.Path.{◌≡◌, refl, sym, ap, ◌∙◌}
use mathlib.Core.Bool.{Bool, true, false, cond}
use mathlib.Core.List.{List, [], ◌∷◌, ◌++◌}
use native.Mathlib.Omega.{arith}
use lib.ListN.{length, take, drop}
use Rattle.le.specs.Fields.{onto}
use Rattle.number_bytes.specs.Numbers.{numbers_bytes}
use Rattle.number_bytes.proofs.NumberLaws.{numbers_length, numbers_append}
use Rattle.number_bytes.proofs.FilledLaws.{Filled, filled_first, filled_within, filled_part, filled_next, filled_none, filled_length, filled_all}
use Rattle.selection.specs.Selected.{selected}
use Rattle.selection.proofs.SelectedLaws.{one_selected, selected_step, selected_end}

-- the bytes of those below n from i on
unfoldable pub bytes_from : (ℕ → Bool) → ℕ → ℕ → List ℕ
unfolding selected numbers_bytes
bytes_from test n i = numbers_bytes (selected test i (n - i))

-- what a loop over the numbers below n, that stands at the number i, has written into a slice that held out₀
abbrev pub Written : (ℕ → Bool) → ℕ → List ℕ → List ℕ → ℕ → ℕ → Type 0
Written test n out₀ out at i = Filled (bytes_from test n) (bytes_from test n 0) out₀ out at i

module _ (test : ℕ → Bool) (n : ℕ) (out₀ : List ℕ) where
  abbrev whole : List ℕ
  whole = selected test 0 n

  all : bytes_from test n 0 ≡ numbers_bytes whole
  unfolding bytes_from
  all = ap (λ (m : ℕ). numbers_bytes (selected test 0 m)) (less_none n)
    where
      less_none : (n : ℕ) → n - 0 ≡ n
      less_none n = omega arith

  all_length : length (bytes_from test n 0) ≡ 2 * length whole
  all_length = ap length all ∙ numbers_length whole

  room : 2 * length whole ≤ length out₀ → length (bytes_from test n 0) ≤ length out₀
  room r = let l = all_length in omega arith

  pub written_first : Written test n out₀ out₀ 0 0
  written_first = filled_first (bytes_from test n) (bytes_from test n 0) out₀ 0 refl

  -- the slice keeps its length, and what was written lies within it
  pub written_within : (out : List ℕ) (at i : ℕ) → 2 * length whole ≤ length out₀ → Written test n out₀ out at i → (length out ≡ length out₀) × (at ≤ length out)
  written_within out at i r w = filled_within (bytes_from test n) (bytes_from test n 0) out₀ (room r) out at i w

  module _ (out : List ℕ) (at i : ℕ) (h : i < n) (w : Written test n out₀ out at i) where
    next : (b : Bool) → test i ≡ b → bytes_from test n i ≡ numbers_bytes (cond b (i ∷ []) []) ++ bytes_from test n (i + 1)
    unfolding bytes_from
    next b e =
        ap numbers_bytes (selected_step test i n h)
        ∙ numbers_append (one_selected test i) (selected test (i + 1) (n - (i + 1)))
        ∙ ap (λ (b : Bool). numbers_bytes (cond b (i ∷ []) []) ++ bytes_from test n (i + 1)) e

    -- the i-th does not pass
    pub written_passed : test i ≡ false → Written test n out₀ out at (i + 1)
    unfolding numbers_bytes
    written_passed e = record { done = w.done; placed = w.placed; reached = w.reached; left = ap (λ (l : List ℕ). w.done ++ l) (sym (next false e)) ∙ w.left }

    -- it passes: there is room for it in the part that is lent for it, and it is written
    module _ (e : test i ≡ true) (r : 2 * length whole ≤ length out₀) where
      pub written_part : 2 ≤ length (take (length out - at) (drop at out))
      written_part =
          let m = filled_part (bytes_from test n) (bytes_from test n 0) out₀ (room r) out (numbers_bytes (i ∷ [])) at i w (next true e) in
          let l = numbers_length (i ∷ []) in
          omega arith

      pub written_next : (Y : List ℕ) (k m : ℕ) → m ≡ 2 → k ≡ length out - at → Y ≡ onto (numbers_bytes (i ∷ [])) (take k (drop at out))
          → Written test n out₀ (take at out ++ (Y ++ drop k (drop at out))) (at + m) (i + 1)
      written_next Y k m f g y = filled_next (bytes_from test n) (bytes_from test n 0) out₀ (room r) out (numbers_bytes (i ∷ [])) at i w (next true e) Y k m (f ∙ sym (numbers_length (i ∷ []))) g y

  -- nothing is left where all are written, and behind the last number
  pub none_left : (out : List ℕ) (at i : ℕ) → 2 * length whole ≤ at → Written test n out₀ out at i → bytes_from test n i ≡ []
  none_left out at i h w = let l = all_length in filled_none (bytes_from test n) (bytes_from test n 0) out₀ out at i (omega arith) w

  pub none_behind : (i : ℕ) → n ≤ i → bytes_from test n i ≡ []
  unfolding bytes_from
  none_behind i h = ap numbers_bytes (selected_end test i n h)

  module _ (out : List ℕ) (at i : ℕ) (none : bytes_from test n i ≡ []) (w : Written test n out₀ out at i) where
    pub written_length : at ≡ 2 * length whole
    written_length = filled_length (bytes_from test n) (bytes_from test n 0) out₀ out at i none w ∙ all_length

    pub written_all : out ≡ onto (numbers_bytes whole) out₀
    written_all = filled_all (bytes_from test n) (bytes_from test n 0) out₀ out at i none w ∙ ap (λ (l : List ℕ). onto l out₀) all
