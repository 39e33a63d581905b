-- The places of a side's columns, noted from the last profile to the first. Assumes nothing.
use Prim.Native.Nat.{ℕ, suc, ◌+◌, ◌-◌, ◌*◌, ◌≤◌, ◌<◌}
use mathlib.Core.Path.{◌≡◌, refl, sym, ap, ◌∙◌, subst}
use mathlib.Core.Bool.{Bool, true, false, cond}
use mathlib.Core.List.{List}
use native.Mathlib.Omega.{arith}
use borrow.Author.Tests.{eqb-true, eqb-false}
use lib.Dec.{eqb}
use Rattle.std.specs.Prelude.{Option, None, Some}
use lib.ListN.{length, get_or, set, replicate, get_or-replicate}
use lib.Seq.{get_or-set_same, get_or-set_other, set_out, ext_get_or}
use Rattle.le.specs.Fields.{u16_at}
use Rattle.layout.specs.Places.{column_limit, count_size, column_size}
use Rattle.records.proofs.ListLaws.{tabulate_length, tabulate_at}
use Rattle.scan.specs.Scan.{place_from}
use Rattle.lookup.specs.Lookup.{column_place, column_places}

module _ (s : List ℕ) (start : ℕ) where
  -- where profile i stands
  abbrev here : ℕ → ℕ
  here i = start + count_size + column_size * i

  -- those of the profiles from the i-th of n on
  abbrev pub Noted : List (Option ℕ) → ℕ → ℕ → Type 0
  Noted places n i = (column : ℕ) → column < column_limit → get_or places column None ≡ place_from s column_size column (here i) (n - i)

  pub noted_first : (n i : ℕ) → i ≡ n → Noted (replicate column_limit None) n i
  unfolding place_from
  noted_first n i e column h = get_or-replicate {A = Option ℕ} column_limit column None None h ∙ ap (place_from s column_size column (here i)) (none n i e)
    where
      none : (n i : ℕ) → i ≡ n → 0 ≡ n - i
      none n i e = omega arith

  pub noted_next : (places : List (Option ℕ)) (n i column : ℕ) → length places ≡ column_limit → 1 ≤ i → i ≤ n → column ≡ u16_at s (here (i - 1)) → Noted places n i → Noted (set places column (Some (here (i - 1)))) n (i - 1)
  unfolding place_from
  noted_next places n i column l h k is noted c b =
      let at = here (i - 1) in
      go (eqb column c) (eqb-true column c) (eqb-false column c)
      ∙ ap (λ (m : ℕ). cond (eqb m c) (Some at) (place_from s column_size c (at + column_size) (n - i))) is
      ∙ ap (place_from s column_size c at) (more n i h k)
    where
      more : (n i : ℕ) → 1 ≤ i → i ≤ n → suc (n - i) ≡ n - (i - 1)
      more n i h k = omega arith

      back : (a i : ℕ) → 1 ≤ i → a + column_size * i ≡ a + column_size * (i - 1) + column_size
      back a i h = omega arith

      go : (t : Bool) → (t ≡ true → column ≡ c) → (t ≡ false → column ≡ c → ⊥) → get_or (set places column (Some (here (i - 1)))) c None ≡ cond t (Some (here (i - 1))) (place_from s column_size c (here (i - 1) + column_size) (n - i))
      go true e f =
          let same = e refl in
          let room : c < length places = omega arith in
          ap (λ (m : ℕ). get_or (set places m (Some (here (i - 1)))) c None) same ∙ get_or-set_same places c (Some (here (i - 1))) None room
      go false e f =
          get_or-set_other places column c (Some (here (i - 1))) None (λ (z : c ≡ column). f refl (sym z)) ∙ noted c b ∙ ap (λ (at : ℕ). place_from s column_size c at (n - i)) (back (start + count_size) i h)

  -- a column past the end is not noted
  pub noted_past : (places : List (Option ℕ)) (n i column : ℕ) → length places ≡ column_limit → 1 ≤ i → i ≤ n → column ≡ u16_at s (here (i - 1)) → length places ≤ column → Noted places n i → Noted places n (i - 1)
  noted_past places n i column l h k is past noted = subst (λ (p : List (Option ℕ)). Noted p n (i - 1)) (set_out places column (Some (here (i - 1))) past) (noted_next places n i column l h k is noted)

  pub noted_all : (places : List (Option ℕ)) (i : ℕ) → length places ≡ column_limit → i ≤ 0 → Noted places (u16_at s start) i → places ≡ column_places s start
  noted_all places i l h noted = ext_get_or None places (column_places s start) (l ∙ sym (tabulate_length (column_place s start) column_limit)) (λ (k : ℕ) (b : k < length places). each k (subst (λ (m : ℕ). k < m) l b))
    where
      at_start : (a i : ℕ) → i ≤ 0 → a + column_size * i ≡ a
      at_start a i h = omega arith

      rest : (n i : ℕ) → i ≤ 0 → n - i ≡ n
      rest n i h = omega arith

      each : (k : ℕ) → k < column_limit → get_or places k None ≡ get_or (column_places s start) k None
      each k b = noted k b ∙ (λ j. place_from s column_size k (at_start (start + count_size) i h j) (rest (u16_at s start) i h j)) ∙ sym (tabulate_at (column_place s start) column_limit k None b)

  pub noted_at : (places : List (Option ℕ)) (column : ℕ) → places ≡ column_places s start → column < length places → get_or places column None ≡ column_place s start column
  noted_at places column is h = ap (λ (l : List (Option ℕ)). get_or l column None) is ∙ tabulate_at (column_place s start) column_limit column None (subst (λ (m : ℕ). column < m) (ap length is ∙ tabulate_length (column_place s start) column_limit) h)
