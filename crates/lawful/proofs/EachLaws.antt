-- Laws of what holds of each member of a list. Assumes nothing.
use Prim.Native.Nat.{ℕ, zero, suc, ◌<◌}
use mathlib.Core.Path.{refl, sym, subst}
use mathlib.Core.List.Memᴰ
use mathlib.Core.List.{List, [], ◌∷◌}
use native.Mathlib.Nat.{not-suc-le-zero, le_of_suc-le-suc}
use lib.ListN.{length, get_or}
use Rattle.le.specs.Fields.{u16_at}
use Rattle.records.specs.Lists.{tabulate}
use Rattle.records.proofs.ListLaws.{tabulate_in}
use Rattle.sheet.specs.Order.{record_at}
use Rattle.sheet.specs.Sheet.{record_in, records_in}
use Rattle.sheet.specs.declared.order.Kind.{Kind}
use Rattle.lawful.specs.Lawful.{Each}

module _ {A : Type 0} (P : A → Type 0) where
  -- of a list by its members' places
  pub each_tabulate : (f : ℕ → A) (n : ℕ) → ((i : ℕ) → i < n → P (f i)) → Each P (tabulate f n)
  each_tabulate f n h x m =
      let r = tabulate_in f n x m in
      subst P (sym r.2) (h r.0 r.1)

  -- of a section's records
  pub each_record : (kind : Kind) (read : List ℕ → ℕ → A) (s : List ℕ) (start : ℕ) → ((i : ℕ) → i < u16_at s start → P (read s (record_at kind s start i))) → Each P (records_in kind read s start)
  unfolding records_in
  each_record kind read s start h = each_tabulate (record_in kind read s start) (u16_at s start) h

  -- what holds of each holds of the i-th
  pub each_at : (l : List A) → Each P l → (i : ℕ) (d : A) → i < length l → P (get_or l i d)
  each_at [] h i d k = absurd (not-suc-le-zero k)
  each_at (x ∷ xs) h zero d k = h x (Memᴰ.head refl)
  each_at (x ∷ xs) h (suc i) d k = each_at xs (λ y m. h y (Memᴰ.tail m)) i d (le_of_suc-le-suc k)
