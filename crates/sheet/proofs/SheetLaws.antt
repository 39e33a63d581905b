-- The elements of a section's list, by place: the i-th is what is read where record i stands. Assumes nothing.
use Prim.Native.Nat.{ℕ, ◌+◌, ◌*◌, ◌<◌}
use mathlib.Core.Path.{◌≡◌, ap, ◌∙◌}
use mathlib.Core.List.{List, Memᴰ}
use lib.ListN.{length, get_or}
use Rattle.le.specs.Fields.{u16_at}
use Rattle.layout.specs.Places.{count_size}
use Rattle.records.proofs.ListLaws.{tabulate_length, tabulate_at, tabulate_in}
use Rattle.sheet.specs.Order.{record_at}
use Rattle.sheet.specs.Sheet.{record_in, records_in}
use Rattle.sheet.specs.declared.order.Kind.{Kind}
use Rattle.sheet.proofs.PlaceLaws.{Fixed, fixed_place}

module _ {ℓ} {A : Type ℓ} (kind : Kind) (read : List ℕ → ℕ → A) (s : List ℕ) (start : ℕ) where
  pub records_length : length (records_in kind read s start) ≡ u16_at s start
  unfolding records_in
  records_length = tabulate_length (record_in kind read s start) (u16_at s start)

  pub record_at_law : (i : ℕ) (d : A) → i < u16_at s start → get_or (records_in kind read s start) i d ≡ read s (record_at kind s start i)
  unfolding records_in
  record_at_law i d h = tabulate_at (record_in kind read s start) (u16_at s start) i d h

  -- of records that are w bytes long
  pub fixed_record_at : (w : ℕ) → Fixed kind w → (i : ℕ) (d : A) → i < u16_at s start → get_or (records_in kind read s start) i d ≡ read s (start + count_size + w * i)
  fixed_record_at w f i d h = record_at_law i d h ∙ ap (read s) (fixed_place kind w f s start i)

  -- and there are no others
  pub record_in_law : (x : A) → Memᴰ x (records_in kind read s start) → (i : ℕ) × (i < u16_at s start) × (x ≡ read s (record_at kind s start i))
  unfolding records_in
  record_in_law x m = tabulate_in (record_in kind read s start) (u16_at s start) x m
