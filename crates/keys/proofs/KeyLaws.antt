-- What the scans of a sheet's tables and keys find. Assumes nothing.
use Rattle.std.proofs.Common.{◌≡◌, ℕ, zero, suc, ◌+◌, ◌*◌, Bool, ◌||◌, List, None, sym, refl, ap, ◌∙◌, Option, Some, is_some}
use Rattle.std.specs.List.{list_any, range_with_len}
use Rattle.le.specs.Fields.{u16_at}
use Rattle.layout.specs.Places.{count_size, table_size, key_size}
use Rattle.records.specs.Lists.{tabulate_from}
use Rattle.records.specs.Catalog.{table_at, key_at}
use Rattle.records.specs.declared.catalog.Key.{Key}
use Rattle.sheet.specs.Sheet.{record_in, records_in, sheet_of}
use Rattle.sheet.specs.declared.Sections.{Sections}
use Rattle.sheet.specs.declared.order.Kind.TheVariants.{Tables, Keys}
use Rattle.sheet.proofs.PlaceLaws.{tables_fixed, keys_fixed, fixed_place}
use Rattle.scan.specs.Scan.{first_place}
use Rattle.scan.proofs.ScanLaws.{numbered_is, present_is, absent_is}
use Rattle.keys.specs.Keys.{table_of, rows_of, is_listed, row_count, same_key, has_key}

-- ---- the first table with a number

module _ (s : List ℕ) (q : Sections) (table : ℕ) where
  front : (s : List ℕ) (at : ℕ) → (table_at s at).table ≡ u16_at s at
  unfolding table_at
  front s at = refl

  pub listed_is : (place : Option ℕ) → place ≡ first_place s q.tables table_size table → is_some place ≡ is_listed table (sheet_of s q).tables
  unfolding sheet_of
  listed_is place is = numbered_is Tables table_at table_size tables_fixed table_of front s q.tables table place is

  pub count_found : (at : ℕ) → Some at ≡ first_place s q.tables table_size table → (table_at s at).rows ≡ row_count table (sheet_of s q).tables
  unfolding sheet_of
  count_found at is = present_is Tables table_at table_size tables_fixed table_of front None rows_of s q.tables table at is

  pub count_none : None ≡ first_place s q.tables table_size table → None ≡ row_count table (sheet_of s q).tables
  unfolding sheet_of
  count_none is = absent_is Tables table_at table_size tables_fixed table_of front None rows_of s q.tables table is

-- ---- whether some key is the one that is asked for

any_tabulated : {A : Type 0} (test : A → Bool) (f : ℕ → A) (i n : ℕ) → list_any test (tabulate_from f i n) ≡ list_any (λ k. test (f k)) (range_with_len i n)
unfolding tabulate_from
any_tabulated test f i zero = refl
any_tabulated test f i (suc n) = ap (λ b. test (f i) || b) (any_tabulated test f (i + 1) n)

pub key_among : (s : List ℕ) (q : Sections) (key : Key) → list_any (λ i. same_key (key_at s (q.keys + count_size + key_size * i)) key) (range_with_len 0 (u16_at s q.keys)) ≡ has_key key (sheet_of s q).keys
unfolding has_key records_in sheet_of
key_among s q key =
    ap (λ (place : ℕ → ℕ). list_any (λ i. same_key (key_at s (place i)) key) (range_with_len 0 (u16_at s q.keys))) (λ k i. sym (fixed_place Keys key_size keys_fixed s q.keys i) k)
    ∙ sym (any_tabulated (λ k. same_key k key) (record_in Keys key_at s q.keys) 0 (u16_at s q.keys))
