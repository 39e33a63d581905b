-- What the laws of records by their fields say. Definitions only.
use Rattle.std.specs.Prelude.{◌<◌, ◌≡◌, List, T, length, Float}
use Rattle.std.specs.Float.{binary64}
use Rattle.std.specs.Float.Ieee.{to_bits, fits}
use Rattle.float.specs.Order.{nonneg}
use Rattle.layout.specs.Fields.{Order, before, same, after, Field, size_of, fields_refusal, bytes_of, order_of}

-- ---- orders

-- the same two the other way round
abbrev pub reverse : Order → Order
reverse before = after
reverse same = same
reverse after = before

-- an order of what is lawful: for two exactly one of before, same and after holds, the other way round it is reversed, and it is transitive
pub record Ordered {A : Type 0} (L : A → Type 0) (o : A → A → Order) : Type 0 where
  pub converse : (x y : A) → L x → L y → o y x ≡ reverse (o x y)
  pub transitive : (x y z : A) → L x → L y → L z → o x y ≡ before → o y z ≡ before → o x z ≡ before
  pub congruent : (x y z : A) → L x → L y → L z → o x y ≡ same → o x z ≡ o y z

-- ---- fields

-- as many bytes as its width
abbrev pub Sized : {C A : Type 0} → Field C A → Type 0
Sized {A = A} f = (x : A) → length (f.bytes x) ≡ f.width

pub record LawfulField {C A : Type 0} (L : A → Type 0) (f : Field C A) : Type 0 where
  pub sized : Sized f
  pub ordered : Ordered L f.order
  pub alike : (x y : A) → L x → L y → f.order x y ≡ same → f.bytes x ≡ f.bytes y
  pub equal : (x y : A) → L x → L y → f.bytes x ≡ f.bytes y → f.order x y ≡ same

-- the record as one field
abbrev pub as_field : {C A : Type 0} → List (Field C A) → Field C A
as_field fs = record { width = size_of fs; refusal = fields_refusal fs; bytes = bytes_of fs; order = order_of fs }

-- ---- floats

-- held, not below zero and finite
pub record Figure (x : Float) : Type 0 where
  pub held : T (fits binary64 x)
  pub low : T (nonneg x)
  pub bits : to_bits binary64 x < 0x7ff0_0000_0000_0000
