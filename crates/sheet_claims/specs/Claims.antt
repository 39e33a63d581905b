-- What a command of the list claims of a sheet, in terms of `check` of the crate `sheet`. Definitions only.
use Rattle.std.specs.Prelude.{ℕ, zero, suc, ◌+◌, ◌*◌, Bool, true, false, not, cond, ◌&&◌, List, [], ◌∷◌, eqb, leb, length, take, Option, Some, None}
use Rattle.float.specs.Integers.{bit}
use Rattle.le.specs.Fields.{byte_at, u16_at, u32_at}
use Rattle.rules.specs.Rules.{refusal_number}
use Rattle.rules.specs.declared.Refusal.{Refusal}
use Rattle.rules.specs.declared.Refusal.TheVariants.{Length, Truncated, Count, Figure, Scalar, Code, Order, Reference, OperandRun, Trailing}
use Rattle.sheet.specs.Check.{Checked, Refused as SheetRefused, Accepted, check}
use Rattle.sheet.specs.declared.Sections.{Sections}
use Rattle.layout.specs.Places.{number_size}
use Rattle.sheet_claims.specs.Commands.{number_offset, length_offset}
use Rattle.sheet_claims.specs.Stores.{store_fits}
use Rattle.sheet_claims.specs.declared.Line.{Line}
use Rattle.sheet_claims.specs.declared.Line.TheVariants.{Unknown, Refused, Prefixes, Stores}
use Rattle.sheet_claims.specs.declared.Verdict.{Verdict}

-- ---- one sheet

abbrev pub refused_by : Checked → ℕ → Bool
refused_by (SheetRefused n) number = eqb n number
refused_by (Accepted q) number = false

unfoldable pub is_refused : List ℕ → ℕ → Bool
is_refused s number = refused_by (check s) number

-- the places of the sections, in their order
unfoldable pub places_of : Sections → List ℕ
places_of q =
    q.rows ∷ q.settings ∷ q.sketches ∷ q.tables ∷ q.keys ∷ q.left_columns ∷ q.right_columns
    ∷ q.left_classes ∷ q.right_classes ∷ q.expressions ∷ q.operands ∷ q.conjuncts ∷ []

-- the numbers are those that a has from a place on
unfoldable pub same_places : List ℕ → List ℕ → ℕ → Bool
same_places [] a at = true
same_places (p ∷ ps) a at = cond (eqb p (u16_at a at)) (same_places ps a (at + number_size)) false

-- the bytes are the sections' places, and nothing else
abbrev pub accepted_as : Checked → List ℕ → Bool
accepted_as (SheetRefused n) expected = false
accepted_as (Accepted q) expected = eqb (length expected) (number_size * length (places_of q)) && same_places (places_of q) expected 0

unfoldable pub is_accepted : List ℕ → List ℕ → Bool
unfolding places_of
is_accepted s expected = accepted_as (check s) expected

-- how many of the prefixes of 0 .. n - 1 bytes are not refused with the number
unfoldable pub differing_below : List ℕ → ℕ → ℕ → ℕ
differing_below s number zero = 0
differing_below s number (suc n) = bit (not (is_refused (take n s) number)) + differing_below s number n

-- ---- a command: the line that counts it, its cases, and how many of them differ

unfoldable pub unknown : Verdict
unknown = record { line = Unknown; cases = 1; differ = 1 }

unfoldable pub one_case : Line → Bool → Verdict
one_case line agrees = record { line = line; cases = 1; differ = bit (not agrees) }

unfoldable pub judge_store : List ℕ → List ℕ → Verdict
judge_store s c = cond (store_fits s c) (one_case Stores true) unknown

-- the refusals of a sheet by their numbers: the last two are of a call
abbrev pub refusal_of : ℕ → Option Refusal
refusal_of number =
    cond (eqb number 1) (Some Length)
    (cond (eqb number 2) (Some Truncated)
    (cond (eqb number 3) (Some Count)
    (cond (eqb number 4) (Some Figure)
    (cond (eqb number 5) (Some Scalar)
    (cond (eqb number 6) (Some Code)
    (cond (eqb number 7) (Some Order)
    (cond (eqb number 8) (Some Reference)
    (cond (eqb number 9) (Some OperandRun)
    (cond (eqb number 10) (Some Trailing) None)))))))))

abbrev pub judge_refusal : List ℕ → Option Refusal → Verdict
judge_refusal s (Some refusal) = one_case (Refused refusal) (is_refused s (refusal_number refusal))
judge_refusal s None = unknown

unfoldable pub judge_refused : List ℕ → List ℕ → Verdict
judge_refused s c =
    cond (leb (u32_at c length_offset) (length s))
    (judge_refusal (take (u32_at c length_offset) s) (refusal_of (byte_at c number_offset)))
    unknown

-- the sheet's prefixes are prefixes of s
unfoldable pub judge_prefixes : List ℕ → List ℕ → Verdict
judge_prefixes s c =
    cond (leb (u32_at c length_offset) (length s))
    (record { line = Prefixes; cases = u32_at c length_offset; differ = differing_below s (byte_at c number_offset) (u32_at c length_offset) })
    unknown
