-- Whether a list of bytes is a sheet (document 01, "Where a sheet is turned back"). Definitions only.
use Rattle.std.specs.Prelude.{ℕ, zero, suc, List, leb, eqb, length, Result, Ok, Err}
use Rattle.layout.specs.Places.{sheet_limit}
use Rattle.rules.specs.Rules.{ask, or_else, first_refusal, refusal_number}
use Rattle.rules.specs.declared.Refusal.{Refusal}
use Rattle.sheet.specs.Order.{kind_at, section_count, sketches_number, expressions_number, section_at, sections_in}
use Rattle.sheet.specs.Rules.{section_refusal}
use Rattle.sheet.specs.declared.Sections.{Sections}

-- a refusal's number, or where the sections stand
pub data Checked : Type 0 where
  Refused : ℕ → Checked
  Accepted : Sections → Checked

-- what `check` answers
abbrev pub checked_of : Result Sections Refusal → Checked
checked_of (Ok sections) = Accepted sections
checked_of (Err refusal) = Refused (refusal_number refusal)

-- section k
unfoldable pub refusal_in : List ℕ → ℕ → ℕ
unfolding section_refusal section_at
refusal_in s k = section_refusal (kind_at k) s (section_at s sketches_number) (section_at s expressions_number) (section_at s k)

-- the sheet's length, its sections, its end
unfoldable pub sheet_refusal : List ℕ → ℕ
unfolding refusal_in first_refusal section_at
sheet_refusal s =
    or_else (ask (leb (length s) sheet_limit) 1)
    (or_else (first_refusal (refusal_in s) 0 section_count)
    (ask (eqb (section_at s section_count) (length s)) 10))

-- 0 is no refusal
abbrev pub verdict : ℕ → Sections → Checked
verdict zero sections = Accepted sections
verdict (suc n) sections = Refused (suc n)

unfoldable pub check : List ℕ → Checked
unfolding sheet_refusal sections_in
check s = verdict (sheet_refusal s) (sections_in s)
