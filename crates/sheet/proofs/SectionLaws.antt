-- The rules of a section lean on the sketches only where it holds columns, and on the expressions only where it holds operands or conjuncts. So the starts that are noted when a section is reached are all that it needs. Assumes nothing.
use Prim.Native.Nat.{ℕ, zero, suc, ◌+◌, ◌<◌}
use mathlib.Core.Path.{◌≡◌, refl, sym}
use mathlib.Core.Bool.{cond}
use mathlib.Core.List.{List}
use native.Mathlib.Omega.{arith}
use lib.ListN.{get_or}
use borrow.Author.Count.{below_more}
use Rattle.le.specs.Fields.{u16_at}
use Rattle.rules.specs.Rules.{first_refusal}
use Rattle.rules.proofs.RuleLaws.{else_broken, else_kept, first_alike}
use Rattle.expression_rules.specs.Operands.{fill_refusal}
use Rattle.sheet.specs.Table.{section_of}
use Rattle.sheet.specs.Order.{kind_at, rows_number, settings_number, sketches_number, tables_number, keys_number, left_columns_number, right_columns_number, left_classes_number, right_classes_number, expressions_number, operands_number, conjuncts_number, section_count, record_at, section_at}
use Rattle.sheet.specs.Rules.{count_refusal, record_refusal, records_refusal, section_refusal}
use Rattle.sheet.specs.Check.{refusal_in}
use Rattle.sheet.specs.declared.order.Kind.{Kind}
use Rattle.sheet.proofs.PlaceLaws.{starts_before}

section_alike : (kind : Kind) (s : List ℕ) (a b x y start : ℕ)
    → ((n : ℕ) → cond (section_of kind).filled (fill_refusal s x n) 0 ≡ cond (section_of kind).filled (fill_refusal s y n) 0)
    → ((i at : ℕ) → record_refusal kind s a x start i at ≡ record_refusal kind s b y start i at)
    → section_refusal kind s a x start ≡ section_refusal kind s b y start
unfolding section_refusal count_refusal
section_alike kind s a b x y start f r =
    rw (f (u16_at s start), first_alike (records_refusal kind s a x start) (records_refusal kind s b y start) (λ i. r i (record_at kind s start i)) 0 (u16_at s start)) refl

-- each number below n, the last first
abbrev AllBelow : (ℕ → Type 0) → ℕ → Type 0
AllBelow P zero = Unit {0}
AllBelow P (suc n) = P n × AllBelow P n

all_below : (P : ℕ → Type 0) (n : ℕ) → AllBelow P n → (k : ℕ) → k < n → P k
all_below P zero all k l = absurd (none k l)
  where
    none : (k : ℕ) → k < 0 → ⊥
    none k l = omega arith
all_below P (suc n) all k l = below_more P n (all_below P n all.1) all.0 k (more l)
  where
    more : k < suc n → k < n + 1
    more l = omega arith

-- section k by the starts noted up to its own
abbrev pub Noted : List ℕ → ℕ → Type 0
Noted s k = section_refusal (kind_at k) s (get_or (starts_before s (suc k)) sketches_number 0) (get_or (starts_before s (suc k)) expressions_number 0) (section_at s k) ≡ refusal_in s k

noted_by : (s : List ℕ) (k : ℕ)
    → ((n : ℕ) → cond (section_of (kind_at k)).filled (fill_refusal s (get_or (starts_before s (suc k)) expressions_number 0) n) 0 ≡ cond (section_of (kind_at k)).filled (fill_refusal s (section_at s expressions_number) n) 0)
    → ((i at : ℕ) → record_refusal (kind_at k) s (get_or (starts_before s (suc k)) sketches_number 0) (get_or (starts_before s (suc k)) expressions_number 0) (section_at s k) i at ≡ record_refusal (kind_at k) s (section_at s sketches_number) (section_at s expressions_number) (section_at s k) i at)
    → Noted s k
unfolding refusal_in
noted_by s k f r = section_alike (kind_at k) s (get_or (starts_before s (suc k)) sketches_number 0) (section_at s sketches_number) (get_or (starts_before s (suc k)) expressions_number 0) (section_at s expressions_number) (section_at s k) f r

pub noted : (s : List ℕ) (k : ℕ) → k < section_count → Noted s k
unfolding starts_before record_refusal
noted s =
    all_below (Noted s) section_count (
      noted_by s conjuncts_number (λ n. refl) (λ i at. refl),
      (
        noted_by s operands_number (λ n. refl) (λ i at. refl),
        (
          noted_by s expressions_number (λ n. refl) (λ i at. refl),
          (
            noted_by s right_classes_number (λ n. refl) (λ i at. refl),
            (
              noted_by s left_classes_number (λ n. refl) (λ i at. refl),
              (
                noted_by s right_columns_number (λ n. refl) (λ i at. refl),
                (
                  noted_by s left_columns_number (λ n. refl) (λ i at. refl),
                  (
                    noted_by s keys_number (λ n. refl) (λ i at. refl),
                    (
                      noted_by s tables_number (λ n. refl) (λ i at. refl),
                      (
                        noted_by s sketches_number (λ n. refl) (λ i at. refl),
                        (
                          noted_by s settings_number (λ n. refl) (λ i at. refl),
                          (noted_by s rows_number (λ n. refl) (λ i at. refl), tt),
                        ),
                      ),
                    ),
                  ),
                ),
              ),
            ),
          ),
        ),
      ),
    )

-- ---- the count first, then the records

pub section_broken : (kind : Kind) (s : List ℕ) (a x start : ℕ) → (count_refusal kind s x start ≡ 0 → ⊥) → count_refusal kind s x start ≡ section_refusal kind s a x start
unfolding section_refusal
section_broken kind s a x start h = sym (else_broken (count_refusal kind s x start) (first_refusal (records_refusal kind s a x start) 0 (u16_at s start)) h)

pub section_kept : (kind : Kind) (s : List ℕ) (a x start : ℕ) → count_refusal kind s x start ≡ 0 → first_refusal (records_refusal kind s a x start) 0 (u16_at s start) ≡ section_refusal kind s a x start
unfolding section_refusal
section_kept kind s a x start e = sym (else_kept (count_refusal kind s x start) (first_refusal (records_refusal kind s a x start) 0 (u16_at s start)) e)
