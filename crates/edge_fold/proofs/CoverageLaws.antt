-- The bytes of coverages. Assumes nothing.
use Prim.Native.Nat.{ℕ, suc, ◌+◌, ◌-◌, ◌*◌, ◌≤◌}
use mathlib.Core.Path.{◌≡◌, refl, sym, ap, ◌∙◌}
use mathlib.Core.List.{List, [], ◌∷◌, ◌++◌, append-nil, append_assoc}
use native.Mathlib.Omega.{arith}
use native.Mathlib.Nat.{add_comm}
use lib.ListN.{length, take, drop, length-append, length-drop, drop_of_length-le}
use lib.Seq.{take_at, drop_at, take_all, drop-drop}
use Rattle.float.specs.Integers.{bit}
use Rattle.le.specs.Fields.{field_bytes, u16_bytes, onto}
use Rattle.le.specs.Floats.{f64_bytes}
use Rattle.layout.specs.Places.{coverage_ordinary_offset, coverage_size}
use Rattle.layout.specs.Fields.{size_of}
use Rattle.layout.specs.Lawful.{Sized}
use Rattle.layout.proofs.LayoutLaws.{◌and◌, EachField, record_sized}
use Rattle.edge.specs.declared.LeftEqualityCoverage.{LeftEqualityCoverage}
use Rattle.edge_fold.specs.Coverages.{coverage_fields, coverage_figures, coverage_bytes, coverages_bytes, Appended}

-- what stands before the last byte
pub front_length : (c : LeftEqualityCoverage) → length (u16_bytes c.column ++ coverage_figures c) ≡ coverage_ordinary_offset
unfolding coverage_figures field_bytes
front_length c = refl

-- the size that the code goes by is that of the fields
pub coverage_size_law : size_of coverage_fields ≡ coverage_size
coverage_size_law = refl

coverage_sized : EachField Sized coverage_fields
unfolding field_bytes
coverage_sized = (λ c. refl) and (λ c. refl) and (λ c. refl) and tt

pub coverage_length : (c : LeftEqualityCoverage) → length (coverage_bytes c) ≡ coverage_size
unfolding coverage_bytes
coverage_length c = record_sized coverage_fields coverage_sized c

-- the fields one after the other, as the two functions put them
pub figures_joined : (c : LeftEqualityCoverage)
    → (((f64_bytes c.input_distinct ++ f64_bytes c.input_non_null_fraction) ++ f64_bytes c.intersection_distinct) ++ f64_bytes c.non_null_match_probability) ++ f64_bytes c.null_match_probability ≡ coverage_figures c
unfolding coverage_figures field_bytes
figures_joined c = refl

pub coverage_joined : (c : LeftEqualityCoverage) (ordinary : ℕ) → ordinary ≡ bit c.ordinary_non_null → (u16_bytes c.column ++ coverage_figures c) ++ (ordinary ∷ []) ≡ coverage_bytes c
unfolding coverage_bytes coverage_figures field_bytes
coverage_joined c ordinary e = λ i. (u16_bytes c.column ++ coverage_figures c) ++ (e i ∷ [])

pub coverages_length : (cs : List LeftEqualityCoverage) → length (coverages_bytes cs) ≡ coverage_size * length cs
unfolding coverages_bytes
coverages_length [] = refl
coverages_length (c ∷ cs) =
    let a = length-append (coverage_bytes c) (coverages_bytes cs) in
    let one = coverage_length c in
    let rest = coverages_length cs in
    plus (length (coverage_bytes c ++ coverages_bytes cs)) (length (coverage_bytes c)) (length (coverages_bytes cs)) (length cs) a one rest
  where
    plus : (whole a b n : ℕ) → whole ≡ a + b → a ≡ coverage_size → b ≡ coverage_size * n → whole ≡ coverage_size * suc n
    plus whole a b n e f g = omega arith

pub coverages_append : (a b : List LeftEqualityCoverage) → coverages_bytes (a ++ b) ≡ coverages_bytes a ++ coverages_bytes b
unfolding coverages_bytes
coverages_append [] b = refl
coverages_append (c ∷ cs) b = ap (λ (l : List ℕ). coverage_bytes c ++ l) (coverages_append cs b) ∙ sym (append_assoc (coverage_bytes c) (coverages_bytes cs) (coverages_bytes b))

-- ---- coverages behind others

-- none, or one alone
pub none_put : (out : List ℕ) → out ≡ onto (coverages_bytes []) out
unfolding onto coverages_bytes
none_put out = refl

pub one_put : (c : LeftEqualityCoverage) (out after : List ℕ) → after ≡ onto (coverage_bytes c) out → after ≡ onto (coverages_bytes (c ∷ [])) out
unfolding coverages_bytes
one_put c out after e = e ∙ ap (λ (bs : List ℕ). onto bs out) (sym (append-nil (coverage_bytes c)))

-- the part behind n coverages was lent and came back as Y
pub appended_part : (n : ℕ) (out : List ℕ) (cs : List LeftEqualityCoverage) (k at : ℕ) (Y : List ℕ) → at ≡ coverage_size * n → k ≡ length out - at → Y ≡ onto (coverages_bytes cs) (take k (drop at out)) → Appended n cs out (take at out ++ (Y ++ drop k (drop at out)))
unfolding onto
appended_part n out cs k at Y f g y =
    let l = length-drop at out in
    let room : length (drop at out) ≤ k = omega arith in
    let whole : take k (drop at out) ≡ drop at out = take_all k (drop at out) room in
    let none : drop k (drop at out) ≡ [] = drop_of_length-le (drop at out) room in
    let back : Y ++ drop k (drop at out) ≡ onto (coverages_bytes cs) (drop at out)
    = ap (λ (l : List ℕ). Y ++ l) none ∙ append-nil Y ∙ y ∙ ap (onto (coverages_bytes cs)) whole in
    ap (λ (l : List ℕ). take at out ++ l) back ∙ ap (λ (i : ℕ). take i out ++ onto (coverages_bytes cs) (drop i out)) f

-- behind those that stand at the front
pub appended_onto : (done cs : List LeftEqualityCoverage) (out₀ out after : List ℕ) (n m : ℕ) → out ≡ onto (coverages_bytes done) out₀ → n ≡ length done → m ≡ n + length cs → Appended n cs out after → (after ≡ onto (coverages_bytes (done ++ cs)) out₀) × (m ≡ length (done ++ cs))
unfolding onto
appended_onto done cs out₀ out after n m e f g a =
    let bs = coverages_bytes done in
    let size : length bs ≡ coverage_size * n = coverages_length done ∙ ap (λ (k : ℕ). coverage_size * k) (sym f) in
    let front : take (coverage_size * n) out ≡ bs = ap (take (coverage_size * n)) e ∙ take_at bs (drop (length bs) out₀) (coverage_size * n) size in
    let rest : drop (coverage_size * n) out ≡ drop (length bs) out₀ = ap (drop (coverage_size * n)) e ∙ drop_at bs (drop (length bs) out₀) (coverage_size * n) size in
    let next = coverages_bytes cs in
    let sum : length next + length bs ≡ length (bs ++ next) = add_comm (length next) (length bs) ∙ sym (length-append bs next) in (
      a
          ∙ ap (λ (l : List ℕ). l ++ onto next (drop (coverage_size * n) out)) front
          ∙ ap (λ (l : List ℕ). bs ++ onto next l) rest
          ∙ ap (λ (l : List ℕ). bs ++ (next ++ l)) (drop-drop (length next) (length bs) out₀ ∙ ap (λ (k : ℕ). drop k out₀) (add_comm (length bs) (length next) ∙ sum))
          ∙ sym (append_assoc bs next (drop (length (bs ++ next)) out₀))
          ∙ ap (λ (l : List ℕ). onto l out₀) (sym (coverages_append done cs)),
      g ∙ ap (λ (k : ℕ). k + length cs) f ∙ sym (length-append done cs),
    )
