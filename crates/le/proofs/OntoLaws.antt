-- Laws of bytes put to the front of what is lent. Assumes nothing.
use Prim.Native.Nat.{ℕ, zero, suc, ◌+◌, ◌-◌, ◌≤◌}
use mathlib.Core.Path.{◌≡◌, sym, ap, ◌∙◌}
use mathlib.Core.List.{List, [], ◌++◌, append-nil, append_assoc}
use native.Mathlib.Omega.{arith}
use native.Mathlib.Nat.{sub-zero, zero-sub, suc-sub-suc}
use lib.ListN.{length, take, drop, replicate, length-append, length-drop, length-replicate, drop_of_length-le}
use lib.Seq.{take_at, drop_at, take_all, drop-drop, drop-append-le}
use Rattle.le.specs.Fields.{onto}

-- A buffer X has bs at its front. Its part &mut X[n..] behind bs was lent and came back as Y with cs at the front: then cs stands behind bs, and what lies behind both is as it was.
pub onto_part : (bs cs out X Y : List ℕ) (n k : ℕ) → length bs ≡ n → k ≡ length X - n → n ≤ length out → X ≡ onto bs out → Y ≡ onto cs (take k (drop n X))
    → take n X ++ (Y ++ drop k (drop n X)) ≡ onto (bs ++ cs) out
unfolding onto
onto_part bs cs out X Y n k lb lk le ex ey =
    let e : X ≡ bs ++ drop n out = ex ∙ ap (λ (m : ℕ). bs ++ drop m out) lb in
    let d_x : drop n X ≡ drop n out = ap (drop n) e ∙ drop_at bs (drop n out) n lb in
    let t_x : take n X ≡ bs = ap (take n) e ∙ take_at bs (drop n out) n lb in
    let ld : length (drop n out) ≡ length out - n = length-drop n out in
    let l_x : length X ≡ length bs + length (drop n out) = ap length e ∙ length-append bs (drop n out) in
    let lo : length (drop n out) ≤ k = omega arith in
    let tk : take k (drop n X) ≡ drop n out = ap (take k) d_x ∙ take_all k (drop n out) lo in
    let pk : drop k (drop n X) ≡ [] = ap (drop k) d_x ∙ drop_of_length-le (drop n out) lo in
    let e_y : Y ≡ cs ++ drop (n + length cs) out
    = ey ∙ ap (λ (l : List ℕ). cs ++ drop (length cs) l) tk ∙ ap (λ (l : List ℕ). cs ++ l) (drop-drop (length cs) n out) in
    let ll : length (bs ++ cs) ≡ n + length cs = length-append bs cs ∙ ap (λ (m : ℕ). m + length cs) lb in
    ap (λ (l : List ℕ). l ++ (Y ++ drop k (drop n X))) t_x
    ∙ ap (λ (l : List ℕ). bs ++ (Y ++ l)) pk
    ∙ ap (λ (l : List ℕ). bs ++ l) (append-nil Y)
    ∙ ap (λ (l : List ℕ). bs ++ l) e_y
    ∙ sym (append_assoc bs cs (drop (n + length cs) out))
    ∙ ap (λ (m : ℕ). (bs ++ cs) ++ drop m out) (sym ll)

abbrev pub zeros : ℕ → List ℕ
zeros n = replicate n 0

drop_replicate : (k n : ℕ) → drop k (zeros n) ≡ zeros (n - k)
drop_replicate zero n = ap zeros (sym (sub-zero n))
drop_replicate (suc k) zero = ap zeros (sym (zero-sub (suc k)))
drop_replicate (suc k) (suc n) = drop_replicate k n ∙ ap zeros (sym (suc-sub-suc n k))

pub onto_length : (bs out : List ℕ) → length bs ≤ length out → length (onto bs out) ≡ length out
unfolding onto
onto_length bs out h =
    let a : length (bs ++ drop (length bs) out) ≡ length bs + length (drop (length bs) out) = length-append bs (drop (length bs) out) in
    let d : length (drop (length bs) out) ≡ length out - length bs = length-drop (length bs) out in
    omega arith

-- the same bytes, written another way
pub onto_as : (X bs cs out : List ℕ) → X ≡ onto bs out → bs ≡ cs → X ≡ onto cs out
onto_as X bs cs out e f = e ∙ ap (λ (l : List ℕ). onto l out) f

-- bytes put over zeros are followed by the zeros that are left
pub onto_zeros : (bs out X Y : List ℕ) (n : ℕ) → length bs ≤ n → n ≤ length out → X ≡ onto (zeros n) out → Y ≡ onto bs X → Y ≡ onto (bs ++ zeros (n - length bs)) out
unfolding onto
onto_zeros bs out X Y n h k ex ey =
    let z : length (zeros n) ≡ n = length-replicate {A = ℕ} n 0 in
    let d : drop (length bs) (zeros n ++ drop (length (zeros n)) out) ≡ drop (length bs) (zeros n) ++ drop (length (zeros n)) out
    = drop-append-le (length bs) (zeros n) (drop (length (zeros n)) out) (omega arith) in
    let l : length (zeros (n - length bs)) ≡ n - length bs = length-replicate {A = ℕ} (n - length bs) 0 in
    let a : length (bs ++ zeros (n - length bs)) ≡ length bs + length (zeros (n - length bs)) = length-append bs (zeros (n - length bs)) in
    let r : length (bs ++ zeros (n - length bs)) ≡ n = omega arith in
    ey
    ∙ ap (λ (l : List ℕ). bs ++ drop (length bs) l) ex
    ∙ ap (λ (l : List ℕ). bs ++ l) d
    ∙ ap (λ (l : List ℕ). bs ++ (l ++ drop (length (zeros n)) out)) (drop_replicate (length bs) n)
    ∙ ap (λ (m : ℕ). bs ++ (zeros (n - length bs) ++ drop m out)) (z ∙ sym r)
    ∙ sym (append_assoc bs (zeros (n - length bs)) (drop (length (bs ++ zeros (n - length bs))) out))
