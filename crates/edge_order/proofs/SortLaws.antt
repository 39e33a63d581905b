-- Laws of the stable sort: what it keeps, and that it goes by nothing but its test. Assumes nothing.
use Prim.Native.Nat.{suc}
use mathlib.Core.Path.{◌≡◌, refl, ap, ◌∙◌}
use mathlib.Core.Logic.{⊎_elim}
use mathlib.Core.Bool.{Bool, true, false, cond}
use mathlib.Core.List.Memᴰ
use mathlib.Core.List.Permᴰ
use mathlib.Core.List.{List, [], ◌∷◌, map, Memᴰ, Permᴰ}
use lib.ListN.{length}
use Rattle.edge_order.specs.Sort.{insert, sort}

-- ---- reorderings; the library's membership is truncated and its length unary

pub perm_in {ℓ} : {A : Type ℓ} {a : A} {l m : List A} → Permᴰ l m → Memᴰ a l → Memᴰ a m
perm_in Permᴰ.nil h = h
perm_in {a} (Permᴰ.cons {a = x} {b = y} {l₁ = l₁} {l₂ = l₂} e p) h =
    ⊎_elim
    (λ (q : a ≡ x). Memᴰ.head (q ∙ e))
    (λ (k : Memᴰ a l₁). Memᴰ.tail (perm_in p k))
    (Memᴰ.cases_cons h)
perm_in {a} (Permᴰ.swap {a = x} {b = y} {l = l} e f) h =
    ⊎_elim
    (λ (q : a ≡ x). Memᴰ.tail (Memᴰ.head (q ∙ e)))
    (λ (n : Memᴰ a (y ∷ l)). ⊎_elim (λ (q : a ≡ y). Memᴰ.head (q ∙ f)) (λ (k : Memᴰ a l). Memᴰ.tail (Memᴰ.tail k)) (Memᴰ.cases_cons n))
    (Memᴰ.cases_cons h)
perm_in (Permᴰ.trans p q) h = perm_in q (perm_in p h)

pub perm_length {ℓ} : {A : Type ℓ} {l m : List A} → Permᴰ l m → length l ≡ length m
perm_length Permᴰ.nil = refl
perm_length (Permᴰ.cons e p) = ap suc (perm_length p)
perm_length (Permᴰ.swap e f) = refl
perm_length (Permᴰ.trans p q) = perm_length p ∙ perm_length q

-- ---- a sort reorders

insert_perm {ℓ} : {A : Type ℓ} (before : A → A → Bool) (x : A) (l : List A) → Permᴰ (insert before x l) (x ∷ l)
unfolding insert
insert_perm before x [] = Permᴰ.refl (x ∷ [])
insert_perm before x (y ∷ ys) = go (before y x) (insert_perm before x ys)
  where
    go : (t : Bool) → Permᴰ (insert before x ys) (x ∷ ys) → Permᴰ (cond t (y ∷ insert before x ys) (x ∷ y ∷ ys)) (x ∷ y ∷ ys)
    go true h = Permᴰ.trans (Permᴰ.cons refl h) (Permᴰ.swap refl refl)
    go false h = Permᴰ.refl (x ∷ y ∷ ys)

pub sort_perm {ℓ} : {A : Type ℓ} (before : A → A → Bool) (l : List A) → Permᴰ (sort before l) l
unfolding sort
sort_perm before [] = Permᴰ.nil
sort_perm before (x ∷ xs) = Permᴰ.trans (insert_perm before x (sort before xs)) (Permᴰ.cons refl (sort_perm before xs))

pub sort_in {ℓ} : {A : Type ℓ} (before : A → A → Bool) (l : List A) (a : A) → Memᴰ a (sort before l) → Memᴰ a l
sort_in before l a h = perm_in (sort_perm before l) h

pub in_sort {ℓ} : {A : Type ℓ} (before : A → A → Bool) (l : List A) (a : A) → Memᴰ a l → Memᴰ a (sort before l)
in_sort before l a h = perm_in (Permᴰ.symm (sort_perm before l)) h

pub sort_length {ℓ} : {A : Type ℓ} (before : A → A → Bool) (l : List A) → length (sort before l) ≡ length l
sort_length before l = perm_length (sort_perm before l)

-- ---- a sort goes by the test, of members of the list alone

module _ {ℓ} {A B : Type ℓ} (f : A → B) (b1 : A → A → Bool) (b2 : B → B → Bool) where
  insert_map : (x : A) (l : List A) → ((y : A) → Memᴰ y l → b1 y x ≡ b2 (f y) (f x)) → map f (insert b1 x l) ≡ insert b2 (f x) (map f l)
  unfolding insert
  insert_map x [] h = refl
  insert_map x (y ∷ ys) h = ap (λ (t : Bool). map f (cond t (y ∷ insert b1 x ys) (x ∷ y ∷ ys))) (h y (Memᴰ.head refl)) ∙ go (b2 (f y) (f x)) (insert_map x ys (λ (z : A) (m : Memᴰ z ys). h z (Memᴰ.tail m)))
    where
      go : (t : Bool) → map f (insert b1 x ys) ≡ insert b2 (f x) (map f ys) → map f (cond t (y ∷ insert b1 x ys) (x ∷ y ∷ ys)) ≡ cond t (f y ∷ insert b2 (f x) (map f ys)) (f x ∷ f y ∷ map f ys)
      go true e = ap (λ (r : List B). f y ∷ r) e
      go false e = refl

  pub sort_map_within : (l : List A) → ((x y : A) → Memᴰ x l → Memᴰ y l → b1 x y ≡ b2 (f x) (f y)) → map f (sort b1 l) ≡ sort b2 (map f l)
  unfolding sort
  sort_map_within [] h = refl
  sort_map_within (x ∷ xs) h =
      insert_map x (sort b1 xs) (λ (y : A) (m : Memᴰ y (sort b1 xs)). h y x (Memᴰ.tail (sort_in b1 xs y m)) (Memᴰ.head refl))
      ∙ ap (insert b2 (f x)) (sort_map_within xs (λ (y z : A) (m : Memᴰ y xs) (n : Memᴰ z xs). h y z (Memᴰ.tail m) (Memᴰ.tail n)))

module _ {ℓ} {A : Type ℓ} (b1 b2 : A → A → Bool) where
  insert_cong : (x : A) (l : List A) → ((y : A) → Memᴰ y l → b1 y x ≡ b2 y x) → insert b1 x l ≡ insert b2 x l
  unfolding insert
  insert_cong x [] h = refl
  insert_cong x (y ∷ ys) h = rw (h y (Memᴰ.head refl), insert_cong x ys (λ (z : A) (m : Memᴰ z ys). h z (Memᴰ.tail m))) refl

  pub sort_cong : (l : List A) → ((x y : A) → Memᴰ x l → Memᴰ y l → b1 x y ≡ b2 x y) → sort b1 l ≡ sort b2 l
  unfolding sort
  sort_cong [] h = refl
  sort_cong (x ∷ xs) h =
      insert_cong x (sort b1 xs) (λ (y : A) (m : Memᴰ y (sort b1 xs)). h y x (Memᴰ.tail (sort_in b1 xs y m)) (Memᴰ.head refl))
      ∙ ap (insert b2 x) (sort_cong xs (λ (y z : A) (m : Memᴰ y xs) (n : Memᴰ z xs). h y z (Memᴰ.tail m) (Memᴰ.tail n)))
