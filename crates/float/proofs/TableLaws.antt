-- A rule of a table, proved at all of its entries by one list that the checker computes. Assumes nothing.
use Rattle.std.proofs.Common.{◌≡◌, ℕ, zero, suc, ◌+◌, ◌<◌, List, [], ◌∷◌, get_or, sym, refl, ap, ◌∙◌, le_of_suc-le-suc, not-suc-le-zero, add-zero, add-suc, suc-add, zero-add}

-- f i, f (i + 1), .., n entries
abbrev pub tabulated : {A : Type 0} → (ℕ → A) → ℕ → ℕ → List A
tabulated f i zero = []
tabulated f i (suc n) = f i ∷ tabulated f (suc i) n

entry : {A : Type 0} (f : ℕ → A) (n i k : ℕ) (d : A) → k < n → get_or (tabulated f i n) k d ≡ f (i + k)
entry f zero i k d h = absurd (not-suc-le-zero h)
entry f (suc n) i zero d h = ap f (sym (add-zero i))
entry f (suc n) i (suc k) d h = entry f n (suc i) k d (le_of_suc-le-suc h) ∙ ap f (suc-add i k ∙ sym (add-suc i k))

pub table_at : {A : Type 0} (xs : List A) (f : ℕ → A) (n : ℕ) → xs ≡ tabulated f 0 n → (k : ℕ) (d : A) → k < n → get_or xs k d ≡ f k
table_at xs f n e k d h = ap (λ l. get_or l k d) e ∙ entry f n 0 k d h ∙ ap f (zero-add k)

-- two functions that agree on a table agree at each place of it
pub agree : {A : Type 0} (f g : ℕ → A) (n : ℕ) → tabulated f 0 n ≡ tabulated g 0 n → (k : ℕ) → k < n → f k ≡ g k
agree f g n e k h = sym (table_at (tabulated f 0 n) f n refl k (f k) h) ∙ table_at (tabulated f 0 n) g n e k (f k) h
