-- Laws of chains: they can be put together and turned, and go over into other facts if each of their steps does. Assumes nothing.
use Prim.Native.Nat.{ℕ}
use mathlib.Core.Path.{◌≡◌, refl, sym, subst}
use mathlib.Core.List.{Memᴰ}
use native.Mathlib.Decide.{ℕ_discrete}
use Rattle.demand.specs.Claim.{Columns, Within, Together, Linked, no_step, step, Follows, AllFollow}

pub trans : {F : Columns → Type 0} {a b c : ℕ} → Linked F a b → Linked F b c → Linked F a c
trans {F} {c = c} (no_step e) h = subst (λ (x : ℕ). Linked F x c) (sym e) h
trans (step t l) h = step t (trans l h)

pub one_step : {F : Columns → Type 0} {a b : ℕ} → Together F a b → Linked F a b
one_step t = step t (no_step refl)

pub turned : {F : Columns → Type 0} {a b : ℕ} → Linked F a b → Linked F b a
turned (no_step e) = no_step (sym e)
turned (step t l) = trans (turned l) (one_step (t.0, t.1, t.3, t.2))

-- a chain goes over into other facts if each of its steps does
pub carried : {F G : Columns → Type 0} → ((a b : ℕ) → Together F a b → Linked G a b) → {a b : ℕ} → Linked F a b → Linked G a b
carried h (no_step e) = no_step e
carried h (step {a = a} {b = b} t l) = trans (h a b t) (carried h l)

-- two columns of a set that follows are linked, different or not
followed : {G : Columns → Type 0} (f : Columns) → Follows G f → (a b : ℕ) → Memᴰ a f → Memᴰ b f → Linked G a b
followed {G} f h a b p q = decided (ℕ_discrete a b)
  where
    decided : Dec (a ≡ b) → Linked G a b
    decided (yes e) = no_step e
    decided (no n) = h a b p q n

pub follow_linked : {F G : Columns → Type 0} → AllFollow G F → {a b : ℕ} → Linked F a b → Linked G a b
follow_linked h l = carried (λ a b t. followed t.0 (h t.0 t.1) a b t.2 t.3) l

-- facts that all stand in G, as sets, follow from G
pub within_follow : {F G : Columns → Type 0} → Within F G → AllFollow G F
within_follow w f m a b p q n =
    let r = w f m in
    one_step (r.0, r.1, (r.2 a).0 p, (r.2 b).0 q)
