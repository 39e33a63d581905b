use Rattle.std.proofs.Common.{ℕ, ◌+◌, ◌*◌, sym, subst}
use Rattle.root.proofs.Squares.{Near, near_up, near_same}
use Rattle.root.proofs.digits.exact_digits.Goals as goal
use Rattle.root.proofs.digits.exact_digits.Goals.{then-step-left, else-step-left}

pub more-preserved : goal.more-preserved
more-preserved c =
    let w = c.args.w in
    let i = c.more.counter in
    let t = c.more-test.true in
    elim c.if-step-left.branch [
      | then-step-left v ↦ subst (λ (r : ℕ). Near w (i + 1) r c.if-step-left.rest) (sym v.digits-is) (subst (λ (n : ℕ). Near w (i + 1) (2 * c.more.digits + 1) n) (sym v.rest-is) (near_up w i c.more.digits c.more.rest t c.more.invariant v.if-step-left.true))
      | else-step-left v ↦ subst (λ (r : ℕ). Near w (i + 1) r c.if-step-left.rest) (sym v.digits-is) (subst (λ (n : ℕ). Near w (i + 1) (2 * c.more.digits) n) (sym v.rest-is) (near_same w i c.more.digits c.more.rest t c.more.invariant v.if-step-left.false))
    ]
