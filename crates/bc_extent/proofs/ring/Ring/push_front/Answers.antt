use Rattle.std.proofs.Common.{◌≡◌, ◌⊎◌, inl, inr, ◌+◌, ◌∷◌, ap, ◌∙◌, arith}
use Rattle.bc_extent.proofs.Turns.{turned_before}
use Rattle.bc_extent.proofs.ring.Ring.push_front.Goals as goal
use Rattle.bc_extent.proofs.ring.Ring.push_front.Goals.{then-self-eq0, else-self-eq0}

pub returns : goal.returns
returns c =
    let ring = c.self.inside in
    let last = c.swap_in in
    let next : ((ring.head ≡ 0) × (c.if-self-eq0.self + 1 ≡ 512)) ⊎ (c.if-self-eq0.self + 1 ≡ ring.head) = elim c.if-self-eq0.branch [
      | then-self-eq0 w ↦ inl (w.if-self-eq0.true, omega (arith, w.self-is))
      | else-self-eq0 w ↦ inr (omega (arith, w.self-is, w.if-self-eq0.false))
    ] in
    turned_before 512 ring.head c.if-self-eq0.self ring.slots last.new.self c.args.slot last.result c.self.invariant.1 c.self.invariant.0 next last.ensures.new (last.ensures.old last.result)
    ∙ ap (λ xs. c.args.slot ∷ xs) c.self.view_is
