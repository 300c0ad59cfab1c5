use Rattle.std.proofs.Common.{◌≡◌, ◌⊎◌, inl, inr, ◌+◌, [], ◌∷◌, ◌++◌, ap, ◌∙◌, arith}
use Rattle.bc_extent.specs.Turned.{turned}
use Rattle.bc_extent.proofs.Turns.{turned_next}
use Rattle.bc_extent.proofs.ring.Ring.push_back.Goals as goal
use Rattle.bc_extent.proofs.ring.Ring.push_back.Goals.{then-head, else-head}

pub returns : goal.returns
returns c =
    let ring = c.self.inside in
    let first = c.swap_in-first in
    let next : ((ring.head + 1 ≡ 512) × (c.if-head.self ≡ 0)) ⊎ (c.if-head.self ≡ ring.head + 1) = elim c.if-head.branch [
      | then-head w ↦ inl (omega (arith, w.if-head.true), w.self-is)
      | else-head w ↦ inr w.self-is
    ] in
    ap (λ keys. first.result ∷ turned c.if-head.self keys) first.ensures.new
    ∙ turned_next 512 ring.head c.if-head.self ring.slots c.args.slot first.result c.self.invariant.1 c.self.invariant.0 (first.ensures.old first.result) next
    ∙ ap (λ xs. xs ++ c.args.slot ∷ []) c.self.view_is
