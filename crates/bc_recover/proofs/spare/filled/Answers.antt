use Rattle.std.proofs.Common.{◌<◌, ◌≤◌, ℕ, List, sym, subst}
use Rattle.std.proofs.lemmas.List.Elements.{All-weaker}
use Rattle.bc_alloc.specs.Reserve.{times}
use Rattle.bc_recover.specs.Spare.{IsUnused}
use Rattle.bc_recover.proofs.Those.{in_order_once, once_in}
use Rattle.bc_recover.proofs.spare.filled.Goals as goal

pub new-requires-clause-distinct : goal.new-requires-clause-distinct
new-requires-clause-distinct c = λ k.
    subst (λ (ks : List ℕ). times k ks ≤ 1) (sym c.deref.ensures.value) (in_order_once c.in_ok-spare.spare.items c.in_ok-spare.ensures.order k)

pub new-requires-clause-below : goal.new-requires-clause-below
new-requires-clause-below c = λ k some.
    let ks = c.in_ok-spare.spare.items in
    let count = c.args.g.now.nbuckets in
    once_in (λ n. n < count) ks (All-weaker (λ n. (n < count) × IsUnused c.args.uses.now n) (λ n. n < count) (λ n h. h.0) ks c.in_ok-spare.ensures.each) k
    (subst (λ (xs : List ℕ). 0 < times k xs) c.deref.ensures.value some)
