use Rattle.std.proofs.Common.{sym, subst}
use Rattle.bc_cache.specs.Slots.{Misses, NodeCache}
use Rattle.bc_fetch.proofs.Slots.{misses_emptied, put_into}
use Rattle.bc_fetch.proofs.slot.put_leaf.Goals as goal

pub put-requires-clause-new : goal.put-requires-clause-new
put-requires-clause-new c = subst (λ (x : NodeCache). Misses x.slots c.args.number)
    (sym c.in-Some.ensures.emptied)
    (misses_emptied c.args.cache.now c.in-Some.slot c.args.number c.requires.new)

pub returns : goal.returns
returns c = put_into c.in-Some.slot c.args.number c.args.leaf c.args.cache.now c.evict.new.self
    c.put.new.self c.in-Some.ensures.oldest c.in-Some.ensures.emptied c.in-Some.ensures.free
    c.put.ensures
