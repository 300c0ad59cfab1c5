use Rattle.std.proofs.Common.{List, get_or, sym, ap, ◌∙◌, arith}
use Rattle.bc_extent.specs.declared.slot.Tail.{Tail}
use Rattle.bc_extent.specs.Slot.{key_in, no_tail}
use Rattle.bc_extent.proofs.Kept.{key_at}
use Rattle.bc_extent.proofs.slots.Slots.key.Goals as goal

pub returns : goal.returns
returns c = λ d.
    let slots = c.self.inside in
    let front = c.index.result.now in
    c.key.ensures
    ∙ (λ t. key_in (c.index.ensures t) (c.tail_at.ensures t))
    ∙ ap (λ (ts : List Tail). key_in (get_or slots.fronts.items c.args.i front) (get_or ts c.args.i no_tail)) c.deref.ensures.value
    ∙ sym (key_at slots.fronts.items slots.tails.items c.args.i d front (omega (arith, c.self.invariant.0, c.requires)))
    ∙ ap (λ keys. get_or keys c.args.i d) c.self.view_is
