use Rattle.std.proofs.Common.{Some, sym, ap, ◌∙◌}
use Rattle.bc_replaced.proofs.Leaves.{may_go_now}
use Rattle.bc_replaced.proofs.ask.may_go.Goals as goal

pub returns : goal.returns
returns g c sure = may_go_now c.args.hand.now c.args.slot c.args.count c.args.way
    c.get-part.result.now (c.in-Some.is ∙ ap Some (sym c.get-part.ensures)) c.if-part.false
    c.in-Some-leaves.leaves c.in-Some-leaves.is
    (sym c.geometry.ensures ∙ c.is_same.ensures c.if-not-is_same.false
    ∙ c.geometry-else-not-cached.ensures) c.in-Some-slot.cached
    (c.slot.ensures ∙ ap Some c.in-Some-slot.is) c.if-not-cached.false
    c.if-leaves-lt-LEAVES.false c.if-leaves-cached.false
    (c.is_of.ensures c.if-not-is_of.false) (c.is_long.ensures sure)
