use Rattle.std.proofs.Common.{Bool, subst}
use Rattle.bc_cache.specs.Slots.{IsTakenBy}
use Rattle.bc_tree_rows.proofs.nodes.hold.Goals as goal

pub let_go-requires : goal.let_go-requires
let_go-requires g c = subst (λ (b : Bool). IsTakenBy c.args.both.now.cache.slots c.args.slot b) c.if-held.true c.requires

pub hold-requires : goal.hold-requires
hold-requires g c = subst (λ (b : Bool). IsTakenBy c.args.both.now.cache.slots c.args.slot b) c.if-held.false c.requires
