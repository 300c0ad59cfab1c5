use Rattle.std.proofs.Common.{Bool, subst}
use Rattle.bc_cache.specs.Slots.{IsTakenBy}
use Rattle.bc_tree_rows.proofs.nodes.turn.Goals as goal

pub take-leaf-requires : goal.take-leaf-requires
take-leaf-requires g c = subst (λ (b : Bool). IsTakenBy c.args.both.now.cache.slots c.args.slot b) c.if-held.false c.requires

pub put-requires-clause-empty : goal.put-requires-clause-empty
put-requires-clause-empty g c = c.take-leaf.ensures.empty
