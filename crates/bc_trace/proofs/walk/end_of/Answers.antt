use Rattle.std.proofs.Common.{ap, ◌∙◌}
use Rattle.bc_leaf_walk.proofs.Doing.{has_leaf, same_leaf}
use Rattle.bc_node.specs.Leaf.{Leaf}
use Rattle.bc_trace.proofs.walk.end_of.Goals as goal

pub unreachable-requires-in_default-find : goal.unreachable-requires-in_default-find
unreachable-requires-in_default-find g c = c.in_default-find.ensures c.requires.0
    (has_leaf c.args.hand.now c.requires.0 c.args.number c.requires.1 c.in-Some.leaves c.in-Some.is)

pub returns : goal.returns
returns g c = λ slot at. c.end.ensures ∙ ap (λ (l : Leaf). l.end)
    (same_leaf c.args.hand.now slot c.args.number at c.in-Some.leaves c.in-Some.is
    c.in-Some-find.slot c.in-Some-find.ensures c.leaf.result.now c.leaf.ensures)
