use Rattle.bc_around.proofs.Finding.{found_here, is_there}
use Rattle.bc_around.proofs.look.are_free_in.Goals as goal

pub unreachable-requires-in_default-find : goal.unreachable-requires-in_default-find
unreachable-requires-in_default-find g c = is_there c.args.hand.now c.args.number c.args.first
    c.args.count c.requires.leaf.0 c.requires.leaf.1 c.in-Some.leaves c.in-Some.is
    c.requires.leaf.2 c.in_default-find.ensures

pub returns : goal.returns
returns g c = found_here c.args.hand.now c.args.number c.args.first c.args.count
    c.requires.leaf.0 c.requires.leaf.1 c.in-Some.leaves c.in-Some.is c.requires.leaf.2
    c.in-Some-find.slot c.leaf-leaf.result.now c.in-Some-find.ensures c.leaf-leaf.ensures
    c.are_free.result c.are_free.ensures
