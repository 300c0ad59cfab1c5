use Rattle.bc_tree.proofs.Coming.{comes}
use Rattle.bc_tree.proofs.plan.coming.Goals as goal

pub returns : goal.returns
returns c = comes c.args.keys.now.keys c.args.from c.args.end c.args.to.now c.args.seq c.in_ok-parts.parts.items c.deref.result.now c.leaf_with.result c.deref.ensures.value c.in_ok-parts.ensures.shows c.in_ok-parts.ensures.order c.leaf_with.ensures
