use Rattle.bc_install.proofs.Listed.{going_next}
use Rattle.bc_install.proofs.change.push_going.Goals as goal

pub loop-i-preserved : goal.loop-i-preserved
loop-i-preserved c = going_next c.args.spine.now.leaves c.args.e.now.place c.loop-i.i c.leaf.result
    c.args.list.now.items c.loop-i.list.items c.push.new.self.items c.leaf.ensures.leaf
    c.loop-i.invariant c.in_ok-push.ensures.items
