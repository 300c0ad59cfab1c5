use Rattle.bc_install.proofs.Out.{out_next}
use Rattle.bc_install.proofs.leaves.take_going.Goals as goal

pub loop-i-preserved : goal.loop-i-preserved
loop-i-preserved c = out_next c.args.spine.now.leaves c.args.e.now.place c.loop-i.i c.leaf.result
    c.args.cache.now c.loop-i.cache c.take_out.new.cache c.leaf.ensures.leaf c.loop-i.invariant
    c.take_out.ensures
