use Rattle.bc_install.proofs.Touching.{touched_next}
use Rattle.bc_install.proofs.buckets.touch_leaf.Goals as goal

pub loop-i-preserved : goal.loop-i-preserved
loop-i-preserved c = touched_next c.args.first c.args.leaf.now.keys c.keys-keys.result.now.keys
    c.loop-i.i c.key.result c.args.part.now c.loop-i.part c.touch_key.new.part
    c.keys-keys.ensures.keys c.key.ensures.key c.loop-i.invariant c.touch_key.ensures
