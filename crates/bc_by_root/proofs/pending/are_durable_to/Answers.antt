use Rattle.bc_by_root.proofs.Waiting.{all_go, next_goes, stops}
use Rattle.bc_by_root.proofs.pending.are_durable_to.Goals as goal

pub returns-then-not-is_durable_to : goal.returns-then-not-is_durable_to
returns-then-not-is_durable_to c = stops c.args.cache.now.slots c.args.upto c.args.spine.now.leaves
    c.args.e.now.place c.loop-i.i c.args.e.now.gone c.leaf.result c.leaf.ensures.leaf
    c.loop-i-test.true c.is_durable_to.result c.is_durable_to.ensures c.if-not-is_durable_to.true

pub loop-i-preserved : goal.loop-i-preserved
loop-i-preserved c = next_goes c.args.cache.now.slots c.args.upto c.args.spine.now.leaves
    c.args.e.now.place c.loop-i.i c.leaf.result c.leaf.ensures.leaf
    (c.is_durable_to.ensures.0 c.if-not-is_durable_to.false) c.loop-i.invariant

pub returns : goal.returns
returns c = all_go c.args.cache.now.slots c.args.upto c.args.spine.now.leaves c.args.e.now.place
    c.loop-i.i c.args.e.now.gone c.loop-i-test.false c.loop-i.auto.i-end c.loop-i.invariant
