use Rattle.std.proofs.Common.{refl}
use Rattle.bc_cache.proofs.Oldest.{found_here, missed_none, missed_more, missed_all}
use Rattle.bc_cache.proofs.slots.slot_of.Goals as goal

pub loop-i-init : goal.loop-i-init
loop-i-init c = missed_none c.args.slots.now c.args.number

pub returns-then-has : goal.returns-then-has
returns-then-has c = found_here c.args.slots.now c.loop-i.i c.args.number c.index-slots-i.result c.loop-i-test.true c.index-slots-i.is (c.if-has.ensures.0 refl)

pub loop-i-preserved : goal.loop-i-preserved
loop-i-preserved c = missed_more c.args.slots.now c.loop-i.i c.args.number c.index-slots-i.result c.loop-i.invariant c.loop-i-test.true c.index-slots-i.is (λ has. let e = c.if-has.ensures.1 has in cc)

pub returns : goal.returns
returns c = missed_all c.args.slots.now c.args.number c.loop-i.i c.loop-i.invariant c.loop-i-test.false
