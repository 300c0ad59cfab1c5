use Rattle.std.proofs.Common.{refl, None}
use Rattle.bc_cache.proofs.Oldest.{oldest_none, oldest_more, none_goes, oldest_of_all}
use Rattle.bc_cache.proofs.slots.oldest.Goals as goal

pub loop-i-init : goal.loop-i-init
loop-i-init c = oldest_none c.args.slots.now None refl

pub loop-i-preserved : goal.loop-i-preserved
loop-i-preserved c = oldest_more c.args.slots.now c.loop-i.i c.index-slots-i.result c.loop-i.known c.older-known.result c.free_since.result c.loop-i-test.true c.index-slots-i.is c.loop-i.invariant c.free_since.ensures c.older-known.ensures

pub returns-in-None : goal.returns-in-None
returns-in-None c = none_goes c.args.slots.now c.loop-i.i c.loop-i.known c.in-None.is c.loop-i.invariant c.loop-i-test.false

pub returns-in-Some : goal.returns-in-Some
returns-in-Some c = oldest_of_all c.args.slots.now c.loop-i.i c.loop-i.known c.in-Some.found c.in-Some.is c.loop-i.invariant c.loop-i-test.false
