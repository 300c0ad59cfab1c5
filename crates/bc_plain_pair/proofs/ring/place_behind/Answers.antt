use Rattle.std.proofs.Common.{take}
use Rattle.bc_plain_pair.proofs.Rings.{behind_all, behind_more, behind_none}
use Rattle.bc_plain_pair.proofs.ring.place_behind.Goals as goal

pub loop-entry-init : goal.loop-entry-init
loop-entry-init c = behind_none c.args.g.now c.args.entries.now c.args.bucket

pub loop-entry-preserved : goal.loop-entry-preserved
loop-entry-preserved c =
    behind_more c.args.g.now c.args.entries.now c.args.bucket c.loop-entry.entry-index c.entry-item.result c.loop-entry-test.true c.entry-item.is c.with_end-next.result
    (c.with_end-next.ensures (take c.loop-entry.entry-index c.args.entries.now) c.loop-entry.invariant)

pub returns : goal.returns
returns c = behind_all c.args.g.now c.args.entries.now c.args.bucket c.loop-entry.entry-index c.loop-entry.next c.loop-entry-test.false c.loop-entry.invariant
