use Rattle.bc_disk.specs.Bytes.{image_of}
use Rattle.bc_plain_pair.proofs.Blocks.{old_there, stray_by}
use Rattle.bc_plain_pair.proofs.ring.is_stray.Goals as goal

pub returns-then-entry-low : goal.returns-then-entry-low
returns-then-entry-low c =
    let found = rw c.in-Some.is at c.in_ok-entry.ensures in
    old_there c.args.g.now (image_of c.args.image.now) c.args.entries.now c.args.low c.args.end c.args.place c.in-Some.entry found.0 c.if-entry-low.true

pub returns : goal.returns
returns c =
    let found = rw c.in-Some.is at c.in_ok-entry.ensures in
    stray_by c.args.g.now (image_of c.args.image.now) c.args.entries.now c.args.low c.args.end c.args.place c.in-Some.entry found.0 c.stands_at.result c.if-entry-low.false c.stands_at.ensures
