use Rattle.std.proofs.Common.{◌+◌, arith}
use Rattle.std.proofs.Math.Nat.{mul-add}
use Rattle.bc_disk.specs.Bytes.{image_of}
use Rattle.bc_plain_pair.proofs.Blocks.{stray_at, none_next, none_all}
use Rattle.bc_plain_pair.proofs.ring.has_stray.Goals as goal

pub returns-then-branch : goal.returns-then-branch
returns-then-branch c =
    let so = c.loop-place.invariant in
    stray_at c.args.g.now (image_of c.args.image.now) c.args.entries.now c.args.low c.args.i so.blocks c.loop-place.place so.at c.loop-place-test.true (rw c.if-branch.true at c.in_ok-is_stray.ensures)

pub loop-place-preserved : goal.loop-place-preserved
loop-place-preserved c =
    let so = c.loop-place.invariant in
    let block = c.args.g.now.block in
    record {
      blocks = so.blocks + 1;
      at = (let at = so.at in let more = mul-add block so.blocks 1 in omega (arith, at, more));
      none = none_next c.args.g.now (image_of c.args.image.now) c.args.entries.now c.args.low c.args.i so.blocks c.loop-place.place so.at so.none (rw c.if-branch.false at c.in_ok-is_stray.ensures);
    }

pub returns : goal.returns
returns c =
    let so = c.loop-place.invariant in
    none_all c.args.g.now (image_of c.args.image.now) c.args.entries.now c.args.low c.args.i so.blocks c.loop-place.place so.at c.loop-place-test.false so.none
