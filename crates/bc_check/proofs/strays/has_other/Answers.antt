use Rattle.std.proofs.Common.{◌+◌, arith}
use Rattle.std.proofs.Math.Nat.{mul-add}
use Rattle.bc_check.proofs.Others.{other_at, none_next, none_all}
use Rattle.bc_check.proofs.strays.has_other.Goals as goal

pub returns-then-branch : goal.returns-then-branch
returns-then-branch c =
    let so = c.loop-sector.invariant in
    other_at c.args.g.now c.args.bytes.now c.args.journal.now.entries c.args.low c.args.start so.blocks c.loop-sector.sector so.at c.loop-sector-test.true (rw c.if-branch.true at c.in_ok-is_other.ensures)

pub loop-sector-preserved : goal.loop-sector-preserved
loop-sector-preserved c =
    let so = c.loop-sector.invariant in
    let block = c.args.g.now.block in
    record {
      blocks = so.blocks + 1;
      at = (let at = so.at in let more = mul-add block so.blocks 1 in omega (arith, at, more));
      none = none_next c.args.g.now c.args.bytes.now c.args.journal.now.entries c.args.low c.args.start so.blocks c.loop-sector.sector so.at so.none (rw c.if-branch.false at c.in_ok-is_other.ensures);
    }

pub returns : goal.returns
returns c =
    let so = c.loop-sector.invariant in
    none_all c.args.g.now c.args.bytes.now c.args.journal.now.entries c.args.low c.args.start so.blocks c.loop-sector.sector so.at c.loop-sector-test.false so.none
