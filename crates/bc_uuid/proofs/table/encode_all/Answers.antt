use Rattle.std.proofs.Common.{◌+◌, ◌-◌, ◌*◌, arith}
use Rattle.bc_uuid.proofs.Pieces.{entries_more}
use Rattle.bc_uuid.proofs.table.encode_all.Goals as goal

pub loop-i-preserved : goal.loop-i-preserved
loop-i-preserved c =
    entries_more c.loop-i.i (128 * c.loop-i.i + 128 - 128 * c.loop-i.i) c.args.entries.now c.loop-i.bytes c.encode.new.bytes c.index-entries-i.result
    (omega arith) (omega arith) (omega arith) (omega arith) c.loop-i.invariant c.encode.ensures c.index-entries-i.is
