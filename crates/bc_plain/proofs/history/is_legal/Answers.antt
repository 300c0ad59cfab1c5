use Rattle.std.proofs.Common.{arith}
use Rattle.bc_disk.specs.Bytes.{image_of}
use Rattle.bc_plain.proofs.Entries.{legal_more}
use Rattle.bc_plain.proofs.Told.{both}
use Rattle.bc_plain.proofs.history.is_legal.Goals as goal

pub loop-place-preserved : goal.loop-place-preserved
loop-place-preserved c =
    both c.loop-place.legal c.is_right-legal.result c.loop-place.invariant c.is_right-legal.ensures (legal_more (image_of c.args.opening.now) c.args.entries.now c.loop-place.place c.index-entries-place.result (omega arith) c.index-entries-place.is)
