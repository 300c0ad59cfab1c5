use Rattle.std.proofs.Common.{refl}
use Rattle.bc_flush.proofs.of_bc_deed.May.{did_nothing}
use Rattle.bc_around.proofs.write.write_around.Goals as goal

pub returns-in-Some-clause-err : goal.returns-in-Some-clause-err
returns-in-Some-clause-err g c = (
  c.in-Some.ensures.stopped c.in-Some.device refl,
  did_nothing g.C.Disk.facts g.B.Disk.facts c.args.seat.now c.requires.works.seat,
)

pub returns-in_default-copy-clause-err : goal.returns-in_default-copy-clause-err
returns-in_default-copy-clause-err g c = did_nothing g.C.Disk.facts g.B.Disk.facts
    c.args.seat.now c.requires.works.seat

pub returns-in_default-bytes_of-clause-err : goal.returns-in_default-bytes_of-clause-err
returns-in_default-bytes_of-clause-err g c = did_nothing g.C.Disk.facts g.B.Disk.facts
    c.args.seat.now c.requires.works.seat
