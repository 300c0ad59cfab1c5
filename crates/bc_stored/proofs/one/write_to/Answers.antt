use Rattle.std.proofs.Common.{refl}
use Rattle.bc_insert.proofs.of_bc_deed.May.{did_nothing}
use Rattle.bc_stored.proofs.one.write_to.Goals as goal

pub returns-then-not-lies_before-clause-err : goal.returns-then-not-lies_before-clause-err
returns-then-not-lies_before-clause-err g c = (
  c.if-not-lies_before.ensures.no refl,
  did_nothing g.C.Disk.facts g.B.Disk.facts c.args.seat.now c.requires.works.seat,
)

pub returns-in_default-clause-err : goal.returns-in_default-clause-err
returns-in_default-clause-err g c = did_nothing g.C.Disk.facts g.B.Disk.facts c.args.seat.now
    c.requires.works.seat
