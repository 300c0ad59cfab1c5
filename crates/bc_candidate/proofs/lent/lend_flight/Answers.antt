use Rattle.std.proofs.Common.{refl}
use Rattle.bc_place.specs.bc_hand.Seats.{core}
use Rattle.bc_seats.proofs.Knowing.{waited_not}
use Rattle.bc_candidate.proofs.lent.lend_flight.Goals as goal

pub returns-in-Some-clause-waited : goal.returns-in-Some-clause-waited
returns-in-Some-clause-waited g c = waited_not (core g.C.Disk.facts g.B.Disk.facts) c.args.seat.now
    c.args.seat.now refl refl refl refl refl refl
