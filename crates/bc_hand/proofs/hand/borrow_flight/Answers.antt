use Rattle.std.proofs.Common.{◌≡◌, None, refl, subst}
use Rattle.bc_seats.proofs.Knowing.{waited_not}
use Rattle.bc_machine.specs.declared.part.CorePart.{CorePart}
use Rattle.bc_machine.specs.World.{StandsAs}
use Rattle.bc_hand.specs.Seats.{core, world}
use Rattle.bc_hand.proofs.Lending.{works_took_flight}
use Rattle.bc_hand.proofs.hand.borrow_flight.Goals as goal

pub returns-clause-lent : goal.returns-clause-lent
returns-clause-lent g c =
    let no : c.args.hand.now.flight ≡ None = cc in
    let others = c.requires.order no in
    let value = subst (λ (p : CorePart g.row.C.Denot g.row.B.Denot). StandsAs g.C.Disk.facts g.B.Disk.facts 1 p
    (world g.C.Disk.facts g.B.Disk.facts c.take-2.new.seat)) c.in-Flight.is c.take-2.ensures.value in
    works_took_flight g.C.Disk.facts g.B.Disk.facts c.args.parts.now c.args.seat.now c.take-2.new.seat
    c.args.hand.now c.in-Flight.flight c.requires.works no others c.take-2.ensures.seat
    c.take-2.ensures.waited c.take-2.ensures.parts value.1

pub returns-in-Some-clause-waited : goal.returns-in-Some-clause-waited
returns-in-Some-clause-waited g c = waited_not (core g.C.Disk.facts g.B.Disk.facts) c.args.seat.now
    c.args.seat.now refl refl refl refl refl refl
