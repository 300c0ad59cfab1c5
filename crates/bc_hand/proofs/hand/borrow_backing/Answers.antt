use Rattle.std.proofs.Common.{◌≡◌, None, subst}
use Rattle.bc_machine.specs.declared.part.CorePart.{CorePart}
use Rattle.bc_machine.specs.World.{StandsAs}
use Rattle.bc_hand.specs.Seats.{world}
use Rattle.bc_hand.proofs.Lending.{works_took_backing}
use Rattle.bc_hand.proofs.hand.borrow_backing.Goals as goal

pub returns-clause-lent : goal.returns-clause-lent
returns-clause-lent g c =
    let no : c.args.hand.now.backing ≡ None = cc in
    let value = subst (λ (p : CorePart g.row.C.Denot g.row.B.Denot). StandsAs g.C.Disk.facts g.B.Disk.facts 5 p
    (world g.C.Disk.facts g.B.Disk.facts c.take-2.new.seat)) c.in-Backing.is c.take-2.ensures.value in
    works_took_backing g.C.Disk.facts g.B.Disk.facts c.args.parts.now c.args.seat.now c.take-2.new.seat
    c.args.hand.now c.in-Backing.backing c.requires.works no c.take-2.ensures.seat
    c.take-2.ensures.waited c.take-2.ensures.parts value.1
