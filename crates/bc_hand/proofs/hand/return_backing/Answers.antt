use Rattle.bc_hand.proofs.Lending.{works_gave_backing}
use Rattle.bc_hand.proofs.hand.return_backing.Goals as goal

pub returns-then-taken-clause-works : goal.returns-then-taken-clause-works
returns-then-taken-clause-works g c = works_gave_backing g.C.Disk.facts g.B.Disk.facts c.args.parts.now
    c.args.seat.now c.give.new.seat c.args.hand.now c.args.backing c.requires c.give.ensures.seat
    c.give.ensures.waited c.give.ensures.parts
