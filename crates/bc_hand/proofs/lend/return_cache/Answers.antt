use Rattle.std.proofs.Common.{refl}
use Rattle.bc_seats.proofs.Knowing.{waited_not}
use Rattle.bc_hand.specs.Seats.{core}
use Rattle.bc_hand.proofs.Lends.{works_gave_cache}
use Rattle.bc_hand.proofs.lend.return_cache.Goals as goal

pub returns-then-taken-clause-works : goal.returns-then-taken-clause-works
returns-then-taken-clause-works g c = works_gave_cache g.C.Disk.facts g.B.Disk.facts c.args.parts.now
    c.args.seat.now c.give.new.seat c.args.hand.now c.args.cache c.requires c.give.ensures.seat
    c.give.ensures.waited c.give.ensures.parts

pub returns-else-taken-clause-waited : goal.returns-else-taken-clause-waited
returns-else-taken-clause-waited g c = waited_not (core g.C.Disk.facts g.B.Disk.facts) c.args.seat.now
    c.args.seat.now refl refl refl refl refl refl
