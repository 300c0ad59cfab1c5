use Rattle.std.proofs.Common.{◌≡◌, None, refl, subst}
use Rattle.bc_seats.proofs.Knowing.{waited_not}
use Rattle.bc_machine.specs.declared.part.CorePart.{CorePart}
use Rattle.bc_machine.specs.World.{StandsAs}
use Rattle.bc_hand.specs.Seats.{core, world}
use Rattle.bc_hand.proofs.Lends.{works_took_spine, not_plain, only_spine}
use Rattle.bc_hand.proofs.lend.borrow_spine.Goals as goal

pub returns-in-Some-clause-waited : goal.returns-in-Some-clause-waited
returns-in-Some-clause-waited g c = waited_not (core g.C.Disk.facts g.B.Disk.facts) c.args.seat.now
    c.args.seat.now refl refl refl refl refl refl

pub unreachable-requires : goal.unreachable-requires
unreachable-requires g c = only_spine g.C.Disk.facts g.B.Disk.facts c.take-2.result
    (world g.C.Disk.facts g.B.Disk.facts c.take-2.new.seat) c.take-2.ensures.value
    (not_plain g.C.Disk.facts g.B.Disk.facts c.args.parts.now c.args.seat.now c.take-2.new.seat
    c.args.hand.now c.requires.works c.take-2.ensures.waited c.requires.cached) c.in_default-take.not-Spine

pub returns-clause-lent : goal.returns-clause-lent
returns-clause-lent g c =
    let no : c.args.hand.now.spine ≡ None = cc in
    let value = subst (λ (p : CorePart g.row.C.Denot g.row.B.Denot). StandsAs g.C.Disk.facts g.B.Disk.facts 0 p
    (world g.C.Disk.facts g.B.Disk.facts c.take-2.new.seat)) c.in-Spine.is c.take-2.ensures.value in
    works_took_spine g.C.Disk.facts g.B.Disk.facts c.args.parts.now c.args.seat.now c.take-2.new.seat
    c.args.hand.now c.in-Spine.spine c.requires.works no (c.requires.order no) c.take-2.ensures.seat
    c.take-2.ensures.waited c.take-2.ensures.parts value.1
