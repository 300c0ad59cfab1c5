use Rattle.std.proofs.Common.{◌≡◌, None, refl, subst}
use Rattle.bc_seats.proofs.Knowing.{waited_not}
use Rattle.bc_machine.specs.declared.part.CorePart.{CorePart}
use Rattle.bc_machine.specs.World.{StandsAs}
use Rattle.bc_hand.specs.Seats.{core, world}
use Rattle.bc_hand.proofs.Lends.{works_took_leaves, not_plain, only_leaves}
use Rattle.bc_hand.proofs.lend.borrow_leaves.Goals as goal

pub returns-in-Some-clause-waited : goal.returns-in-Some-clause-waited
returns-in-Some-clause-waited g c = waited_not (core g.C.Disk.facts g.B.Disk.facts) c.args.seat.now
    c.args.seat.now refl refl refl refl refl refl

pub unreachable-requires : goal.unreachable-requires
unreachable-requires g c = only_leaves g.C.Disk.facts g.B.Disk.facts c.args.part c.take-2.result
    (world g.C.Disk.facts g.B.Disk.facts c.take-2.new.seat) c.requires.part.0 c.take-2.ensures.value
    (not_plain g.C.Disk.facts g.B.Disk.facts c.args.parts.now c.args.seat.now c.take-2.new.seat
    c.args.hand.now c.requires.works c.take-2.ensures.waited c.requires.cached) c.in_default-take.not-Leaves

pub returns-clause-lent : goal.returns-clause-lent
returns-clause-lent g c =
    let no : c.args.hand.now.leaves ≡ None = cc in
    let value = subst (λ (p : CorePart g.row.C.Denot g.row.B.Denot). StandsAs g.C.Disk.facts g.B.Disk.facts c.args.part p
    (world g.C.Disk.facts g.B.Disk.facts c.take-2.new.seat)) c.in-Leaves.is c.take-2.ensures.value in
    works_took_leaves g.C.Disk.facts g.B.Disk.facts c.args.parts.now c.args.seat.now c.take-2.new.seat
    c.args.hand.now (record { part = c.args.part; cache = c.in-Leaves.cache }) c.requires.works no (c.requires.order no) c.take-2.ensures.seat
    c.take-2.ensures.waited c.take-2.ensures.parts value.0 value.1
