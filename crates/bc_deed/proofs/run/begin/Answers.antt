use Rattle.std.proofs.Common.{List, sym, ◌∙◌, subst}
use Rattle.bc_parts.specs.Machine.{StandFrom}
use Rattle.bc_hand.specs.bc_machine.declared.part.CorePart.{CorePart}
use Rattle.bc_hand.specs.bc_machine.World.{opening}
use Rattle.bc_hand.specs.Seats.{core}
use Rattle.bc_hand.specs.bc_machine.declared.part.CorePart.TheVariants as part
use Rattle.bc_deed.proofs.Ending.{six_pushed, begins}
use Rattle.bc_deed.proofs.run.begin.Goals as goal

pub backing_in-requires : goal.backing_in-requires
backing_in-requires g c = (
  c.args.backing,
  (
    part.Absent,
    part.Flight c.in-Ok.flight,
    part.Absent,
    part.Absent,
    part.Absent,
    c.in-Err.ensures.err.0
        ∙ six_pushed _ _ _ _ _ _ _ part.Absent (part.Flight c.in-Ok.flight) part.Absent part.Absent
        part.Absent (part.Backing c.args.backing) c.in-Ok-with_capacity.ensures.items
        c.push_reserved.ensures.items c.push_reserved-2.ensures.items c.push_reserved-3.ensures.items
        c.push_reserved-4.ensures.items c.push_reserved-5.ensures.items c.push_reserved-6.ensures.items,
  ),
)

pub new-requires-3-clause-stand : goal.new-requires-3-clause-stand
new-requires-3-clause-stand g c = let f = c.in-Ok.flight in let b = c.args.backing in
    subst (λ (ps : List (CorePart g.row.C.Denot g.row.B.Denot)).
    StandFrom (core g.C.Disk.facts g.B.Disk.facts) (opening g.C.Disk.facts g.B.Disk.facts ps) 0 ps)
    (sym (six_pushed _ _ _ _ _ _ _ part.Absent (part.Flight f) part.Absent part.Absent
    part.Absent (part.Backing b) c.in-Ok-with_capacity.ensures.items
    c.push_reserved.ensures.items c.push_reserved-2.ensures.items c.push_reserved-3.ensures.items
    c.push_reserved-4.ensures.items c.push_reserved-5.ensures.items c.push_reserved-6.ensures.items))
    (begins g.C.Disk.facts g.B.Disk.facts f b c.in-Ok.ensures.0 c.in-Ok.ensures.1
    c.in-Ok.ensures.2 c.in-Ok.ensures.3
    c.requires.backing c.requires.inside)
