use Rattle.std.proofs.Common.{◌∷◌, [], ap, sym, ◌∙◌, subst}
use Rattle.std.specs.Prelude.{fold}
use Rattle.bc_parts.specs.Machine.{StandFrom}
use Rattle.bc_hand.specs.bc_machine.declared.part.CorePart.{CorePart}
use Rattle.bc_parts.specs.Seat.{Run}
use Rattle.bc_hand.specs.bc_machine.World.{opening, after, IsBacking}
use Rattle.bc_hand.specs.Seats.{core}
use Rattle.bc_deed.proofs.Ending.{six, is_backing}
use Rattle.bc_deed.proofs.run.end.Goals as goal

pub backing_in-requires : goal.backing_in-requires
backing_in-requires g c =
    let parts = six c.close-parts.result.0.items (c.close-parts.ensures.count ∙ c.requires.count) in
    let stand = subst (StandFrom (core g.C.Disk.facts g.B.Disk.facts)
    (fold after (opening g.C.Disk.facts g.B.Disk.facts c.args.parts.run.start) c.args.seat.seen) 0)
    parts.6 c.close-parts.ensures.stand in
    let backing = is_backing g.C.Disk.facts g.B.Disk.facts parts.5 _ stand.1.1.1.1.1.0 in (
      backing.0,
      (
        parts.0,
        parts.1,
        parts.2,
        parts.3,
        parts.4,
        parts.6
            ∙ ap (λ (p : CorePart _ _). parts.0 ∷ parts.1 ∷ parts.2 ∷ parts.3 ∷ parts.4 ∷ p ∷ []) backing.1,
      ),
    )

pub returns-clause-backing : goal.returns-clause-backing
returns-clause-backing g c =
    let has = c.backing_in.ensures in
    let stand = subst (StandFrom (core g.C.Disk.facts g.B.Disk.facts)
    (fold after (opening g.C.Disk.facts g.B.Disk.facts c.args.parts.run.start) c.args.seat.seen) 0)
    has.5 c.close-parts.ensures.stand in
    subst (λ (r : Run (CorePart g.row.C.Denot g.row.B.Denot)).
    IsBacking {C = g.row.C.Denot} g.C.Disk.facts g.B.Disk.facts c.backing_in.result
    (fold after (opening g.C.Disk.facts g.B.Disk.facts r.start) c.args.seat.seen))
    (sym c.requires.run) stand.1.1.1.1.1.0.1
