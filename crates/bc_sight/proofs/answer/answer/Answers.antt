use Rattle.std.proofs.Common.{ap, sym, subst, ◌∙◌}
use Rattle.bc_events.specs.declared.event.Deed.TheVariants as deed
use Rattle.bc_deed.specs.bc_hand.Seats.{MayDo}
use Rattle.bc_looks.specs.bc_machine.World.{are_plain}
use Rattle.bc_looks.specs.bc_machine.declared.part.CorePart.{CorePart}
use Rattle.bc_parts.specs.Seat.{Run}
use Rattle.bc_deed.proofs.May.{did_nothing, none_changed, works_kept}
use Rattle.bc_sight.proofs.Answering.{may_answer_cached}
use Rattle.bc_sight.proofs.answer.answer.Goals as goal

pub returns-in-Some-clause-err : goal.returns-in-Some-clause-err
returns-in-Some-clause-err g c = did_nothing g.C.Disk.facts g.B.Disk.facts c.args.seat.now
    c.requires.works.seat

pub returns-in_default-copy-clause-err : goal.returns-in_default-copy-clause-err
returns-in_default-copy-clause-err g c = did_nothing g.C.Disk.facts g.B.Disk.facts c.args.seat.now
    c.requires.works.seat

pub commit-requires-clause-may : goal.commit-requires-clause-may
commit-requires-clause-may g c = let v = c.args.seat.now in
    let k = c.requires.known in
    subst (λ values. MayDo g.C.Disk.facts g.B.Disk.facts v (deed.Answer c.args.of c.args.first values))
    (sym c.in-Ok.ensures)
    (may_answer_cached g.C.Disk.facts g.B.Disk.facts c.args.parts.now v c.args.hand.now c.requires.works
    (ap (λ (r : Run (CorePart g.row.C.Denot g.row.B.Denot)). are_plain g.C.Disk.facts g.B.Disk.facts r.start)
    c.requires.works.run ∙ c.requires.cached) c.args.of c.requires.line c.args.first c.args.values.now
    c.requires.covered k.0 k.1 k.2 k.4 k.3 k.5 k.6)

pub returns-in-Ok-commit-clause-works : goal.returns-in-Ok-commit-clause-works
returns-in-Ok-commit-clause-works g c = works_kept g.C.Disk.facts g.B.Disk.facts c.args.parts.now
    c.args.seat.now c.commit.new.seat c.args.hand.now _ c.requires.works c.in-Ok-commit.ensures.ok.seat
    c.in-Ok-commit.ensures.kept none_changed

pub returns-in-Err-clause-works : goal.returns-in-Err-clause-works
returns-in-Err-clause-works g c = works_kept g.C.Disk.facts g.B.Disk.facts c.args.parts.now
    c.args.seat.now c.commit.new.seat c.args.hand.now _ c.requires.works c.in-Err.ensures.err.seat
    c.in-Err.ensures.kept none_changed
