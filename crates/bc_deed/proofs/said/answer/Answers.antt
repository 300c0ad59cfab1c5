use Rattle.std.proofs.Common.{sym, subst}
use Rattle.bc_events.specs.declared.event.Deed.TheVariants as deed
use Rattle.bc_hand.specs.Seats.{MayDo}
use Rattle.bc_deed.proofs.May.{plain_by, may_answer, none_changed, works_kept}
use Rattle.bc_deed.proofs.said.answer.Goals as goal

pub commit-requires-clause-may : goal.commit-requires-clause-may
commit-requires-clause-may g c = let v = c.args.seat.now in
    subst (λ values. MayDo g.C.Disk.facts g.B.Disk.facts v (deed.Answer c.args.of c.args.first values))
    (sym c.in-Ok.ensures)
    (may_answer g.C.Disk.facts g.B.Disk.facts v c.args.of c.args.first c.args.values.now
    c.requires.works.seat c.requires.line
    (plain_by g.C.Disk.facts g.B.Disk.facts c.args.parts.now v c.requires.works.run c.requires.plain) c.requires.looked c.requires.covered c.requires.read)

pub returns-in-Ok-commit-clause-works : goal.returns-in-Ok-commit-clause-works
returns-in-Ok-commit-clause-works g c = works_kept g.C.Disk.facts g.B.Disk.facts c.args.parts.now
    c.args.seat.now c.commit.new.seat c.args.hand.now _ c.requires.works c.in-Ok-commit.ensures.ok.seat
    c.in-Ok-commit.ensures.kept none_changed

pub returns-in-Err-clause-works : goal.returns-in-Err-clause-works
returns-in-Err-clause-works g c = works_kept g.C.Disk.facts g.B.Disk.facts c.args.parts.now
    c.args.seat.now c.commit.new.seat c.args.hand.now _ c.requires.works c.in-Err.ensures.err.seat
    c.in-Err.ensures.kept none_changed
