use Rattle.bc_deed.proofs.May.{did_nothing, may_begin_line, none_changed, works_kept}
use Rattle.bc_deed.proofs.said.line_from.Goals as goal

pub returns-in-Some-clause-err : goal.returns-in-Some-clause-err
returns-in-Some-clause-err g c = did_nothing g.C.Disk.facts g.B.Disk.facts c.args.seat.now
    c.requires.works.seat

pub commit-requires-clause-may : goal.commit-requires-clause-may
commit-requires-clause-may g c = let v = c.args.seat.now in
    may_begin_line g.C.Disk.facts g.B.Disk.facts v c.args.of c.requires.works.seat c.requires.line

pub returns-in-Ok-clause-works : goal.returns-in-Ok-clause-works
returns-in-Ok-clause-works g c = works_kept g.C.Disk.facts g.B.Disk.facts c.args.parts.now c.args.seat.now
    c.commit.new.seat c.args.hand.now _ c.requires.works c.in-Ok.ensures.ok.seat c.in-Ok.ensures.kept
    none_changed

pub returns-in-Err-clause-works : goal.returns-in-Err-clause-works
returns-in-Err-clause-works g c = works_kept g.C.Disk.facts g.B.Disk.facts c.args.parts.now c.args.seat.now
    c.commit.new.seat c.args.hand.now _ c.requires.works c.in-Err.ensures.err.seat c.in-Err.ensures.kept
    none_changed
