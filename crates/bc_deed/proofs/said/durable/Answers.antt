use Rattle.bc_deed.proofs.May.{did_nothing, plain_by, may_acknowledge, none_changed, works_kept}
use Rattle.bc_deed.proofs.said.durable.Goals as goal

pub returns-in-Some-clause-err : goal.returns-in-Some-clause-err
returns-in-Some-clause-err g c = did_nothing g.C.Disk.facts g.B.Disk.facts c.args.seat.now
    c.requires.works.seat

pub commit-requires-clause-may : goal.commit-requires-clause-may
commit-requires-clause-may g c = let v = c.args.seat.now in
    may_acknowledge g.C.Disk.facts g.B.Disk.facts v c.args.of c.args.first c.args.count c.requires.works.seat c.requires.line
    (plain_by g.C.Disk.facts g.B.Disk.facts c.args.parts.now v c.requires.works.run c.requires.plain) c.requires.exclusive c.requires.wrote c.requires.last

pub returns-in-Ok-clause-works : goal.returns-in-Ok-clause-works
returns-in-Ok-clause-works g c = works_kept g.C.Disk.facts g.B.Disk.facts c.args.parts.now c.args.seat.now
    c.commit.new.seat c.args.hand.now _ c.requires.works c.in-Ok.ensures.ok.seat c.in-Ok.ensures.kept
    none_changed

pub returns-in-Err-clause-works : goal.returns-in-Err-clause-works
returns-in-Err-clause-works g c = works_kept g.C.Disk.facts g.B.Disk.facts c.args.parts.now c.args.seat.now
    c.commit.new.seat c.args.hand.now _ c.requires.works c.in-Err.ensures.err.seat c.in-Err.ensures.kept
    none_changed
