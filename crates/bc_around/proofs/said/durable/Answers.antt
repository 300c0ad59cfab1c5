use Rattle.bc_flush.proofs.of_bc_deed.May.{did_nothing, none_changed, works_kept}
use Rattle.bc_flush.proofs.of_bc_entry.CacheDevice.{cached_by}
use Rattle.bc_around.proofs.Last.{may_acknowledge}
use Rattle.bc_around.proofs.said.durable.Goals as goal

pub returns-in-Some-clause-err : goal.returns-in-Some-clause-err
returns-in-Some-clause-err g c = did_nothing g.C.Disk.facts g.B.Disk.facts c.args.seat.now
    c.requires.works.seat

pub commit-requires-clause-may : goal.commit-requires-clause-may
commit-requires-clause-may g c = may_acknowledge g.C.Disk.facts g.B.Disk.facts c.args.seat.now
    c.args.of c.args.first c.args.count c.requires.works.seat c.requires.line
    (cached_by g.C.Disk.facts g.B.Disk.facts c.args.parts.now c.args.seat.now
    c.requires.works.run c.requires.cached) c.requires.exclusive c.requires.wrote c.requires.last
    c.requires.durable

pub returns-in-Ok-clause-works : goal.returns-in-Ok-clause-works
returns-in-Ok-clause-works g c = works_kept g.C.Disk.facts g.B.Disk.facts c.args.parts.now
    c.args.seat.now c.commit.new.seat c.args.hand.now _ c.requires.works c.in-Ok.ensures.ok.seat
    c.in-Ok.ensures.kept none_changed

pub returns-in-Err-clause-works : goal.returns-in-Err-clause-works
returns-in-Err-clause-works g c = works_kept g.C.Disk.facts g.B.Disk.facts c.args.parts.now
    c.args.seat.now c.commit.new.seat c.args.hand.now _ c.requires.works c.in-Err.ensures.err.seat
    c.in-Err.ensures.kept none_changed
