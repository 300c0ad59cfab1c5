use Rattle.bc_deed.proofs.May.{kept_as}
use Rattle.bc_place.proofs.Keeping.{has_unpinned}
use Rattle.bc_place.proofs.Placing.{buckets_changed}
use Rattle.bc_place.proofs.Steps.{may_let_go, unpinned_after}
use Rattle.bc_place.proofs.Storing.{cached_by}
use Rattle.bc_place.proofs.unpin.unpin_in.Goals as goal

pub commit-requires-clause-may : goal.commit-requires-clause-may
commit-requires-clause-may g c = may_let_go g.C.Disk.facts g.B.Disk.facts c.args.seat.now
    c.requires.seat (cached_by g.C.Disk.facts g.B.Disk.facts c.args.parts.now c.args.seat.now
    c.requires.run c.requires.cached) c.requires.holds c.args.part.now c.requires.buckets
    c.args.place c.requires.own

pub returns-clause-kept : goal.returns-clause-kept
returns-clause-kept g c = kept_as g.C.Disk.facts g.B.Disk.facts c.args.seat.now c.commit.new.seat _ _
    buckets_changed c.commit.ensures.kept

pub returns-clause-buckets : goal.returns-clause-buckets
returns-clause-buckets g c = unpinned_after g.C.Disk.facts g.B.Disk.facts c.args.seat.now
    c.requires.seat (cached_by g.C.Disk.facts g.B.Disk.facts c.args.parts.now c.args.seat.now
    c.requires.run c.requires.cached) c.requires.holds c.args.part.now c.requires.buckets
    c.args.place c.requires.own c.commit.new.seat c.in-Ok.ensures.ok c.let_go.new.part
    c.let_go.ensures

pub returns-clause-did : goal.returns-clause-did
returns-clause-did g c = has_unpinned g.C.Disk.facts g.B.Disk.facts c.args.seat.now
    c.commit.new.seat c.args.place c.requires.seat c.in-Ok.ensures.ok
