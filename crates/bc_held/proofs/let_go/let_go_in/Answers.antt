use Rattle.bc_held.proofs.Doing.{gone_as, keeps_as, may_go_as, places_held, went_as}
use Rattle.bc_held.proofs.Keeping.{keeps_waited}
use Rattle.bc_place.proofs.Keeping.{keeps_waited as places_waited}
use Rattle.bc_place.proofs.Knowing.{buckets_since}
use Rattle.bc_place.proofs.Storing.{cached_by}
use Rattle.bc_place.specs.bc_hand.Seats.{world}
use Rattle.bc_held.proofs.let_go.let_go_in.Goals as goal

pub commit-requires-clause-may : goal.commit-requires-clause-may
commit-requires-clause-may g c = may_go_as g.C.Disk.facts g.B.Disk.facts c.args.seat.now
    c.requires.seat (cached_by g.C.Disk.facts g.B.Disk.facts c.args.parts.now c.args.seat.now
    c.requires.run c.requires.cached) c.requires.holds c.args.part.now c.requires.buckets
    c.args.before c.requires.before c.args.bucket c.requires.held c.requires.tree c.requires.vacant
    c.saturating_sub-number.result c.saturating_sub-number.ensures c.takes_back-back.result
    c.takes_back-back.ensures

pub returns-in-Err-clause-buckets : goal.returns-in-Err-clause-buckets
returns-in-Err-clause-buckets g c = buckets_since g.C.Disk.facts g.B.Disk.facts c.args.seat.now
    c.requires.seat c.requires.holds c.args.part.now c.requires.buckets
    (world g.C.Disk.facts g.B.Disk.facts c.commit.new.seat) c.in-Err.ensures.err.is.since

pub returns-in-Err-clause-keeps : goal.returns-in-Err-clause-keeps
returns-in-Err-clause-keeps g c = keeps_waited g.C.Disk.facts g.B.Disk.facts _ c.args.seat.now
    c.commit.new.seat c.requires.seat c.in-Err.ensures.err.is

pub returns-in-Err-clause-places : goal.returns-in-Err-clause-places
returns-in-Err-clause-places g c = places_waited g.C.Disk.facts g.B.Disk.facts c.args.seat.now
    c.commit.new.seat c.requires.seat c.in-Err.ensures.err.is

pub returns-clause-places : goal.returns-clause-places
returns-clause-places g c = places_held g.C.Disk.facts g.B.Disk.facts c.args.seat.now
    c.commit.new.seat c.saturating_sub-number.result c.takes_back-back.result c.requires.seat c.in_default.ensures.ok

pub returns-clause-buckets : goal.returns-clause-buckets
returns-clause-buckets g c = gone_as g.C.Disk.facts g.B.Disk.facts c.args.seat.now c.requires.seat
    (cached_by g.C.Disk.facts g.B.Disk.facts c.args.parts.now c.args.seat.now c.requires.run
    c.requires.cached) c.requires.holds c.args.part.now c.requires.buckets c.args.before
    c.requires.before c.args.bucket c.requires.held c.requires.tree c.requires.vacant
    c.saturating_sub-number.result c.saturating_sub-number.ensures c.takes_back-back.result
    c.takes_back-back.ensures c.commit.new.seat
    c.in_default.ensures.ok c.put_down.new.part c.put_down.ensures.goes

pub returns-clause-ok : goal.returns-clause-ok
returns-clause-ok g c = went_as g.C.Disk.facts g.B.Disk.facts c.args.seat.now c.requires.seat
    (cached_by g.C.Disk.facts g.B.Disk.facts c.args.parts.now c.args.seat.now c.requires.run
    c.requires.cached) c.requires.holds c.args.part.now c.requires.buckets c.args.before
    c.requires.before c.args.bucket c.requires.held c.requires.tree c.requires.vacant
    c.saturating_sub-number.result c.saturating_sub-number.ensures c.takes_back-back.result
    c.takes_back-back.ensures c.commit.new.seat
    c.in_default.ensures.ok c.put_down.new.part c.put_down.ensures.goes
    c.put_down.ensures.rest

pub returns-clause-keeps : goal.returns-clause-keeps
returns-clause-keeps g c = keeps_as g.C.Disk.facts g.B.Disk.facts c.args.seat.now c.requires.seat
    (cached_by g.C.Disk.facts g.B.Disk.facts c.args.parts.now c.args.seat.now c.requires.run
    c.requires.cached) c.requires.holds c.args.part.now c.requires.buckets c.args.before
    c.requires.before c.args.bucket c.requires.held c.requires.tree c.requires.vacant
    c.saturating_sub-number.result c.saturating_sub-number.ensures c.takes_back-back.result
    c.takes_back-back.ensures c.commit.new.seat
    c.in_default.ensures.ok c.put_down.new.part c.put_down.ensures.goes
