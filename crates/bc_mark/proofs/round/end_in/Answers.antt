use Rattle.std.proofs.Common.{refl}
use Rattle.bc_events.specs.declared.event.Deed.TheVariants as deed
use Rattle.bc_events.specs.declared.event.MarkForm.TheVariants as mark
use Rattle.bc_mark.proofs.Doing.{buckets_changed, may_end, stand_ended}
use Rattle.bc_place.proofs.Keeping.{keeps_deed, keeps_waited}
use Rattle.bc_place.proofs.Knowing.{buckets_since}
use Rattle.bc_place.proofs.Storing.{cached_by}
use Rattle.bc_place.proofs.of_bc_deed.May.{kept_as}
use Rattle.bc_place.specs.bc_hand.Seats.{world}
use Rattle.bc_mark.proofs.round.end_in.Goals as goal

pub commit-requires-clause-may : goal.commit-requires-clause-may
commit-requires-clause-may g c = may_end g.C.Disk.facts g.B.Disk.facts c.args.seat.now
    c.requires.seat (cached_by g.C.Disk.facts g.B.Disk.facts c.args.parts.now c.args.seat.now
    c.requires.run c.requires.cached) c.requires.holds c.args.part.now c.requires.buckets
    c.requires.going c.requires.may

pub returns-in-Err-clause-buckets : goal.returns-in-Err-clause-buckets
returns-in-Err-clause-buckets g c = buckets_since g.C.Disk.facts g.B.Disk.facts c.args.seat.now
    c.requires.seat c.requires.holds c.args.part.now c.requires.buckets
    (world g.C.Disk.facts g.B.Disk.facts c.commit.new.seat) c.in-Err.ensures.err.is.since

pub returns-in-Err-clause-keeps : goal.returns-in-Err-clause-keeps
returns-in-Err-clause-keeps g c = keeps_waited g.C.Disk.facts g.B.Disk.facts c.args.seat.now
    c.commit.new.seat c.requires.seat c.in-Err.ensures.err.is

pub returns-clause-kept : goal.returns-clause-kept
returns-clause-kept g c = kept_as g.C.Disk.facts g.B.Disk.facts c.args.seat.now c.commit.new.seat _
    _ buckets_changed c.commit.ensures.kept

pub returns-clause-buckets : goal.returns-clause-buckets
returns-clause-buckets g c = stand_ended g.C.Disk.facts g.B.Disk.facts c.args.seat.now
    c.requires.seat (cached_by g.C.Disk.facts g.B.Disk.facts c.args.parts.now c.args.seat.now
    c.requires.run c.requires.cached) c.requires.holds c.args.part.now c.requires.buckets c.requires.going c.requires.may
    c.commit.new.seat c.in_default.ensures.ok c.end_part.new.part c.end_part.ensures

pub returns-clause-keeps : goal.returns-clause-keeps
returns-clause-keeps g c = keeps_deed g.C.Disk.facts g.B.Disk.facts c.args.seat.now
    c.commit.new.seat (deed.Mark mark.End) c.requires.seat refl c.in_default.ensures.ok
