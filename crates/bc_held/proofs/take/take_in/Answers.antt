use Rattle.std.proofs.Common.{refl, ap}
use Rattle.bc_alloc.specs.declared.purpose.Purpose.{Purpose}
use Rattle.bc_events.specs.declared.event.Deed.TheVariants as deed
use Rattle.bc_held.proofs.Doing.{buckets_as, holds_as, may_as, new_as, took_as, vacant_as}
use Rattle.bc_held.proofs.Keeping.{keeps_deed, keeps_waited}
use Rattle.bc_place.proofs.Keeping.{keeps_deed as places_deed, keeps_waited as places_waited}
use Rattle.bc_place.proofs.Knowing.{buckets_since}
use Rattle.bc_place.proofs.Storing.{cached_by}
use Rattle.bc_place.proofs.of_bc_deed.May.{did_nothing}
use Rattle.bc_place.specs.bc_hand.Seats.{world}
use Rattle.bc_held.proofs.take.take_in.Goals as goal

pub returns-in-None-clause-ok : goal.returns-in-None-clause-ok
returns-in-None-clause-ok g c = record {
  none_is = ap (λ (p : Purpose). record { purpose = p; none_len = 0; own_len = 0 })
      c.list.ensures;
  empty = c.in-None.ensures.none;
  same = refl;
  did = did_nothing g.C.Disk.facts g.B.Disk.facts c.args.seat.now c.requires.seat;
  stood = c.requires.buckets;
}

pub commit-requires-clause-may : goal.commit-requires-clause-may
commit-requires-clause-may g c = may_as g.C.Disk.facts g.B.Disk.facts c.args.seat.now c.requires.seat
    (cached_by g.C.Disk.facts g.B.Disk.facts c.args.parts.now c.args.seat.now c.requires.run
    c.requires.cached) c.requires.holds c.args.part.now c.requires.buckets c.args.before
    c.requires.before c.in-Some.next c.args.want c.in-Some.ensures.some
    c.saturating_sub-bucket.result c.saturating_sub-bucket.ensures

pub returns-in-Err-clause-buckets : goal.returns-in-Err-clause-buckets
returns-in-Err-clause-buckets g c = buckets_since g.C.Disk.facts g.B.Disk.facts c.args.seat.now
    c.requires.seat c.requires.holds c.args.part.now c.requires.buckets
    (world g.C.Disk.facts g.B.Disk.facts c.commit.new.seat) c.in-Err.ensures.err.is.since

pub returns-in-Err-clause-keeps : goal.returns-in-Err-clause-keeps
returns-in-Err-clause-keeps g c = keeps_waited g.C.Disk.facts g.B.Disk.facts _ c.args.seat.now
    c.commit.new.seat c.requires.seat c.in-Err.ensures.err.is

pub returns-in-Err-clause-places : goal.returns-in-Err-clause-places
returns-in-Err-clause-places g c = places_waited g.C.Disk.facts g.B.Disk.facts c.args.seat.now
    c.commit.new.seat c.requires.seat c.in-Err.ensures.err.is

pub returns-clause-buckets : goal.returns-clause-buckets
returns-clause-buckets g c = buckets_as g.C.Disk.facts g.B.Disk.facts c.args.seat.now c.requires.seat
    (cached_by g.C.Disk.facts g.B.Disk.facts c.args.parts.now c.args.seat.now c.requires.run
    c.requires.cached) c.requires.holds c.args.part.now c.requires.buckets c.args.before
    c.requires.before c.in-Some.next c.args.want c.in-Some.ensures.some
    c.saturating_sub-bucket.result c.saturating_sub-bucket.ensures c.commit.new.seat
    c.in_default.ensures.ok c.hold_next.new.part c.hold_next.ensures

pub returns-clause-ok : goal.returns-clause-ok
returns-clause-ok g c = took_as g.C.Disk.facts g.B.Disk.facts c.args.seat.now c.requires.seat
    (cached_by g.C.Disk.facts g.B.Disk.facts c.args.parts.now c.args.seat.now c.requires.run
    c.requires.cached) c.requires.holds c.args.part.now c.requires.buckets c.args.before
    c.requires.before c.in-Some.next c.args.want c.in-Some.ensures.some
    c.saturating_sub-bucket.result c.saturating_sub-bucket.ensures c.commit.new.seat
    c.in_default.ensures.ok c.hold_next.new.part c.hold_next.ensures

pub returns-clause-knows : goal.returns-clause-knows
returns-clause-knows g c = holds_as g.C.Disk.facts g.B.Disk.facts c.args.seat.now c.requires.seat
    (cached_by g.C.Disk.facts g.B.Disk.facts c.args.parts.now c.args.seat.now c.requires.run
    c.requires.cached) c.requires.holds c.args.part.now c.requires.buckets c.args.before
    c.requires.before c.in-Some.next c.args.want c.in-Some.ensures.some
    c.saturating_sub-bucket.result c.saturating_sub-bucket.ensures c.commit.new.seat
    c.in_default.ensures.ok c.hold_next.new.part c.hold_next.ensures

pub returns-clause-vacant : goal.returns-clause-vacant
returns-clause-vacant g c = vacant_as g.C.Disk.facts g.B.Disk.facts c.args.seat.now c.requires.seat
    (cached_by g.C.Disk.facts g.B.Disk.facts c.args.parts.now c.args.seat.now c.requires.run
    c.requires.cached) c.requires.holds c.args.part.now c.requires.buckets c.args.before
    c.requires.before c.in-Some.next c.args.want c.in-Some.ensures.some
    c.saturating_sub-bucket.result c.saturating_sub-bucket.ensures c.commit.new.seat
    c.in_default.ensures.ok c.hold_next.new.part c.hold_next.ensures

pub returns-clause-other : goal.returns-clause-other
returns-clause-other g c = new_as g.C.Disk.facts g.B.Disk.facts c.args.seat.now c.requires.seat
    (cached_by g.C.Disk.facts g.B.Disk.facts c.args.parts.now c.args.seat.now c.requires.run
    c.requires.cached) c.requires.holds c.args.part.now c.requires.buckets c.args.before
    c.requires.before c.in-Some.next c.args.want c.in-Some.ensures.some
    c.saturating_sub-bucket.result c.saturating_sub-bucket.ensures c.commit.new.seat
    c.in_default.ensures.ok c.hold_next.new.part c.hold_next.ensures

pub returns-clause-keeps : goal.returns-clause-keeps
returns-clause-keeps g c = keeps_deed g.C.Disk.facts g.B.Disk.facts c.args.seat.now
    c.commit.new.seat (deed.Take c.in-Some.next.purpose c.saturating_sub-bucket.result) c.requires.seat
    (λ q. refl) refl c.in_default.ensures.ok

pub returns-clause-places : goal.returns-clause-places
returns-clause-places g c = places_deed g.C.Disk.facts g.B.Disk.facts c.args.seat.now
    c.commit.new.seat (deed.Take c.in-Some.next.purpose c.saturating_sub-bucket.result) c.requires.seat refl
    c.in_default.ensures.ok
