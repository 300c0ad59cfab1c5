use Rattle.bc_deed.specs.bc_hand.Seats.{world}
use Rattle.bc_place.proofs.Cutting.{next_up_to}
use Rattle.bc_place.proofs.Keeping.{is_new, keeps_pin, keeps_waited}
use Rattle.bc_place.proofs.Knowing.{buckets_since}
use Rattle.bc_place.proofs.Steps.{may_cut, owns_after, pinned_after}
use Rattle.bc_place.proofs.Storing.{cached_by}
use Rattle.bc_place.proofs.pin.cut_in.Goals as goal

pub commit-requires-clause-may : goal.commit-requires-clause-may
commit-requires-clause-may g c = may_cut g.C.Disk.facts g.B.Disk.facts c.args.seat.now
    c.requires.seat (cached_by g.C.Disk.facts g.B.Disk.facts c.args.parts.now c.args.seat.now
    c.requires.run c.requires.cached) c.requires.holds c.args.part.now c.requires.buckets
    c.args.count c.requires.count c.next_place-full.result.0 c.next_place-full.result.1
    c.next_place-full.ensures

pub returns-in-Err-clause-buckets : goal.returns-in-Err-clause-buckets
returns-in-Err-clause-buckets g c = buckets_since g.C.Disk.facts g.B.Disk.facts c.args.seat.now
    c.requires.seat c.requires.holds c.args.part.now c.requires.buckets
    (world g.C.Disk.facts g.B.Disk.facts c.commit.new.seat) c.in-Err.ensures.err.is.since

pub returns-in-Err-clause-keeps : goal.returns-in-Err-clause-keeps
returns-in-Err-clause-keeps g c = keeps_waited g.C.Disk.facts g.B.Disk.facts c.args.seat.now
    c.commit.new.seat c.requires.seat c.in-Err.ensures.err.is

pub returns-clause-buckets : goal.returns-clause-buckets
returns-clause-buckets g c = pinned_after g.C.Disk.facts g.B.Disk.facts c.args.seat.now
    c.requires.seat (cached_by g.C.Disk.facts g.B.Disk.facts c.args.parts.now c.args.seat.now
    c.requires.run c.requires.cached) c.requires.holds c.args.part.now c.requires.buckets
    c.args.count c.requires.count c.next_place-full.result.0 c.next_place-full.result.1
    c.next_place-full.ensures c.commit.new.seat c.in_default.ensures.ok c.cut_first.new.part
    c.cut_first.ensures

pub returns-clause-ok : goal.returns-clause-ok
returns-clause-ok g c = record {
  opened = c.next_place-full.ensures.opened;
  full = c.next_place-full.result.1;
  is = next_up_to c.args.part.now c.args.count c.next_place-full.result.0
      c.next_place-full.result.1 c.requires.count c.next_place-full.ensures;
  did = c.in_default.ensures.ok;
}

pub returns-clause-knows : goal.returns-clause-knows
returns-clause-knows g c = owns_after g.C.Disk.facts g.B.Disk.facts c.args.seat.now
    c.requires.seat (cached_by g.C.Disk.facts g.B.Disk.facts c.args.parts.now c.args.seat.now
    c.requires.run c.requires.cached) c.requires.holds c.args.part.now c.requires.buckets
    c.args.count c.requires.count c.next_place-full.result.0 c.next_place-full.result.1
    c.next_place-full.ensures c.commit.new.seat c.in_default.ensures.ok

pub returns-clause-apart : goal.returns-clause-apart
returns-clause-apart g c = is_new g.C.Disk.facts g.B.Disk.facts c.args.seat.now
    c.commit.new.seat c.next_place-full.result.0 c.next_place-full.result.1 c.requires.seat
    c.in_default.ensures.ok

pub returns-clause-keeps : goal.returns-clause-keeps
returns-clause-keeps g c = keeps_pin g.C.Disk.facts g.B.Disk.facts c.args.seat.now
    c.commit.new.seat c.next_place-full.result.0.ptr.offset c.next_place-full.result.0.count
    c.next_place-full.result.1 c.requires.seat c.in_default.ensures.ok
