use Rattle.std.proofs.Common.{None, refl}
use Rattle.bc_events.specs.declared.event.Deed.TheVariants.{Raise}
use Rattle.bc_held.proofs.Keeping.{keeps_deed as held_deed, keeps_waited as held_waited}
use Rattle.bc_raise.proofs.of_bc_deed.May.{kept_as}
use Rattle.bc_held.proofs.of_bc_place.Keeping.{keeps_waited}
use Rattle.bc_held.proofs.of_bc_place.Knowing.{buckets_since}
use Rattle.bc_held.proofs.of_bc_place.Storing.{cached_by}
use Rattle.bc_held.specs.bc_hand.Seats.{world}
use Rattle.bc_raise.proofs.Steps.{buckets_changed, did_raise, keeps_raise, may_do, raised_after}
use Rattle.bc_raise.proofs.raise.raise_in.Goals as goal

pub commit-requires-clause-may : goal.commit-requires-clause-may
commit-requires-clause-may g c = may_do g.C.Disk.facts g.B.Disk.facts c.args.seat.now
    c.requires.seat (cached_by g.C.Disk.facts g.B.Disk.facts c.args.parts.now c.args.seat.now
    c.requires.run c.requires.cached) c.requires.holds c.args.part.now c.requires.buckets
    c.args.before c.requires.before c.args.bucket c.saturating_sub-number.result c.requires.may
    c.saturating_sub-number.ensures

pub returns-in-Err-clause-buckets : goal.returns-in-Err-clause-buckets
returns-in-Err-clause-buckets g c = buckets_since g.C.Disk.facts g.B.Disk.facts c.args.seat.now
    c.requires.seat c.requires.holds c.args.part.now c.requires.buckets
    (world g.C.Disk.facts g.B.Disk.facts c.commit.new.seat) c.in-Err.ensures.err.is.since

pub returns-in-Err-clause-keeps : goal.returns-in-Err-clause-keeps
returns-in-Err-clause-keeps g c = keeps_waited g.C.Disk.facts g.B.Disk.facts c.args.seat.now
    c.commit.new.seat c.requires.seat c.in-Err.ensures.err.is

pub returns-clause-kept : goal.returns-clause-kept
returns-clause-kept g c = kept_as g.C.Disk.facts g.B.Disk.facts c.args.seat.now c.commit.new.seat _
    _
    buckets_changed c.commit.ensures.kept

pub returns-clause-buckets : goal.returns-clause-buckets
returns-clause-buckets g c = raised_after g.C.Disk.facts g.B.Disk.facts c.args.seat.now
    c.requires.seat (cached_by g.C.Disk.facts g.B.Disk.facts c.args.parts.now c.args.seat.now
    c.requires.run c.requires.cached) c.requires.holds c.args.part.now c.requires.buckets
    c.args.before c.requires.before c.args.bucket c.saturating_sub-number.result c.requires.may
    c.saturating_sub-number.ensures
    c.commit.new.seat c.in_default.ensures.ok c.raise_one.new.part c.raise_one.ensures

pub returns-clause-keeps : goal.returns-clause-keeps
returns-clause-keeps g c = keeps_raise g.C.Disk.facts g.B.Disk.facts c.args.seat.now
    c.commit.new.seat _ c.requires.seat c.in_default.ensures.ok

pub returns-clause-ok : goal.returns-clause-ok
returns-clause-ok g c = did_raise g.C.Disk.facts g.B.Disk.facts c.args.seat.now c.commit.new.seat
    c.args.bucket c.args.before c.saturating_sub-number.result c.saturating_sub-number.ensures
    c.in_default.ensures.ok

pub returns-in-Err-clause-held : goal.returns-in-Err-clause-held
returns-in-Err-clause-held g c = held_waited g.C.Disk.facts g.B.Disk.facts None c.args.seat.now
    c.commit.new.seat c.requires.seat c.in-Err.ensures.err.is

pub returns-clause-held : goal.returns-clause-held
returns-clause-held g c = held_deed g.C.Disk.facts g.B.Disk.facts c.args.seat.now
    c.commit.new.seat (Raise c.saturating_sub-number.result) c.requires.seat (λ q. refl) refl
    c.in_default.ensures.ok
