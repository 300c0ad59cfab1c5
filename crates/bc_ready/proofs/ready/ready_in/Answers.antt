use Rattle.bc_raise.proofs.of_bc_deed.May.{kept_as}
use Rattle.bc_raise.proofs.of_bc_place.Keeping.{keeps_deed, keeps_waited}
use Rattle.bc_raise.proofs.of_bc_place.Knowing.{buckets_since}
use Rattle.bc_raise.proofs.of_bc_place.Storing.{cached_by}
use Rattle.std.proofs.Common.{refl}
use Rattle.bc_events.specs.declared.event.Deed.TheVariants as deed
use Rattle.bc_raise.proofs.Steps.{buckets_changed}
use Rattle.bc_raise.specs.bc_hand.Seats.{world}
use Rattle.bc_ready.proofs.Steps.{made_ready, made_there, may_do}
use Rattle.bc_ready.proofs.ready.ready_in.Goals as goal

pub commit-requires-clause-may : goal.commit-requires-clause-may
commit-requires-clause-may g c = may_do g.C.Disk.facts g.B.Disk.facts c.args.seat.now
    c.requires.seat (cached_by g.C.Disk.facts g.B.Disk.facts c.args.parts.now c.args.seat.now
    c.requires.run c.requires.cached) c.requires.holds c.requires.journal c.args.part.now
    c.requires.buckets c.args.before c.args.named c.requires.before c.args.new c.requires.may
    c.back_in.new.back c.back_in.ensures c.listed_in.new.listed c.listed_in.ensures

pub returns-in-Err-clause-buckets : goal.returns-in-Err-clause-buckets
returns-in-Err-clause-buckets g c = buckets_since g.C.Disk.facts g.B.Disk.facts c.args.seat.now
    c.requires.seat c.requires.holds c.args.part.now c.requires.buckets
    (world g.C.Disk.facts g.B.Disk.facts c.commit.new.seat) c.in-Err.ensures.err.is.since

pub returns-in-Err-clause-keeps : goal.returns-in-Err-clause-keeps
returns-in-Err-clause-keeps g c = keeps_waited g.C.Disk.facts g.B.Disk.facts c.args.seat.now
    c.commit.new.seat c.requires.seat c.in-Err.ensures.err.is

pub returns-clause-kept : goal.returns-clause-kept
returns-clause-kept g c = kept_as g.C.Disk.facts g.B.Disk.facts c.args.seat.now c.commit.new.seat _
    _
    buckets_changed c.commit.ensures.kept

pub returns-clause-buckets : goal.returns-clause-buckets
returns-clause-buckets g c = made_ready g.C.Disk.facts g.B.Disk.facts c.args.seat.now
    c.requires.seat (cached_by g.C.Disk.facts g.B.Disk.facts c.args.parts.now c.args.seat.now
    c.requires.run c.requires.cached) c.requires.holds c.requires.journal c.args.part.now
    c.requires.buckets c.args.before c.args.named c.requires.before c.args.new c.requires.may
    c.back_in.new.back c.back_in.ensures c.listed_in.new.listed c.listed_in.ensures
    c.commit.new.seat c.in_default.ensures.ok c.go_to_lists.new.part c.go_to_lists.ensures

pub returns-clause-part : goal.returns-clause-part
returns-clause-part g c = made_there g.C.Disk.facts g.B.Disk.facts c.args.seat.now
    c.requires.seat (cached_by g.C.Disk.facts g.B.Disk.facts c.args.parts.now c.args.seat.now
    c.requires.run c.requires.cached) c.requires.holds c.requires.journal c.args.part.now
    c.requires.buckets c.args.before c.args.named c.requires.before c.args.new c.requires.may
    c.back_in.new.back c.back_in.ensures c.listed_in.new.listed c.listed_in.ensures
    c.commit.new.seat c.in_default.ensures.ok c.go_to_lists.new.part c.go_to_lists.ensures

pub returns-clause-ok : goal.returns-clause-ok
returns-clause-ok g c = record {
  back = c.back_in.new.back;
  back_is = c.back_in.ensures;
  listed = c.listed_in.new.listed;
  listed_is = c.listed_in.ensures;
  did = c.in_default.ensures.ok;
}

pub returns-clause-keeps : goal.returns-clause-keeps
returns-clause-keeps g c = keeps_deed g.C.Disk.facts g.B.Disk.facts c.args.seat.now
    c.commit.new.seat (deed.Ready c.back_in.new.back c.listed_in.new.listed) c.requires.seat refl
    c.in_default.ensures.ok
