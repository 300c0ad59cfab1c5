use Rattle.std.proofs.Common.{◌+◌, ◌/◌, ◌≤◌, length, Some, refl, sym, ◌∙◌, subst}
use Rattle.bc_model.specs.Sector.{values_of}
use Rattle.bc_disk.specs.declared.disk.Device.TheVariants as device
use Rattle.bc_events.specs.declared.event.Deed.TheVariants as deed
use Rattle.bc_events.specs.declared.event.Failure.TheVariants as failure
use Rattle.bc_hand.proofs.Knowing.{map_ok, note_waited}
use Rattle.bc_hand.proofs.Lending.{works_backing}
use Rattle.bc_hand.proofs.Between.{did_between}
use Rattle.bc_deed.specs.Asked.{IsWithin}
use Rattle.bc_deed.proofs.May.{did_nothing, other_number, map_if_err, failed_or_between, same_but_backing, size_waited}
use Rattle.bc_deed.proofs.backing.backing_read.Goals as goal

pub returns-in-Some-clause-err : goal.returns-in-Some-clause-err
returns-in-Some-clause-err g c = (
  c.in-Some.ensures.stopped c.in-Some.device refl,
  did_nothing g.C.Disk.facts g.B.Disk.facts c.args.seat.now c.requires.works.seat,
)

pub read_in-done-requires-clause-sectors : goal.read_in-done-requires-clause-sectors
read_in-done-requires-clause-sectors g c = let s = c.requires.sectors in (
  s.0,
  s.1,
  s.2,
  subst (λ n. c.args.first + length c.args.into.now / 512 ≤ n)
      (sym (size_waited g.C.Disk.facts g.B.Disk.facts c.args.seat.now c.borrow_backing-backing.new.seat _
      c.borrow_backing-backing.ensures.waited c.borrow_backing-backing.ensures.lent.stand.backing)) s.3,
)

pub read_in-done-requires-clause-looked : goal.read_in-done-requires-clause-looked
read_in-done-requires-clause-looked g c = (note_waited g.C.Disk.facts g.B.Disk.facts c.args.seat.now
    c.borrow_backing-backing.new.seat c.requires.works.seat c.borrow_backing-backing.ensures.waited).looked
    ∙ c.requires.looked

pub read_in-done-requires-clause-covered : goal.read_in-done-requires-clause-covered
read_in-done-requires-clause-covered g c =
    subst (λ r. IsWithin r c.args.first (length c.args.into.now / 512))
    (sym (note_waited g.C.Disk.facts g.B.Disk.facts c.args.seat.now c.borrow_backing-backing.new.seat
    c.requires.works.seat c.borrow_backing-backing.ensures.waited).range) c.requires.covered

pub return_backing-requires : goal.return_backing-requires
return_backing-requires g c = works_backing g.C.Disk.facts g.B.Disk.facts c.args.parts.now
    c.borrow_backing-backing.new.seat c.read_in-done.new.seat c.borrow_backing-backing.new.hand
    c.borrow_backing-backing.result.0 c.read_in-done.new.backing _ c.borrow_backing-backing.ensures.lent
    c.read_in-done.ensures.seat c.read_in-done.ensures.kept (other_number 5) c.read_in-done.ensures.backing

pub returns-clause-rest : goal.returns-clause-rest
returns-clause-rest g c = same_but_backing c.args.hand.now c.borrow_backing-backing.new.hand
    c.return_backing.new.hand _ c.borrow_backing-backing.ensures.hand c.return_backing.ensures.hand

pub returns-clause-ok : goal.returns-clause-ok
returns-clause-ok g c = map_ok c.read_in-done.result (λ did.
    did_between g.C.Disk.facts g.B.Disk.facts
    (Some (deed.BackingRead c.args.first (values_of c.read_in-done.new.into))) c.args.seat.now
    c.borrow_backing-backing.new.seat c.read_in-done.new.seat c.return_backing.new.seat
    c.borrow_backing-backing.ensures.still c.borrow_backing-backing.ensures.waited did
    c.return_backing.ensures.waited c.return_backing.ensures.seen c.return_backing.ensures.heard
    c.return_backing.ensures.works.seat)
    c.read_in-done.ensures.ok

pub returns-clause-err : goal.returns-clause-err
returns-clause-err g c = map_if_err c.read_in-done.result (λ e h.
    failed_or_between g.C.Disk.facts g.B.Disk.facts e (deed.DeviceFault (failure.Read device.Backing))
    c.args.seat.now c.borrow_backing-backing.new.seat c.read_in-done.new.seat c.return_backing.new.seat
    c.borrow_backing-backing.ensures.still c.borrow_backing-backing.ensures.waited h
    c.return_backing.ensures.waited c.return_backing.ensures.seen c.return_backing.ensures.heard
    c.return_backing.ensures.works.seat)
    c.read_in-done.ensures.err

pub returns-in_default-with_capacity-clause-err : goal.returns-in_default-with_capacity-clause-err
returns-in_default-with_capacity-clause-err g c = did_nothing g.C.Disk.facts g.B.Disk.facts
    c.args.seat.now c.requires.works.seat
