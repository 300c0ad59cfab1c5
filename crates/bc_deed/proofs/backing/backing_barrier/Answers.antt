use Rattle.std.proofs.Common.{refl, Some}
use Rattle.bc_events.specs.declared.event.Deed.TheVariants as deed
use Rattle.bc_events.specs.declared.event.Failure.TheVariants as failure
use Rattle.bc_disk.specs.declared.disk.Device.TheVariants as device
use Rattle.bc_hand.proofs.Knowing.{map_ok}
use Rattle.bc_hand.proofs.Lending.{works_backing}
use Rattle.bc_hand.proofs.Between.{did_between}
use Rattle.bc_deed.proofs.May.{did_nothing, other_number, map_if_err, failed_between}
use Rattle.bc_deed.proofs.backing.backing_barrier.Goals as goal

pub returns-in-Some-clause-err : goal.returns-in-Some-clause-err
returns-in-Some-clause-err g c = (
  c.in-Some.ensures.stopped c.in-Some.device refl,
  did_nothing g.C.Disk.facts g.B.Disk.facts c.args.seat.now c.requires.works.seat,
)

pub return_backing-requires : goal.return_backing-requires
return_backing-requires g c = works_backing g.C.Disk.facts g.B.Disk.facts c.args.parts.now
    c.borrow_backing-backing.new.seat c.barrier_in-done.new.seat c.borrow_backing-backing.new.hand c.borrow_backing-backing.result.0
    c.barrier_in-done.new.backing _ c.borrow_backing-backing.ensures.lent c.barrier_in-done.ensures.seat
    c.barrier_in-done.ensures.kept (other_number 5) c.barrier_in-done.ensures.backing

pub returns-clause-ok : goal.returns-clause-ok
returns-clause-ok g c = map_ok c.barrier_in-done.result (λ did.
    did_between g.C.Disk.facts g.B.Disk.facts (Some deed.BackingBarrier) c.args.seat.now
    c.borrow_backing-backing.new.seat c.barrier_in-done.new.seat c.return_backing.new.seat
    c.borrow_backing-backing.ensures.still c.borrow_backing-backing.ensures.waited did c.return_backing.ensures.waited
    c.return_backing.ensures.seen c.return_backing.ensures.heard c.return_backing.ensures.works.seat)
    c.barrier_in-done.ensures.ok

pub returns-clause-err : goal.returns-clause-err
returns-clause-err g c = map_if_err c.barrier_in-done.result (λ e h.
    failed_between g.C.Disk.facts g.B.Disk.facts e (deed.DeviceFault (failure.Barrier device.Backing))
    c.args.seat.now c.borrow_backing-backing.new.seat c.barrier_in-done.new.seat c.return_backing.new.seat
    c.borrow_backing-backing.ensures.still c.borrow_backing-backing.ensures.waited h c.return_backing.ensures.waited
    c.return_backing.ensures.seen c.return_backing.ensures.heard c.return_backing.ensures.works.seat)
    c.barrier_in-done.ensures.err
