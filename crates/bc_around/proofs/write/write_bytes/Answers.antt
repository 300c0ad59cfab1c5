use Rattle.std.proofs.Common.{◌+◌, ◌≤◌, length, Some, sym, subst}
use Rattle.bc_events.specs.declared.event.Deed.TheVariants as deed
use Rattle.bc_events.specs.declared.event.Failure.TheVariants as failure
use Rattle.bc_flush.proofs.of_bc_hand.Knowing.{map_ok}
use Rattle.bc_flush.proofs.of_bc_hand.Lending.{works_backing}
use Rattle.bc_flush.proofs.of_bc_hand.Between.{did_between}
use Rattle.bc_flush.proofs.of_bc_deed.May.{other_number, map_if_err, failed_between, size_waited, may_write_waited}
use Rattle.bc_around.proofs.Writing.{bare_waited}
use Rattle.bc_around.proofs.write.write_bytes.Goals as goal

pub write_in-done-requires-clause-inside : goal.write_in-done-requires-clause-inside
write_in-done-requires-clause-inside g c =
    subst (λ n. c.args.first + length c.args.values ≤ n)
    (sym (size_waited g.C.Disk.facts g.B.Disk.facts c.args.seat.now
    c.borrow_backing-backing.new.seat _
    c.borrow_backing-backing.ensures.waited c.borrow_backing-backing.ensures.lent.stand.backing))
    c.requires.inside

pub write_in-done-requires-clause-may : goal.write_in-done-requires-clause-may
write_in-done-requires-clause-may g c =
    may_write_waited g.C.Disk.facts g.B.Disk.facts c.args.seat.now c.borrow_backing-backing.new.seat
    c.args.first (length c.args.values) c.requires.works.seat
    c.borrow_backing-backing.ensures.waited c.requires.may

pub return_backing-requires : goal.return_backing-requires
return_backing-requires g c = works_backing g.C.Disk.facts g.B.Disk.facts c.args.parts.now
    c.borrow_backing-backing.new.seat c.write_in-done.new.seat c.borrow_backing-backing.new.hand
    c.borrow_backing-backing.result.0 c.write_in-done.new.backing _
    c.borrow_backing-backing.ensures.lent
    c.write_in-done.ensures.seat c.write_in-done.ensures.kept (other_number 5)
    c.write_in-done.ensures.backing

pub returns-clause-ok : goal.returns-clause-ok
returns-clause-ok g c = map_ok c.write_in-done.result (λ did.
    did_between g.C.Disk.facts g.B.Disk.facts
    (Some (deed.BackingWrite c.args.first (Some c.args.of) c.args.values)) c.args.seat.now
    c.borrow_backing-backing.new.seat c.write_in-done.new.seat c.return_backing.new.seat
    c.borrow_backing-backing.ensures.still c.borrow_backing-backing.ensures.waited did
    c.return_backing.ensures.waited c.return_backing.ensures.seen c.return_backing.ensures.heard
    c.return_backing.ensures.works.seat)
    c.write_in-done.ensures.ok

pub returns-clause-err : goal.returns-clause-err
returns-clause-err g c = map_if_err c.write_in-done.result (λ e h.
    failed_between g.C.Disk.facts g.B.Disk.facts e
    (deed.DeviceFault (failure.BackingWrite c.args.first (Some c.args.of) c.args.values))
    c.args.seat.now c.borrow_backing-backing.new.seat c.write_in-done.new.seat
    c.return_backing.new.seat
    c.borrow_backing-backing.ensures.still c.borrow_backing-backing.ensures.waited h
    c.return_backing.ensures.waited c.return_backing.ensures.seen c.return_backing.ensures.heard
    c.return_backing.ensures.works.seat)
    c.write_in-done.ensures.err

pub write_in-done-requires-clause-bare : goal.write_in-done-requires-clause-bare
write_in-done-requires-clause-bare g c =
    bare_waited g.C.Disk.facts g.B.Disk.facts c.args.seat.now c.borrow_backing-backing.new.seat
    c.args.first (length c.args.values) c.requires.works.seat
    c.borrow_backing-backing.ensures.waited c.requires.bare
