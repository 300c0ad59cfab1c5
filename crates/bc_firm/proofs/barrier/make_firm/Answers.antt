use Rattle.bc_events.specs.declared.event.Deed.TheVariants as deed
use Rattle.bc_events.specs.declared.event.Failure.TheVariants as failure
use Rattle.bc_disk.specs.declared.disk.Device.TheVariants as device
use Rattle.bc_firm.proofs.Making.{failed_then, made_firm, same_parts}
use Rattle.bc_firm.proofs.barrier.make_firm.Goals as goal

pub returns-in-Ok-clause-ok : goal.returns-in-Ok-clause-ok
returns-in-Ok-clause-ok g c =
    let u = c.args.seat.now in
    let lent = c.borrow_flight-flight in
    let back = c.return_flight in
    let w = c.backing_barrier.new.seat in
    made_firm g.C.Disk.facts g.B.Disk.facts u lent.new.seat back.new.seat w
    c.backing_barrier.ensures.works.seat lent.ensures.waited lent.ensures.still
    back.ensures.waited
    (same_parts g.C.Disk.facts g.B.Disk.facts c.args.parts.now u back.new.seat c.args.hand.now
    lent.new.hand back.new.hand lent.result.0 lent.result.1 c.requires.works back.ensures.works
    lent.ensures.hand lent.ensures.taken back.ensures.hand)
    back.ensures.seen lent.result.0 c.next-before.result c.next-before.ensures
    lent.ensures.lent.stand.flight c.in-Ok.ensures.ok

pub returns-in-Err-clause-err : goal.returns-in-Err-clause-err
returns-in-Err-clause-err g c =
    let u = c.args.seat.now in
    let lent = c.borrow_flight-flight in
    let back = c.return_flight in
    let w = c.backing_barrier.new.seat in
    failed_then g.C.Disk.facts g.B.Disk.facts u lent.new.seat back.new.seat w
    c.backing_barrier.ensures.works.seat lent.ensures.waited lent.ensures.still
    back.ensures.waited
    (same_parts g.C.Disk.facts g.B.Disk.facts c.args.parts.now u back.new.seat c.args.hand.now
    lent.new.hand back.new.hand lent.result.0 lent.result.1 c.requires.works back.ensures.works
    lent.ensures.hand lent.ensures.taken back.ensures.hand)
    c.in-Err.error (deed.DeviceFault (failure.Barrier device.Backing)) c.in-Err.ensures.err
