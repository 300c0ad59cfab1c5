use Rattle.std.proofs.Common.{refl}
use Rattle.bc_events.specs.declared.event.Deed.TheVariants as deed
use Rattle.bc_events.specs.declared.event.Failure.TheVariants as failure
use Rattle.bc_disk.specs.declared.disk.Device.TheVariants as device
use Rattle.bc_deed.proofs.May.{committed_backing, backing_changed}
use Rattle.bc_deed.proofs.Devices.{behind_barrier, behind_failed_barrier}
use Rattle.bc_deed.proofs.backing.barrier_in.Goals as goal

pub returns-in-Ok-clause-backing : goal.returns-in-Ok-clause-backing
returns-in-Ok-clause-backing g c = let v = c.args.seat.now in
    committed_backing g.C.Disk.facts g.B.Disk.facts v c.called.new.seat c.args.backing.now _ deed.BackingBarrier
    c.requires.seat c.requires.holds c.requires.backing c.called.ensures.did
    (λ x on. behind_barrier g.C.Disk.facts g.B.Disk.facts c.args.backing.now _ x v.first on refl refl
    c.in-Ok.ensures.ok c.in-Ok.ensures.counted)

pub returns-in-Err-clause-backing : goal.returns-in-Err-clause-backing
returns-in-Err-clause-backing g c = let v = c.args.seat.now in
    committed_backing g.C.Disk.facts g.B.Disk.facts v c.called-in-Err.new.seat c.args.backing.now _
    (deed.DeviceFault (failure.Barrier device.Backing)) c.requires.seat c.requires.holds c.requires.backing
    c.called-in-Err.ensures.did
    (λ x on. behind_failed_barrier g.C.Disk.facts g.B.Disk.facts c.args.backing.now _ x v.first on refl refl
    c.in-Err.ensures.failed c.in-Err.ensures.counted)

pub called-requires-clause-alone : goal.called-requires-clause-alone
called-requires-clause-alone g c = backing_changed

pub called-requires-in-Err-clause-alone : goal.called-requires-in-Err-clause-alone
called-requires-in-Err-clause-alone g c = backing_changed
