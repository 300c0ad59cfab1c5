use Rattle.std.proofs.Common.{arith}
use Rattle.bc_events.specs.declared.event.Deed.TheVariants as deed
use Rattle.bc_events.specs.declared.event.Failure.TheVariants as failure
use Rattle.bc_disk.specs.declared.disk.Device.TheVariants as device
use Rattle.bc_entry.proofs.CacheDevice.{behind_barrier, behind_failed_barrier, cache_changed, cached_by, committed_cache, may_barrier, may_fail_barrier}
use Rattle.bc_entry.proofs.barrier.barrier_in.Goals as goal

pub returns-in-Ok-clause-cache : goal.returns-in-Ok-clause-cache
returns-in-Ok-clause-cache g c = let v = c.args.seat.now in
    committed_cache g.C.Disk.facts g.B.Disk.facts v c.called.new.seat c.args.cache.now _
    deed.CacheBarrier c.requires.seat c.requires.holds c.requires.cache c.called.ensures.did
    (λ x on. behind_barrier g.C.Disk.facts g.B.Disk.facts c.args.cache.now _ x v.first on
    c.in-Ok.ensures.ok c.in-Ok.ensures.counted)

pub returns-in-Err-clause-cache : goal.returns-in-Err-clause-cache
returns-in-Err-clause-cache g c = let v = c.args.seat.now in
    committed_cache g.C.Disk.facts g.B.Disk.facts v c.called-in-Err.new.seat c.args.cache.now _
    (deed.DeviceFault (failure.Barrier device.Cache)) c.requires.seat c.requires.holds
    c.requires.cache c.called-in-Err.ensures.did
    (λ x on. behind_failed_barrier g.C.Disk.facts g.B.Disk.facts c.args.cache.now _ x v.first on
    c.in-Err.ensures.failed c.in-Err.ensures.counted)

pub called-requires-clause-alone : goal.called-requires-clause-alone
called-requires-clause-alone g c = cache_changed

pub called-requires-in-Err-clause-alone : goal.called-requires-in-Err-clause-alone
called-requires-in-Err-clause-alone g c = cache_changed

pub called-requires-clause-may : goal.called-requires-clause-may
called-requires-clause-may g c = may_barrier g.C.Disk.facts g.B.Disk.facts c.args.seat.now
    c.requires.seat c.requires.unheard (cached_by g.C.Disk.facts g.B.Disk.facts c.args.parts.now
    c.args.seat.now c.requires.run c.requires.cached)

pub called-requires-in-Err-clause-may : goal.called-requires-in-Err-clause-may
called-requires-in-Err-clause-may g c = may_fail_barrier g.C.Disk.facts g.B.Disk.facts
    c.args.seat.now c.requires.seat c.requires.unheard

pub returns-in-Ok-clause-left : goal.returns-in-Ok-clause-left
returns-in-Ok-clause-left g c = let used = c.called.ensures.did.is.promises in omega (arith, used)

pub returns-in-Err-clause-left : goal.returns-in-Err-clause-left
returns-in-Err-clause-left g c =
    let used = c.called-in-Err.ensures.did.is.promises in
    omega (arith, used)
