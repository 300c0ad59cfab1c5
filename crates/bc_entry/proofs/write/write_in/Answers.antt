use Rattle.std.proofs.Common.{◌*◌, ◌≤◌, List, sym, ap, ◌∙◌, subst, arith}
use Rattle.bc_model.specs.Sector.{Value}
use Rattle.bc_disk.specs.Disk.{IsFailedWrite, IsWritten}
use Rattle.bc_parts.specs.Seat.{Run}
use Rattle.bc_events.specs.declared.event.Deed.TheVariants as deed
use Rattle.bc_events.specs.declared.event.Failure.TheVariants as failure
use Rattle.bc_events.specs.declared.event.Written.TheVariants as written
use Rattle.bc_sealing.specs.bc_machine.World.{cache_among}
use Rattle.bc_sealing.specs.bc_machine.declared.part.CorePart.{CorePart}
use Rattle.bc_entry.proofs.Allowed.{may_fail_write_at, may_write_at}
use Rattle.bc_entry.proofs.CacheDevice.{behind_failed_write, behind_write, cache_sectors, cached_by, committed_cache, entry_on_disk}
use Rattle.bc_entry.proofs.write.write_in.Goals as goal

pub write-requires : goal.write-requires
write-requires g c =
    let s = c.args.entry.now in
    let all = cache_sectors g.C.Disk.facts g.B.Disk.facts c.args.seat.now c.args.cache.now
    c.requires.cache ∙ ap (λ (r : Run (CorePart g.row.C.Denot g.row.B.Denot)).
    (cache_among g.C.Disk.facts g.B.Disk.facts r.start).sectors) c.requires.run in
    record {
      on_disk = entry_on_disk s c.args.bytes.now c.sector-at.result
          (g.C.Disk.facts c.args.cache.now) c.place-place.ensures.within c.requires.bytes
          c.sector-at.ensures.value
          (subst (λ n. s.geometry.bucket * s.geometry.nbuckets ≤ n) (sym all) c.requires.disk);
    }

pub called-requires-clause-may : goal.called-requires-clause-may
called-requires-clause-may g c = may_write_at g.C.Disk.facts g.B.Disk.facts c.args.seat.now
    c.requires.seat (cached_by g.C.Disk.facts g.B.Disk.facts c.args.parts.now c.args.seat.now
    c.requires.run c.requires.cached) c.args.entry.now c.place-place.ensures.within
    c.args.bytes.now c.requires.bytes c.requires.holds.0 c.requires.holds.1 c.requires.ready
    c.requires.unheard c.sector-at.result c.args.values c.sector-at.ensures.value
    c.requires.values

pub called-requires-in-Err-clause-may : goal.called-requires-in-Err-clause-may
called-requires-in-Err-clause-may g c = may_fail_write_at g.C.Disk.facts g.B.Disk.facts
    c.args.seat.now c.requires.seat (cached_by g.C.Disk.facts g.B.Disk.facts c.args.parts.now
    c.args.seat.now c.requires.run c.requires.cached) c.args.entry.now c.place-place.ensures.within
    c.args.bytes.now c.requires.bytes c.requires.holds.0 c.requires.holds.1 c.requires.ready
    c.requires.unheard c.sector-at.result c.args.values c.sector-at.ensures.value
    c.requires.values

pub returns-in-Ok-clause-cache : goal.returns-in-Ok-clause-cache
returns-in-Ok-clause-cache g c = let v = c.args.seat.now in
    committed_cache g.C.Disk.facts g.B.Disk.facts v c.called.new.seat c.args.cache.now _
    (deed.CacheWrite c.sector-at.result written.Entry c.args.values) c.requires.seat
    c.requires.holds.1 c.requires.cache c.called.ensures.did
    (λ x on. behind_write g.C.Disk.facts g.B.Disk.facts c.args.cache.now _ x v.first
    c.sector-at.result c.args.values on
    (subst (λ (vs : List Value). IsWritten c.sector-at.result vs (g.C.Disk.facts c.args.cache.now)
    (g.C.Disk.facts c.write.new.self)) (sym c.requires.values) c.in-Ok.ensures.ok)
    c.in-Ok.ensures.counted)

pub returns-in-Err-clause-cache : goal.returns-in-Err-clause-cache
returns-in-Err-clause-cache g c = let v = c.args.seat.now in
    committed_cache g.C.Disk.facts g.B.Disk.facts v c.called-in-Err.new.seat c.args.cache.now _
    (deed.DeviceFault (failure.CacheWrite c.sector-at.result written.Entry c.args.values))
    c.requires.seat c.requires.holds.1 c.requires.cache c.called-in-Err.ensures.did
    (λ x on. behind_failed_write g.C.Disk.facts g.B.Disk.facts c.args.cache.now _ x v.first
    c.sector-at.result c.args.values on
    (subst (λ (vs : List Value). IsFailedWrite c.sector-at.result vs
    (g.C.Disk.facts c.args.cache.now) (g.C.Disk.facts c.write.new.self)) (sym c.requires.values)
    c.in-Err.ensures.failed) c.in-Err.ensures.counted)

pub returns-in-Ok-clause-left : goal.returns-in-Ok-clause-left
returns-in-Ok-clause-left g c = let used = c.called.ensures.did.is.promises in omega (arith, used)

pub returns-in-Err-clause-left : goal.returns-in-Err-clause-left
returns-in-Err-clause-left g c =
    let used = c.called-in-Err.ensures.did.is.promises in
    omega (arith, used)
