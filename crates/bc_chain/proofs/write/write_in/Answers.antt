use Rattle.std.proofs.Common.{ℕ, List, Some, length, refl, sym, ap, ◌∙◌, subst}
use Rattle.bc_disk.specs.Disk.{IsFailedWrite, IsOnDisk, IsWritten}
use Rattle.bc_events.specs.declared.event.Deed.TheVariants as deed
use Rattle.bc_events.specs.declared.event.Failure.TheVariants as failure
use Rattle.bc_events.specs.declared.event.Written.TheVariants as written
use Rattle.bc_model.specs.Sector.{Value, values_of}
use Rattle.bc_place.proofs.Keeping.{keeps_deed}
use Rattle.bc_place.proofs.Storing.{cache_changed, cached_by}
use Rattle.bc_place.specs.bc_hand.Seats.{Did, MayDo}
use Rattle.bc_chain.proofs.Device.{bucket_on_disk, stands_lost, stands_written}
use Rattle.bc_chain.proofs.Writing.{has_written, may_fail, may_write, same_lost, same_write}
use Rattle.bc_chain.proofs.write.write_in.Goals as goal

pub write-requires : goal.write-requires
write-requires g c = record {
  on_disk = subst (λ a. IsOnDisk a (length c.deref.result.now) (g.C.Disk.facts c.args.cache.now))
      (sym c.requires.at)
      (bucket_on_disk g.C.Disk.facts g.B.Disk.facts c.args.parts.now c.args.seat.now
      c.requires.run c.args.cache.now c.requires.cache c.args.g.now.bucket c.args.g.now.nbuckets
      c.args.bucket (length c.deref.result.now) c.requires.part.some c.requires.part.high
      (ap (λ (bs : List ℕ). length bs) c.deref.ensures.value ∙ c.requires.set.whole)
      c.requires.disk);
}

pub called-requires-clause-alone : goal.called-requires-clause-alone
called-requires-clause-alone g c = cache_changed

pub called-requires-in-Err-clause-alone : goal.called-requires-in-Err-clause-alone
called-requires-in-Err-clause-alone g c = cache_changed

pub called-requires-clause-may : goal.called-requires-clause-may
called-requires-clause-may g c = subst (MayDo g.C.Disk.facts g.B.Disk.facts c.args.seat.now)
    (sym (same_write c.args.g.now c.args.bucket c.args.part c.args.at c.args.number
    c.from_sectors-values.result c.requires.at c.requires.number))
    (may_write g.C.Disk.facts g.B.Disk.facts c.args.seat.now
    c.requires.seat (cached_by g.C.Disk.facts g.B.Disk.facts c.args.parts.now c.args.seat.now
    c.requires.run c.requires.cached) c.requires.unheard c.requires.holds.0 c.requires.holds.1
    c.args.g.now c.args.gens.now.records c.args.bucket c.args.part c.args.next c.args.bytes.items
    c.from_sectors-values.result c.requires.divided c.requires.held c.requires.part c.requires.set
    c.from_sectors-values.ensures)

pub called-requires-in-Err-clause-may : goal.called-requires-in-Err-clause-may
called-requires-in-Err-clause-may g c =
    subst (MayDo g.C.Disk.facts g.B.Disk.facts c.args.seat.now)
    (sym (same_lost c.args.g.now c.args.bucket c.args.part c.args.at c.args.number
    c.from_sectors-values-in-Err.result c.requires.at c.requires.number))
    (may_fail g.C.Disk.facts g.B.Disk.facts c.args.seat.now
    c.requires.seat (cached_by g.C.Disk.facts g.B.Disk.facts c.args.parts.now c.args.seat.now
    c.requires.run c.requires.cached) c.requires.unheard c.requires.holds.0 c.requires.holds.1
    c.args.g.now c.args.gens.now.records c.args.bucket c.args.part c.args.next c.args.bytes.items
    c.from_sectors-values-in-Err.result c.requires.divided c.requires.held c.requires.part
    c.requires.set c.from_sectors-values-in-Err.ensures)

pub returns-in-Ok-clause-cache : goal.returns-in-Ok-clause-cache
returns-in-Ok-clause-cache g c = stands_written g.C.Disk.facts g.B.Disk.facts
    (written.Priorities c.args.number c.args.part) c.args.seat.now
    c.called.new.seat c.args.cache.now _ c.args.at
    c.from_sectors-values.result c.requires.seat c.requires.holds.1 c.requires.cache
    c.called.ensures.did
    (subst (λ (vs : List Value). IsWritten c.args.at vs
    (g.C.Disk.facts c.args.cache.now) (g.C.Disk.facts c.write.new.self))
    (ap values_of c.deref.ensures.value ∙ sym c.from_sectors-values.ensures) c.in-Ok.ensures.ok)
    c.in-Ok.ensures.counted

pub returns-in-Err-clause-cache : goal.returns-in-Err-clause-cache
returns-in-Err-clause-cache g c = stands_lost g.C.Disk.facts g.B.Disk.facts
    (written.Priorities c.args.number c.args.part) c.args.seat.now
    c.called-in-Err.new.seat c.args.cache.now _ c.args.at
    c.from_sectors-values-in-Err.result c.requires.seat c.requires.holds.1 c.requires.cache
    c.called-in-Err.ensures.did
    (subst (λ (vs : List Value). IsFailedWrite c.args.at vs
    (g.C.Disk.facts c.args.cache.now) (g.C.Disk.facts c.write.new.self))
    (ap values_of c.deref.ensures.value ∙ sym c.from_sectors-values-in-Err.ensures)
    c.in-Err.ensures.failed) c.in-Err.ensures.counted

pub returns-in-Ok-clause-ok : goal.returns-in-Ok-clause-ok
returns-in-Ok-clause-ok g c = has_written g.C.Disk.facts g.B.Disk.facts c.args.seat.now
    c.requires.seat (cached_by g.C.Disk.facts g.B.Disk.facts c.args.parts.now c.args.seat.now
    c.requires.run c.requires.cached) c.requires.unheard c.requires.holds.0 c.requires.holds.1
    c.args.g.now c.args.gens.now.records c.args.bucket c.args.part c.args.next c.args.bytes.items
    c.from_sectors-values.result c.requires.divided c.requires.held c.requires.part c.requires.set
    c.from_sectors-values.ensures c.called.new.seat
    (subst (λ d. Did g.C.Disk.facts g.B.Disk.facts (Some d) c.args.seat.now c.called.new.seat)
    (same_write c.args.g.now c.args.bucket c.args.part c.args.at c.args.number
    c.from_sectors-values.result c.requires.at c.requires.number) c.called.ensures.did)

pub returns-in-Ok-clause-keeps : goal.returns-in-Ok-clause-keeps
returns-in-Ok-clause-keeps g c = keeps_deed g.C.Disk.facts g.B.Disk.facts c.args.seat.now
    c.called.new.seat (deed.CacheWrite c.args.at (written.Priorities c.args.number c.args.part)
    c.from_sectors-values.result) c.requires.seat refl c.called.ensures.did

pub returns-in-Err-clause-err : goal.returns-in-Err-clause-err
returns-in-Err-clause-err g c = (
  refl,
  (
    c.args.bytes.items,
    c.from_sectors-values-in-Err.result,
    c.requires.set,
    c.from_sectors-values-in-Err.ensures,
    subst (λ d. Did g.C.Disk.facts g.B.Disk.facts (Some d) c.args.seat.now
        c.called-in-Err.new.seat)
        (same_lost c.args.g.now c.args.bucket c.args.part c.args.at c.args.number
        c.from_sectors-values-in-Err.result c.requires.at c.requires.number)
        c.called-in-Err.ensures.did,
  ),
)

pub returns-in-Err-clause-keeps : goal.returns-in-Err-clause-keeps
returns-in-Err-clause-keeps g c = keeps_deed g.C.Disk.facts g.B.Disk.facts c.args.seat.now
    c.called-in-Err.new.seat (deed.DeviceFault (failure.CacheWrite c.args.at
    (written.Priorities c.args.number c.args.part) c.from_sectors-values-in-Err.result))
    c.requires.seat refl c.called-in-Err.ensures.did
