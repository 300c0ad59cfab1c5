use Rattle.std.proofs.Common.{◌≡◌, List, length, subst, refl}
use Rattle.bc_model.specs.Sector.{Value, values_of}
use Rattle.bc_disk.specs.Disk.{IsFailedWrite, IsWritten}
use Rattle.bc_events.specs.declared.event.Deed.TheVariants as deed
use Rattle.bc_events.specs.declared.event.Failure.TheVariants as failure
use Rattle.bc_events.specs.declared.event.Written.TheVariants as written
use Rattle.bc_place.proofs.Keeping.{has_stored, keeps_deed}
use Rattle.bc_place.proofs.Storing.{cache_changed, cached_by, may_fail_store, may_store, place_on_disk, stands_failed, stands_stored}
use Rattle.bc_place.proofs.write.write_in.Goals as goal

pub write-requires : goal.write-requires
write-requires g c = record {
  on_disk = place_on_disk g.C.Disk.facts g.B.Disk.facts c.args.parts.now c.args.seat.now
      c.requires.run c.args.cache.now c.requires.cache c.args.place (length c.args.values)
      (length c.args.bytes.now) c.requires.some.0 c.requires.some.1 c.requires.bytes.1
      c.requires.disk;
}

pub called-requires-clause-alone : goal.called-requires-clause-alone
called-requires-clause-alone g c = cache_changed

pub called-requires-in-Err-clause-alone : goal.called-requires-in-Err-clause-alone
called-requires-in-Err-clause-alone g c = cache_changed

pub called-requires-clause-may : goal.called-requires-clause-may
called-requires-clause-may g c = may_store g.C.Disk.facts g.B.Disk.facts c.args.seat.now
    c.requires.seat (cached_by g.C.Disk.facts g.B.Disk.facts c.args.parts.now c.args.seat.now
    c.requires.run c.requires.cached) c.requires.unheard c.args.place c.args.values
    c.requires.some.0 c.requires.some.1 c.requires.own

pub called-requires-in-Err-clause-may : goal.called-requires-in-Err-clause-may
called-requires-in-Err-clause-may g c = may_fail_store g.C.Disk.facts g.B.Disk.facts c.args.seat.now
    c.requires.seat (cached_by g.C.Disk.facts g.B.Disk.facts c.args.parts.now c.args.seat.now
    c.requires.run c.requires.cached) c.requires.unheard c.args.place c.args.values
    c.requires.some.0 c.requires.some.1 c.requires.own

pub returns-in-Ok-clause-cache : goal.returns-in-Ok-clause-cache
returns-in-Ok-clause-cache g c = let v = c.args.seat.now in
    let values : values_of c.args.bytes.now ≡ c.args.values = c.requires.bytes.0 in
    stands_stored g.C.Disk.facts g.B.Disk.facts v c.called.new.seat c.args.cache.now _
    c.args.place.ptr.offset c.args.values c.requires.seat c.requires.holds c.requires.cache
    c.called.ensures.did
    (subst (λ (vs : List Value). IsWritten c.args.place.ptr.offset vs
    (g.C.Disk.facts c.args.cache.now) (g.C.Disk.facts c.write.new.self)) values c.in-Ok.ensures.ok)
    c.in-Ok.ensures.counted

pub returns-in-Err-clause-cache : goal.returns-in-Err-clause-cache
returns-in-Err-clause-cache g c = let v = c.args.seat.now in
    let values : values_of c.args.bytes.now ≡ c.args.values = c.requires.bytes.0 in
    stands_failed g.C.Disk.facts g.B.Disk.facts v c.called-in-Err.new.seat c.args.cache.now _
    c.args.place.ptr.offset c.args.values c.requires.seat c.requires.holds c.requires.cache
    c.called-in-Err.ensures.did
    (subst (λ (vs : List Value). IsFailedWrite c.args.place.ptr.offset vs
    (g.C.Disk.facts c.args.cache.now) (g.C.Disk.facts c.write.new.self)) values
    c.in-Err.ensures.failed) c.in-Err.ensures.counted

pub returns-in-Ok-clause-ok : goal.returns-in-Ok-clause-ok
returns-in-Ok-clause-ok g c = has_stored g.C.Disk.facts g.B.Disk.facts c.args.seat.now
    c.called.new.seat c.args.place.ptr.offset c.args.values c.requires.seat c.called.ensures.did

pub returns-in-Err-clause-keeps : goal.returns-in-Err-clause-keeps
returns-in-Err-clause-keeps g c = keeps_deed g.C.Disk.facts g.B.Disk.facts c.args.seat.now
    c.called-in-Err.new.seat
    (deed.DeviceFault (failure.CacheWrite c.args.place.ptr.offset written.Data c.args.values))
    c.requires.seat refl c.called-in-Err.ensures.did
