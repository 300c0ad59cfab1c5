-- The cache device behind a write of a set of a chain, or one that failed.
use Rattle.std.proofs.Common.{◌≡◌, ℕ, ◌+◌, ◌*◌, ◌<◌, ◌≤◌, Bool, true, false, List, [], ◌∷◌, Option, Some, None, refl, sym, ap, ◌∙◌, subst, arith}
use Rattle.std.specs.Prelude.{◌==◌, fold, if◌then◌else◌}
use Rattle.std.proofs.Math.Nat.{mul-le-mul_left}
use Rattle.bc_disk.specs.Device.{Content, after_failed_write, after_write, failed, written}
use Rattle.bc_disk.specs.Disk.{DiskFacts, IsFailedWrite, IsOnDisk, IsWritten, StandsFor}
use Rattle.bc_disk.specs.declared.disk.Device.TheVariants as which
use Rattle.bc_disk.proofs.Stands.{CountsFault, CountsGood, failed_write_stands, write_stands}
use Rattle.bc_events.specs.Columns.{Call, call_by}
use Rattle.bc_events.specs.declared.event.Deed.{Deed}
use Rattle.bc_events.specs.declared.event.Deed.TheVariants as deed
use Rattle.bc_events.specs.declared.event.Event.{Event}
use Rattle.bc_events.specs.declared.event.Failure.TheVariants as failure
use Rattle.bc_events.specs.declared.event.Written.{Written}
use Rattle.bc_model.specs.Sector.{Value}
use Rattle.bc_model.specs.declared.values.Values.{Values}
use Rattle.bc_parts.specs.Seat.{Holds, PartsView, Run}
use Rattle.bc_place.proofs.of_bc_hand.Knowing.{View, framed, m}
use Rattle.bc_place.proofs.of_bc_deed.May.{other_number}
use Rattle.bc_place.proofs.of_bc_hand.Lends.{works_cache}
use Rattle.bc_place.specs.bc_hand.Seats.{Did, IsCoreSeat, Works, by, world}
use Rattle.bc_place.specs.bc_hand.declared.hand.Hand.{Hand}
use Rattle.bc_place.specs.bc_machine.World.{IsCache, Side, World, after, cache_among, called, counted, model, opening, same_device}
use Rattle.bc_place.specs.bc_machine.declared.part.CorePart.{CorePart}
use Rattle.bc_place.specs.bc_machine.declared.part.CorePart.TheVariants as part
use Rattle.bc_seats.specs.Seats.{Kept}
use Rattle.bc_seats.proofs.Knowing.{held}

write_model : (x : Side) (at : ℕ) (values : List Value) (c : Content)
    → after_write at values (model x c) ≡ model (counted false x) (written at values c)
write_model x at values c = go x.told
  where
    go : (b : Bool) → after_write at values (model (record x { told = b }) c)
        ≡ model (counted false (record x { told = b })) (written at values c)
    go true = refl
    go false = refl

failed_model : (x : Side) (at : ℕ) (values : List Value) (c : Content)
    → after_failed_write at values (model x c) ≡ model (counted true x) (failed at values c)
failed_model x at values c = go x.told
  where
    go : (b : Bool) → after_failed_write at values (model (record x { told = b }) c)
        ≡ model (counted true (record x { told = b })) (failed at values c)
    go true = refl
    go false = refl

sectors_called : (o : Option Call) (x : Side) → (called which.Cache o x).sectors ≡ x.sectors
sectors_called None x = refl
sectors_called (Some call) x = go (same_device call.device which.Cache)
  where
    go : (b : Bool) → (if b then counted call.failed x else x).sectors ≡ x.sectors
    go true = refl
    go false = refl

sectors_stay : (x : World) (es : List Event) → (fold after x es).cache.sectors ≡ x.cache.sectors
sectors_stay x [] = refl
sectors_stay x (e ∷ es) = sectors_stay (after x e) es ∙ sectors_called (call_by e.deed) x.cache

module _ {C B : Type 0} (cache_facts : C → DiskFacts) (backing_facts : B → DiskFacts) where
  committed_cache : (v w : View cache_facts backing_facts) (old new : C) (d : Deed)
      → IsCoreSeat cache_facts backing_facts v → Holds v.parts 4
      → IsCache {B = B} cache_facts backing_facts old (world cache_facts backing_facts v)
      → Did cache_facts backing_facts (Some d) v w
      → ((x : World) → IsCache {B = B} cache_facts backing_facts old x
      → IsCache {B = B} cache_facts backing_facts new (after x (by v.first d)))
      → IsCache {B = B} cache_facts backing_facts new (world cache_facts backing_facts w)
  committed_cache v w old new d seat holds on did step =
      subst (IsCache {B = B} cache_facts backing_facts new) (sym did.is.state)
      (step did.is.before (held (m cache_facts backing_facts) (framed cache_facts backing_facts) v
      did.is.before 4 (part.Cache old) seat.seat did.is.since holds (refl, on)).1)

  pub stands_written : (what : Written) (v w : View cache_facts backing_facts) (old new : C)
      (at : ℕ) (values : Values) → IsCoreSeat cache_facts backing_facts v → Holds v.parts 4
      → IsCache {B = B} cache_facts backing_facts old (world cache_facts backing_facts v)
      → Did cache_facts backing_facts (Some (deed.CacheWrite at what values)) v w
      → IsWritten at values (cache_facts old) (cache_facts new)
      → CountsGood (cache_facts old) (cache_facts new)
      → IsCache {B = B} cache_facts backing_facts new (world cache_facts backing_facts w)
  stands_written what v w old new at values seat holds on did is counts = committed_cache v w old
      new (deed.CacheWrite at what values) seat holds on did (λ x h. record {
        stands = subst (StandsFor (cache_facts new)) (write_model x.cache at values x.held)
            (write_stands (cache_facts old) (cache_facts new) (model x.cache x.held) h.stands at
            values is counts);
      })

  pub stands_lost : (what : Written) (v w : View cache_facts backing_facts) (old new : C) (at : ℕ)
      (values : Values) → IsCoreSeat cache_facts backing_facts v → Holds v.parts 4
      → IsCache {B = B} cache_facts backing_facts old (world cache_facts backing_facts v)
      → Did cache_facts backing_facts
      (Some (deed.DeviceFault (failure.CacheWrite at what values))) v w
      → IsFailedWrite at values (cache_facts old) (cache_facts new)
      → CountsFault (cache_facts old) (cache_facts new)
      → IsCache {B = B} cache_facts backing_facts new (world cache_facts backing_facts w)
  stands_lost what v w old new at values seat holds on did is counts = committed_cache v w old new
      (deed.DeviceFault (failure.CacheWrite at what values)) seat holds on did (λ x h. record {
        stands = subst (StandsFor (cache_facts new)) (failed_model x.cache at values x.held)
            (failed_write_stands (cache_facts old) (cache_facts new) (model x.cache x.held) h.stands
            at values is counts);
      })

  -- a bucket lies on the device
  pub bucket_on_disk : (q : PartsView (CorePart C B)) (v : View cache_facts backing_facts)
      → v.run ≡ q.run → (disk : C)
      → IsCache {B = B} cache_facts backing_facts disk (world cache_facts backing_facts v)
      → (size many bucket bytes : ℕ) → 1 ≤ size → bucket < many → bytes ≡ 512 * size
      → size * many ≤ (cache_among cache_facts backing_facts q.run.start).sectors
      → IsOnDisk (size * bucket) bytes (cache_facts disk)
  bucket_on_disk q v run disk on size many bucket bytes some below whole room =
      let sectors = on.stands.sectors
      ∙ sectors_stay (opening cache_facts backing_facts v.run.start) v.seen
      ∙ ap (λ (r : Run (CorePart C B)). (cache_among cache_facts backing_facts r.start).sectors)
      run in
      let next : size * (bucket + 1) ≤ size * many = mul-le-mul_left size (omega (arith, below)) in (
        size,
        some,
        whole,
        omega (arith, sectors, next, room),
      )

  -- the device in hand, which stands anew for what a deed made of it
  pub works_anew : (p : PartsView (CorePart C B)) (v w : View cache_facts backing_facts)
      (h : Hand C B) (c new : C) → h.cache ≡ Some c → Works cache_facts backing_facts p v h
      → IsCoreSeat cache_facts backing_facts w
      → Kept (m cache_facts backing_facts) v w (λ k. k == 4)
      → IsCache {B = B} cache_facts backing_facts new (world cache_facts backing_facts w)
      → Works cache_facts backing_facts p w (record h { cache = Some new })
  works_anew p v w h c new is works seat kept on = works_cache cache_facts backing_facts p v w h c
      new (λ k. k == 4)
      (subst (λ (o : Option C). Works cache_facts backing_facts p v (record h { cache = o })) is
      works) seat kept (other_number 4) on
