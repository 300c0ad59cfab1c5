-- The cache device behind a write of a new node, and behind one that failed.
use Rattle.std.proofs.Common.{◌≡◌, ℕ, Bool, true, false, List, Some, refl, sym, subst}
use Rattle.std.specs.Prelude.{Err, Ok, OnErr, OnOk, Result}
use Rattle.bc_disk.proofs.Stands.{failed_write_stands, write_stands}
use Rattle.bc_disk.specs.Device.{Content, after_failed_write, after_write, failed, written}
use Rattle.bc_disk.specs.Disk.{DiskFacts, IsCounted, IsFailedWrite, IsWritten, StandsFor}
use Rattle.bc_disk.specs.declared.disk.Failed.{Failed}
use Rattle.bc_events.specs.declared.event.Deed.{Deed}
use Rattle.bc_events.specs.declared.event.Written.{Written}
use Rattle.bc_held.proofs.of_bc_hand.Knowing.{View, framed, m}
use Rattle.bc_held.specs.bc_hand.Seats.{Did, IsCoreSeat, by, world}
use Rattle.bc_held.specs.bc_machine.World.{IsCache, Side, World, after, counted, model}
use Rattle.bc_held.specs.bc_machine.declared.part.CorePart.TheVariants as part
use Rattle.bc_model.specs.Sector.{Value}
use Rattle.bc_new_node.specs.Wrote.{sent_by}
use Rattle.bc_parts.specs.Seat.{Holds}
use Rattle.bc_seats.proofs.Knowing.{held}

write_model : (x : Side) (at : ℕ) (values : List Value) (c : Content)
    → after_write at values (model x c) ≡ model (counted false x) (written at values c)
write_model x at values c = go x.told
  where
    go : (b : Bool) → after_write at values (model (record x { told = b }) c)
        ≡ model (counted false (record x { told = b })) (written at values c)
    go true = refl
    go false = refl

failed_model : (x : Side) (at : ℕ) (values : List Value) (c : Content)
    → after_failed_write at values (model x c) ≡ model (counted true x) (failed at values c)
failed_model x at values c = go x.told
  where
    go : (b : Bool) → after_failed_write at values (model (record x { told = b }) c)
        ≡ model (counted true (record x { told = b })) (failed at values c)
    go true = refl
    go false = refl

module _ {C B : Type 0} (cache_facts : C → DiskFacts) (backing_facts : B → DiskFacts) where
  committed : (v w : View cache_facts backing_facts) (old new : C) (d : Deed)
      → IsCoreSeat cache_facts backing_facts v → Holds v.parts 4
      → IsCache {C = C} {B = B} cache_facts backing_facts old (world cache_facts backing_facts v)
      → Did cache_facts backing_facts (Some d) v w
      → ((x : World) → IsCache {C = C} {B = B} cache_facts backing_facts old x
      → IsCache {C = C} {B = B} cache_facts backing_facts new (after x (by v.first d)))
      → IsCache {C = C} {B = B} cache_facts backing_facts new (world cache_facts backing_facts w)
  committed v w old new d seat holds on did step =
      subst (IsCache {C = C} {B = B} cache_facts backing_facts new) (sym did.is.state)
      (step did.is.before (held (m cache_facts backing_facts) (framed cache_facts backing_facts) v
      did.is.before 4 (part.Cache old) seat.seat did.is.since holds (refl, on)).1)

  pub cache_sent : (v w : View cache_facts backing_facts) (old new : C) (at : ℕ) (what : Written)
      (values : List Value) (r : Result (Unit {0}) Failed)
      → IsCoreSeat cache_facts backing_facts v → Holds v.parts 4
      → IsCache {C = C} {B = B} cache_facts backing_facts old (world cache_facts backing_facts v)
      → Did cache_facts backing_facts (Some (sent_by at what values r)) v w
      → OnOk r (IsWritten at values (cache_facts old) (cache_facts new))
      → OnErr r (IsFailedWrite at values (cache_facts old) (cache_facts new))
      → IsCounted r (cache_facts old) (cache_facts new)
      → IsCache {C = C} {B = B} cache_facts backing_facts new (world cache_facts backing_facts w)
  cache_sent v w old new at what values (Ok done) seat holds on did good bad counts =
      committed v w old new (sent_by at what values (Ok done)) seat holds on did (λ x h. record {
        stands = subst (StandsFor (cache_facts new)) (write_model x.cache at values x.held)
            (write_stands (cache_facts old) (cache_facts new) (model x.cache x.held) h.stands at
            values good counts);
      })
  cache_sent v w old new at what values (Err lost) seat holds on did good bad counts =
      committed v w old new (sent_by at what values (Err lost)) seat holds on did (λ x h. record {
        stands = subst (StandsFor (cache_facts new)) (failed_model x.cache at values x.held)
            (failed_write_stands (cache_facts old) (cache_facts new) (model x.cache x.held) h.stands
            at values bad counts);
      })
