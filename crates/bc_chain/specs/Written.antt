-- A set of a chain that a seat wrote, and why it wrote none.
use Rattle.std.specs.Prelude.{◌≡◌, ◌≢◌, ◌↔◌, ℕ, ◌+◌, ◌-◌, ◌*◌, ◌<◌, ◌≤◌, true, List, is_some, None, Some}
use Rattle.bc_chains.specs.Written.{IsMade}
use Rattle.bc_disk.specs.Chain.{sets_in_chain}
use Rattle.bc_disk.specs.Disk.{DiskFacts}
use Rattle.bc_disk.specs.declared.disk.Device.TheVariants.{Cache}
use Rattle.bc_disk.specs.declared.gens.BucketRecord.{BucketRecord}
use Rattle.bc_disk.specs.declared.geometry.Geometry.{Geometry}
use Rattle.bc_events.specs.Columns.{halt_of}
use Rattle.bc_events.specs.declared.event.Deed.{Deed}
use Rattle.bc_events.specs.declared.event.Deed.TheVariants as deed
use Rattle.bc_events.specs.declared.event.Failure.TheVariants as failure
use Rattle.bc_events.specs.declared.event.Written.TheVariants as written
use Rattle.bc_facts.specs.Seen.{seen_prio}
use Rattle.bc_meta.specs.Layout.{PrioSet}
use Rattle.bc_model.specs.declared.values.Values.{Values}
use Rattle.bc_model.specs.Sector.{values_of}
use Rattle.bc_place.specs.bc_hand.Seats.{Did, View, world}
use Rattle.bc_place.specs.bc_hand.declared.error.StepError.{StepError}
use Rattle.bc_place.specs.bc_hand.declared.error.StepError.TheVariants as error
use Rattle.bc_place.specs.bc_hand.declared.hand.Hand.{Hand}
use Rattle.bc_place.specs.bc_machine.World.{FromEach}
use Rattle.bc_prio.specs.Set.{IsWrittenSet}

-- the buckets and the cache device are in hand
pub record HasBucketsAndCache {C B : Type 0} (h : Hand C B) : Type 0 where
  pub buckets : is_some h.buckets ≡ true
  pub cache : is_some h.cache ≡ true

-- This part of the chain goes into a bucket of the device, and names the next bucket, none if it is
-- the last one.
pub record IsPart (g : Geometry) (bucket part next : ℕ) : Type 0 where
  pub some : 1 ≤ g.bucket
  pub low : g.first_bucket ≤ bucket
  pub high : bucket < g.nbuckets
  pub part_is : part < sets_in_chain g
  pub count : (next ≡ 0) ↔ (part + 1 ≡ sets_in_chain g)

-- the core counts buckets from the journal's first one on
abbrev pub number_of : Geometry → ℕ → ℕ
number_of g bucket = bucket - g.first_bucket

abbrev pub write_of : Geometry → (bucket part : ℕ) → Values → Deed
write_of g bucket part values = deed.CacheWrite (g.bucket * bucket)
    (written.Priorities (number_of g bucket) part) values

abbrev pub lost_of : Geometry → (bucket part : ℕ) → Values → Deed
lost_of g bucket part values = deed.DeviceFault (failure.CacheWrite (g.bucket * bucket)
    (written.Priorities (number_of g bucket) part) values)

module _ {C B : Type 0} (cache_facts : C → DiskFacts) (backing_facts : B → DiskFacts) where
  -- The set of these records was written there, and is made; what was made in other buckets is so
  -- still.
  pub record HasWrittenSet (g : Geometry) (records : List BucketRecord) (bucket part next : ℕ)
      (v w : View cache_facts backing_facts) : Type 0 where
    pub bytes : List ℕ
    pub set : IsWrittenSet g records part next bytes
    pub values : Values
    pub values_are : values ≡ values_of bytes
    pub did : Did cache_facts backing_facts (Some (write_of g bucket part values)) v w
    pub made : FromEach (world cache_facts backing_facts w)
        (IsMade (number_of g bucket) part (seen_prio g part bytes))
    pub others : (q k : ℕ) (x : PrioSet) → q ≢ number_of g bucket
        → FromEach (world cache_facts backing_facts v) (IsMade q k x)
        → FromEach (world cache_facts backing_facts w) (IsMade q k x)

  -- The write failed, which was committed; or a device had halted the run before.
  abbrev pub HasLostSet : StepError → Geometry → List BucketRecord → (bucket part next : ℕ)
      → View cache_facts backing_facts → View cache_facts backing_facts → Type 0
  HasLostSet (error.Fault device) g records bucket part next v w = (device ≡ Cache)
      × ((bytes : List ℕ) × (values : Values) × IsWrittenSet g records part next bytes
      × (values ≡ values_of bytes)
      × Did cache_facts backing_facts (Some (lost_of g bucket part values)) v w)
  HasLostSet (error.Halted device) g records bucket part next v w =
      (halt_of w.seen ≡ Some device) × Did cache_facts backing_facts None v w
  HasLostSet error.Memory g records bucket part next v w = ⊥
