-- What a seat has done that puts an entry into the journal.
use Rattle.std.specs.Prelude.{◌≡◌, ◌⊎◌, ℕ, List, [], ◌∷◌, None, Some, Vec}
use Rattle.std.specs.declared.alloc.Global.{Global}
use Rattle.bc_disk.specs.Disk.{DiskFacts}
use Rattle.bc_disk.specs.declared.disk.Device.TheVariants.{Cache}
use Rattle.bc_model.specs.Sector.{Value}
use Rattle.bc_deed.specs.Flushed.{HasDone}
use Rattle.bc_events.specs.Columns.{halt_of}
use Rattle.bc_events.specs.declared.event.Deed.{Deed}
use Rattle.bc_events.specs.declared.event.Deed.TheVariants as deed
use Rattle.bc_events.specs.declared.event.Event.{Event}
use Rattle.bc_events.specs.declared.event.Failure.TheVariants as failure
use Rattle.bc_events.specs.declared.event.Written.TheVariants as written
use Rattle.bc_facts.specs.Seen.{entry_rest}
use Rattle.bc_deed.specs.bc_hand.Seats.{View, world}
use Rattle.bc_deed.specs.bc_hand.declared.error.StepError.{StepError}
use Rattle.bc_deed.specs.bc_hand.declared.error.StepError.TheVariants as error
use Rattle.bc_journal.specs.Journal.{IsSealed, Journal, entry_now}
use Rattle.bc_journal.specs.Sealed.{Sealed, numbers_of, sector_at}
use Rattle.bc_sealing.specs.bc_machine.World.{FromEach}
use Rattle.bc_entry.specs.Entry.{AreValuesOf, IsNewestEntry}
use Rattle.bc_entry.specs.Seal.{begun_by}

-- ---- the deeds of an entry

abbrev pub seal_by : Journal → Sealed → Vec ℕ Global → Deed
seal_by j s rest = deed.Seal s.entry.last_seq (begun_by j) rest None None

abbrev pub write_by : Sealed → List Value → Deed
write_by s values = deed.CacheWrite (sector_at s.geometry s.place) written.Entry values

-- a call of each kind that failed
abbrev pub lost_by : Sealed → List Value → Deed
lost_by s values =
    deed.DeviceFault (failure.CacheWrite (sector_at s.geometry s.place) written.Entry values)

abbrev pub failed_barrier : Deed
failed_barrier = deed.DeviceFault (failure.Barrier Cache)

-- It is sealed, a barrier, it is written, a barrier, it is durable.
abbrev pub put_by : Journal → Sealed → Vec ℕ Global → List Value → List Deed
put_by j s rest values = seal_by j s rest ∷ deed.CacheBarrier ∷ write_by s values
    ∷ deed.CacheBarrier ∷ deed.Sealed ∷ []

pub record IsPut (j : Journal) (s : Sealed) (deeds : List Deed) : Type 0 where
  pub rest : Vec ℕ Global
  pub rest_is : rest.items ≡ entry_rest s.entry
  pub values : List Value
  pub values_are : AreValuesOf s values
  pub is : deeds ≡ put_by j s rest values

-- ---- where it came no further

-- behind the seal: the barrier failed, or the write, or the barrier behind it
abbrev pub HasFailedBehind : Sealed → List Deed → Type 0
HasFailedBehind s deeds = (deeds ≡ failed_barrier ∷ [])
    ⊎ ((values : List Value) × AreValuesOf s values
    × ((deeds ≡ deed.CacheBarrier ∷ lost_by s values ∷ [])
    ⊎ (deeds ≡ deed.CacheBarrier ∷ write_by s values ∷ failed_barrier ∷ [])))

-- or no call did
abbrev pub HasStoppedBehind : Sealed → List Deed → Type 0
HasStoppedBehind s deeds = (deeds ≡ []) ⊎ ((deeds ≡ deed.CacheBarrier ∷ [])
    ⊎ ((values : List Value) × AreValuesOf s values
    × ((deeds ≡ deed.CacheBarrier ∷ write_by s values ∷ [])
    ⊎ (deeds ≡ deed.CacheBarrier ∷ write_by s values ∷ deed.CacheBarrier ∷ []))))

-- A call failed exactly where that is the error. All memory is there before the seal.
abbrev pub IsCutBehind : StepError → Sealed → List Deed → Type 0
IsCutBehind (error.Fault device) s deeds = (device ≡ Cache) × HasFailedBehind s deeds
IsCutBehind (error.Halted device) s deeds = HasStoppedBehind s deeds
IsCutBehind error.Memory s deeds = ⊥

abbrev pub IsNoFault : StepError → Type 0
IsNoFault (error.Fault device) = ⊥
IsNoFault e = Unit {0}

-- the entry that the journal gives was sealed, and no more than that came of it
pub record IsCutAt (e : StepError) (j : Journal) (deeds : List Deed) : Type 0 where
  pub sealed : Sealed
  pub behind : Journal
  pub entry : IsSealed j j.heads sealed behind
  pub rest : Vec ℕ Global
  pub rest_is : rest.items ≡ entry_rest sealed.entry
  pub more : List Deed
  pub cut : IsCutBehind e sealed more
  pub is : deeds ≡ seal_by j sealed rest ∷ more

-- or not even that
abbrev pub IsCut : StepError → Journal → List Deed → Type 0
IsCut e j deeds = (IsNoFault e × (deeds ≡ [])) ⊎ IsCutAt e j deeds

-- why it came no further
abbrev pub IsCause : StepError → List Event → Type 0
IsCause (error.Fault device) es = device ≡ Cache
IsCause (error.Halted device) es = halt_of es ≡ Some device
IsCause error.Memory es = Unit {0}

-- The journal behind it: the keys that waited are durable, and it goes on behind the entry, which
-- names what the one before it does.
pub record GoesOn (j k : Journal) : Type 0 where
  pub durable : k.durable ≡ numbers_of (entry_now j j.heads)
  pub heads : k.heads ≡ j.heads
  pub sealed : k.sealed ≡ None
  pub waiting : k.waiting ≡ []
  pub needed : k.needed ≡ j.needed
  pub geometry : k.ring.geometry ≡ j.ring.geometry

module _ {C B : Type 0} (cache_facts : C → DiskFacts) (backing_facts : B → DiskFacts) where
  -- The seat put the entry that the journal gives, by its own deeds and no others; from each opening
  -- that is the newest durable one.
  pub record HasPut (j : Journal) (v w : View cache_facts backing_facts) : Type 0 where
    pub sealed : Sealed
    pub behind : Journal
    pub entry : IsSealed j j.heads sealed behind
    pub deeds : List Deed
    pub put : IsPut j sealed deeds
    pub done : HasDone cache_facts backing_facts deeds v w
    pub newest : FromEach (world cache_facts backing_facts w)
        (IsNewestEntry sealed.geometry sealed.entry)

  -- it came so far, for this error
  pub record HasCut (e : StepError) (j : Journal) (v w : View cache_facts backing_facts) :
      Type 0 where
    pub deeds : List Deed
    pub cut : IsCut e j deeds
    pub done : HasDone cache_facts backing_facts deeds v w
