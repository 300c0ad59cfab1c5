-- A write under a claim, from its values to its keys.
use Rattle.std.specs.Prelude.{◌≡◌, ◌⊎◌, ℕ, List, length, Result, Ok, Err}
use Rattle.bc_disk.specs.Disk.{DiskFacts}
use Rattle.bc_events.specs.declared.event.LineNumber.{LineNumber}
use Rattle.bc_fill.specs.declared.fill.Placed.{Placed}
use Rattle.bc_stored.specs.bc_deed.Flushed.{HasDone}
use Rattle.bc_stored.specs.bc_hand.Seats.{View}
use Rattle.bc_stored.specs.bc_hand.declared.error.StepError.{StepError}
use Rattle.bc_stored.specs.bc_place.Named.{sectors_of}
use Rattle.bc_model.specs.Sector.{Value}
use Rattle.bc_request.specs.bc_fetch.declared.error.LeafError.{LeafError}
use Rattle.bc_request.specs.bc_fetch.declared.error.LeafError.TheVariants as leaf
use Rattle.bc_stored.specs.All.{HaveNotStored, HaveStored, unpins}
use Rattle.bc_stored.specs.declared.error.StoreError.{StoreError}
use Rattle.bc_stored.specs.declared.error.StoreError.TheVariants as store
use Rattle.bc_write_back.specs.Put.{HasLacked, HasNotPut, HasPut}
use Rattle.bc_write_back.specs.declared.error.Lack.{Lack}
use Rattle.bc_write_back.specs.declared.error.Lack.TheVariants as lack
use Rattle.bc_write_back.specs.declared.error.Put.{Put}
use Rattle.bc_write_back.specs.declared.error.Put.TheVariants as put
use Rattle.bc_write_back.specs.declared.error.WriteError.{WriteError}
use Rattle.bc_write_back.specs.declared.error.WriteError.TheVariants as error

-- what a write comes to whose values weren't stored
abbrev pub unstored : StoreError → Result Put WriteError
unstored (store.Step e) = Err (error.Leaf (leaf.Step e))
unstored store.NoBucket = Ok (put.Lacks lack.Bucket)
unstored store.Outside = Err error.Place

module _ {C B : Type 0} (cache_facts : C → DiskFacts) (backing_facts : B → DiskFacts)
    (before sectors first : ℕ) (values : List Value) where
  -- The values were put to these places of the cache device, and keys that name them came into the
  -- index.
  pub record HasWritten (of : LineNumber) (v w : View cache_facts backing_facts) : Type 0 where
    pub places : List Placed
    pub all : sectors_of places ≡ length values
    pub at : View cache_facts backing_facts
    pub stored : HaveStored cache_facts backing_facts before sectors places values v at
    pub put : HasPut cache_facts backing_facts places of first values at w

  -- They were put to places, and then this came; so the places were let go.
  pub record HasTakenBack
      (This : List Placed → View cache_facts backing_facts → View cache_facts backing_facts
      → Type 0)
      (v w : View cache_facts backing_facts) : Type 0 where
    pub places : List Placed
    pub all : sectors_of places ≡ length values
    pub at : View cache_facts backing_facts
    pub stored : HaveStored cache_facts backing_facts before sectors places values v at
    pub stopped : View cache_facts backing_facts
    pub this : This places at stopped
    pub let_go : HasDone cache_facts backing_facts (unpins places) stopped w

  -- They weren't all put to places, by a step that didn't come to an end.
  pub record HasNotStored (e : LeafError) (v w : View cache_facts backing_facts) : Type 0 where
    pub cause : StepError
    pub is : e ≡ leaf.Step cause
    pub why : HaveNotStored cache_facts backing_facts before sectors (store.Step cause) values v w

  -- there was no bucket for them, or no room for their keys
  abbrev pub HasNoRoom : Lack → View cache_facts backing_facts → View cache_facts backing_facts
      → Type 0
  HasNoRoom lack.Bucket v w =
      HaveNotStored cache_facts backing_facts before sectors store.NoBucket values v w
  HasNoRoom why v w = HasTakenBack
      (λ ps u x. HasLacked cache_facts backing_facts why ps first (length values) u x) v w

  abbrev pub HasComeTo : Put → LineNumber → View cache_facts backing_facts
      → View cache_facts backing_facts → Type 0
  HasComeTo put.Written of v w = HasWritten of v w
  HasComeTo (put.Lacks why) of v w = HasNoRoom why v w

  -- why they weren't written
  abbrev pub HasNotWritten : WriteError → View cache_facts backing_facts
      → View cache_facts backing_facts → Type 0
  HasNotWritten (error.Leaf e) v w = HasNotStored e v w
      ⊎ HasTakenBack (λ ps u x. HasNotPut cache_facts backing_facts first (length values) e u x) v w
  HasNotWritten error.Place v w =
      HaveNotStored cache_facts backing_facts before sectors store.Outside values v w
