-- Values that were put to as many places as they need.
use Rattle.std.specs.Prelude.{◌≡◌, ◌⊎◌, ℕ, List, [], ◌∷◌, drop, map}
use Rattle.bc_insert.specs.bc_deed.Flushed.{HasDone}
use Rattle.bc_disk.specs.Disk.{DiskFacts}
use Rattle.bc_events.specs.declared.event.Deed.{Deed}
use Rattle.bc_events.specs.declared.event.Deed.TheVariants as deed
use Rattle.bc_events.specs.declared.event.UnpinKind.TheVariants as unpin
use Rattle.bc_events.specs.Run.{State}
use Rattle.bc_fill.specs.declared.fill.Placed.{Placed}
use Rattle.bc_insert.specs.bc_hand.Seats.{View}
use Rattle.bc_insert.specs.bc_hand.declared.error.StepError.TheVariants as step
use Rattle.bc_insert.specs.bc_machine.World.{Origin}
use Rattle.bc_model.specs.Sector.{Value}
use Rattle.bc_insert.specs.bc_place.Named.{IsApartFrom, sectors_of}
use Rattle.bc_insert.specs.bc_place.Place.{IsOwn}
use Rattle.bc_stored.specs.Stored.{HasNotStored, HasStoredAt}
use Rattle.bc_stored.specs.declared.error.StoreError.{StoreError}
use Rattle.bc_stored.specs.declared.error.StoreError.TheVariants as error

-- they are let go, one behind the other
abbrev pub unpins : List Placed → List Deed
unpins ps = map (λ (p : Placed). deed.Unpin (unpin.Place p.ptr.offset p.count)) ps

-- The places are the seat's own, and no two have a sector in common.
abbrev pub AreOwnApart : ℕ → List Placed → Origin → State → Type 0
AreOwnApart i [] o st = Unit {0}
AreOwnApart i (p ∷ ps) o st = IsOwn i p o st × (IsApartFrom p ps × AreOwnApart i ps o st)

module _ {C B : Type 0} (cache_facts : C → DiskFacts) (backing_facts : B → DiskFacts) where
  -- These places were filled, each with the first of the values that those before it left.
  abbrev pub HaveStored : (before sectors : ℕ) → List Placed → List Value
      → View cache_facts backing_facts → View cache_facts backing_facts → Type 0
  HaveStored before sectors [] values v w = w ≡ v
  HaveStored before sectors (p ∷ ps) values v w = (u : View cache_facts backing_facts)
      × HasStoredAt cache_facts backing_facts before sectors p values v u
      × HaveStored before sectors ps (drop p.count values) u w

  -- Some were filled; the next wasn't, and so these were let go.
  pub record HaveStopped (before sectors : ℕ) (e : StoreError) (values : List Value)
      (v w : View cache_facts backing_facts) : Type 0 where
    pub places : List Placed
    pub stored : View cache_facts backing_facts
    pub were : HaveStored before sectors places values v stored
    pub refused : View cache_facts backing_facts
    pub why : HasNotStored cache_facts backing_facts before sectors e
        (drop (sectors_of places) values) stored refused
    pub let_go : HasDone cache_facts backing_facts (unpins places) refused w

  -- Or there was no memory for the list of places, and nothing was done.
  abbrev pub HaveNotStored : (before sectors : ℕ) → StoreError → List Value
      → View cache_facts backing_facts → View cache_facts backing_facts → Type 0
  HaveNotStored before sectors e values v w =
      ((e ≡ error.Step step.Memory) × (w ≡ v)) ⊎ HaveStopped before sectors e values v w
