-- What a seat learns of a part with leaves, and goes on to know.
use Rattle.std.specs.Prelude.{◌≡◌, ℕ, ◌%◌, ◌<◌, ◌≤◌, List, Some, IfSome, slice_get}
use Rattle.bc_cache.specs.Slots.{NodeCache}
use Rattle.bc_cache.specs.declared.slots.Cached.{Cached}
use Rattle.bc_disk.specs.Disk.{DiskFacts}
use Rattle.bc_events.specs.declared.event.Deed.{Deed}
use Rattle.bc_events.specs.declared.event.Event.{Event}
use Rattle.bc_append.specs.bc_hand.Seats.{View, world}
use Rattle.bc_fetch.specs.bc_deed.Flushed.{HasDone}
use Rattle.bc_append.specs.bc_machine.World.{AreLeaves, FromEach, World, after}
use Rattle.bc_needs.specs.Needs.{NeedsFrom}
use Rattle.bc_turn.specs.Need.{IsToCome, PartNeedsFrom}

-- The leaves of a part that are its own, of so many parts, have nothing pending of an older entry.
abbrev pub WaitsFrom : (count part low : ℕ) → NodeCache → Type 0
WaitsFrom count part low cache = (i : ℕ) (c : Cached) → slice_get cache.slots i ≡ Some (Some c)
    → c.number % count ≡ part → IfSome c.leaf.entries (λ e. low ≤ e.first)

-- A part in memory tells what its leaves wait for: what is in no slot waits for nothing.
abbrev pub LawTold : Type 0
LawTold = (x : World) (part low : ℕ) (cache : NodeCache) → AreLeaves part cache x
    → WaitsFrom x.begun.leaf_parts part low cache → FromEach x (IsToCome low)
    → FromEach x (PartNeedsFrom x.begun.leaf_parts part low)

-- What no leaf of a part waits for, none ever will, whatever happens.
pub record LawLasts : Type 0 where
  pub come : (x : World) (e : Event) (low : ℕ) → FromEach x (IsToCome low)
      → FromEach (after x e) (IsToCome low)
  pub part : (x : World) (e : Event) (count part low : ℕ)
      → FromEach x (PartNeedsFrom count part low)
      → FromEach (after x e) (PartNeedsFrom count part low)

-- So once it is known of each part, it is known of all leaves.
abbrev pub LawAll : Type 0
LawAll = (x : World) (count low : ℕ) → 0 < count
    → ((part : ℕ) → part < count → FromEach x (PartNeedsFrom count part low))
    → FromEach x (λ o st. NeedsFrom low st)

-- A seat goes on to know it, whatever it and others do.
pub record LawKnown {C B : Type 0} (cache_facts : C → DiskFacts) (backing_facts : B → DiskFacts) :
    Type 0 where
  pub come : (v w : View cache_facts backing_facts) (ds : List Deed) (low : ℕ)
      → HasDone cache_facts backing_facts ds v w
      → FromEach (world cache_facts backing_facts v) (IsToCome low)
      → FromEach (world cache_facts backing_facts w) (IsToCome low)
  pub part : (v w : View cache_facts backing_facts) (ds : List Deed) (count part low : ℕ)
      → HasDone cache_facts backing_facts ds v w
      → FromEach (world cache_facts backing_facts v) (PartNeedsFrom count part low)
      → FromEach (world cache_facts backing_facts w) (PartNeedsFrom count part low)
