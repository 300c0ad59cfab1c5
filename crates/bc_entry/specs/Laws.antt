-- What the first seat of a run knows as the run begins.
use Rattle.std.specs.Prelude.{◌≡◌, ℕ, ◌+◌, ◌<◌, ◌≤◌, List, [], Some, IfSome, length, slice_get}
use Rattle.bc_cache.specs.Slots.{NodeCache}
use Rattle.bc_cache.specs.declared.slots.Cached.{Cached}
use Rattle.bc_disk.specs.Disk.{DiskFacts}
use Rattle.bc_deed.specs.bc_hand.Seats.{View, core, world}
use Rattle.bc_journal.specs.Journal.{Journal}
use Rattle.bc_sealing.specs.bc_machine.World.{Begun, FromEach, World}
use Rattle.bc_seats.specs.Seats.{Waited}
use Rattle.bc_needs.specs.Needs.{NeedsFrom}

-- A seat that has all numbers is alone: while it waits nothing happens.
abbrev pub LawAlone : {C B : Type 0} → (C → DiskFacts) → (B → DiskFacts) → Type 0
LawAlone {C} {B} cache_facts backing_facts = (v w : View {C = C} {B = B} cache_facts backing_facts)
    → v.first ≡ 0 → 320 ≤ v.end → Waited (core cache_facts backing_facts) v w
    → world cache_facts backing_facts w ≡ world cache_facts backing_facts v

-- the leaves of a part wait for keys of no entry below this one
abbrev pub WaitFrom : ℕ → NodeCache → Type 0
WaitFrom low cache = (i : ℕ) (c : Cached) → slice_get cache.slots i ≡ Some (Some c)
    → IfSome c.leaf.entries (λ e. low ≤ e.first)

-- so it is of each part of leaves with which a run begins, of which there is one at least
pub record AllWaitFrom (low : ℕ) (b : Begun) : Type 0 where
  pub some : 0 < length b.leaves
  pub each : b.leaf_parts ≡ length b.leaves
  pub from : (i : ℕ) (cache : NodeCache) → slice_get b.leaves i ≡ Some cache → WaitFrom low cache

-- Before a run's first event no leaf of the machine waits for a key of an older entry than those in
-- memory do: what isn't in memory waits for none, and no change of the tree is under way. So the
-- journal may need as few entries as that, if the next entry isn't below it either.
abbrev pub LawNeeds : Type 0
LawNeeds = (x : World) (low : ℕ) (j : Journal) → x.log ≡ [] → AllWaitFrom low x.begun
    → x.begun.journal ≡ Some j → low ≤ j.durable.seq + 1
    → FromEach x (λ o st. NeedsFrom low st)
