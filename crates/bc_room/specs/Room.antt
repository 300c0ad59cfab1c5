-- Room for keys in a leaf in hand.
use Rattle.std.specs.Prelude.{◌≡◌, ℕ, ◌≤◌, Some, OnOk, Result, slice_get}
use Rattle.std.specs.declared.alloc.AllocError.{AllocError}
use Rattle.bc_cache.specs.Slots.{NodeCache, with_slot}
use Rattle.bc_cache.specs.declared.slots.Cached.{Cached}
use Rattle.bc_disk.specs.Disk.{DiskFacts}
use Rattle.bc_fetch.specs.bc_hand.Seats.{View, Works}
use Rattle.bc_fetch.specs.bc_hand.declared.hand.Hand.{Hand}
use Rattle.bc_fetch.specs.bc_hand.declared.hand.LeafHand.{LeafHand}
use Rattle.bc_fetch.specs.bc_machine.declared.part.CorePart.{CorePart}
use Rattle.bc_node.specs.Leaf.{IsSameNode, Leaf}
use Rattle.bc_parts.specs.Seat.{PartsView}

-- the same leaf, with as much room or more
pub record IsRoomier (old new : Leaf) : Type 0 where
  pub same : IsSameNode old new
  pub keys : new.keys ≡ old.keys
  pub pending : new.pending ≡ old.pending
  pub entries : new.entries ≡ old.entries
  pub spare : old.spare ≤ new.spare

-- The slot's leaf is roomier, and nothing else changed; after `Ok` it has room for so many keys.
pub record IsReserved (slot more : ℕ) (result : Result (Unit {0}) AllocError)
    (old new : NodeCache) : Type 0 where
  pub cached : Cached
  pub there : slice_get old.slots slot ≡ Some (Some cached)
  pub leaf : Leaf
  pub roomier : IsRoomier cached.leaf leaf
  pub is : new ≡ with_slot old slot (Some (record cached { leaf = leaf }))
  pub room : OnOk result (more ≤ leaf.spare)

-- the same, of the slot of the part in hand that has the leaf of this number
pub record HasReserved {C B : Type 0} (number more : ℕ) (result : Result (Unit {0}) AllocError)
    (old new : Hand C B) : Type 0 where
  pub leaves : LeafHand
  pub was : old.leaves ≡ Some leaves
  pub slot : ℕ
  pub cache : NodeCache
  pub reserved : IsReserved slot more result leaves.cache cache
  pub its : reserved.cached.number ≡ number
  pub is : new ≡ record old { leaves = Some (record leaves { cache = cache }) }

-- What is in hand stands for what it stood for.
abbrev pub LawReserved : {C B : Type 0} → (C → DiskFacts) → (B → DiskFacts) → Type 0
LawReserved {C} {B} cache_facts backing_facts =
    (p : PartsView (CorePart C B)) (v : View {C = C} {B = B} cache_facts backing_facts)
    (number more : ℕ) (result : Result (Unit {0}) AllocError) (old new : Hand C B)
    → HasReserved number more result old new → Works cache_facts backing_facts p v old
    → Works cache_facts backing_facts p v new
