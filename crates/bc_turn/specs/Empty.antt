-- A leaf of which nothing is to be pending any more, and why something is.
use Rattle.std.specs.Prelude.{◌≡◌, ℕ, ◌+◌, ◌-◌, ◌%◌, ◌<◌, true, false, Option, Some, None, Result, Ok, Err}
use Rattle.bc_append.specs.Append.{HasAppended, HasLeafIn}
use Rattle.bc_disk.specs.Disk.{DiskFacts}
use Rattle.bc_append.specs.Durable.{IsToldBy}
use Rattle.bc_append.specs.bc_hand.Seats.{Did, View, world}
use Rattle.bc_append.specs.bc_machine.World.{World}
use Rattle.bc_append.specs.bc_hand.declared.hand.Hand.{Hand}
use Rattle.bc_node.specs.Leaf.{IsFull}
use Rattle.bc_node.specs.declared.pending.Entries.{Entries}
use Rattle.bc_turn.specs.declared.error.Why.{Why}
use Rattle.bc_turn.specs.declared.error.Why.TheVariants as why

-- the leaf of this number, in a slot of the part in hand, which is its own of so many
pub record HasOwnLeafIn {C B : Type 0} (h : Hand C B) (parts slot number : ℕ) : Type 0 where
  pub at : HasLeafIn h slot number
  pub its_part : at.leaves.part ≡ 6 + number % (parts - 6)

-- Keys of it are pending, of these entries.
pub record HasPendingIn {C B : Type 0} (h : Hand C B) (parts slot number : ℕ) : Type 0 where
  pub own : HasOwnLeafIn h parts slot number
  pub entries : Entries
  pub pending : own.at.cached.leaf.entries ≡ Some entries

-- Why they don't go to its node, on a device of so many sectors.
abbrev pub IsWhy : {C B : Type 0} {h : Hand C B} {parts slot number : ℕ} → Why → (sectors : ℕ)
    → HasPendingIn h parts slot number → Type 0
IsWhy why.Held sectors x = x.own.at.cached.held ≡ true
IsWhy why.Closed sectors x = x.own.at.cached.leaf.loaded ≡ true
IsWhy (why.Waiting durable) sectors x = durable < x.entries.last
IsWhy why.Full sectors x = IsFull x.own.at.leaves.cache.geometry x.own.at.cached.leaf
IsWhy why.Outside sectors x = sectors
    < x.own.at.cached.leaf.ptr.offset + x.own.at.leaves.cache.geometry.node_sectors

-- How far the journal is durable, one told that stood for the run.
abbrev pub IsTold : Why → World → Type 0
IsTold (why.Waiting durable) x = IsToldBy durable x
IsTold other x = Unit {0}

-- Nothing goes behind its sets, whatever the journal says. Or it is one that this run wrote and that
-- nobody holds, and this is the last entry that has keys of it.
abbrev pub IsClosedBy : {C B : Type 0} {h : Hand C B} {parts slot number : ℕ} → Result ℕ Why
    → HasPendingIn h parts slot number → Type 0
IsClosedBy (Ok last) x = (x.own.at.cached.held ≡ false) × (x.own.at.cached.leaf.loaded ≡ false)
    × (last ≡ x.entries.last)
IsClosedBy (Err why.Held) x = x.own.at.cached.held ≡ true
IsClosedBy (Err why.Closed) x = x.own.at.cached.leaf.loaded ≡ true
IsClosedBy (Err other) x = ⊥

module _ {C B : Type 0} (cache_facts : C → DiskFacts) (backing_facts : B → DiskFacts) where
  -- They are left, and nothing was done.
  pub record IsLeft (why : Why) (sectors parts number : ℕ) (old new : Hand C B)
      (v w : View cache_facts backing_facts) (slot : ℕ) (x : HasPendingIn old parts slot number) :
      Type 0 where
    pub cause : IsWhy why sectors x
    pub did : Did cache_facts backing_facts None v w
    pub same : new ≡ old
    pub told : IsTold why (world cache_facts backing_facts w)

  -- Or they are in a further set of the leaf's node.
  abbrev pub HasEmptied : (sectors parts number : ℕ) → Option Why → (old new : Hand C B)
      → (v w : View cache_facts backing_facts) (slot : ℕ) → HasPendingIn old parts slot number
      → Type 0
  HasEmptied sectors parts number None old new v w slot x =
      (a : HasAppended cache_facts backing_facts number old new v w) × (a.slot ≡ slot)
  HasEmptied sectors parts number (Some why) old new v w slot x =
      IsLeft why sectors parts number old new v w slot x
