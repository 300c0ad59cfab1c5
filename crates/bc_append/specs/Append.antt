-- A further set of a leaf in hand: what a seat has to know, and what it has done.
use Rattle.std.specs.Prelude.{◌≡◌, ℕ, ◌+◌, ◌-◌, ◌%◌, ◌<◌, ◌≤◌, true, false, List, Option, Some, None, Result, Ok, Err, slice_get, OnOk, OnErr}
use Rattle.bc_cache.specs.Slots.{NodeCache, with_slot}
use Rattle.bc_cache.specs.declared.slots.Cached.{Cached}
use Rattle.bc_disk.specs.Disk.{DiskFacts, IsCounted, IsFailedWrite, IsWritten}
use Rattle.bc_disk.specs.declared.disk.Device.TheVariants.{Cache}
use Rattle.bc_disk.specs.declared.disk.Failed.{Failed}
use Rattle.bc_disk.specs.declared.geometry.Geometry.{Geometry}
use Rattle.bc_events.specs.Columns.{halt_of}
use Rattle.bc_events.specs.declared.event.Deed.{Deed}
use Rattle.bc_events.specs.declared.event.Deed.TheVariants as deed
use Rattle.bc_events.specs.declared.event.Failure.TheVariants as failure
use Rattle.bc_events.specs.declared.event.Written.TheVariants as written
use Rattle.bc_place.specs.bc_hand.Seats.{Did, View}
use Rattle.bc_place.specs.bc_hand.declared.error.StepError.{StepError}
use Rattle.bc_place.specs.bc_hand.declared.error.StepError.TheVariants as error
use Rattle.bc_place.specs.bc_hand.declared.hand.Hand.{Hand}
use Rattle.bc_place.specs.bc_hand.declared.hand.LeafHand.{LeafHand}
use Rattle.bc_key.specs.Words.{ptr_word}
use Rattle.bc_model.specs.Sector.{Value}
use Rattle.bc_node.specs.Leaf.{IsAppended, IsFull, Leaf, pending_set}
use Rattle.bc_node.specs.Writing.{HasSet, put_values}
use Rattle.bc_node.specs.declared.pending.Entries.{Entries}
use Rattle.bc_append.specs.declared.error.NoRoom.{NoRoom}
use Rattle.bc_append.specs.declared.error.NoRoom.TheVariants as room

-- ---- the leaf

-- this slot of the part in hand has the leaf of this number
pub record HasLeafIn {C B : Type 0} (h : Hand C B) (slot number : ℕ) : Type 0 where
  pub leaves : LeafHand
  pub is : h.leaves ≡ Some leaves
  pub cached : Cached
  pub there : slice_get leaves.cache.slots slot ≡ Some (Some cached)
  pub number_is : cached.number ≡ number

-- Of so many parts it is the leaf's own, and the leaf is one that this run wrote and that nobody
-- holds, so that no change of the tree moves it. Keys of it are pending, of these entries.
pub record CanAppend {C B : Type 0} (h : Hand C B) (parts slot number : ℕ) : Type 0 where
  pub at : HasLeafIn h slot number
  pub its_part : at.leaves.part ≡ 6 + number % (parts - 6)
  pub free : at.cached.held ≡ false
  pub own : at.cached.leaf.loaded ≡ false
  pub entries : Entries
  pub pending : at.cached.leaf.entries ≡ Some entries

-- The set of what is pending fits behind the leaf's other sets, and the node lies on a device of so
-- many sectors.
pub record FitsOn (g : Geometry) (leaf : Leaf) (sectors : ℕ) : Type 0 where
  pub fits : ¬ (IsFull g leaf)
  pub inside : leaf.ptr.offset + g.node_sectors ≤ sectors

-- ---- the write

-- where the set goes, and the values of it, as the front of these bytes
abbrev pub place_in : Leaf → ℕ
place_in leaf = leaf.ptr.offset + leaf.taken

abbrev pub values_in : Geometry → Leaf → List ℕ → List Value
values_in g leaf bytes = put_values g leaf.taken (pending_set leaf) bytes

abbrev pub BeginWithSet : Geometry → Leaf → List ℕ → Type 0
BeginWithSet g leaf bytes = HasSet g (ptr_word leaf.ptr) (pending_set leaf) bytes

-- the deed that it is, done well or not
abbrev pub append_by : Geometry → ℕ → Leaf → List ℕ → Deed
append_by g number leaf bytes =
    deed.CacheWrite (place_in leaf) (written.Set number) (values_in g leaf bytes)

abbrev pub lost_by : Geometry → ℕ → Leaf → List ℕ → Deed
lost_by g number leaf bytes = deed.DeviceFault
    (failure.CacheWrite (place_in leaf) (written.Set number) (values_in g leaf bytes))

-- The leaf behind it: the set is its last one, and nothing is pending. Where the write failed it is
-- closed: like one that was read, it gets no further set.
abbrev pub IsBehind : Geometry → Result (Unit {0}) Failed → Leaf → Leaf → Type 0
IsBehind g (Ok done) old new = IsAppended g old new
IsBehind g (Err failed) old new = new ≡ record old { loaded = true }

-- One call of a device by which the set went behind the other sets of the leaf in this slot, whatever
-- came of it. No other slot changed.
pub record IsSent (slot : ℕ) (cached : Cached) (result : Result (Unit {0}) Failed)
    (bytes : List ℕ) (before after : DiskFacts) (old new : NodeCache) : Type 0 where
  pub set : BeginWithSet old.geometry cached.leaf bytes
  pub good : OnOk result
      (IsWritten (place_in cached.leaf) (values_in old.geometry cached.leaf bytes) before after)
  pub failed : OnErr result
      (IsFailedWrite (place_in cached.leaf) (values_in old.geometry cached.leaf bytes) before after)
  pub counted : IsCounted result before after
  pub leaf : Leaf
  pub behind : IsBehind old.geometry result cached.leaf leaf
  pub is : new ≡ with_slot old slot (Some (record cached { leaf = leaf }))

-- ---- what is in hand behind it

-- This leaf is in the slot in the place of its own, and the cache device was used. All else is as it
-- was.
abbrev pub with_behind : {C B : Type 0} → (h : Hand C B) → LeafHand → ℕ → Cached → Leaf → Option C
    → Hand C B
with_behind h leaves slot cached leaf cache = record h {
  leaves = Some (record leaves {
    cache = with_slot leaves.cache slot (Some (record cached { leaf = leaf }));
  });
  cache = cache;
}

-- ---- answers

-- why there is no further set, on a device of so many sectors
abbrev pub IsNoRoom : NoRoom → ℕ → Geometry → Leaf → Type 0
IsNoRoom room.Full sectors g leaf = IsFull g leaf
IsNoRoom room.Outside sectors g leaf = sectors < leaf.ptr.offset + g.node_sectors

module _ {C B : Type 0} (cache_facts : C → DiskFacts) (backing_facts : B → DiskFacts) where
  -- The set was written: its deed was done.
  pub record HasAppended (number : ℕ) (old new : Hand C B) (v w : View cache_facts backing_facts) :
      Type 0 where
    pub slot : ℕ
    pub at : HasLeafIn old slot number
    pub bytes : List ℕ
    pub set : BeginWithSet at.leaves.cache.geometry at.cached.leaf bytes
    pub did : Did cache_facts backing_facts
        (Some (append_by at.leaves.cache.geometry number at.cached.leaf bytes)) v w
    pub leaf : Leaf
    pub appended : IsAppended at.leaves.cache.geometry at.cached.leaf leaf
    pub now : new ≡ with_behind old at.leaves slot at.cached leaf new.cache

  -- Its write failed, and that was done.
  pub record HasLost (number : ℕ) (old new : Hand C B) (v w : View cache_facts backing_facts) :
      Type 0 where
    pub slot : ℕ
    pub at : HasLeafIn old slot number
    pub bytes : List ℕ
    pub set : BeginWithSet at.leaves.cache.geometry at.cached.leaf bytes
    pub did : Did cache_facts backing_facts
        (Some (lost_by at.leaves.cache.geometry number at.cached.leaf bytes)) v w
    pub now : new ≡ with_behind old at.leaves slot at.cached
        (record at.cached.leaf { loaded = true }) new.cache

  -- There is no place for it, and nothing was done.
  pub record HasNoRoom (why : NoRoom) (sectors number : ℕ) (old new : Hand C B)
      (v w : View cache_facts backing_facts) : Type 0 where
    pub slot : ℕ
    pub at : HasLeafIn old slot number
    pub cause : IsNoRoom why sectors at.leaves.cache.geometry at.cached.leaf
    pub did : Did cache_facts backing_facts None v w
    pub now : new ≡ record old { cache = new.cache }

  abbrev pub HasAnswered : (sectors number : ℕ) → Result (Unit {0}) NoRoom → Hand C B → Hand C B
      → View cache_facts backing_facts → View cache_facts backing_facts → Type 0
  HasAnswered sectors number (Ok done) old new v w = HasAppended number old new v w
  HasAnswered sectors number (Err why) old new v w = HasNoRoom why sectors number old new v w

  -- The write itself failed; or a device had halted the run, or memory lacked, and nothing was done.
  abbrev pub HasFailedToAppend : StepError → ℕ → Hand C B → Hand C B
      → View cache_facts backing_facts → View cache_facts backing_facts → Type 0
  HasFailedToAppend (error.Fault device) number old new v w =
      (device ≡ Cache) × HasLost number old new v w
  HasFailedToAppend (error.Halted device) number old new v w = (halt_of w.seen ≡ Some device)
      × Did cache_facts backing_facts None v w × (new ≡ old)
  HasFailedToAppend error.Memory number old new v w =
      Did cache_facts backing_facts None v w × (new ≡ old)
