-- What is in hand for keys that come into a leaf, and what there has no room for them.
use Rattle.std.specs.Prelude.{◌≡◌, ℕ, ◌+◌, ◌-◌, ◌%◌, ◌^◌, ◌<◌, ◌≤◌, true, false, List, Some, length, slice_get}
use Rattle.bc_cache.specs.declared.slots.Cached.{Cached}
use Rattle.bc_cache.specs.Slots.{NodeCache}
use Rattle.bc_disk.specs.Disk.{DiskFacts}
use Rattle.bc_fill.specs.declared.fill.Placed.{Placed}
use Rattle.bc_stored.specs.bc_hand.Seats.{Kinds, View, world}
use Rattle.bc_stored.specs.bc_hand.declared.hand.Hand.{Hand}
use Rattle.bc_stored.specs.bc_machine.World.{AreLeaves, IsJournal}
use Rattle.bc_stored.specs.bc_machine.declared.part.BucketsPart.{BucketsPart}
use Rattle.bc_stored.specs.bc_place.Named.{AreKeysFor}
use Rattle.bc_stored.specs.bc_sight.Sight.{HasLeaf}
use Rattle.bc_journal.specs.Journal.{HasRoom, Journal, number_of}
use Rattle.bc_key.specs.declared.key.Key.{Key}
use Rattle.bc_keys.specs.Spelling.{words_of_all}
use Rattle.bc_write_back.specs.declared.error.Lack.{Lack}
use Rattle.bc_write_back.specs.declared.error.Lack.TheVariants as lack

-- a part with leaves, the buckets and the journal are in hand
abbrev pub all_three : ℕ → Kinds
all_three part = record {
  spine = false;
  leaves = Some part;
  flight = false;
  buckets = true;
  journal = true;
  cache = false;
  backing = false;
}

-- The leaf of this number, which has all sectors of a range, is in a slot of the part in hand: of
-- so many parts that is the leaf's. The buckets and the journal are in hand too.
pub record HasThree {C B : Type 0} (h : Hand C B) (parts number first count : ℕ) : Type 0 where
  pub slot : ℕ
  pub cached : Cached
  pub leaf : HasLeaf h number first count slot cached
  pub its_part : leaf.hand.part ≡ 6 + number % (parts - 6)
  pub buckets : BucketsPart
  pub are_buckets : h.buckets ≡ Some buckets
  pub journal : Journal
  pub is_journal : h.journal ≡ Some journal

-- Somebody holds the leaf that the slot has, the entry for which keys wait has no room for these,
-- or it has no number.
abbrev pub IsShort : Lack → Cached → Journal → List Key → Type 0
IsShort lack.Bucket cached journal keys = ⊥
IsShort lack.Leaf cached journal keys = cached.held ≡ true
IsShort lack.Entry cached journal keys = ¬ (HasRoom journal (length (words_of_all keys)))
IsShort lack.Number cached journal keys = 2 ^ 63 ≤ number_of journal

-- none of these
pub record HasRoomFor (cached : Cached) (journal : Journal) (keys : List Key) : Type 0 where
  pub free : cached.held ≡ false
  pub room : HasRoom journal (length (words_of_all keys))
  pub numbered : number_of journal < 2 ^ 63

module _ {C B : Type 0} (cache_facts : C → DiskFacts) (backing_facts : B → DiskFacts) where
  -- Leaves and journal stood so for the run, and had no room for keys that name these places for
  -- the sectors from `first` on.
  pub record LacksRoomFor (why : Lack) (ps : List Placed) (number first count : ℕ)
      (v : View cache_facts backing_facts) : Type 0 where
    pub part : ℕ
    pub leaves : NodeCache
    pub leaves_stood : AreLeaves part leaves (world cache_facts backing_facts v)
    pub slot : ℕ
    pub cached : Cached
    pub there : slice_get leaves.slots slot ≡ Some (Some cached)
    pub number_is : cached.number ≡ number
    pub from : cached.leaf.from ≤ first
    pub end : first + count ≤ cached.leaf.end
    pub journal : Journal
    pub journal_stood : IsJournal journal (world cache_facts backing_facts v)
    pub keys : List Key
    pub named : AreKeysFor first ps keys
    pub short : IsShort why cached journal keys
