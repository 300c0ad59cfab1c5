-- What is in hand for a candidate's key, and what there isn't ready for it.
use Rattle.std.specs.Prelude.{◌≡◌, ℕ, ◌+◌, ◌-◌, ◌%◌, ◌^◌, ◌<◌, ◌≤◌, true, false, Some, slice_get}
use Rattle.bc_cache.specs.Slots.{NodeCache}
use Rattle.bc_cache.specs.declared.slots.Cached.{Cached}
use Rattle.bc_disk.specs.Disk.{DiskFacts}
use Rattle.bc_settle.specs.bc_candidate.bc_sight.Sight.{HasLeaf}
use Rattle.bc_flight.specs.Flight.{InFlight}
use Rattle.bc_journal.specs.Journal.{HasRoom, Journal, number_of}
use Rattle.bc_settle.specs.bc_hand.Seats.{Kinds, View, world}
use Rattle.bc_settle.specs.bc_hand.declared.hand.Hand.{Hand}
use Rattle.bc_settle.specs.bc_machine.World.{AreBuckets, AreLeaves, IsFlight, IsJournal}
use Rattle.bc_settle.specs.bc_machine.declared.part.BucketsPart.{BucketsPart}
use Rattle.bc_settled.specs.declared.come.Lack.{Lack}
use Rattle.bc_settled.specs.declared.come.Lack.TheVariants as lack

-- a part with leaves, the claims, the buckets and the journal are in hand
abbrev pub all_four : ℕ → Kinds
all_four part = record {
  spine = false;
  leaves = Some part;
  flight = true;
  buckets = true;
  journal = true;
  cache = false;
  backing = false;
}

-- The leaf of this number, which has all sectors of a range, is in a slot of the part in hand: of
-- so many parts that is the leaf's. Claims, buckets and journal are in hand too.
pub record HasFour {C B : Type 0} (h : Hand C B) (parts number first count : ℕ) : Type 0 where
  pub slot : ℕ
  pub cached : Cached
  pub leaf : HasLeaf h number first count slot cached
  pub its_part : leaf.hand.part ≡ 6 + number % (parts - 6)
  pub flight : InFlight
  pub is_flight : h.flight ≡ Some flight
  pub buckets : BucketsPart
  pub are_buckets : h.buckets ≡ Some buckets
  pub journal : Journal
  pub is_journal : h.journal ≡ Some journal

-- Somebody holds the leaf that the slot has, the entry for which keys wait has no room for one with
-- a pointer, or it has no number.
abbrev pub IsShort : Lack → Cached → Journal → Type 0
IsShort lack.Leaf cached journal = cached.held ≡ true
IsShort lack.Entry cached journal = ¬ (HasRoom journal 3)
IsShort lack.Number cached journal = 2 ^ 63 ≤ number_of journal

-- none of these
pub record IsReady (cached : Cached) (journal : Journal) : Type 0 where
  pub free : cached.held ≡ false
  pub room : HasRoom journal 3
  pub numbered : number_of journal < 2 ^ 63

module _ {C B : Type 0} (cache_facts : C → DiskFacts) (backing_facts : B → DiskFacts) where
  -- The part with the leaf of this number, the claims, the buckets and the journal stood so for the
  -- run.
  pub record HaveStood (number : ℕ) (v : View cache_facts backing_facts) : Type 0 where
    pub part : ℕ
    pub leaves : NodeCache
    pub leaves_stood : AreLeaves part leaves (world cache_facts backing_facts v)
    pub slot : ℕ
    pub cached : Cached
    pub there : slice_get leaves.slots slot ≡ Some (Some cached)
    pub number_is : cached.number ≡ number
    pub flight : InFlight
    pub flight_stood : IsFlight flight (world cache_facts backing_facts v)
    pub buckets : BucketsPart
    pub buckets_stood : AreBuckets buckets (world cache_facts backing_facts v)
    pub journal : Journal
    pub journal_stood : IsJournal journal (world cache_facts backing_facts v)
