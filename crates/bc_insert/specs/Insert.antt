-- Keys that come into a leaf in hand.
use Rattle.std.specs.Prelude.{◌≡◌, ℕ, ◌+◌, ◌-◌, ◌%◌, ◌^◌, ◌<◌, ◌≤◌, false, List, ◌++◌, length, All, Some, slice_get}
use Rattle.bc_cache.specs.Slots.{NodeCache, with_slot}
use Rattle.bc_cache.specs.declared.slots.Cached.{Cached}
use Rattle.bc_place.specs.bc_hand.declared.hand.Hand.{Hand}
use Rattle.bc_place.specs.bc_hand.declared.hand.LeafHand.{LeafHand}
use Rattle.bc_journal.specs.Journal.{HasRoom, Journal, number_of}
use Rattle.bc_key.specs.Key.{IsExtent}
use Rattle.bc_key.specs.declared.key.Key.{Key}
use Rattle.bc_keyed.specs.Came.{WereAdded}
use Rattle.bc_keys.specs.Spelling.{words_of_all}
use Rattle.bc_place.specs.bc_machine.declared.part.BucketsPart.{BucketsPart}
use Rattle.bc_node.specs.Leaf.{AreWithin, Leaf}

-- The leaf of this number is in a slot, and has room for these keys of its range.
pub record CanAdd (cache : NodeCache) (slot number : ℕ) (cached : Cached) (keys : List Key) :
    Type 0 where
  pub there : slice_get cache.slots slot ≡ Some (Some cached)
  pub number_is : cached.number ≡ number
  pub spare : length keys ≤ cached.leaf.spare
  pub extents : All IsExtent keys
  pub within : AreWithin cached.leaf.from cached.leaf.end keys

-- They were added to it, as keys that an entry of this number will hold.
pub record HasAdded (cache : NodeCache) (slot : ℕ) (cached : Cached) (keys : List Key)
    (number : ℕ) (new : NodeCache) : Type 0 where
  pub leaf : Leaf
  pub added : WereAdded keys number cached.leaf leaf
  pub is : new ≡ with_slot cache slot (Some (record cached { leaf = leaf }))

-- Leaf, buckets and journal are in hand for these keys. Of so many parts the one in hand is the
-- leaf's; nobody holds the leaf, so that no change of the tree moves it; and the entry for which
-- keys wait has room for them, and a number.
pub record CanPutIn {C B : Type 0} (h : Hand C B) (parts slot number : ℕ) (cached : Cached)
    (keys : List Key) : Type 0 where
  pub leaves : LeafHand
  pub is : h.leaves ≡ Some leaves
  pub its_part : leaves.part ≡ 6 + number % (parts - 6)
  pub can : CanAdd leaves.cache slot number cached keys
  pub free : cached.held ≡ false
  pub journal : Journal
  pub is_journal : h.journal ≡ Some journal
  pub room : HasRoom journal (length (words_of_all keys))
  pub numbered : number_of journal < 2 ^ 63
  pub buckets : BucketsPart
  pub are_buckets : h.buckets ≡ Some buckets

-- They were put into both, and nothing else in hand changed.
pub record HasPutIn {C B : Type 0} (old new : Hand C B) (slot : ℕ) (cached : Cached)
    (keys : List Key) : Type 0 where
  pub leaves : LeafHand
  pub was : old.leaves ≡ Some leaves
  pub journal : Journal
  pub was_journal : old.journal ≡ Some journal
  pub cache : NodeCache
  pub added : HasAdded leaves.cache slot cached keys (number_of journal) cache
  pub is : new ≡ record old {
    leaves = Some (record leaves { cache = cache });
    journal = Some (record journal { waiting = journal.waiting ++ keys });
  }
