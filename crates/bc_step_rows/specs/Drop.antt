-- What a test has to see before keys without pointers come into a leaf.
use Rattle.std.specs.Prelude.{◌≡◌, ℕ, ◌+◌, ◌^◌, ◌<◌, ◌≤◌, true, false, [], ◌∷◌, Some}
use Rattle.bc_cache.specs.declared.slots.Cached.{Cached}
use Rattle.bc_cached.specs.bc_hand.Seats.{Kinds}
use Rattle.bc_cached.specs.bc_hand.declared.hand.Hand.{Hand}
use Rattle.bc_image.specs.Sound.{LiesWithin}
use Rattle.bc_insert.specs.Drop.{MayDrop}
use Rattle.bc_insert.specs.Insert.{CanPutIn}
use Rattle.bc_journal.specs.Journal.{HasRoom, Journal, number_of}
use Rattle.bc_key.specs.declared.key.Key.{Key}
use Rattle.bc_cached.specs.bc_machine.Frame.{Range}
use Rattle.bc_node.specs.Leaf.{Leaf}
use Rattle.bc_insert.specs.bc_sight.Sight.{IsOnBacking}

-- a part with leaves, the buckets and the journal are in hand
abbrev pub all_three : ℕ → Kinds
all_three part = record {
  spine = false;
  leaves = Some part;
  flight = false;
  buckets = true;
  journal = true;
  cache = false;
  backing = false;
}

-- so many sectors are claimed for a seat alone
abbrev pub alone_at : ℕ → ℕ → Range
alone_at first count = record { first = first; count = count; exclusive = true }

-- by the leaf the backing device has what each of these sectors shows
abbrev pub AreBacked : Leaf → ℕ → ℕ → Type 0
AreBacked leaf first count = (s : ℕ) → first ≤ s → s < first + count → IsOnBacking leaf s

-- The leaf in a slot is the one of this number, which nobody holds, and it has room for one key more;
-- so has the journal, for one without pointers.
pub record HasPlaceFor (cached : Cached) (number : ℕ) (j : Journal) (key : Key) : Type 0 where
  pub number_is : cached.number ≡ number
  pub free : cached.held ≡ false
  pub spare : 1 ≤ cached.leaf.spare
  pub within : LiesWithin 0 cached.leaf.from cached.leaf.end key
  pub room : HasRoom j 2
  pub numbered : number_of j < 2 ^ 63

-- a key without pointers of just these sectors
pub record IsEmptyKey (first count : ℕ) (key : Key) : Type 0 where
  pub none : key.count ≡ 0
  pub size : key.size ≡ count
  pub end : key.end ≡ first + count

-- the key may come into the leaf of this number, under a claim of such a range
pub record CanDrop {C B : Type 0} (h : Hand C B) (parts number : ℕ) (r : Range) (key : Key) : Type 0
  where
    pub slot : ℕ
    pub cached : Cached
    pub can : CanPutIn h parts slot number cached (key ∷ [])
    pub may : MayDrop r cached.leaf can.buckets.buckets.size (key ∷ [])
