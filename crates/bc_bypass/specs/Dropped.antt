-- Keys of a range that were taken away, or weren't.
use Rattle.std.specs.Prelude.{◌≡◌, ℕ, ◌+◌, ◌≤◌, List, Some, None, [], slice_get}
use Rattle.bc_bypass.specs.Backed.{HasDirty}
use Rattle.bc_bypass.specs.Empty.{AreEmpty}
use Rattle.bc_bypass.specs.declared.error.Invalidated.{Invalidated}
use Rattle.bc_bypass.specs.declared.error.Invalidated.TheVariants as invalidated
use Rattle.bc_cache.specs.Slots.{NodeCache}
use Rattle.bc_cache.specs.declared.slots.Cached.{Cached}
use Rattle.bc_disk.specs.Disk.{DiskFacts}
use Rattle.bc_events.specs.declared.event.Deed.TheVariants as deed
use Rattle.bc_events.specs.declared.event.Form.TheVariants as form
use Rattle.bc_journal.specs.Journal.{Journal}
use Rattle.bc_key.specs.declared.key.Key.{Key}
use Rattle.bc_write_back.specs.Room.{IsShort}
use Rattle.bc_write_back.specs.bc_deed.Flushed.{HasDone}
use Rattle.bc_write_back.specs.bc_hand.Seats.{Did, View, world}
use Rattle.bc_write_back.specs.bc_machine.World.{AreLeaves, IsJournal}
use Rattle.bc_write_back.specs.bc_request.bc_fetch.Fetch.{HasReadOne}
use Rattle.bc_write_back.specs.declared.error.Lack.{Lack}

module _ {C B : Type 0} (cache_facts : C → DiskFacts) (backing_facts : B → DiskFacts) where
  -- leaves so stood for the run, and the one of this number, which has all these sectors, was in a
  -- slot
  pub record HadLeaf (number first count : ℕ) (v : View cache_facts backing_facts) : Type 0 where
    pub part : ℕ
    pub leaves : NodeCache
    pub stood : AreLeaves part leaves (world cache_facts backing_facts v)
    pub slot : ℕ
    pub cached : Cached
    pub there : slice_get leaves.slots slot ≡ Some (Some cached)
    pub number_is : cached.number ≡ number
    pub from : cached.leaf.from ≤ first
    pub end : first + count ≤ cached.leaf.end

  -- by it a sector's data were in the cache alone
  pub record HadDirty (number first count : ℕ) (v : View cache_facts backing_facts) : Type 0 where
    pub leaf : HadLeaf number first count v
    pub dirty : HasDirty leaf.cached.leaf first count

  -- or it or a journal that stood so had no room for the keys
  pub record HadNoRoom (why : Lack) (number first count : ℕ) (v : View cache_facts backing_facts)
      : Type 0 where
    pub leaf : HadLeaf number first count v
    pub journal : Journal
    pub journal_stood : IsJournal journal (world cache_facts backing_facts v)
    pub bucket : ℕ
    pub keys : List Key
    pub empty : AreEmpty bucket first (first + count) keys
    pub short : IsShort why leaf.cached journal keys

  -- keys without pointers for all these sectors came into the leaf, by one deed
  pub record HasDropped (number first count : ℕ) (v w : View cache_facts backing_facts) : Type 0
    where
      pub bucket : ℕ
      pub keys : List Key
      pub empty : AreEmpty bucket first (first + count) keys
      pub did : Did cache_facts backing_facts (Some (deed.Insert number keys form.Drop)) v w

  -- what came of them in hand
  abbrev pub HasComeIn : Invalidated → (number first count : ℕ) → View cache_facts backing_facts
      → View cache_facts backing_facts → Type 0
  HasComeIn invalidated.Gone number first count v w = HasDropped number first count v w
  HasComeIn invalidated.Dirty number first count v w =
      Did cache_facts backing_facts None v w × HadDirty number first count v
  HasComeIn (invalidated.Lacks why) number first count v w =
      Did cache_facts backing_facts None v w × HadNoRoom why number first count v

  -- The seat came to a leaf, which may have been read before; this came of the keys in hand; and
  -- then nothing was done.
  pub record HasComeTo (what : Invalidated) (first count : ℕ) (v w : View cache_facts backing_facts)
      : Type 0 where
    pub number : ℕ
    pub at : View cache_facts backing_facts
    pub way : HasReadOne cache_facts backing_facts v at
    pub come : View cache_facts backing_facts
    pub this : HasComeIn what number first count at come
    pub then : HasDone cache_facts backing_facts [] come w
