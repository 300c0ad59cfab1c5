-- What a look finds, and why there is none.
use Rattle.std.specs.Prelude.{◌≡◌, ◌⊎◌, ℕ, ◌+◌, ◌<◌, List, [], ◌∷◌, ◌++◌, Some, None, true}
use Rattle.bc_cache.specs.declared.slots.Cached.{Cached}
use Rattle.bc_fetch.specs.bc_deed.Flushed.{HasDone}
use Rattle.bc_disk.specs.Disk.{DiskFacts}
use Rattle.bc_events.specs.Columns.{halt_of}
use Rattle.bc_events.specs.declared.event.Deed.{Deed}
use Rattle.bc_events.specs.declared.event.Deed.TheVariants as deed
use Rattle.bc_fetch.specs.Fetch.{HasStoppedAt, node_read}
use Rattle.bc_fetch.specs.declared.error.LeafError.TheVariants as leaf
use Rattle.bc_fetch.specs.bc_hand.Seats.{View, Works, note}
use Rattle.bc_fetch.specs.bc_hand.declared.error.StepError.TheVariants as step
use Rattle.bc_fetch.specs.bc_hand.declared.hand.Hand.{Hand}
use Rattle.bc_bucket.specs.Buckets.{Buckets}
use Rattle.bc_fetch.specs.bc_machine.Frame.{Range}
use Rattle.bc_fetch.specs.bc_machine.World.{cache_among}
use Rattle.bc_fetch.specs.bc_machine.declared.part.BucketsPart.{BucketsPart}
use Rattle.bc_fetch.specs.bc_machine.declared.part.CorePart.{CorePart}
use Rattle.bc_parts.specs.Seat.{PartsView}
use Rattle.bc_node.specs.Leaf.{Leaf}
use Rattle.bc_reads.specs.Reads.{AreRuns, HasLost}
use Rattle.bc_reads.specs.declared.runs.ReadRun.{ReadRun}
use Rattle.bc_reads.specs.bc_sight.Sight.{HasLeaf, Knows, OfClaim}
use Rattle.bc_reader.specs.Noted.{AreNoted}
use Rattle.bc_reader.specs.Runs.{LieWithin}
use Rattle.bc_reader.specs.declared.error.ReadError.{ReadError}
use Rattle.bc_reader.specs.declared.error.ReadError.TheVariants as error
use Rattle.bc_reader.specs.declared.look.Seen.{Seen}

-- the claim is of just these sectors
pub record IsOver (first count : ℕ) (r : Range) : Type 0 where
  pub from : r.first ≡ first
  pub long : r.count ≡ count

-- ---- what is in hand

pub record HasBuckets {C B : Type 0} (h : Hand C B) : Type 0 where
  pub part : BucketsPart
  pub is : h.buckets ≡ Some part

-- a leaf with all sectors of a range, and the buckets
pub record HasBoth {C B : Type 0} (h : Hand C B) (number first count : ℕ) : Type 0 where
  pub slot : ℕ
  pub cached : Cached
  pub leaf : HasLeaf h number first count slot cached
  pub buckets : HasBuckets h

-- these are the runs of a range, and what is noted of them
pub record IsSeenBy (leaf : Leaf) (b : Buckets) (first end : ℕ) (seen : Seen) : Type 0 where
  pub runs : AreRuns leaf b first end seen.runs.items
  pub noted : AreNoted seen.runs.items b seen.noted.items
  pub size : 0 < b.size

-- or a sector of it is lost, or lies past the end of the cache device
abbrev pub IsLostBy : Leaf → Buckets → (first end sectors : ℕ) → Type 0
IsLostBy l b first end sectors = HasLost l b first end ⊎ ((runs : List ReadRun)
    × AreRuns l b first end runs × ¬ (LieWithin runs sectors))

abbrev pub NotSeenBy : Leaf → Buckets → (first end sectors : ℕ) → ReadError → Type 0
NotSeenBy l b first end sectors (error.Leaf (leaf.Step step.Memory)) = Unit {0}
NotSeenBy l b first end sectors (error.Leaf e) = ⊥
NotSeenBy l b first end sectors error.Lost = IsLostBy l b first end sectors

-- by these the range is read in such runs
pub record IsFound {C B : Type 0} (h : Hand C B) (number first count : ℕ) (seen : Seen) : Type 0
  where
    pub both : HasBoth h number first count
    pub by : IsSeenBy both.cached.leaf both.buckets.part.buckets first (first + count) seen

-- or one of its sectors is lost, or lies past the end of the cache device
pub record IsLostIn {C B : Type 0} (h : Hand C B) (number first count sectors : ℕ) : Type 0 where
  pub both : HasBoth h number first count
  pub lost : IsLostBy both.cached.leaf both.buckets.part.buckets first (first + count) sectors

abbrev pub IsNotFound : {C B : Type 0} → Hand C B → (number first count sectors : ℕ) → ReadError
    → Type 0
IsNotFound h number first count sectors (error.Leaf (leaf.Step step.Memory)) = Unit {0}
IsNotFound h number first count sectors (error.Leaf e) = ⊥
IsNotFound h number first count sectors error.Lost = IsLostIn h number first count sectors

-- what was read on the way to a leaf: nothing, or one node
abbrev pub IsWay : List Deed → Type 0
IsWay ds = (ds ≡ []) ⊎ ((at : ℕ) × (ds ≡ node_read at ∷ []))

module _ {C B : Type 0} (cache_facts : C → DiskFacts) (backing_facts : B → DiskFacts) where
  -- why the claim wasn't looked up in a leaf in hand; nothing was done then
  abbrev pub LookStop : Hand C B → (number first count sectors : ℕ) → ReadError
      → View cache_facts backing_facts → View cache_facts backing_facts → Type 0
  LookStop h number first count sectors (error.Leaf (leaf.Step step.Memory)) v w =
      HasDone cache_facts backing_facts [] v w
  LookStop h number first count sectors (error.Leaf (leaf.Step (step.Halted device))) v w =
      (halt_of w.seen ≡ Some device) × HasDone cache_facts backing_facts [] v w
  LookStop h number first count sectors (error.Leaf e) v w = ⊥
  LookStop h number first count sectors error.Lost v w =
      IsLostIn h number first count sectors × HasDone cache_facts backing_facts [] v w

  -- The seat looked its claim up in a leaf, which it had in hand with the buckets; these are in hand
  -- still. By both the range is read in these runs.
  pub record HasSeen (p : PartsView (CorePart C B)) (first count : ℕ) (seen : Seen)
      (v w : View cache_facts backing_facts) (h : Hand C B) : Type 0 where
    pub number : ℕ
    pub way : List Deed
    pub is_way : IsWay way
    -- as it looked
    pub at : View cache_facts backing_facts
    pub hand : Hand C B
    pub works : Works cache_facts backing_facts p at hand
    pub found : IsFound hand number first count seen
    pub done : HasDone cache_facts backing_facts (way ++ deed.Look number ∷ []) v at
    -- and now
    pub then : HasDone cache_facts backing_facts [] at w
    pub still : h.buckets ≡ hand.buckets
    pub looked : (note cache_facts backing_facts w).looked ≡ true
    pub knows : OfClaim cache_facts backing_facts w
        (λ o c. Knows o found.both.cached.leaf found.both.buckets.part.buckets (λ _. None) c)

  -- a look that was stopped in a leaf behind a way to it
  pub record IsStoppedIn (p : PartsView (CorePart C B)) (first count : ℕ) (e : ReadError)
      (v w : View cache_facts backing_facts) : Type 0 where
    pub number : ℕ
    pub way : List Deed
    pub is_way : IsWay way
    pub from : View cache_facts backing_facts
    pub at : View cache_facts backing_facts
    pub hand : Hand C B
    pub works : Works cache_facts backing_facts p at hand
    pub done : HasDone cache_facts backing_facts way v from
    pub stop : LookStop hand number first count
        (cache_among cache_facts backing_facts p.run.start).sectors e from at
    pub then : HasDone cache_facts backing_facts [] at w

  -- why the claim wasn't looked up: its leaf wasn't had, or it was and a step in it stopped
  abbrev pub NotSeen : PartsView (CorePart C B) → (first count : ℕ) → ReadError
      → View cache_facts backing_facts → View cache_facts backing_facts → Type 0
  NotSeen p first count (error.Leaf e) v w =
      HasStoppedAt cache_facts backing_facts first count e v w
      ⊎ IsStoppedIn p first count (error.Leaf e) v w
  NotSeen p first count error.Lost v w = IsStoppedIn p first count error.Lost v w
