-- What a seat knows of its claim in a run with a cache: what it saw at its look, and what it read
-- since. It is said from each opening of the core from which the run so far is one.
use Rattle.std.specs.Prelude.{slice_get, length, ◌≡◌, ℕ, ◌⊎◌, ◌+◌, ◌*◌, ◌%◌, ◌≤◌, ◌<◌, false, true, List, Option, Some, None}
use Rattle.bc_model.specs.Sector.{Value, at_run}
use Rattle.bc_disk.specs.Disk.{DiskFacts}
use Rattle.bc_meta.specs.Keys.{Ref}
use Rattle.bc_books.specs.Index.{Pointer}
use Rattle.bc_data.specs.Seats.{Claim, Covers, noted}
use Rattle.bc_leaves.specs.Keys.{last_said, ref_said}
use Rattle.bc_whole.specs.Together.{ref_of}
use Rattle.bc_node.specs.Leaf.{Leaf}
use Rattle.bc_cache.specs.declared.slots.Cached.{Cached}
use Rattle.bc_bucket.specs.Buckets.{Buckets, bucket_of}
use Rattle.bc_events.specs.declared.event.Event.{Event}
use Rattle.bc_looks.specs.bc_machine.World.{Origin, IsOrigin, IsCourseOf, replay}
use Rattle.bc_places.specs.Stands.{IsCutInto}
use Rattle.bc_deed.specs.bc_hand.declared.hand.Hand.{Hand}
use Rattle.bc_deed.specs.bc_hand.declared.hand.LeafHand.{LeafHand}
use Rattle.bc_deed.specs.bc_hand.Seats.{View, world}

-- Which copies are firm a barrier of another seat may change; nothing here asks for it.
abbrev pub but_firm : Claim → Claim
but_firm c = record c { firm = λ s. false }

-- the seat's claim behind these events, as it is from an opening
abbrev pub claim_from : Origin → List Event → ℕ → Claim
claim_from o es i = but_firm ((replay o es).machine.whole.flow.seats i).claim

-- where a leaf's last key of the sector points
abbrev pub said_in : Leaf → ℕ → Option Ref
said_in leaf s = ref_said (last_said leaf.keys s)

-- The claim's sectors were looked up: each points where the leaf's last key says.
pub record HasLooked (leaf : Leaf) (c : Claim) : Type 0 where
  pub looked : c.looked ≡ true
  pub sight : (s : ℕ) → Covers c s → ref_of (c.sight s) ≡ said_in leaf s

-- Where the byte of a pointer's generation was that of its bucket at the look, the pointer is of the
-- bucket's present use, which the count of uses tells from all others.
pub record KnowsUses (o : Origin) (buckets : Buckets) (c : Claim) : Type 0 where
  pub cut : IsCutInto buckets.size (length buckets.records) o.opening.machine
  pub data_from : buckets.data_from ≡ o.opening.machine.before + o.opening.machine.layout.journal
  pub uses : (s q : ℕ) (r : Pointer) → Covers c s → c.sight s ≡ Some r
      → o.opening.machine.flow.books.bucket r.place ≡ q
      → o.opening.machine.before + q < length buckets.records
      → r.version % 256 ≡ (bucket_of buckets (o.opening.machine.before + q)).generation
      → r.version ≡ o.opening.machine.flow.books.version q
      + (bucket_of buckets (o.opening.machine.before + q)).uses

-- What a seat knows that looked at a leaf while it had these buckets in hand, and has read since, of
-- each sector that it read, this value from the cache device.
pub record Knows (o : Origin) (leaf : Leaf) (buckets : Buckets) (read : ℕ → Option Value) (c : Claim) :
    Type 0 where
  pub look : HasLooked leaf c
  pub uses : KnowsUses o buckets c
  pub read_is : (s : ℕ) → c.from_cache s ≡ read s

-- The leaf's last keys of these sectors point to as many places, one behind the other.
abbrev pub PointsTo : Leaf → (first count at : ℕ) → Type 0
PointsTo leaf first count at = (s : ℕ) → first ≤ s → s < first + count
    → (ref : Ref) × (said_in leaf s ≡ Some ref) × (ref.place + first ≡ at + s)

-- what was read before, and these values now
abbrev pub with_values : ℕ → List Value → (ℕ → Option Value) → ℕ → Option Value
with_values first values read s = noted (at_run first values s) (read s)

-- The leaf's last key of the sector points into a bucket for data that had the pointer's generation
-- at the look, and was not used anew since.
pub record IsStillLive (leaf : Leaf) (before now : Buckets) (s : ℕ) : Type 0 where
  pub ref : Ref
  pub is : said_in leaf s ≡ Some ref
  pub bucket : ℕ
  pub for_data : before.data_from ≤ bucket
  pub known : bucket < length before.records
  pub low : bucket * before.size ≤ ref.place
  pub high : ref.place < bucket * before.size + before.size
  pub live : ref.generation ≡ (bucket_of before bucket).generation
  pub still : (bucket_of now bucket).uses ≡ (bucket_of before bucket).uses

-- The backing device has what the sector shows: no key points anywhere, or a clean one does.
abbrev pub IsOnBacking : Leaf → ℕ → Type 0
IsOnBacking leaf s = (said_in leaf s ≡ None)
    ⊎ ((ref : Ref) × (said_in leaf s ≡ Some ref) × (ref.dirty ≡ false))

-- A value that may be answered for the sector: read from the backing device where that has it, or
-- from the cache device, out of a bucket that was not used anew since the look.
abbrev pub MayAnswer : Leaf → (before now : Buckets) → (cache backing : Option Value) → ℕ → Value → Type 0
MayAnswer leaf before now cache backing s value = ((backing ≡ Some value) × IsOnBacking leaf s)
    ⊎ ((cache ≡ Some value) × IsStillLive leaf before now s)

-- The leaf is in this slot of the part in hand, and has all sectors of the range.
pub record HasLeaf {C B : Type 0} (h : Hand C B) (number first count slot : ℕ) (cached : Cached) :
    Type 0 where
  pub hand : LeafHand
  pub is : h.leaves ≡ Some hand
  pub at : slice_get hand.cache.slots slot ≡ Some (Some cached)
  pub number_is : cached.number ≡ number
  pub from : cached.leaf.from ≤ first
  pub end : first + count ≤ cached.leaf.end

module _ {C B : Type 0} (cache_facts : C → DiskFacts) (backing_facts : B → DiskFacts) where
  abbrev pub OfClaim : View cache_facts backing_facts → (Origin → Claim → Type 0) → Type 0
  OfClaim v P = (o : Origin) → IsOrigin (world cache_facts backing_facts v) o
      → IsCourseOf o (world cache_facts backing_facts v).log
      → P o (claim_from o (world cache_facts backing_facts v).log v.first)
