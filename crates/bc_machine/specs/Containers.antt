-- What the parts of a running cache that are in memory stand for, in the core's state.
use Rattle.std.specs.Prelude.{◌≡◌, ◌≢◌, ◌⊎◌, ℕ, zero, suc, Bool, true, false, ◌+◌, ◌*◌, ◌%◌, ◌<◌, ◌≤◌, List, [], ◌∷◌, ◌++◌, length, map, reverse, Contains, Option, Some, None, IfSome, MatchOption, slice_get, slice_index, slice_index_or}
use Rattle.bc_alloc.specs.Reserve.{IsDistinct}
use Rattle.bc_alloc.specs.Reserves.{list_of}
use Rattle.bc_alloc.specs.declared.purpose.Purpose.TheVariants as lists
use Rattle.bc_disk.specs.declared.geometry.Geometry.{Geometry}
use Rattle.bc_key.specs.Key.{ptr_at}
use Rattle.bc_key.specs.Words.{ptr_word}
use Rattle.bc_key.specs.declared.key.Key.{Key}
use Rattle.bc_key.specs.declared.ptr.Ptr.{Ptr}
use Rattle.bc_meta.specs.Entries.{Entry}
use Rattle.bc_meta.specs.Facts.{In}
use Rattle.bc_meta.specs.Layout.{Layout, entry_len, set_len}
use Rattle.bc_meta.specs.Records.{Records, Nothing}
use Rattle.bc_meta.specs.Tree.{Child, NodeSet, set_keys, children_of}
use Rattle.bc_facts.specs.Layout.{IsLayoutOf}
use Rattle.bc_facts.specs.Seen.{is_gone, seen_entry}
use Rattle.bc_leaves.specs.Keys.{last_said, ref_said}
use Rattle.bc_leaves.specs.Parts.{Role, NoNode, Draft, Free, Leaving, Coming, Change, NoChange, BySet, Pending, AllFrom, AllUpTo, keys_of}
use Rattle.bc_leaves.specs.Parts as parts
use Rattle.bc_books.specs.Books.{Books, Setup}
use Rattle.bc_books.specs.Index.{Pointer}
use Rattle.bc_books.specs.Marks as books
use Rattle.bc_books.specs.Round.{Round}
use Rattle.bc_books.specs.Shelves.{Shelf, Loose, Listed, Raised, Open, Held, Owner}
use Rattle.bc_whole.specs.State.{Opening}
use Rattle.bc_known.specs.Acts.{State}
use Rattle.bc_inner.specs.Inner.{Inner}
use Rattle.bc_spine.specs.Numbers.{HasNumber}
use Rattle.bc_spine.specs.declared.leaf.LeafRange.{LeafRange}
use Rattle.bc_tree.specs.Spine.{Spine}
use Rattle.bc_node.specs.declared.pending.Entries.{Entries}
use Rattle.bc_node.specs.Leaf.{AreLast, AreLastOfAll, Leaf}
use Rattle.bc_cache.specs.declared.slots.Cached.{Cached}
use Rattle.bc_cache.specs.Slots.{NodeCache, Misses}
use Rattle.bc_bucket.specs.Buckets.{bucket_of}
use Rattle.bc_bucket.specs.declared.bucket.Bucket.{Bucket}
use Rattle.bc_bucket.specs.declared.bucket.Mark.{Mark}
use Rattle.bc_bucket.specs.declared.bucket.Mark.TheVariants as marks
use Rattle.bc_bucket.specs.declared.walk.Found.{Found}
use Rattle.bc_bucket.specs.Walk.{found_at}
use Rattle.bc_journal.specs.Sealed.{heads_of}
use Rattle.bc_journal.specs.declared.heads.Heads.{Heads}
use Rattle.bc_journal.specs.declared.place.Numbers.{Numbers}
use Rattle.bc_journal.specs.Journal.{Journal}
use Rattle.bc_journal.specs.Ring.{Ring}
use Rattle.bc_jset.specs.declared.entry.JEntry.{JEntry}
use Rattle.bc_places.specs.Stands.{AreJust, IsCutInto, StandFor}
use Rattle.bc_shares.specs.Shares.{Shape, shape_of, JournalShare, BucketsShare, buckets_in, Use, Unused, Pinned, Used, use_of, NodeShare, LeafShare, leaf_share, InnerShare, inner_share}
use Rattle.bc_machine.specs.declared.part.BucketsPart.{BucketsPart}
use Rattle.bc_machine.specs.declared.part.Tracing.{Tracing}
use Rattle.bc_machine.specs.declared.part.SpinePart.{SpinePart}

-- ---- nodes

-- how many sectors these sets take, one behind the other
abbrev pub sets_len : Layout → List NodeSet → ℕ
sets_len w [] = 0
sets_len w (x ∷ xs) = set_len w x + sets_len w xs

-- Of a node that this run wrote: its sets have this number and take so many sectors. One whose
-- write failed isn't among them.
pub record HasSets (w : Layout) (x : NodeShare) (seq taken : ℕ) : Type 0 where
  pub number : (e : NodeSet) → In e x.sets → e.seq ≡ seq
  pub taken_is : taken ≡ sets_len w x.sets

-- ---- the spine

-- of a node that the tree has until its change is over
abbrev pub IsInTree : Role → Type 0
IsInTree NoNode = ⊥
IsInTree Draft = ⊥
IsInTree Free = Unit {0}
IsInTree Leaving = Unit {0}
IsInTree Coming = ⊥

-- a slot has a leaf of these sectors, to which this pointer points
pub record IsTreeLeaf (w : Opening) (from end : ℕ) (ptr : Ptr) (x : Shape) : Type 0 where
  pub role : IsInTree x.role
  pub first : x.first ≡ from
  pub end_is : x.end ≡ end
  pub bucket : x.bucket ≡ w.flow.books.bucket ptr.offset
  pub word : x.word ≡ ptr_word ptr

-- the child to which a key points
abbrev pub child_of : Opening → Key → Child
child_of w key = record {
  end = key.end;
  bucket = w.flow.books.bucket (ptr_at key 0).offset;
  word = ptr_word (ptr_at key 0);
  gone = is_gone key;
}

-- The slot of an inner node: its bucket. So who writes a new one into a bucket that no node lies in
-- finds its slot without one.
abbrev pub inner_slot : Opening → Inner → ℕ
inner_slot w n = w.flow.books.bucket n.ptr.offset

-- An inner node in memory is the one in this slot. Its children are those that the node's sets name,
-- but where a set of it makes the change under way: memory has the children before that set until
-- the change is over. Of a node that this run wrote, memory knows where its next set goes.
pub record IsTreeInner (w : Opening) (change : Change) (slot : ℕ) (n : Inner) (x : InnerShare) :
    Type 0 where
  pub role : IsInTree x.inner.role
  pub first : x.inner.first ≡ n.from
  pub end : x.inner.end ≡ n.end
  pub bucket : x.inner.bucket ≡ w.flow.books.bucket n.ptr.offset
  pub word : x.inner.word ≡ ptr_word n.ptr
  pub level : suc x.inner.height ≡ n.level
  pub loaded : x.inner.loaded ≡ true → n.loaded ≡ true
  pub own : n.loaded ≡ false → HasSets w.layout x.node n.seq n.taken
  pub children : change ≢ BySet slot → children_of x.node.sets ≡ map (child_of w) n.children

-- Each leaf of the tree is in the slot of its number, and each inner node in that of its bucket; and
-- no other slot has a node of the tree.
pub record IsSpineOf (w : Opening) (st : parts.State) (sp : Spine) : Type 0 where
  pub leaves : (l : LeafRange) → Contains sp.leaves l
      → IsTreeLeaf w l.from l.end l.ptr (shape_of (st.leaves l.number))
  pub all_leaves : (k : ℕ) → IsInTree (st.leaves k).role → HasNumber sp.leaves k
  pub nodes : (n : Inner) → Contains (sp.root ∷ sp.below) n
      → IsTreeInner w st.change (inner_slot w n) n (inner_share st (inner_slot w n))
  pub all_nodes : (x : ℕ) → IsInTree (st.inner_nodes x).role
      → (n : Inner) × Contains (sp.root ∷ sp.below) n × (inner_slot w n ≡ x)
  pub end : st.end ≡ sp.root.end

-- a slot has a node of the tree, or none
abbrev pub Rests : Role → Type 0
Rests role = (role ≡ NoNode) ⊎ (role ≡ Free)

-- the durable entry names a root in this bucket, and so does the sealed one
pub record NamesRoot (r : Records) (root : ℕ) : Type 0 where
  pub newest : r.newest.root ≡ root
  pub sealed : r.stage ≢ Nothing → r.entry.root ≡ root

-- no change of the tree is under way, no new node waits for one, and the root is the one that
-- entries name
pub record IsAtRest (w : Opening) (st : parts.State) (sp : Spine) : Type 0 where
  pub change : st.change ≡ NoChange
  pub leaves : (k : ℕ) → Rests (st.leaves k).role
  pub inner_nodes : (x : ℕ) → Rests (st.inner_nodes x).role
  pub root : NamesRoot st.records (w.flow.books.bucket sp.root.ptr.offset)

-- The tree, the number that the next new node gets, and whether the tree is at rest.
pub record IsSpinePartOf (w : Opening) (st : State) (p : SpinePart) : Type 0 where
  pub spine : IsSpineOf w st.whole.parts p.spine
  pub next_seq : p.next_seq ≡ st.next_seq
  pub rest : p.changing ≡ false → IsAtRest w st.whole.parts p.spine

-- ---- leaves

-- the entries that hold what is pending
abbrev pub AreEntriesOf : Option Entries → List Pending → Type 0
AreEntriesOf None xs = xs ≡ []
AreEntriesOf (Some e) xs = (xs ≢ []) × AllFrom e.first xs × AllUpTo e.last xs

-- its keys are the last ones of some list, and what is pending are those of another
pub record HasLists (leaf : Leaf) : Type 0 where
  pub list : List Key
  pub last : AreLast list leaf.keys
  pub added : List Key
  pub last_added : AreLastOfAll added leaf.pending

-- A leaf in memory is the one in a slot: its keys say what the node's sets say, and what is pending
-- over them. One that was read from the device is never taken for one that this run wrote. Of such a
-- one memory knows the number of the sets and where the next one goes, and no write of a set failed:
-- behind a set that may stand nothing goes, so a leaf with one is like one that was read.
pub record IsLeafFor (w : Opening) (x : LeafShare) (leaf : Leaf) : Type 0 where
  pub at : IsTreeLeaf w leaf.from leaf.end leaf.ptr (shape_of x.leaf)
  pub loaded : x.leaf.loaded ≡ true → leaf.loaded ≡ true
  pub own : leaf.loaded ≡ false → HasSets w.layout x.node leaf.seq leaf.taken
  pub whole : leaf.loaded ≡ false → x.node.lost ≡ None
  pub keys : (s : ℕ) → leaf.from ≤ s → s < leaf.end → ref_said (last_said leaf.keys s)
      ≡ ref_said (last_said (keys_of x.leaf.pending ++ set_keys x.node.sets) s)
  pub pending : (s : ℕ) → last_said leaf.pending s ≡ last_said (keys_of x.leaf.pending) s
  pub entries : AreEntriesOf leaf.entries x.leaf.pending
  pub lists : HasLists leaf

-- a slot has the leaf of this number, and it is held there
abbrev pub IsHeldIn : List (Option Cached) → ℕ → Type 0
IsHeldIn slots k = (i : ℕ) × (c : Cached) × (slice_get slots i ≡ Some (Some c))
    × (c.number ≡ k) × (c.held ≡ true)

-- Of so many parts, the one of this number has the leaves whose numbers leave it as a rest, and reads
-- them as they lie. A leaf of its that is in no slot of the cache has nothing pending, and one that a
-- change of the tree replaces is held in its slot until that is over: into each other one keys may
-- come.
pub record AreLeavesOf (w : Opening) (st : parts.State) (count part : ℕ) (cache : NodeCache) :
    Type 0 where
  pub layout : IsLayoutOf cache.geometry w.layout
  pub rest : (i : ℕ) (c : Cached) → slice_get cache.slots i ≡ Some (Some c) → c.number % count ≡ part
  pub leaves : (i : ℕ) (c : Cached) → slice_get cache.slots i ≡ Some (Some c)
      → IsLeafFor w (leaf_share st c.number) c.leaf
  pub others : (k : ℕ) → k % count ≡ part → IsInTree (st.leaves k).role → Misses cache.slots k
      → (st.leaves k).pending ≡ []
  pub leaving : (k : ℕ) → k % count ≡ part → (st.leaves k).role ≡ Leaving
      → IsHeldIn cache.slots k

-- ---- the journal

abbrev pub numbers_in : Entry → Numbers
numbers_in e = record { seq = e.number; last_seq = e.last_seq }

abbrev pub sealed_numbers : Option Entry → Option Numbers
sealed_numbers None = None
sealed_numbers (Some e) = Some (numbers_in e)

-- behind the sealed entry, which goes to this sector
abbrev pub behind_sealed : Layout → Option Entry → ℕ → ℕ
behind_sealed w None sector = sector
behind_sealed w (Some e) sector = sector + entry_len w e

-- The ring is the machine's, of the same layout. The machine goes on behind an entry once that is
-- durable, and the ring once it is sealed.
pub record IsRingOf (w : Opening) (x : JournalShare) (r : Ring) : Type 0 where
  pub layout : IsLayoutOf r.geometry w.layout
  pub before : w.before ≡ r.geometry.first_bucket
  pub bucket : r.next.bucket ≡ x.entries.bucket
  pub next : w.layout.first r.next.bucket + r.next.sector
      ≡ behind_sealed w.layout x.entries.sealed (x.next x.entries.bucket)
  -- no entry in a journal bucket has a greater number than the ring says
  pub newest : (b : ℕ) (e : Entry) → In e (x.entries.ring b) → e.number ≤ slice_index r.newest b
  pub sealed : IfSome x.entries.sealed (λ e. e.number ≤ slice_index r.newest x.entries.bucket)

-- an entry, as the formats have it, names this root, these priorities and this table of uuids
pub record IsNamed (g : Geometry) (heads : Heads) (e : Entry) : Type 0 where
  pub entry : JEntry
  pub is : e ≡ seen_entry g entry
  pub heads_are : heads ≡ heads_of entry

-- Each insertion brought a key. So where no key waits, the insertions are in the sealed entry or in
-- those before it.
abbrev pub AllWait : JournalShare → Type 0
AllWait x = x.entries.waiting ≡ [] → x.counts.count ≤ x.counts.journal.sealed

-- The keys that wait, oldest first, which are all that is in no entry; the numbers of the durable and
-- the sealed entry; what the durable one names; and the ring.
pub record IsJournalOf (w : Opening) (x : JournalShare) (j : Journal) : Type 0 where
  pub waiting : j.waiting ≡ reverse x.entries.waiting
  pub all_wait : AllWait x
  pub durable : j.durable ≡ numbers_in x.entries.newest
  pub heads : IsNamed j.ring.geometry j.heads x.entries.newest
  pub sealed : j.sealed ≡ sealed_numbers x.entries.sealed
  pub ring : IsRingOf w x j.ring

-- ---- buckets

abbrev pub mark_of : Mark → books.Mark
mark_of marks.None = books.Unmarked
mark_of marks.Reclaimable = books.Reclaimable
mark_of marks.Dirty = books.Dirtied
mark_of marks.Metadata = books.Metadata

-- it is open for data, or a seat holds it
abbrev pub is_held : Shelf → Bool
is_held Loose = false
is_held (Listed p) = false
is_held Raised = false
is_held Open = true
is_held (Held i p) = true

abbrev pub pins_of : Use → ℕ
pins_of Unused = 0
pins_of Pinned = 1
pins_of Used = 0

-- how many of so many places from this one on are pinned, by whomever
abbrev pub pins_in : (ℕ → Owner) → (place count : ℕ) → ℕ
pins_in owner place zero = 0
pins_in owner place (suc n) = pins_of (use_of (owner (place + n))) + pins_in owner place n

-- A bucket's generation is its version, of which the device has a byte; it was used anew as often as
-- that has risen since the opening. So many of its places are pinned, and it is held while it is open
-- for data or a seat's.
pub record IsBucketFor (opened : ℕ) (q : ℕ) (x : BucketsShare) (pinned : ℕ) (b : Bucket) :
    Type 0 where
  pub generation : b.generation ≡ x.version q % 256
  pub uses : x.version q ≡ opened + b.uses
  pub last_gc : b.last_gc ≡ x.last_gc q % 256
  pub mark : mark_of b.mark ≡ x.mark q
  pub pins : b.pins ≡ pinned
  pub held : b.held ≡ is_held (x.shelf q)

-- The buckets of the chain that was made ready last, as many as a chain has, each once. That no newer
-- one is sealed is known where it is told.
pub record IsChainOf (before sets : ℕ) (of : ℕ → Option ℕ) (ready sealed : ℕ) (list : List ℕ)
    (renewing : Bool) : Type 0 where
  pub buckets : AreJust before list (λ q. of q ≡ Some ready)
  pub once : IsDistinct list
  pub many : length list ≡ sets
  pub rest : renewing ≡ false → sealed ≡ ready

-- a walk saw a sector's pointer into the bucket
pub record IsSeenIn (w : Setup) (seen : ℕ → Option Pointer) (q sector : ℕ) (r : Pointer) :
    Type 0 where
  pub within : sector < w.size
  pub saw : seen sector ≡ Some r
  pub bucket : w.bucket r.place ≡ q

-- the device has this byte of the oldest version that such pointers have
pub record IsOldestSeen (w : Setup) (seen : ℕ → Option Pointer) (q generation : ℕ) : Type 0 where
  pub sector : ℕ
  pub pointer : Pointer
  pub one : IsSeenIn w seen q sector pointer
  pub byte : generation ≡ pointer.version % 256
  pub none_older : (s : ℕ) (r : Pointer) → IsSeenIn w seen q s r → pointer.version ≤ r.version

-- What a walk found for a bucket, by what a round saw. It doesn't speak of the bucket's own version,
-- which may rise until the round ends.
pub record IsFoundFor (w : Setup) (seen : ℕ → Option Pointer) (live : ℕ → Bool) (q : ℕ)
    (f : Found) : Type 0 where
  pub mark : mark_of f.mark ≡ books.found_mark w.bucket q seen live w.size
  pub oldest : MatchOption f.last_gc
      ((s : ℕ) (r : Pointer) → IsSeenIn w seen q s r → ⊥)
      (λ generation. IsOldestSeen w seen q generation)

-- The round in memory: just the buckets are touched that are so to the core, since at its end each
-- other one is settled; and the leaves of the sectors below `next` were walked, and no others.
pub record IsRoundOf (w : Setup) (before count : ℕ) (x : Round) (touched : List Bool)
    (t : Tracing) : Type 0 where
  pub going : x.going ≡ t.going
  pub each : length touched ≡ count
  pub touches : (q : ℕ) → before + q < count
      → slice_index_or touched (before + q) false ≡ x.touched q
  pub walked : (s : ℕ) → s < t.next → x.walked s ≡ true
  pub unseen : (s : ℕ) → t.next ≤ s → x.seen s ≡ None
  pub long : length t.walk ≡ count
  pub found : (q : ℕ) → before + q < count
      → IsFoundFor w x.seen x.live q (found_at t.walk (before + q))

-- The records of all buckets, which the device is cut into, the lists, and the places in open
-- buckets; the chain and the trace round. The buckets before the core's are metadata always, and the
-- list for priorities has room for a chain.
pub record AreBucketsOf (w : Opening) (k : Books) (p : BucketsPart) : Type 0 where
  pub cut : IsCutInto p.buckets.size (length p.buckets.records) w
  -- the first bucket for data
  pub data_from : p.buckets.data_from ≡ w.before + w.layout.journal
  pub records : (q : ℕ) → w.before + q < length p.buckets.records
      → IsBucketFor (w.flow.books.version q) q (buckets_in k)
      (pins_in k.owner ((w.before + q) * p.buckets.size) p.buckets.size)
      (bucket_of p.buckets (w.before + q))
  pub places : StandFor w.before p.buckets.size p.fill p.reserves k
  pub outside : (n : ℕ) → n < w.before → (bucket_of p.buckets n).mark ≡ marks.Metadata
  pub room : (list_of lists.Priorities p.reserves).room ≡ w.flow.books.sets
  pub chain : IsChainOf w.before w.flow.books.sets k.chains.of k.chains.ready k.chains.sealed
      p.chain.items p.renewing
  pub round : IsRoundOf w.flow.books w.before (length p.buckets.records) k.round
      p.buckets.touched p.round

-- all of a part but its buckets, its lists and its open buckets is as it was
pub record SameRest (p q : BucketsPart) : Type 0 where
  pub chain : q.chain ≡ p.chain
  pub renewing : q.renewing ≡ p.renewing
  pub round : q.round ≡ p.round
  pub served : q.served ≡ p.served
