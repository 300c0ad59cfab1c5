-- What each part of a running cache has of the state.
use Rattle.std.specs.Prelude.{◌≡◌, ◌≢◌, ℕ, Bool, true, false, List, ◌∷◌, Option, Some, None}
use Rattle.bc_key.specs.declared.key.Key.{Key}
use Rattle.bc_books.specs.Books as book
use Rattle.bc_books.specs.Marks.{Mark}
use Rattle.bc_books.specs.Round.{Round}
use Rattle.bc_books.specs.Shelves.{Shelf, Owner, Fresh, Own, Kept, Spent}
use Rattle.bc_meta.specs.Entries.{Entry}
use Rattle.bc_meta.specs.Tree.{NodeSet}
use Rattle.bc_meta.specs.Tree as tree
use Rattle.bc_meta.specs.Records.{Node, Records, Stage, Nothing, Fixed, Ready, Sent, Safe}
use Rattle.bc_leaves.specs.Parts.{NoNode}
use Rattle.bc_leaves.specs.Parts as parts
use Rattle.bc_known.specs.Acts.{State}

-- ---- the journal

-- the entry that is sealed and not durable yet; how far its write has come is the device's
abbrev pub if_sealed : Stage → Entry → Option Entry
if_sealed Nothing e = None
if_sealed Fixed e = Some e
if_sealed Ready e = Some e
if_sealed Sent e = Some e
if_sealed Safe e = Some e

-- what records say of entries
pub record Entries : Type 0 where
  -- the keys that wait for the next one
  pub waiting : List Key
  pub sealed : Option Entry
  -- the durable ones, from the newest one's last_seq on
  pub newest : Entry
  pub older : List Entry
  -- those in each journal bucket, and the bucket that is written to
  pub ring : ℕ → List Entry
  pub bucket : ℕ

abbrev pub entries_in : Records → Entries
entries_in r = record {
  waiting = r.waiting;
  sealed = if_sealed r.stage r.entry;
  newest = r.newest;
  older = r.older;
  ring = r.ring;
  bucket = r.bucket;
}

-- what the books say of entries: insertions, generations and chains that are sealed or durable
pub record Counts : Type 0 where
  pub count : ℕ
  pub journal : book.Journal
  pub sealed : ℕ → ℕ
  pub durable : ℕ → ℕ
  pub sealed_chain : ℕ
  pub durable_chain : ℕ

abbrev pub counts_in : book.Books → Counts
counts_in k = record {
  count = k.index.count;
  journal = k.journal;
  sealed = k.generations.sealed;
  durable = k.generations.durable;
  sealed_chain = k.chains.sealed;
  durable_chain = k.chains.durable;
}

pub record JournalShare : Type 0 where
  pub entries : Entries
  pub counts : Counts
  -- the sector behind the entries of each journal bucket
  pub next : ℕ → ℕ

abbrev pub journal_share : State → JournalShare
journal_share st = record {
  entries = entries_in st.whole.parts.records;
  counts = counts_in st.whole.flow.books;
  next = st.whole.store.places.ring_next;
}

-- ---- buckets

-- Whether a place may still be pinned, is pinned, or was: whose pin it is the claims and candidates
-- tell.
pub data Use : Type 0 where
  Unused Pinned Used : Use

abbrev pub use_of : Owner → Use
use_of Fresh = Unused
use_of (Own i) = Pinned
use_of (Kept c) = Pinned
use_of Spent = Used

pub record BucketsShare : Type 0 where
  -- the version of each bucket, and the oldest one that a key had for it when a round ended last
  pub version : ℕ → ℕ
  pub last_gc : ℕ → ℕ
  pub mark : ℕ → Mark
  pub shelf : ℕ → Shelf
  -- the chain that it is of, the one that was made ready last, and the newest one that is sealed
  pub chain : ℕ → Option ℕ
  pub ready : ℕ
  pub sealed : ℕ
  pub node : ℕ → Bool
  pub round : Round

abbrev pub buckets_in : book.Books → BucketsShare
buckets_in k = record {
  version = k.generations.version;
  last_gc = k.generations.last_gc;
  mark = k.mark;
  shelf = k.shelf;
  chain = k.chains.of;
  ready = k.chains.ready;
  sealed = k.chains.sealed;
  node = k.node;
  round = k.round;
}

-- the same of buckets, and the same use of each place
pub record SameBuckets (a b : book.Books) : Type 0 where
  pub share : buckets_in b ≡ buckets_in a
  pub uses : (t : ℕ) → use_of (b.owner t) ≡ use_of (a.owner t)

abbrev pub books_of : State → book.Books
books_of st = st.whole.flow.books

-- ---- nodes

-- What was written of a node, whether a barrier came behind it or not: its sets, newest first, and
-- the one whose write failed.
pub record NodeShare : Type 0 where
  pub owner : tree.Owner
  pub sets : List NodeSet
  pub lost : Option NodeSet

abbrev pub written_sets : Bool → NodeSet → List NodeSet → List NodeSet
written_sets false last sets = sets
written_sets true last sets = last ∷ sets

abbrev pub lost_set : (sent failed : Bool) → NodeSet → Option NodeSet
lost_set true failed last = None
lost_set false true last = Some last
lost_set false false last = None

abbrev pub node_share : Node → NodeShare
node_share n = record {
  owner = n.owner;
  sets = written_sets n.sent n.last n.sets;
  lost = lost_set n.sent n.failed n.last;
}

-- a leaf, with its pending keys, and its node
pub record LeafShare : Type 0 where
  pub leaf : parts.Leaf
  pub node : NodeShare

abbrev pub leaf_share : parts.State → ℕ → LeafShare
leaf_share st k = record {
  leaf = st.leaves k;
  node = node_share (st.records.nodes (st.leaves k).bucket);
}

pub record InnerShare : Type 0 where
  pub inner : parts.InnerNode
  pub node : NodeShare

abbrev pub inner_share : parts.State → ℕ → InnerShare
inner_share st x = record {
  inner = st.inner_nodes x;
  node = node_share (st.records.nodes (st.inner_nodes x).bucket);
}

-- of a leaf, all but what is pending
pub record Shape : Type 0 where
  pub first : ℕ
  pub end : ℕ
  pub bucket : ℕ
  pub word : ℕ
  pub role : parts.Role
  pub loaded : Bool

abbrev pub shape_of : parts.Leaf → Shape
shape_of x = record {
  first = x.first;
  end = x.end;
  bucket = x.bucket;
  word = x.word;
  role = x.role;
  loaded = x.loaded;
}

-- the same shapes of all leaves, the same inner nodes, and the same change under way
pub record SameSpine (a b : State) : Type 0 where
  pub leaves : (k : ℕ) → shape_of (b.whole.parts.leaves k) ≡ shape_of (a.whole.parts.leaves k)
  pub slots : b.whole.parts.inner_nodes ≡ a.whole.parts.inner_nodes
  pub inner_nodes : (x : ℕ) → (a.whole.parts.inner_nodes x).role ≢ NoNode
      → inner_share b.whole.parts x ≡ inner_share a.whole.parts x
  pub end : b.whole.parts.end ≡ a.whole.parts.end
  pub change : b.whole.parts.change ≡ a.whole.parts.change
  pub unused : b.whole.parts.records.unused ≡ a.whole.parts.records.unused
  pub next_seq : b.next_seq ≡ a.next_seq
