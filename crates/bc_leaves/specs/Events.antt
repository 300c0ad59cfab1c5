-- What happens to the parts.
use Rattle.std.specs.Prelude.{ℕ, Bool, List, [], ◌∷◌, Option, suc}
use Rattle.bc_model.specs.Sector.{Value}
use Rattle.bc_key.specs.declared.key.Key.{Key}
use Rattle.bc_meta.specs.Entries.{Entry}
use Rattle.bc_meta.specs.Tree.{NodeSet}
use Rattle.bc_meta.specs.Records.{Records}
use Rattle.bc_meta.specs.Events as event
use Rattle.bc_leaves.specs.Parts.{Leaf, InnerNode, State, leaf_owner, inner_owner}

pub data Event : Type 0 where
  -- a leaf has a new key
  Insert : (slot : ℕ) → (key : Key) → Event
  -- the next journal bucket is begun
  BeginBucket : (bucket : ℕ) → Event
  -- an entry is sealed that names the root of the one before, is written, well or not, and is
  -- durable
  Seal : (last_seq prio : ℕ) → (rest : List ℕ) → Event
  WriteEntry : (values : List Value) → Event
  FailEntry : (values : List Value) → Event
  MakeDurable : Event
  Barrier : Event
  -- a bucket that is no node's is taken, and something is written there, well or not; a new node
  -- whose write failed is among these
  Reuse : (bucket : ℕ) → Event
  Fill : (bucket at : ℕ) → (values : List Value) → Event
  FailFill : (bucket at : ℕ) → (values : List Value) → (set : Option NodeSet) → Event
  -- values are written outside all buckets, well or not
  Elsewhere : (at : ℕ) → (values : List Value) → Event
  FailElsewhere : (at : ℕ) → (values : List Value) → Event
  -- a further set of a leaf is written, well or not: the last keys of what is pending
  WriteSet : (slot : ℕ) → (set : NodeSet) → (values : List Value) → Event
  FailSet : (slot : ℕ) → (set : NodeSet) → (values : List Value) → Event
  -- the first set of a draft is written, which is to be a leaf, or an inner node
  NewLeaf : (slot : ℕ) → (leaf : Leaf) → (set : NodeSet) → (values : List Value) → Event
  NewInner : (slot : ℕ) → (inner : InnerNode) → (set : NodeSet) → (values : List Value) → Event
  ForgetDrafts : Event
  -- a change begins: of these leaves, which lie from sector low to high, some go and some come, and
  -- inner nodes with them; what is unused from then on
  BeginChange : (low high : ℕ) → (gone come old new : List ℕ) → (unused : ℕ → Bool) → Event
  -- a further set of an inner node that stays makes the change, or its write failed
  SetParent : (slot : ℕ) → (set : NodeSet) → (values : List Value) → Event
  FailParent : (slot : ℕ) → (set : NodeSet) → (values : List Value) → Event
  -- an entry is sealed that makes the change, since it names a new root
  SealRoot : (last_seq prio : ℕ) → (rest : List ℕ) → (slot : ℕ) → Event
  -- the change is over, and what it took away is given up
  Install : (unused : ℕ → Bool) → Event

-- the next entry, with all keys that wait
abbrev pub next_entry : Records → ℕ → ℕ → List ℕ → ℕ → ℕ → ℕ → Entry
next_entry r last_seq prio rest root word level =
    record {
      number = suc r.newest.number;
      last_seq = last_seq;
      root = root;
      word = word;
      level = level;
      prio = prio;
      keys = r.waiting;
      rest = rest;
    }

abbrev pub same_root : Records → ℕ → ℕ → List ℕ → Entry
same_root r last_seq prio rest = next_entry r last_seq prio rest r.newest.root r.newest.word r.newest.level

abbrev pub new_root : Records → ℕ → ℕ → List ℕ → InnerNode → Entry
new_root r last_seq prio rest x = next_entry r last_seq prio rest x.bucket x.word (suc x.height)

-- what it is to the records
abbrev pub events_of : State → Event → List event.Event
events_of st (Insert i key) = event.AddKey key ∷ []
events_of st (BeginBucket b) = event.BeginBucket b ∷ []
events_of st (Seal last_seq prio rest) = event.SealEntry (same_root st.records last_seq prio rest) st.records.unused ∷ []
events_of st (WriteEntry values) = event.WriteEntry values ∷ []
events_of st (FailEntry values) = event.FailEntry values ∷ []
events_of st MakeDurable = event.MakeDurable ∷ []
events_of st Barrier = event.Barrier ∷ []
events_of st (Reuse q) = event.Reuse q ∷ []
events_of st (Fill q at values) = event.Fill q at values ∷ []
events_of st (FailFill q at values set) = event.FailFill q at values set ∷ []
events_of st (Elsewhere at values) = event.Elsewhere at values ∷ []
events_of st (FailElsewhere at values) = event.FailElsewhere at values ∷ []
events_of st (WriteSet i set values) = event.AddSet (st.leaves i).bucket set values st.records.unused ∷ []
events_of st (FailSet i set values) = event.FailSet (st.leaves i).bucket set values ∷ []
events_of st (NewLeaf j leaf set values) = event.NewNode leaf.bucket (leaf_owner leaf) set values ∷ []
events_of st (NewInner j inner set values) = event.NewNode inner.bucket (inner_owner inner) set values ∷ []
events_of st ForgetDrafts = []
events_of st (BeginChange low high gone come old new unused) = event.GiveUp unused ∷ []
events_of st (SetParent q set values) = event.AddSet (st.inner_nodes q).bucket set values st.records.unused ∷ []
events_of st (FailParent q set values) = event.FailSet (st.inner_nodes q).bucket set values ∷ []
events_of st (SealRoot last_seq prio rest r) = event.SealEntry (new_root st.records last_seq prio rest (st.inner_nodes r)) st.records.unused ∷ []
events_of st (Install unused) = event.GiveUp unused ∷ []
