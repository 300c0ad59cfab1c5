-- What holds between the parts and the records: the invariant.
use Rattle.std.specs.Prelude.{◌≡◌, ◌≢◌, ◌⊎◌, ℕ, suc, ◌≤◌, true, false, List, [], ◌∷◌, ◌++◌, None, if◌then◌else◌}
use Rattle.bc_key.specs.declared.key.Key.{Key}
use Rattle.bc_meta.specs.Facts.{In}
use Rattle.bc_meta.specs.Entries.{Entry}
use Rattle.bc_meta.specs.Tree.{NodeSet, set_keys, children_of}
use Rattle.bc_meta.specs.Records.{Node, Records, Stage, Nothing, IsReady}
use Rattle.bc_leaves.specs.Keys.{last_said, ref_said, Speaks, AnySpeaks}
use Rattle.bc_leaves.specs.Parts.{Pending, Role, NoNode, Draft, Free, Leaving, Coming, Leaf, InnerNode, Change, NoChange, Begun, BySet, Lost, ByRoot, State, keys_of, beyond, up_to, sealed_number, ready_number, AllFrom, InRange, leaf_owner, inner_owner, IsLive, Stays}
use Rattle.bc_leaves.specs.Rows.{Fills}

-- ---- the keys of a leaf

-- what leaves share with the journal
pub record Journal : Type 0 where
  pub waiting : List Key
  pub entry : Entry
  pub stage : Stage
  pub newest : Entry
  pub older : List Entry
  pub index : List Key

abbrev pub journal_of : Records → Journal
journal_of r =
    record {
      waiting = r.waiting;
      entry = r.entry;
      stage = r.stage;
      newest = r.newest;
      older = r.older;
      index = r.index;
    }

-- the numbers fall, from n on
abbrev pub Ordered : ℕ → List Pending → Type 0
Ordered n [] = Unit {0}
Ordered n (x ∷ xs) = (x.number ≤ n) × Ordered x.number xs

-- an entry that is still there has the key's sectors, and is no older than its number says
abbrev pub IsKept : Journal → Pending → Type 0
IsKept j x = (e : Entry) × In e (j.newest ∷ j.older) × (x.number ≤ e.number)
    × ((s : ℕ) → Speaks x.key s → AnySpeaks e.keys s)

-- the keys of a set that is sent, if any
abbrev pub last_keys : Node → List Key
last_keys n = if n.sent then n.last.keys else []

-- a leaf's keys lie in its range
pub record LeafNode (n : Node) (sent : List Pending) (x : Leaf) : Type 0 where
  pub last : (s : ℕ) → last_said (last_keys n) s ≡ last_said (keys_of sent) s
  pub sets_inside : (s : ℕ) → (InRange x s → ⊥) → last_said (set_keys n.sets) s ≡ None
  pub sent_inside : (s : ℕ) → (InRange x s → ⊥) → last_said (keys_of sent) s ≡ None
  pub pending_inside : (s : ℕ) → (InRange x s → ⊥) → last_said (keys_of x.pending) s ≡ None

-- In its range a leaf has, entry by entry, what the journal has: its keys of the coming entry are
-- what waits, those of the sealed one are what is sealed, and the rest over its sets is the index.
pub record LeafKeys (j : Journal) (sets : List NodeSet) (sent : List Pending) (x : Leaf) : Type 0 where
  pub waiting : (s : ℕ) → InRange x s
      → last_said j.waiting s ≡ last_said (keys_of (beyond (sealed_number j.stage j.newest.number) x.pending)) s
  pub sealed : j.stage ≢ Nothing → (s : ℕ) → InRange x s
      → last_said j.entry.keys s ≡ last_said (keys_of (beyond j.newest.number (up_to (suc j.newest.number) x.pending))) s
  pub index : (s : ℕ) → InRange x s → ref_said (last_said j.index s)
      ≡ ref_said (last_said (keys_of (up_to j.newest.number x.pending) ++ (keys_of sent ++ set_keys sets)) s)
  pub ordered : Ordered (suc (sealed_number j.stage j.newest.number)) x.pending
  pub kept : (y : Pending) → In y (up_to j.newest.number x.pending) ⊎ In y sent → IsKept j y
  -- the sealed entry keeps the entries of what is pending, and of what is sent
  pub low : j.stage ≢ Nothing → AllFrom j.entry.last_seq x.pending
  pub sent_low : IsReady j.stage → AllFrom j.entry.last_seq sent

-- a set whose write failed has keys of the leaf alone, and only where a pending key that is durable
-- has the sector
pub record LostFits (n : ℕ) (keys : List Key) (x : Leaf) : Type 0 where
  pub inside : (s : ℕ) → (InRange x s → ⊥) → last_said keys s ≡ None
  pub held : (s : ℕ) → ((y : Pending) → In y (up_to n x.pending) → Speaks y.key s → ⊥)
      → last_said keys s ≡ None

pub record DraftFits (n : Node) (sent : List Pending) (x : Leaf) : Type 0 where
  pub sets_inside : (s : ℕ) → (InRange x s → ⊥) → last_said (set_keys n.sets) s ≡ None
  pub last_inside : (s : ℕ) → (InRange x s → ⊥) → last_said (last_keys n) s ≡ None
  pub none : x.pending ≡ []
  pub not_sent : sent ≡ []

-- a leaf that leaves may overlap one that comes
abbrev pub Partners : Role → Role → Type 0
Partners Leaving Coming = Unit {0}
Partners Coming Leaving = Unit {0}
Partners a b = ⊥

-- ---- inner nodes and roots

-- between a change's begin and its set or entry, nodes that stay may have children that leave
abbrev pub IsCalm : Change → Type 0
IsCalm NoChange = Unit {0}
IsCalm Begun = ⊥
IsCalm Lost = ⊥
IsCalm (BySet q) = Unit {0}
IsCalm (ByRoot n) = Unit {0}

pub record InnerFits (leaves : ℕ → Leaf) (inner_nodes : ℕ
    → InnerNode) (change : Change) (n : Node) (slot : ℕ) (x : InnerNode) : Type 0 where
  pub firm : n.loose ≡ false
  pub some : n.sets ≢ []
  -- its children are nodes of the tree, and such that stay; with its last set too, where that may
  -- stand
  pub now : Fills leaves inner_nodes IsLive x (children_of n.sets)
  pub still : IsCalm change → Stays x.role → n.sent ≡ false
      → Fills leaves inner_nodes Stays x (children_of n.sets)
  pub next : n.sent ≡ true → (change ≡ BySet slot)
      × Fills leaves inner_nodes Stays x (children_of (n.last ∷ n.sets))
  pub lost : n.failed ≡ true → (change ≡ Lost)
      × Fills leaves inner_nodes IsLive x (children_of (n.last ∷ n.sets))

-- the inner node of a root, whose range is all that there is
abbrev pub HasRoot : (ℕ → InnerNode) → ℕ → (Role → Type 0) → ℕ → ℕ → ℕ → Type 0
HasRoot inner_nodes end P root level word =
    (x : ℕ) × P (inner_nodes x).role × ((inner_nodes x).bucket ≡ root)
    × (suc (inner_nodes x).height ≡ level)
    × ((inner_nodes x).first ≡ 0) × ((inner_nodes x).end ≡ end) × ((inner_nodes x).word ≡ word)

-- whether the durable entry's root stays, where it has number n
abbrev pub NewestStays : Change → ℕ → Type 0
NewestStays NoChange n = Unit {0}
NewestStays Begun n = ⊥
NewestStays Lost n = ⊥
NewestStays (BySet q) n = Unit {0}
NewestStays (ByRoot m) n = m ≤ n

-- the entry of a new root is sealed, or durable
abbrev pub InOrder : Change → Stage → ℕ → Type 0
InOrder (ByRoot m) g n = (m ≤ suc n) × (g ≡ Nothing → m ≤ n)
InOrder other g n = Unit {0}

-- the durable and the sealed entry name a root, and no key lies beyond its end
pub record Roots (j : Journal) (inner_nodes : ℕ
    → InnerNode) (end : ℕ) (change : Change) : Type 0 where
  pub newest : HasRoot inner_nodes end IsLive j.newest.root j.newest.level j.newest.word
  pub entry : j.stage ≢ Nothing → HasRoot inner_nodes end IsLive j.entry.root j.entry.level j.entry.word
  pub newest_stays : NewestStays change j.newest.number
      → HasRoot inner_nodes end Stays j.newest.root j.newest.level j.newest.word
  pub entry_stays : IsCalm change → j.stage ≢ Nothing
      → HasRoot inner_nodes end Stays j.entry.root j.entry.level j.entry.word
  pub order : InOrder change j.stage j.newest.number
  pub waiting : (s : ℕ) → end ≤ s → last_said j.waiting s ≡ None
  pub sealed : j.stage ≢ Nothing → (s : ℕ) → end ≤ s → last_said j.entry.keys s ≡ None
  pub index : (s : ℕ) → end ≤ s → ref_said (last_said j.index s) ≡ None

-- ---- all of it

-- the leaves of the tree, and the drafts
pub record LeavesFit (r : Records) (leaves : ℕ → Leaf) (sent : ℕ
    → List Pending) (end : ℕ) : Type 0 where
  pub node : (i : ℕ) → IsLive (leaves i).role
      → LeafNode (r.nodes (leaves i).bucket) (sent (leaves i).bucket) (leaves i)
  pub firm : (i : ℕ) → IsLive (leaves i).role
      → ((r.nodes (leaves i).bucket).loose ≡ false) × ((r.nodes (leaves i).bucket).sets ≢ [])
  pub keys : (i : ℕ) → IsLive (leaves i).role
      → LeafKeys (journal_of r) (r.nodes (leaves i).bucket).sets (sent (leaves i).bucket) (leaves i)
  pub used : (i : ℕ) → IsLive (leaves i).role → r.unused (leaves i).bucket ≡ false
  pub below : (i : ℕ) → IsLive (leaves i).role → (leaves i).end ≤ end
  -- while a leaf's set isn't stable, the keys that came in since are of entries that no barrier
  -- follows
  pub fresh : (i : ℕ) → IsLive (leaves i).role → (r.nodes (leaves i).bucket).sent ≡ true
      → AllFrom (suc (ready_number r.stage r.newest.number)) (leaves i).pending
  pub lost : (i : ℕ) → IsLive (leaves i).role → (r.nodes (leaves i).bucket).failed ≡ true
      → LostFits r.newest.number (r.nodes (leaves i).bucket).last.keys (leaves i)
  -- they don't overlap, but for those that leave with those that come
  pub apart : (i k s : ℕ) → IsLive (leaves i).role → IsLive (leaves k).role → InRange (leaves i) s
      → InRange (leaves k) s → (i ≡ k) ⊎ Partners (leaves i).role (leaves k).role
  pub drafts : (i : ℕ) → (leaves i).role ≡ Draft
      → DraftFits (r.nodes (leaves i).bucket) (sent (leaves i).bucket) (leaves i)

-- the inner nodes of the tree
pub record TreeFits (r : Records) (leaves : ℕ → Leaf) (inner_nodes : ℕ
    → InnerNode) (change : Change) : Type 0 where
  pub inner : (x : ℕ) → IsLive (inner_nodes x).role
      → InnerFits leaves inner_nodes change (r.nodes (inner_nodes x).bucket) x (inner_nodes x)
  pub inner_used : (x : ℕ) → IsLive (inner_nodes x).role → r.unused (inner_nodes x).bucket ≡ false

-- each bucket is one node's, and is read as that
pub record HaveBuckets (nodes : ℕ → Node) (leaves : ℕ → Leaf) (inner_nodes : ℕ
    → InnerNode) : Type 0 where
  pub one_leaf : (i k : ℕ) → (leaves i).role ≢ NoNode → (leaves k).role ≢ NoNode
      → (leaves i).bucket ≡ (leaves k).bucket → i ≡ k
  pub one_inner : (x y : ℕ) → (inner_nodes x).role ≢ NoNode → (inner_nodes y).role ≢ NoNode
      → (inner_nodes x).bucket ≡ (inner_nodes y).bucket → x ≡ y
  pub one_kind : (i x : ℕ) → (leaves i).role ≢ NoNode → (inner_nodes x).role ≢ NoNode
      → (leaves i).bucket ≢ (inner_nodes x).bucket
  pub named : (i : ℕ) → (leaves i).role ≢ NoNode → (nodes (leaves i).bucket).owner
      ≡ leaf_owner (leaves i)
  pub inner_named : (x : ℕ) → (inner_nodes x).role ≢ NoNode
      → (nodes (inner_nodes x).bucket).owner ≡ inner_owner (inner_nodes x)

-- without a change each node of the tree is free
pub record IsQuiet (change : Change) (leaves : ℕ → Leaf) (inner_nodes : ℕ
    → InnerNode) : Type 0 where
  pub calm : change ≡ NoChange → (i : ℕ) → IsLive (leaves i).role → (leaves i).role ≡ Free
  pub calm_inner : change ≡ NoChange → (x : ℕ) → IsLive (inner_nodes x).role → (inner_nodes x).role
      ≡ Free

pub record Fits (st : State) : Type 0 where
  pub leaves : LeavesFit st.records st.leaves st.sent st.end
  pub tree : TreeFits st.records st.leaves st.inner_nodes st.change
  pub roots : Roots (journal_of st.records) st.inner_nodes st.end st.change
  pub buckets : HaveBuckets st.records.nodes st.leaves st.inner_nodes
  pub quiet : IsQuiet st.change st.leaves st.inner_nodes
