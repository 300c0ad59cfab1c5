-- What is known of nodes in each state of a run.
use Rattle.std.specs.Prelude.{◌≡◌, ◌≢◌, ◌⊎◌, ℕ, ◌+◌, ◌^◌, ◌<◌, ◌≤◌, true, false, List, [], Some, None}
use Rattle.bc_model.specs.Sector.{Value}
use Rattle.bc_books.specs.Enabled.{CanStep}
use Rattle.bc_books.specs.Shelves.{Purpose, Priorities, Tree, Listed, Held}
use Rattle.bc_disk.specs.declared.geometry.Geometry.{Geometry}
use Rattle.bc_facts.specs.Layout.{IsLayoutOf}
use Rattle.bc_inner.specs.Inner.{Inner}
use Rattle.bc_node.specs.Leaf.{Leaf}
use Rattle.bc_meta.specs.Chain.{Distinct}
use Rattle.bc_meta.specs.Facts.{In}
use Rattle.bc_meta.specs.Layout.{set_len}
use Rattle.bc_meta.specs.Places.{CanAppend, node_behind}
use Rattle.bc_meta.specs.Records.{Node, Nothing, Records}
use Rattle.bc_meta.specs.Tree.{NodeSet}
use Rattle.bc_leaves.specs.Keys.{SaysSame, last_said, ref_said}
use Rattle.bc_leaves.specs.Parts.{NoNode, Draft, Free, Leaving, Coming, BySet, AllUpTo, IsLive, keys_in_leaf, keys_of, node_of, inner_node_of, leaf_owner, inner_owner, sealed_number}
use Rattle.bc_leaves.specs.Parts as parts
use Rattle.bc_leaves.specs.Rows.{Row}
use Rattle.bc_leaves.specs.Enabled.{IsMade, IsStable, IsVacant, CanWriteSet}
use Rattle.bc_whole.specs.State.{Opening}
use Rattle.bc_known.specs.Acts.{State}
use Rattle.bc_events.specs.Changes.{buckets_gone, regroup}
use Rattle.bc_events.specs.Run as core
use Rattle.bc_events.specs.declared.event.Change.{Change}
use Rattle.bc_events.specs.declared.event.Deed.TheVariants as deed
use Rattle.bc_events.specs.declared.event.Event.{Event}
use Rattle.bc_shares.specs.Shares.{NodeShare, books_of, leaf_share, inner_share, node_share}
use Rattle.bc_shares.specs.Touched.{NamesChange, touches_spine}
use Rattle.bc_shares.specs.Laws.{Happens}
use Rattle.bc_looks.specs.Looks.{InCourse}
use Rattle.bc_looks.specs.bc_machine.Containers.{IsInTree, IsLeafFor, IsTreeInner, NamesRoot, sets_len}

-- ---- nodes that this run wrote

-- The node in this bucket is one: each of its sets has its number, and the next one goes behind
-- them.
pub record IsOwn (w : Opening) (st : State) (q : ℕ) (x : NodeShare) : Type 0 where
  pub own : st.whole.store.places.own q ≡ true
  pub number : (e : NodeSet) → In e x.sets → e.seq ≡ st.whole.store.places.seq q
  pub next : node_behind w.layout st.whole.store.places q
      ≡ w.layout.begins x.owner + sets_len w.layout x.sets

-- so it is with each that wasn't read from the device
pub record AreOwn (w : Opening) (st : State) : Type 0 where
  pub leaves : (k : ℕ) → (st.whole.parts.leaves k).role ≢ NoNode
      → (st.whole.parts.leaves k).loaded ≡ false
      → IsOwn w st (st.whole.parts.leaves k).bucket (leaf_share st.whole.parts k).node
  pub inner_nodes : (x : ℕ) → (st.whole.parts.inner_nodes x).role ≢ NoNode
      → (st.whole.parts.inner_nodes x).loaded ≡ false
      → IsOwn w st (st.whole.parts.inner_nodes x).bucket (inner_share st.whole.parts x).node

abbrev pub LawOwn : Type 0
LawOwn = InCourse (λ o st. AreOwn o.opening.machine st.machine)

-- ---- further sets

-- some keys of the leaf are pending, all of entries that are durable
pub record IsDue (st : parts.State) (k : ℕ) : Type 0 where
  pub some : (st.leaves k).pending ≢ []
  pub durable : AllUpTo st.records.newest.number (st.leaves k).pending

-- no set of such a leaf is under way, nor of an inner node by whose set no change is made
pub record AreStill (st : parts.State) : Type 0 where
  pub leaves : (k : ℕ) → IsLive (st.leaves k).role → IsDue st k → (node_of st k).sent ≡ false
  pub inner_nodes : (x : ℕ) → IsLive (st.inner_nodes x).role → st.change ≢ BySet x
      → (inner_node_of st x).sent ≡ false

abbrev pub LawStill : Type 0
LawStill = InCourse (λ o st. AreStill st.machine.whole.parts)

-- A set of what is pending of a leaf in memory fits in the rest of its node, with its number.
pub record IsSetOf (w : Opening) (leaf : Leaf) (x : parts.Leaf) (set : NodeSet)
    (values : List Value) : Type 0 where
  pub seq : set.seq ≡ leaf.seq
  pub says : SaysSame set.keys (keys_of x.pending)
  pub room : leaf.taken + set_len w.layout set ≤ w.layout.node_sectors
  pub spelled : w.layout.sets.spelled (leaf_owner x) values ≡ Some set

-- It may go behind the leaf's other sets, at the place that memory has.
pub record MayAppend (w : Opening) (st : State) (k : ℕ) (leaf : Leaf) (set : NodeSet)
    (values : List Value) : Type 0 where
  pub can_write : CanWriteSet st.whole.parts k set
  pub can_append : CanAppend w.layout st.whole.store.places (st.whole.parts.leaves k).bucket set
      values
  pub place : st.whole.store.places.node_next (st.whole.parts.leaves k).bucket
      ≡ leaf.ptr.offset + leaf.taken

abbrev pub LawAppend : Type 0
LawAppend = InCourse (λ o st. (g : Geometry) (k : ℕ) (leaf : Leaf) (set : NodeSet)
    (values : List Value) → IsLayoutOf g o.opening.machine.layout
    → IsLeafFor o.opening.machine (leaf_share st.machine.whole.parts k) leaf
    → leaf.loaded ≡ false → (st.machine.whole.parts.leaves k).role ≡ Free
    → IsDue st.machine.whole.parts k
    → IsSetOf o.opening.machine leaf (st.machine.whole.parts.leaves k) set values
    → MayAppend o.opening.machine st.machine k leaf set values)

-- The same of an inner node: a set fits in the rest of its node.
pub record IsParentSetOf (w : Opening) (n : Inner) (x : parts.InnerNode) (set : NodeSet)
    (values : List Value) : Type 0 where
  pub seq : set.seq ≡ n.seq
  pub room : n.taken + set_len w.layout set ≤ w.layout.node_sectors
  pub spelled : w.layout.sets.spelled (inner_owner x) values ≡ Some set

pub record MayAppendParent (w : Opening) (st : State) (x : ℕ) (n : Inner) (set : NodeSet)
    (values : List Value) : Type 0 where
  pub loaded : (st.whole.parts.inner_nodes x).loaded ≡ false
  pub can_append : CanAppend w.layout st.whole.store.places (st.whole.parts.inner_nodes x).bucket
      set values
  pub place : st.whole.store.places.node_next (st.whole.parts.inner_nodes x).bucket
      ≡ n.ptr.offset + n.taken

abbrev pub LawAppendParent : Type 0
LawAppendParent = InCourse (λ o st. (g : Geometry) (x : ℕ) (n : Inner) (set : NodeSet)
    (values : List Value) → IsLayoutOf g o.opening.machine.layout
    → IsTreeInner o.opening.machine st.machine.whole.parts.change x n
    (inner_share st.machine.whole.parts x)
    → n.loaded ≡ false → st.machine.whole.parts.change ≢ BySet x
    → IsParentSetOf o.opening.machine n (st.machine.whole.parts.inner_nodes x) set values
    → MayAppendParent o.opening.machine st.machine x n set values)

-- ---- leaves that are rewritten

-- What a leaf in memory says of a sector is what the core compares with the sets of the leaves that
-- take its place.
abbrev pub LawSaid : Type 0
LawSaid = InCourse (λ o st. (k s : ℕ) (leaf : Leaf)
    → IsLeafFor o.opening.machine (leaf_share st.machine.whole.parts k) leaf
    → leaf.from ≤ s → s < leaf.end
    → ref_said (last_said leaf.keys s)
    ≡ ref_said (last_said (keys_in_leaf st.machine.whole.parts k) s))

-- ---- buckets

-- the bucket of each node of the tree is known as a node's
pub record AreNodes (st : State) : Type 0 where
  pub leaves : (k : ℕ) → IsInTree (st.whole.parts.leaves k).role
      → (books_of st).node (st.whole.parts.leaves k).bucket ≡ true
  pub inner_nodes : (x : ℕ) → IsInTree (st.whole.parts.inner_nodes x).role
      → (books_of st).node (st.whole.parts.inner_nodes x).bucket ≡ true

abbrev pub LawNodes : Type 0
LawNodes = InCourse (λ o st. AreNodes st.machine)

-- no node lies in a bucket that is on a list
abbrev pub LawListed : Type 0
LawListed = InCourse (λ o st. (q : ℕ) (p : Purpose) → (books_of st.machine).shelf q ≡ Listed p
    → IsVacant st.machine.whole.parts q)

-- A bucket that is held for something else than a chain is of none.
abbrev pub LawUnnamed : Type 0
LawUnnamed = InCourse (λ o st. (q i : ℕ) (p : Purpose) → p ≢ Priorities
    → (books_of st.machine).shelf q ≡ Held i p → (books_of st.machine).chains.of q ≡ None)

-- ---- while nobody changes the tree

-- A node's first set was written, and no write to it failed. It is stable from the next barrier on.
pub record IsWritten (n : Node) : Type 0 where
  pub some : (node_share n).sets ≢ []
  pub whole : (node_share n).lost ≡ None
  pub sent : (n.sent ≡ true) ⊎ (n.loose ≡ false)

-- so it stays; and once it is stable it stays so, with the same sets
pub record StaysStable (a b : Node) : Type 0 where
  pub written : IsWritten a → IsWritten b
  pub stable : IsStable a → IsStable b
  pub sets : IsStable a → b.sets ≡ a.sets

-- A new leaf that nothing names yet is left as it is; and so is a new inner node.
pub record StayDrafts (a b : parts.State) : Type 0 where
  pub leaves : (k : ℕ) → (a.leaves k).role ≡ Draft → (leaf_share b k ≡ leaf_share a k)
      × StaysStable (node_of a k) (node_of b k)
  pub inner_nodes : (x : ℕ) → (a.inner_nodes x).role ≡ Draft → (inner_share b x ≡ inner_share a x)
      × StaysStable (inner_node_of a x) (inner_node_of b x)

-- by an event of which the tree isn't changed
abbrev pub LawDraft : Type 0
LawDraft = (w : core.Opening) (x : parts.State) (next_seq : ℕ) (es : List Event) (e : Event)
    → Happens w x next_seq es e → touches_spine e.deed ≡ false
    → let st = core.run w (core.start w x next_seq) es in
    StayDrafts st.machine.whole.parts (core.after w st e).machine.whole.parts

-- A barrier makes stable what was written.
pub record AreSettled (a b : parts.State) : Type 0 where
  pub leaves : (k : ℕ) → IsWritten (node_of a k) → IsStable (node_of b k)
  pub inner_nodes : (x : ℕ) → IsWritten (inner_node_of a x) → IsStable (inner_node_of b x)

abbrev pub LawBarrier : Type 0
LawBarrier = (w : core.Opening) (st : core.State) (i : ℕ)
    → let e : Event = record { seat = i; deed = deed.CacheBarrier } in
    AreSettled st.machine.whole.parts (core.after w st e).machine.whole.parts

-- No node comes to lie where none did.
abbrev pub StayVacant : parts.State → parts.State → Type 0
StayVacant a b = (q : ℕ) → IsVacant a q → IsVacant b q

abbrev pub LawVacant : Type 0
LawVacant = (w : core.Opening) (x : parts.State) (next_seq : ℕ) (es : List Event) (e : Event)
    → Happens w x next_seq es e → touches_spine e.deed ≡ false
    → let st = core.run w (core.start w x next_seq) es in
    StayVacant st.machine.whole.parts (core.after w st e).machine.whole.parts

-- One entry from this number on is sealed or durable, and all that are name this root.
pub record NamesFrom (n root : ℕ) (r : Records) : Type 0 where
  pub made : n ≤ sealed_number r.stage r.newest.number
  pub newest : n ≤ r.newest.number → r.newest.root ≡ root
  pub sealed : r.stage ≢ Nothing → r.entry.root ≡ root

abbrev pub StayNamed : parts.State → parts.State → Type 0
StayNamed a b = (n root : ℕ) → NamesFrom n root a.records → NamesFrom n root b.records

-- So it stays. Where the entry of this number is durable, they name the root as a tree at rest asks.
pub record LawRoot : Type 0 where
  pub stay : (w : core.Opening) (x : parts.State) (next_seq : ℕ) (es : List Event) (e : Event)
      → Happens w x next_seq es e → touches_spine e.deed ≡ false
      → let st = core.run w (core.start w x next_seq) es in
      StayNamed st.machine.whole.parts (core.after w st e).machine.whole.parts
  pub comes : (n root : ℕ) (r : Records) → NamesFrom n root r → n ≤ r.newest.number
      → NamesRoot r root

-- ---- installs

-- A leaf that nothing names yet has nothing pending, nor has one that comes.
pub record AreBare (st : parts.State) : Type 0 where
  pub drafts : (k : ℕ) → (st.leaves k).role ≡ Draft → (st.leaves k).pending ≡ []
  pub coming : (k : ℕ) → (st.leaves k).role ≡ Coming → (st.leaves k).pending ≡ []

abbrev pub LawBare : Type 0
LawBare = InCourse (λ o st. AreBare st.machine.whole.parts)

-- The leaves that leave are all of a range, one behind the other, and so are those that come.
pub record IsWholeChange (p : parts.State) (c : Change) : Type 0 where
  pub names : NamesChange p c
  pub leave : (k : ℕ) → In k c.gone.items → (p.leaves k).role ≡ Leaving
  pub old : Row p.leaves c.low c.gone.items c.high
  pub new : Row p.leaves c.low c.come.items c.high
  pub slots : (k : ℕ) → In k c.come.items → k < 2 ^ 32

-- what an install of it does to the index is allowed
abbrev pub LawRegroup : Type 0
LawRegroup = InCourse (λ o st. (c : Change) → IsWholeChange st.machine.whole.parts c
    → CanStep o.opening.machine.flow.books (books_of st.machine)
    (regroup (books_of st.machine).index st.machine.whole.parts.leaves c))

-- A seat ends such a change, which is made: it holds the buckets of what comes, and those that go are
-- of what leaves.
pub record IsInstallOf (st : State) (i : ℕ) (c : Change) (come gone : List ℕ) : Type 0 where
  pub change : IsWholeChange st.whole.parts c
  pub old : (x : ℕ) → In x c.old.items → (st.whole.parts.inner_nodes x).role ≡ Leaving
  pub made : IsMade st.whole.parts st.whole.parts.change
  pub held : (b : ℕ) → In b come → (books_of st).shelf b ≡ Held i Tree
  pub come_once : Distinct come
  pub gone_in : (b : ℕ) → In b gone → In b (buckets_gone st.whole.parts c)
  pub gone_once : Distinct gone

-- it may install it, while the run goes on
abbrev pub LawInstall : Type 0
LawInstall = InCourse (λ o st. (i : ℕ) (c : Change) (come gone : _) → core.IsSeat i
    → st.machine.whole.flow.halted ≡ false → IsInstallOf st.machine i c come.items gone.items
    → let e : Event = record { seat = i; deed = deed.Install c come gone } in
    core.IsEnabled o.opening st e)
