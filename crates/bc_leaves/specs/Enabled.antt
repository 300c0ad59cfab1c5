-- When an event may happen. Each condition is of parts that are in hand: a leaf with what is
-- pending, inner nodes with their children, the journal, and what is unused.
use Rattle.std.specs.Prelude.{◌≡◌, ◌≢◌, ◌⊎◌, ℕ, suc, ◌<◌, ◌≤◌, Bool, true, false, List, [], ◌∷◌, None}
use Rattle.bc_meta.specs.Facts.{In}
use Rattle.bc_meta.specs.Entries.{Entry}
use Rattle.bc_meta.specs.Tree.{Child, NodeSet, set_keys, children_of, put_children}
use Rattle.bc_meta.specs.Records.{Node, Nothing, Ready, Safe, IsFewer}
use Rattle.bc_leaves.specs.Keys.{last_said, ref_said, SaysSame}
use Rattle.bc_leaves.specs.Parts.{NoNode, Draft, Free, Leaving, Change, NoChange, Begun, BySet, Lost, ByRoot, State, keys_of, AllFrom, AllUpTo, InRange, IsWithin, node_of, inner_node_of, keys_in_leaf, Stays}
use Rattle.bc_leaves.specs.Rows.{Row, Fills}
use Rattle.bc_leaves.specs.Events.{Event, Insert, BeginBucket, Seal, WriteEntry, FailEntry, MakeDurable, Barrier, Reuse, Fill, FailFill, Elsewhere, FailElsewhere, WriteSet, FailSet, NewLeaf, NewInner, ForgetDrafts, BeginChange, SetParent, FailParent, SealRoot, Install}
use Rattle.bc_leaves.specs.After.{leaves_changed, inner_nodes_changed, after}

-- its first set stands, and no write to it is under way or failed
abbrev pub IsStable : Node → Type 0
IsStable n = (n.loose ≡ false) × (n.sent ≡ false) × (n.sets ≢ []) × (n.failed ≡ false)

-- no node lies in the bucket
abbrev pub IsVacant : State → ℕ → Type 0
IsVacant st q = (st.records.unused q ≡ true)
    × ((k : ℕ) → (st.leaves k).role ≢ NoNode → (st.leaves k).bucket ≢ q)
    × ((x : ℕ) → (st.inner_nodes x).role ≢ NoNode → (st.inner_nodes x).bucket ≢ q)

-- Nothing is sealed, and no key since a leaf's last set is of an entry before this last_seq. An
-- overwritten key counts too, and a leaf that leaves.
abbrev pub CanSealNext : State → ℕ → Type 0
CanSealNext st last_seq =
    (st.records.stage ≡ Nothing) × (st.records.newest.last_seq ≤ last_seq)
    × (last_seq ≤ suc st.records.newest.number)
    × ((i : ℕ) → (st.leaves i).role ≢ NoNode → AllFrom last_seq (st.leaves i).pending)

-- some key is pending, all that are are durable, and the set has what they say
abbrev pub CanWriteSet : State → ℕ → NodeSet → Type 0
CanWriteSet st i set =
    ((st.leaves i).role ≡ Free) × ((st.leaves i).loaded ≡ false) × ((st.leaves i).pending ≢ [])
    × AllUpTo st.records.newest.number (st.leaves i).pending
    × SaysSame set.keys (keys_of (st.leaves i).pending)
    × ((node_of st i).failed ≡ false)

-- what the children of an inner node are
abbrev pub children_in : State → ℕ → List Child
children_in st x = children_of (inner_node_of st x).sets

-- Leaves `come` take the place of leaves `gone`, whose keys are all durable, and say the same;
-- inner nodes `new` have nodes below that stay or come.
pub record CanBegin (st : State) (low high : ℕ) (gone come old new : List ℕ) (unused : ℕ → Bool) : Type 0 where
  pub no_change : st.change ≡ NoChange
  pub old_row : Row st.leaves low gone high
  pub new_row : Row st.leaves low come high
  pub within : high ≤ st.end
  pub gone_leaf : (i : ℕ) → In i gone → ((st.leaves i).role ≡ Free)
      × AllUpTo st.records.newest.number (st.leaves i).pending
  pub come_leaf : (j : ℕ) → In j come → ((st.leaves j).role ≡ Draft) × IsStable (node_of st j)
  -- a key without pointers counts as none
  pub same : (i j s : ℕ) → In i gone → In j come → InRange (st.leaves i) s → InRange (st.leaves j) s
      → ref_said (last_said (set_keys (node_of st j).sets) s)
      ≡ ref_said (last_said (keys_in_leaf st i) s)
  pub old_inner : (x : ℕ) → In x old → (st.inner_nodes x).role ≡ Free
  pub new_inner : (x : ℕ) → In x new → ((st.inner_nodes x).role ≡ Draft)
      × IsStable (inner_node_of st x)
  pub filled : (x : ℕ) → In x new → let leaves = leaves_changed st gone come in
      let inner_nodes = inner_nodes_changed st old new in
      Fills leaves inner_nodes Stays (st.inner_nodes x) (children_in st x)
  pub fewer : IsFewer unused st.records.unused
  pub leaf_taken : (j : ℕ) → In j come → unused (st.leaves j).bucket ≡ false
  pub inner_taken : (x : ℕ) → In x new → unused (st.inner_nodes x).bucket ≡ false

-- of these inner nodes, none that stays has a child that leaves
abbrev pub NoneLeft : State → (ℕ → Type 0) → Type 0
NoneLeft st These = (x : ℕ) → Stays (st.inner_nodes x).role → These x
    → Fills st.leaves st.inner_nodes Stays (st.inner_nodes x) (children_in st x)

-- The set leaves the inner node no child that leaves, nor has another inner node one; and no root
-- leaves.
abbrev pub CanSetParent : State → ℕ → NodeSet → Type 0
CanSetParent st q set =
    (st.change ≡ Begun) × Stays (st.inner_nodes q).role × ((st.inner_nodes q).loaded ≡ false)
    × (let children = put_children set.children (children_in st q) in
    Fills st.leaves st.inner_nodes Stays (st.inner_nodes q) children)
    × NoneLeft st (λ x. x ≢ q)
    × ((x : ℕ) → (st.inner_nodes x).role ≡ Leaving
    → ((st.inner_nodes x).bucket ≢ st.records.newest.root)
    × (st.records.stage ≢ Nothing → (st.inner_nodes x).bucket ≢ st.records.entry.root))

-- the inner node's range is the root's, and no inner node that stays has a child that leaves
abbrev pub CanSealRoot : State → ℕ → ℕ → Type 0
CanSealRoot st last_seq r =
    CanSealNext st last_seq × (st.change ≡ Begun) × Stays (st.inner_nodes r).role
    × ((st.inner_nodes r).first ≡ 0)
    × ((st.inner_nodes r).end ≡ st.end) × NoneLeft st (λ x. Unit {0})

-- what makes the change is stable, or durable
abbrev pub IsMade : State → Change → Type 0
IsMade st NoChange = ⊥
IsMade st Begun = ⊥
IsMade st Lost = ⊥
IsMade st (BySet q) = (inner_node_of st q).sent ≡ false
IsMade st (ByRoot n) = n ≤ st.records.newest.number

-- what is unused was so, or was a node that leaves
abbrev pub CanInstall : State → (ℕ → Bool) → Type 0
CanInstall st unused =
    IsMade st st.change
    × ((q : ℕ) → unused q ≡ true → (st.records.unused q ≡ true)
    ⊎ ((i : ℕ) × ((st.leaves i).role ≡ Leaving) × ((st.leaves i).bucket ≡ q))
    ⊎ ((x : ℕ) × ((st.inner_nodes x).role ≡ Leaving) × ((st.inner_nodes x).bucket ≡ q)))

abbrev pub IsEnabled : State → Event → Type 0
IsEnabled st (Insert i key) = ((st.leaves i).role ≡ Free) × IsWithin (st.leaves i) key
IsEnabled st (BeginBucket b) = (st.records.stage ≡ Nothing)
    × ((x : Entry) → In x (st.records.ring b) → x.number < st.records.newest.last_seq)
IsEnabled st (Seal last_seq prio rest) = CanSealNext st last_seq
IsEnabled st (WriteEntry values) = st.records.stage ≡ Ready
IsEnabled st (FailEntry values) = st.records.stage ≡ Ready
IsEnabled st MakeDurable = st.records.stage ≡ Safe
IsEnabled st Barrier = Unit {0}
IsEnabled st (Reuse q) = IsVacant st q
IsEnabled st (Fill q at values) = IsVacant st q
IsEnabled st (FailFill q at values set) = IsVacant st q
IsEnabled st (Elsewhere at values) = Unit {0}
IsEnabled st (FailElsewhere at values) = Unit {0}
IsEnabled st (WriteSet i set values) = CanWriteSet st i set
IsEnabled st (FailSet i set values) = CanWriteSet st i set
IsEnabled st (NewLeaf j leaf set values) =
    ((st.leaves j).role ≡ NoNode) × IsVacant st leaf.bucket × (leaf.role ≡ Draft)
    × (leaf.pending ≡ [])
    × ((s : ℕ) → (InRange leaf s → ⊥) → last_said set.keys s ≡ None)
IsEnabled st (NewInner j inner set values) = ((st.inner_nodes j).role ≡ NoNode)
    × IsVacant st inner.bucket × (inner.role ≡ Draft)
IsEnabled st ForgetDrafts = Unit {0}
IsEnabled st (BeginChange low high gone come old new unused) = CanBegin st low high gone come old new unused
IsEnabled st (SetParent q set values) = CanSetParent st q set
IsEnabled st (FailParent q set values) = CanSetParent st q set
IsEnabled st (SealRoot last_seq prio rest r) = CanSealRoot st last_seq r
IsEnabled st (Install unused) = CanInstall st unused

abbrev pub IsRun : State → List Event → Type 0
IsRun st [] = Unit {0}
IsRun st (e ∷ es) = IsEnabled st e × IsRun (after st e) es
