-- What a crash left, opened: the leaves and inner nodes that its tree has, and the keys of its
-- entries as pending.
use Rattle.std.specs.Prelude.{◌≡◌, ℕ, zero, suc, ◌<◌, ◌≤◌, Bool, true, false, List, [], ◌∷◌, ◌++◌, None}
use Rattle.bc_model.specs.Sector.{Image}
use Rattle.bc_disk.specs.Device.{MayLeave}
use Rattle.bc_meta.specs.Facts.{In}
use Rattle.bc_meta.specs.Entries.{CountDown, Entry, all_keys, live}
use Rattle.bc_meta.specs.Tree.{Child, NodeSets, Owner, children_of, IsNamed, Keeps}
use Rattle.bc_meta.specs.Layout.{Layout}
use Rattle.bc_meta.specs.Records.{MayRead, IsReady, IsReadable, HasRoom, owners, opened_records}
use Rattle.bc_meta.specs.Places.{NoChance}
use Rattle.bc_meta.specs.Laws.{Opening, IsSound, opened, reached}
use Rattle.bc_leaves.specs.Keys.{last_said, Speaks, AnySpeaks}
use Rattle.bc_leaves.specs.Parts.{Pending, Role, NoNode, Draft, Free, Leaving, Coming, Leaf, InnerNode, NoChange, State, keys_of}
use Rattle.bc_leaves.specs.Events.{Event}
use Rattle.bc_leaves.specs.After.{has, fold}
use Rattle.bc_leaves.specs.Enabled.{IsRun}
use Rattle.bc_leaves.specs.Fits.{Ordered, Fits}
use Rattle.bc_leaves.specs.Laws.{Step, acts_of, parts_of, IsJoint}

-- Pending keys of a leaf from sector a to b that say there what the keys of these entries say, and
-- nothing elsewhere: each is a part of what its entry's keys have, and the newest entry's come
-- first.
pub record Replays (a b : ℕ) (newest : Entry) (older : List Entry) (pending : List Pending) : Type 0 where
  pub same : (s : ℕ) → a ≤ s → s < b → last_said (keys_of pending) s
      ≡ last_said (all_keys (newest ∷ older)) s
  pub inside : (s : ℕ) → ((a ≤ s) × (s < b) → ⊥) → last_said (keys_of pending) s ≡ None
  pub ordered : Ordered newest.number pending
  pub of_entry : (y : Pending) → In y pending → (e : Entry) × In e (newest ∷ older)
      × (y.number ≡ e.number)
      × ((s : ℕ) → Speaks y.key s → AnySpeaks e.keys s)

-- there always are such keys
abbrev pub LawReplays : Type 0
LawReplays = (all : List Entry) (a b : ℕ) (newest : Entry) (older : List Entry)
    → CountDown all newest.last_seq (newest ∷ older) (suc newest.number)
    → (pending : List Pending) × Replays a b newest older pending

abbrev pub each : (ℕ → List ℕ) → List Child → List ℕ
each f [] = []
each f (k ∷ ks) = f k.bucket ++ each f ks

-- the buckets of the leaves, and of the inner nodes, of a tree
abbrev pub leaves_at : NodeSets → ℕ → ℕ → List ℕ
leaves_at c zero q = q ∷ []
leaves_at c (suc l) q = each (leaves_at c l) (children_of (c q))

abbrev pub inner_nodes_at : NodeSets → ℕ → ℕ → List ℕ
inner_nodes_at c zero q = []
inner_nodes_at c (suc l) q = q ∷ each (inner_nodes_at c l) (children_of (c q))

abbrev pub free_if : Bool → Role
free_if true = Free
free_if false = NoNode

-- what a slot is after the opening, by whether its bucket is one of the tree's
abbrev pub found : Role → Bool → Role
found NoNode t = NoNode
found Draft t = NoNode
found Free t = free_if t
found Leaving t = free_if t
found Coming t = free_if t

abbrev pub found_leaf : Bool → List Pending → Leaf → Leaf
found_leaf t pending x =
    record {
      first = x.first;
      end = x.end;
      bucket = x.bucket;
      word = x.word;
      role = found x.role t;
      loaded = true;
      pending = pending;
    }

abbrev pub found_inner : Bool → InnerNode → InnerNode
found_inner t x =
    record {
      first = x.first;
      end = x.end;
      bucket = x.bucket;
      word = x.word;
      height = x.height;
      role = found x.role t;
      loaded = true;
    }

abbrev pub reopened : State → NodeSets → Entry → List Entry → (ℕ → List Entry) → ℕ
    → (ℕ → List Pending) → State
reopened st c newest older ring bucket pending =
    record {
      records = opened_records (owners st.records.nodes) c newest older ring bucket st.records.unused;
      leaves = λ k. found_leaf (has (leaves_at c newest.level newest.root) (st.leaves k).bucket) (pending k) (st.leaves k);
      inner_nodes = λ x. found_inner (has (inner_nodes_at c newest.level newest.root) (st.inner_nodes x).bucket) (st.inner_nodes x);
      end = st.end;
      change = NoChange;
      sent = λ q. [];
    }

abbrev pub AllReplay : State → Entry → List Entry → (ℕ → List Pending) → Type 0
AllReplay st newest older pending = (k : ℕ)
    → Replays (st.leaves k).first (st.leaves k).end newest older (pending k)

-- read with this entry as the newest, the parts that an opening makes fit
abbrev pub Reopens : State → NodeSets → Entry → List Entry → Type 0
Reopens st c newest older = (ring : ℕ → List Entry) (bucket : ℕ) (pending : ℕ → List Pending)
    → AllReplay st newest older pending
    → Fits (reopened st c newest older ring bucket pending)

-- whatever the nodes read as, and with either entry that a crash may find
abbrev pub LawReopen : Type 0
LawReopen =
    (owners : ℕ → Owner) (all : List Entry) (c : NodeSets) (newest : Entry) (older : List Entry) (ring : ℕ
    → List Entry) (bucket : ℕ) (unused : ℕ → Bool)
    → IsReadable all c newest older → HasRoom all newest older ring
    → Keeps unused c newest.level newest.root
    → IsNamed owners c newest.level newest.root newest.word
    → (st : State) → st.records ≡ opened_records owners c newest older ring bucket unused → Fits st
    → (es : List Event) → IsRun st es → let end = fold st es in
    (left : NodeSets) → MayRead end.records.nodes left
    → Reopens end left end.records.newest end.records.older
    × (IsReady end.records.stage
    → Reopens end left end.records.entry (live end.records.entry.last_seq (end.records.newest ∷ end.records.older)))

-- An opening, and the parts that fit it; a leaf of its tree has these pending keys.
pub record OpensAs (w : Layout) (image : Image) (st : State) : Type 0 where
  pub next : Opening
  pub image_is : next.image ≡ image
  pub sound : IsSound w next
  pub parts : (pending : ℕ → List Pending) → AllReplay st next.newest next.older pending
      → (parts : State) × (parts.records ≡ (opened w next).places.records) × Fits parts
      × ((k : ℕ) → (parts.leaves k).pending ≡ pending k)

-- So runs of the whole machine with the parts compose.
abbrev pub LawNextParts : Type 0
LawNextParts =
    (w : Layout) (o : Opening) (st : State) (steps : List Step) → IsSound w o → st.records
    ≡ (opened w o).places.records
    → Fits st → IsJoint w (opened w o) st steps
    → NoChance w o.image (reached w o (acts_of steps)).places
    → (image : Image) → MayLeave (reached w o (acts_of steps)).places.device image
    → OpensAs w image (parts_of st steps)
