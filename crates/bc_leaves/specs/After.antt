-- What an event leaves, part by part, and runs.
use Rattle.std.specs.Prelude.{ℕ, suc, Bool, true, false, List, [], ◌∷◌, ◌++◌, if◌then◌else◌, ◌==◌}
use Rattle.bc_meta.specs.Records.{Records, records_after, put}
use Rattle.bc_meta.specs.Events as event
use Rattle.bc_leaves.specs.Parts.{Pending, Role, NoNode, Draft, Free, Leaving, Coming, Leaf, InnerNode, Change, NoChange, Begun, BySet, Lost, ByRoot, State, next_number}
use Rattle.bc_leaves.specs.Events.{Event, Insert, Barrier, WriteSet, NewLeaf, NewInner, ForgetDrafts, BeginChange, SetParent, FailParent, SealRoot, Install, events_of}

abbrev pub has : List ℕ → ℕ → Bool
has [] k = false
has (i ∷ is) k = if k == i then true else has is k

-- the role of a slot after a change begins, after the drafts are given up, and after an install
abbrev pub changed : List ℕ → List ℕ → ℕ → Role → Role
changed gone come k role = if has gone k then Leaving else (if has come k then Coming else role)

abbrev pub forgotten : Role → Role
forgotten NoNode = NoNode
forgotten Draft = NoNode
forgotten Free = Free
forgotten Leaving = Leaving
forgotten Coming = Coming

abbrev pub installed : Role → Role
installed NoNode = NoNode
installed Draft = Draft
installed Free = Free
installed Leaving = NoNode
installed Coming = Free

abbrev pub with_role : Role → Leaf → Leaf
with_role role x =
    record {
      first = x.first;
      end = x.end;
      bucket = x.bucket;
      word = x.word;
      role = role;
      loaded = x.loaded;
      pending = x.pending;
    }

abbrev pub with_pending : List Pending → Leaf → Leaf
with_pending pending x =
    record {
      first = x.first;
      end = x.end;
      bucket = x.bucket;
      word = x.word;
      role = x.role;
      loaded = x.loaded;
      pending = pending;
    }

abbrev pub inner_with_role : Role → InnerNode → InnerNode
inner_with_role role x =
    record {
      first = x.first;
      end = x.end;
      bucket = x.bucket;
      word = x.word;
      height = x.height;
      role = role;
      loaded = x.loaded;
    }

abbrev pub leaves_changed : State → List ℕ → List ℕ → ℕ → Leaf
leaves_changed st gone come k = with_role (changed gone come k (st.leaves k).role) (st.leaves k)

abbrev pub inner_nodes_changed : State → List ℕ → List ℕ → ℕ → InnerNode
inner_nodes_changed st old new k = inner_with_role (changed old new k (st.inner_nodes k).role) (st.inner_nodes k)

abbrev pub records_fold : Records → List event.Event → Records
records_fold r [] = r
records_fold r (e ∷ es) = records_fold (records_after r e) es

abbrev pub leaves_after : State → Event → ℕ → Leaf
leaves_after st (Insert i key) = λ k.
    with_pending (if k == i then record { number = next_number st.records; key = key } ∷ (st.leaves k).pending else (st.leaves k).pending) (st.leaves k)
leaves_after st (WriteSet i set values) = λ k. with_pending (if k == i then [] else (st.leaves k).pending) (st.leaves k)
leaves_after st (NewLeaf j leaf set values) = put st.leaves j leaf
leaves_after st ForgetDrafts = λ k. with_role (forgotten (st.leaves k).role) (st.leaves k)
leaves_after st (BeginChange low high gone come old new unused) = leaves_changed st gone come
leaves_after st (Install unused) = λ k. with_role (installed (st.leaves k).role) (st.leaves k)
leaves_after st e = st.leaves

abbrev pub inner_nodes_after : State → Event → ℕ → InnerNode
inner_nodes_after st (NewInner j inner set values) = put st.inner_nodes j inner
inner_nodes_after st ForgetDrafts = λ k. inner_with_role (forgotten (st.inner_nodes k).role) (st.inner_nodes k)
inner_nodes_after st (BeginChange low high gone come old new unused) = inner_nodes_changed st old new
inner_nodes_after st (Install unused) = λ k. inner_with_role (installed (st.inner_nodes k).role) (st.inner_nodes k)
inner_nodes_after st e = st.inner_nodes

abbrev pub change_after : State → Event → Change
change_after st (BeginChange low high gone come old new unused) = Begun
change_after st (SetParent q set values) = BySet q
change_after st (FailParent q set values) = Lost
change_after st (SealRoot last_seq prio rest r) = ByRoot (suc st.records.newest.number)
change_after st (Install unused) = NoChange
change_after st e = st.change

abbrev pub sent_after : State → Event → ℕ → List Pending
sent_after st Barrier = λ q. []
sent_after st (WriteSet i set values) = put st.sent (st.leaves i).bucket (st.leaves i).pending
sent_after st (NewLeaf j leaf set values) = put st.sent leaf.bucket []
sent_after st e = st.sent

abbrev pub after : State → Event → State
after st e =
    record {
      records = records_fold st.records (events_of st e);
      leaves = leaves_after st e;
      inner_nodes = inner_nodes_after st e;
      end = st.end;
      change = change_after st e;
      sent = sent_after st e;
    }

abbrev pub fold : State → List Event → State
fold st [] = st
fold st (e ∷ es) = fold (after st e) es

-- the whole run as the records see it
abbrev pub all_events : State → List Event → List event.Event
all_events st [] = []
all_events st (e ∷ es) = events_of st e ++ all_events (after st e) es
