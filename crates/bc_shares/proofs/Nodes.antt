-- What an event of the parts leaves alone of leaves, inner nodes and what was written of them.
use Rattle.std.proofs.Common.{◌≡◌, ◌≢◌, ℕ, Bool, true, false, List, ◌∷◌, refl, sym, ap, ◌∙◌, if◌then◌else◌}
use Rattle.bc_meta.specs.Tree.{NodeSet, Owner}
use Rattle.bc_meta.specs.Records.{Node, put, stable_node, sent_node, failed_node, new_node, loose_node}
use Rattle.bc_leaves.specs.Parts.{Role, NoNode, Draft, Free, Leaving, Coming, Leaf, InnerNode, State, Stays}
use Rattle.bc_leaves.specs.Events.{Event, Barrier, Reuse, Fill, FailFill, WriteSet, FailSet, NewLeaf, NewInner, ForgetDrafts, BeginChange, SetParent, FailParent, SealRoot, Install}
use Rattle.bc_leaves.specs.After.{after}
use Rattle.bc_leaves.specs.Enabled.{IsEnabled}
use Rattle.bc_leaves.specs.Fits.{HaveBuckets}
use Rattle.bc_leaves.specs.Frame.{TouchesLeaf}
use Rattle.bc_leaves.proofs.Frame.{law_frame}
use Rattle.bc_leaves.proofs.Chains.{put_else}
use Rattle.bc_shares.specs.Shares.{NodeShare, written_sets, lost_set, node_share, LeafShare, leaf_share, InnerShare, inner_share, shape_of}

-- ---- one node

stable_by : (owner : Owner) (last : NodeSet) (sets : List NodeSet) (sent failed : Bool)
    → let x : NodeShare = record {
      owner = owner;
      sets = written_sets false last (if sent then last ∷ sets else sets);
      lost = lost_set false (if sent then false else failed) last;
    } in
    let y : NodeShare = record {
      owner = owner;
      sets = written_sets sent last sets;
      lost = lost_set sent failed last;
    } in
    x ≡ y
stable_by owner last sets true failed = refl
stable_by owner last sets false failed = refl

stable_share : (n : Node) → node_share (stable_node n) ≡ node_share n
stable_share n = stable_by n.owner n.last n.sets n.sent n.failed

-- the node in a bucket that an event writes, or makes that of nobody
abbrev pub AtNode : State → Event → ℕ → Type 0
AtNode st (WriteSet i set values) q = q ≡ (st.leaves i).bucket
AtNode st (FailSet i set values) q = q ≡ (st.leaves i).bucket
AtNode st (SetParent x set values) q = q ≡ (st.inner_nodes x).bucket
AtNode st (FailParent x set values) q = q ≡ (st.inner_nodes x).bucket
AtNode st (NewLeaf j leaf set values) q = q ≡ leaf.bucket
AtNode st (NewInner j inner set values) q = q ≡ inner.bucket
AtNode st (Reuse b) q = q ≡ b
AtNode st (Fill b at values) q = q ≡ b
AtNode st (FailFill b at values set) q = q ≡ b
AtNode st e q = ⊥

put_share : (nodes : ℕ → Node) (b : ℕ) (x : Node) (q : ℕ) → (q ≡ b → ⊥)
    → node_share (put nodes b x q) ≡ node_share (nodes q)
put_share nodes b x q ne = ap node_share (put_else nodes b x q ne)

node_frame : (st : State) (e : Event) (q : ℕ) → (AtNode st e q → ⊥)
    → node_share ((after st e).records.nodes q) ≡ node_share (st.records.nodes q)
node_frame st (WriteSet i set values) q off = let b = (st.leaves i).bucket in
    put_share st.records.nodes b (sent_node set (st.records.nodes b)) q off
node_frame st (FailSet i set values) q off = let b = (st.leaves i).bucket in
    put_share st.records.nodes b (failed_node set (st.records.nodes b)) q off
node_frame st (SetParent x set values) q off = let b = (st.inner_nodes x).bucket in
    put_share st.records.nodes b (sent_node set (st.records.nodes b)) q off
node_frame st (FailParent x set values) q off = let b = (st.inner_nodes x).bucket in
    put_share st.records.nodes b (failed_node set (st.records.nodes b)) q off
node_frame st (NewLeaf j leaf set values) q off = put_share st.records.nodes leaf.bucket
    (new_node (record { word = leaf.word; leaf = true }) set) q off
node_frame st (NewInner j inner set values) q off = put_share st.records.nodes inner.bucket
    (new_node (record { word = inner.word; leaf = false }) set) q off
node_frame st (Reuse b) q off = put_share st.records.nodes b loose_node q off
node_frame st (Fill b at values) q off = put_share st.records.nodes b loose_node q off
node_frame st (FailFill b at values set) q off = put_share st.records.nodes b loose_node q off
node_frame st Barrier q off = stable_share (st.records.nodes q)
node_frame st e q off = refl

-- ---- a leaf

-- a leaf's set whose write failed may stand
abbrev pub TouchesSets : State → Event → ℕ → Type 0
TouchesSets st (FailSet i set values) k = k ≡ i
TouchesSets st e k = TouchesLeaf st e k

free_some : (r : Role) → r ≡ Free → r ≢ NoNode
free_some r is none = cc

stays_some : (r : Role) → Stays r → r ≢ NoNode
stays_some NoNode s none = s
stays_some Draft s none = s
stays_some Free s none = cc
stays_some Leaving s none = s
stays_some Coming s none = cc

pub touches_more : (st : State) (e : Event) (k : ℕ) → TouchesLeaf st e k → TouchesSets st e k
touches_more st (FailSet i set values) k t = absurd t
touches_more st e k t = t

abbrev share_with : State → Leaf → LeafShare
share_with s x = record { leaf = x; node = node_share (s.records.nodes x.bucket) }

abbrev with_node : Leaf → NodeShare → LeafShare
with_node x n = record { leaf = x; node = n }

abbrev inner_with : State → InnerNode → InnerShare
inner_with s x = record { inner = x; node = node_share (s.records.nodes x.bucket) }

abbrev with_inner : InnerNode → NodeShare → InnerShare
with_inner x n = record { inner = x; node = n }

-- events that leave inner nodes, the change and the shapes of leaves alone

abbrev pub IsOffSpine : Event → Type 0
IsOffSpine (NewLeaf j leaf set values) = ⊥
IsOffSpine (NewInner j inner set values) = ⊥
IsOffSpine ForgetDrafts = ⊥
IsOffSpine (BeginChange low high gone come old new unused) = ⊥
IsOffSpine (SetParent x set values) = ⊥
IsOffSpine (FailParent x set values) = ⊥
IsOffSpine (SealRoot last_seq prio rest r) = ⊥
IsOffSpine (Install unused) = ⊥
IsOffSpine e = Unit {0}

pub inner_same : (st : State) (e : Event) → IsOffSpine e → (after st e).inner_nodes ≡ st.inner_nodes
inner_same st (NewLeaf j leaf set values) off = absurd off
inner_same st (NewInner j inner set values) off = absurd off
inner_same st ForgetDrafts off = absurd off
inner_same st (BeginChange low high gone come old new unused) off = absurd off
inner_same st (SetParent x set values) off = absurd off
inner_same st (FailParent x set values) off = absurd off
inner_same st (SealRoot last_seq prio rest r) off = absurd off
inner_same st (Install unused) off = absurd off
inner_same st e off = refl

module _ (st : State) (apart : HaveBuckets st.records.nodes st.leaves st.inner_nodes) where
  leaf_off : (e : Event) (k : ℕ) → IsEnabled st e → (st.leaves k).role ≢ NoNode
      → (TouchesSets st e k → ⊥) → AtNode st e (st.leaves k).bucket → ⊥
  leaf_off (WriteSet i set values) k on some off at =
      off (apart.one_leaf k i some (free_some (st.leaves i).role on.0) at)
  leaf_off (FailSet i set values) k on some off at =
      off (apart.one_leaf k i some (free_some (st.leaves i).role on.0) at)
  leaf_off (SetParent x set values) k on some off at =
      apart.one_kind k x some (stays_some (st.inner_nodes x).role on.1) at
  leaf_off (FailParent x set values) k on some off at =
      apart.one_kind k x some (stays_some (st.inner_nodes x).role on.1) at
  leaf_off (NewLeaf j leaf set values) k on some off at = on.1.1 k some at
  leaf_off (NewInner j inner set values) k on some off at = on.1.1 k some at
  leaf_off (Reuse b) k on some off at = on.1 k some at
  leaf_off (Fill b place values) k on some off at = on.1 k some at
  leaf_off (FailFill b place values set) k on some off at = on.1 k some at
  leaf_off e k on some off at = at

  pub leaf_frame : (e : Event) (k : ℕ) → IsEnabled st e → (st.leaves k).role ≢ NoNode
      → (TouchesSets st e k → ⊥) → leaf_share (after st e) k ≡ leaf_share st k
  leaf_frame e k on some off =
      let same = law_frame st e k (λ t. off (touches_more st e k t)) in
      ap (λ (x : Leaf). share_with (after st e) x) same
      ∙ ap (λ (n : NodeShare). with_node (st.leaves k) n)
      (node_frame st e (st.leaves k).bucket (leaf_off e k on some off))

  inner_off : (e : Event) (x : ℕ) → IsEnabled st e → (st.inner_nodes x).role ≢ NoNode
      → IsOffSpine e → AtNode st e (st.inner_nodes x).bucket → ⊥
  inner_off (WriteSet i set values) x on some off at =
      apart.one_kind i x (free_some (st.leaves i).role on.0) some (sym at)
  inner_off (FailSet i set values) x on some off at =
      apart.one_kind i x (free_some (st.leaves i).role on.0) some (sym at)
  inner_off (Reuse b) x on some off at = on.2 x some at
  inner_off (Fill b place values) x on some off at = on.2 x some at
  inner_off (FailFill b place values set) x on some off at = on.2 x some at
  inner_off (NewLeaf j leaf set values) x on some off at = off
  inner_off (NewInner j inner set values) x on some off at = off
  inner_off ForgetDrafts x on some off at = off
  inner_off (BeginChange low high gone come old new unused) x on some off at = off
  inner_off (SetParent y set values) x on some off at = off
  inner_off (FailParent y set values) x on some off at = off
  inner_off (SealRoot last_seq prio rest r) x on some off at = off
  inner_off (Install unused) x on some off at = off
  inner_off e x on some off at = at

  pub inner_frame : (e : Event) (x : ℕ) → IsEnabled st e → (st.inner_nodes x).role ≢ NoNode
      → IsOffSpine e → inner_share (after st e) x ≡ inner_share st x
  inner_frame e x on some off =
      ap (λ (f : ℕ → InnerNode). inner_with (after st e) (f x)) (inner_same st e off)
      ∙ ap (λ (n : NodeShare). with_inner (st.inner_nodes x) n)
      (node_frame st e (st.inner_nodes x).bucket (inner_off e x on some off))

-- and the shapes of leaves
pub shape_frame : (st : State) (e : Event) (k : ℕ) → IsOffSpine e
    → shape_of ((after st e).leaves k) ≡ shape_of (st.leaves k)
shape_frame st (NewLeaf j leaf set values) k off = absurd off
shape_frame st (NewInner j inner set values) k off = absurd off
shape_frame st ForgetDrafts k off = absurd off
shape_frame st (BeginChange low high gone come old new unused) k off = absurd off
shape_frame st (SetParent x set values) k off = absurd off
shape_frame st (FailParent x set values) k off = absurd off
shape_frame st (SealRoot last_seq prio rest r) k off = absurd off
shape_frame st (Install unused) k off = absurd off
shape_frame st e k off = refl
