-- New nodes that nothing names yet stay as they were written.
use Rattle.std.proofs.Common.{◌≡◌, ◌≢◌, ◌⊎◌, inl, inr, ℕ, Bool, true, false, List, [], ◌∷◌, None, refl, sym, ap, ◌∙◌, subst, if◌then◌else◌, ◌==◌}
use Rattle.bc_model.specs.Sector.{Value}
use Rattle.bc_key.specs.declared.key.Key.{Key}
use Rattle.bc_books.specs.Invariant.{IsInOrder}
use Rattle.bc_meta.specs.Acts as meta
use Rattle.bc_meta.specs.Events as event
use Rattle.bc_meta.specs.Layout.{Layout}
use Rattle.bc_meta.specs.Records.{Node, failed_node, loose_node, put, sent_node, stable_node}
use Rattle.bc_meta.specs.Tree.{NodeSet}
use Rattle.bc_meta.proofs.Lists.{by_test}
use Rattle.bc_leaves.specs.Parts.{Role, NoNode, Draft, Free, Leaf, InnerNode, node_of, inner_node_of}
use Rattle.bc_leaves.specs.Parts as parts
use Rattle.bc_leaves.specs.Events.{Event, Insert, Barrier, Reuse, Fill, FailFill, WriteSet, FailSet, NewLeaf, NewInner, ForgetDrafts, BeginChange, SetParent, FailParent, SealRoot, Install}
use Rattle.bc_leaves.specs.Events as parts_event
use Rattle.bc_leaves.specs.After as parts_step
use Rattle.bc_leaves.specs.Enabled.{IsStable}
use Rattle.bc_leaves.specs.Enabled as parts_act
use Rattle.bc_leaves.specs.Fits.{HaveBuckets}
use Rattle.bc_leaves.specs.Laws.{parts_of}
use Rattle.bc_leaves.proofs.Chains.{put_else}
use Rattle.bc_whole.specs.State.{Opening, Write, OfData, OfEntry, OfSet, OfParent, OfLeaf, OfInner, OfPriorities, Outside, SameRoot, NewRoot}
use Rattle.bc_whole.specs.Together.{inserted, step, parts_write, parts_fault, prio_of}
use Rattle.bc_whole.proofs.Kept.{Inv}
use Rattle.bc_known.specs.Acts.{State, Act, Keyed, WriteCache, FailCache, CacheBarrier, Seal, Take, after}
use Rattle.bc_known.specs.Acts as known
use Rattle.bc_known.specs.Laws.{IsSound}
use Rattle.bc_known.specs.Run.{IsEnabled}
use Rattle.bc_known.proofs.Keyed.{parts_join}
use Rattle.bc_known.proofs.Law.{At, inv_at, order_at}
use Rattle.bc_known.proofs.Others.{take_enabled}
use Rattle.bc_known.proofs.Writes.{write_enabled, fault_enabled}
use Rattle.bc_shares.specs.Shares.{LeafShare, leaf_share, InnerShare, inner_share, lost_set, node_share, written_sets}
use Rattle.bc_shares.proofs.Nodes.{AtNode, IsOffSpine, TouchesSets, inner_frame, leaf_frame}
use Rattle.bc_shares.proofs.Parts.{IsKeptAt, keyed_parts, slot_kept, spine_act, spine_write}
use Rattle.bc_nodes_known.specs.Nodes.{AreSettled, IsWritten, StayDrafts, StaysStable}

-- ---- one node

same_still : (a b : Node) → b ≡ a → StaysStable a b
same_still a b same = record {
  written = subst IsWritten (sym same);
  stable = subst IsStable (sym same);
  sets = λ stable. ap (λ (n : Node). n.sets) same;
}

-- a barrier changes nothing of a node to which nothing was sent
unsent : (loose failed sent : Bool) (last : NodeSet) (sets : List NodeSet) → sent ≡ false
    → ((if sent then false else loose) ≡ loose) × ((if sent then last ∷ sets else sets) ≡ sets)
    × ((if sent then false else failed) ≡ failed)
unsent loose failed true last sets off = absurd (cc)
unsent loose failed false last sets off = (refl, refl, refl)

-- of one to which a set was sent it makes that set stand
settled : (n : Node) → IsWritten n → IsStable (stable_node n)
settled n h = go n.sent n.loose n.failed n.last n.sets h.some h.whole h.sent
  where
    go : (sent loose failed : Bool) (last : NodeSet) (sets : List NodeSet)
        → written_sets sent last sets ≢ [] → lost_set sent failed last ≡ None
        → (sent ≡ true) ⊎ (loose ≡ false)
        → ((if sent then false else loose) ≡ false) × (false ≡ false)
        × ((if sent then last ∷ sets else sets) ≢ [])
        × ((if sent then false else failed) ≡ false)
    go true loose failed last sets some whole off = (refl, refl, some, refl)
    go false loose failed last sets some whole (inl on) = absurd (cc)
    go false loose true last sets some whole (inr firm) = absurd (cc)
    go false loose false last sets some whole (inr firm) = (firm, refl, some, refl)

stable_written : (n : Node) → IsStable n → IsWritten n
stable_written n h = go n.sent n.loose n.failed n.last n.sets h.0 h.1 h.2 h.3
  where
    node : Bool → Bool → Bool → NodeSet → List NodeSet → Node
    node sent loose failed last sets = record {
      loose = loose;
      owner = n.owner;
      sets = sets;
      last = last;
      sent = sent;
      failed = failed;
    }

    go : (sent loose failed : Bool) (last : NodeSet) (sets : List NodeSet) → loose ≡ false
        → sent ≡ false → sets ≢ [] → failed ≡ false
        → IsWritten (node sent loose failed last sets)
    go true loose failed last sets firm off some whole = absurd (cc)
    go false loose true last sets firm off some whole = absurd (cc)
    go false loose false last sets firm off some whole =
        record { some = some; whole = refl; sent = inr firm }

barrier_still : (n : Node) → StaysStable n (stable_node n)
barrier_still n = record {
  written = λ h. stable_written (stable_node n) (settled n h);
  stable = λ s. settled n (stable_written n s);
  sets = λ s. (unsent n.loose n.failed n.sent n.last n.sets s.1).1;
}

put_still : (nodes : ℕ → Node) (b : ℕ) (x : Node) (q : ℕ) → (q ≡ b → ⊥)
    → StaysStable (nodes q) (put nodes b x q)
put_still nodes b x q ne = same_still (nodes q) (put nodes b x q) (put_else nodes b x q ne)

node_still : (st : parts.State) (e : Event) (q : ℕ) → IsOffSpine e → (AtNode st e q → ⊥)
    → StaysStable (st.records.nodes q) ((parts_step.after st e).records.nodes q)
node_still st (WriteSet i set values) q off at = let b = (st.leaves i).bucket in
    put_still st.records.nodes b (sent_node set (st.records.nodes b)) q at
node_still st (FailSet i set values) q off at = let b = (st.leaves i).bucket in
    put_still st.records.nodes b (failed_node set (st.records.nodes b)) q at
node_still st (Reuse b) q off at = put_still st.records.nodes b loose_node q at
node_still st (Fill b place values) q off at = put_still st.records.nodes b loose_node q at
node_still st (FailFill b place values set) q off at = put_still st.records.nodes b loose_node q at
node_still st Barrier q off at = barrier_still (st.records.nodes q)
node_still st (NewLeaf j leaf set values) q off at = absurd off
node_still st (NewInner j inner set values) q off at = absurd off
node_still st ForgetDrafts q off at = absurd off
node_still st (BeginChange low high gone come old new unused) q off at = absurd off
node_still st (SetParent x set values) q off at = absurd off
node_still st (FailParent x set values) q off at = absurd off
node_still st (SealRoot last_seq prio rest r) q off at = absurd off
node_still st (Install unused) q off at = absurd off
node_still st e q off at = same_still (st.records.nodes q) (st.records.nodes q) refl

pub settled_all : (st : parts.State) → AreSettled st (parts_step.after st Barrier)
settled_all st = record {
  leaves = λ k. settled (node_of st k);
  inner_nodes = λ x. settled (inner_node_of st x);
}

-- ---- an event of the parts

draft_some : (r : Role) → r ≡ Draft → r ≢ NoNode
draft_some r is none = cc

free_some : (r : Role) → r ≡ Free → r ≢ NoNode
free_some r is none = cc

-- a slot with a draft is none whose leaf is free
not_free : (st : parts.State) (k i : ℕ) → (st.leaves k).role ≡ Draft → (st.leaves i).role ≡ Free
    → k ≡ i → ⊥
not_free st k i draft free same =
    let is = ap (λ n. (st.leaves n).role) same in cc

module _ (st : parts.State) (apart : HaveBuckets st.records.nodes st.leaves st.inner_nodes) where
  untouched : (e : Event) (k : ℕ) → parts_act.IsEnabled st e → IsOffSpine e
      → (st.leaves k).role ≡ Draft → TouchesSets st e k → ⊥
  untouched (Insert i key) k on off draft t = not_free st k i draft on.0 t
  untouched (WriteSet i set values) k on off draft t = not_free st k i draft on.0 t
  untouched (FailSet i set values) k on off draft t = not_free st k i draft on.0 t
  untouched (NewLeaf j leaf set values) k on off draft t = off
  untouched ForgetDrafts k on off draft t = off
  untouched (BeginChange low high gone come old new unused) k on off draft t = off
  untouched (Install unused) k on off draft t = off
  untouched e k on off draft t = t

  leaf_apart : (e : Event) (k : ℕ) → parts_act.IsEnabled st e → IsOffSpine e
      → (st.leaves k).role ≡ Draft → AtNode st e (st.leaves k).bucket → ⊥
  leaf_apart (WriteSet i set values) k on off draft at = not_free st k i draft on.0
      (apart.one_leaf k i (draft_some _ draft) (free_some _ on.0) at)
  leaf_apart (FailSet i set values) k on off draft at = not_free st k i draft on.0
      (apart.one_leaf k i (draft_some _ draft) (free_some _ on.0) at)
  leaf_apart (Reuse b) k on off draft at = on.1 k (draft_some _ draft) at
  leaf_apart (Fill b place values) k on off draft at = on.1 k (draft_some _ draft) at
  leaf_apart (FailFill b place values set) k on off draft at = on.1 k (draft_some _ draft) at
  leaf_apart (NewLeaf j leaf set values) k on off draft at = off
  leaf_apart (NewInner j inner set values) k on off draft at = off
  leaf_apart (SetParent x set values) k on off draft at = off
  leaf_apart (FailParent x set values) k on off draft at = off
  leaf_apart e k on off draft at = at

  inner_apart : (e : Event) (x : ℕ) → parts_act.IsEnabled st e → IsOffSpine e
      → (st.inner_nodes x).role ≡ Draft → AtNode st e (st.inner_nodes x).bucket → ⊥
  inner_apart (WriteSet i set values) x on off draft at =
      apart.one_kind i x (free_some _ on.0) (draft_some _ draft) (sym at)
  inner_apart (FailSet i set values) x on off draft at =
      apart.one_kind i x (free_some _ on.0) (draft_some _ draft) (sym at)
  inner_apart (Reuse b) x on off draft at = on.2 x (draft_some _ draft) at
  inner_apart (Fill b place values) x on off draft at = on.2 x (draft_some _ draft) at
  inner_apart (FailFill b place values set) x on off draft at = on.2 x (draft_some _ draft) at
  inner_apart (NewLeaf j leaf set values) x on off draft at = off
  inner_apart (NewInner j inner set values) x on off draft at = off
  inner_apart (SetParent y set values) x on off draft at = off
  inner_apart (FailParent y set values) x on off draft at = off
  inner_apart e x on off draft at = at

  draft_event : (e : Event) → parts_act.IsEnabled st e → IsOffSpine e
      → StayDrafts st (parts_step.after st e)
  draft_event e on off = record {
    leaves = λ k draft.
        let share = leaf_frame st apart e k on (draft_some _ draft) (untouched e k on off draft) in (
          share,
          subst (λ (s : LeafShare). StaysStable (node_of st k)
              ((parts_step.after st e).records.nodes s.leaf.bucket)) (sym share)
              (node_still st e (st.leaves k).bucket off (leaf_apart e k on off draft)),
        );
    inner_nodes = λ x draft. let share = inner_frame st apart e x on (draft_some _ draft) off in (
      share,
      subst (λ (s : InnerShare). StaysStable (inner_node_of st x)
          ((parts_step.after st e).records.nodes s.inner.bucket)) (sym share)
          (node_still st e (st.inner_nodes x).bucket off (inner_apart e x on off draft)),
    );
  }

-- ---- acts

abbrev leaf_by : Leaf → (ℕ → Node) → LeafShare
leaf_by x nodes = record { leaf = x; node = node_share (nodes x.bucket) }

abbrev inner_by : InnerNode → (ℕ → Node) → InnerShare
inner_by x nodes = record { inner = x; node = node_share (nodes x.bucket) }

leaf_unchanged : (a b : parts.State) (k : ℕ) → b.leaves k ≡ a.leaves k
    → b.records.nodes ≡ a.records.nodes → (leaf_share b k ≡ leaf_share a k)
    × StaysStable (node_of a k) (node_of b k)
leaf_unchanged a b k leaf nodes = (
  ap (λ (f : ℕ → Node). leaf_by (b.leaves k) f) nodes
      ∙ ap (λ (l : Leaf). leaf_by l a.records.nodes) leaf,
  same_still (node_of a k) (node_of b k) (ap (λ (f : ℕ → Node). f (b.leaves k).bucket) nodes
      ∙ ap (λ (l : Leaf). a.records.nodes l.bucket) leaf),
)

inner_unchanged : (a b : parts.State) (x : ℕ) → b.inner_nodes x ≡ a.inner_nodes x
    → b.records.nodes ≡ a.records.nodes → (inner_share b x ≡ inner_share a x)
    × StaysStable (inner_node_of a x) (inner_node_of b x)
inner_unchanged a b x inner nodes = (
  ap (λ (f : ℕ → Node). inner_by (b.inner_nodes x) f) nodes
      ∙ ap (λ (l : InnerNode). inner_by l a.records.nodes) inner,
  same_still (inner_node_of a x) (inner_node_of b x)
      (ap (λ (f : ℕ → Node). f (b.inner_nodes x).bucket) nodes
      ∙ ap (λ (l : InnerNode). a.records.nodes l.bucket) inner),
)

still_drafts : (a b : parts.State) → b.leaves ≡ a.leaves → b.inner_nodes ≡ a.inner_nodes
    → b.records.nodes ≡ a.records.nodes → StayDrafts a b
still_drafts a b leaves inner_nodes nodes = record {
  leaves = λ k draft. leaf_unchanged a b k (ap (λ (f : ℕ → Leaf). f k) leaves) nodes;
  inner_nodes = λ x draft. inner_unchanged a b x (ap (λ (f : ℕ → InnerNode). f x) inner_nodes) nodes;
}

keyed_nodes : (p : parts.State) (slot : ℕ) (keys : List Key)
    → (parts_of p (inserted slot keys)).records.nodes ≡ p.records.nodes
keyed_nodes p slot [] = refl
keyed_nodes p slot (key ∷ keys) = ap (λ (s : parts.State). s.records.nodes)
    (parts_join p (inserted slot keys)
    (step (meta.Plain (event.AddKey key)) (parts_event.Insert slot key)))
    ∙ keyed_nodes p slot keys

-- a slot that is free is none with a draft
other_slot : (p : parts.State) (k slot : ℕ) → (p.leaves k).role ≡ Draft
    → (p.leaves slot).role ≡ Free → (k == slot) ≡ false
other_slot p k slot draft free = by_test k slot (λ b. b ≡ false)
    (λ same. absurd (not_free p k slot draft free same)) (λ _. refl)

spine_written : (w : Layout) (y : Write) (values : List Value) → spine_write y ≡ false
    → IsOffSpine (parts_write w y values)
spine_written w (OfParent i set) values off = absurd (cc)
spine_written w (OfLeaf i leaf set) values off = absurd (cc)
spine_written w (OfInner i inner set) values off = absurd (cc)
spine_written w (OfData q place) values off = tt
spine_written w OfEntry values off = tt
spine_written w (OfSet i set) values off = tt
spine_written w (OfPriorities q part set) values off = tt
spine_written w (Outside place) values off = tt

spine_failed : (w : Layout) (y : Write) (values : List Value) → spine_write y ≡ false
    → IsOffSpine (parts_fault w y values)
spine_failed w (OfParent i set) values off = absurd (cc)
spine_failed w (OfLeaf i leaf set) values off = absurd (cc)
spine_failed w (OfInner i inner set) values off = absurd (cc)
spine_failed w (OfData q place) values off = tt
spine_failed w OfEntry values off = tt
spine_failed w (OfSet i set) values off = tt
spine_failed w (OfPriorities q part set) values off = tt
spine_failed w (Outside place) values off = tt

module _ (w : Opening) (x : parts.State) (sound : IsSound w x) (st : State) (i : ℕ)
    (at : At w x st) where
  inv : Inv w st.whole
  inv = inv_at w x st.whole sound at.at

  order : IsInOrder w.flow.books st.whole.flow.books
  order = order_at w x st.whole sound at.at

  drafts_one : (act : Act) → spine_act act ≡ false → IsEnabled w st i act
      → StayDrafts st.whole.parts (after w st i act).whole.parts
  drafts_one (Keyed act slot keys) off on =
      let p = st.whole.parts in
      let q = parts_of p (inserted slot keys) in
      let same = keyed_parts p slot keys in record {
        leaves = λ k draft. leaf_unchanged p q k
            ((slot_kept k).one w st i (Keyed act slot keys) (other_slot p k slot draft on.asks.1) on)
            (keyed_nodes p slot keys);
        inner_nodes = λ y draft. inner_unchanged p q y
            (ap (λ (f : ℕ → InnerNode). f y) same.slots) (keyed_nodes p slot keys);
      }
  drafts_one (WriteCache y values) off on = draft_event st.whole.parts inv.fits.buckets
      (parts_write w.layout y values)
      (write_enabled w st i inv at.known sound.laid order y values on).store.1.0
      (spine_written w.layout y values off)
  drafts_one (FailCache y values) off on = draft_event st.whole.parts inv.fits.buckets
      (parts_fault w.layout y values)
      (fault_enabled w st i inv at.known sound.laid order y values on).store.1.0
      (spine_failed w.layout y values off)
  drafts_one CacheBarrier off on = draft_event st.whole.parts inv.fits.buckets parts_event.Barrier
      tt tt
  drafts_one (Seal last_seq rest SameRoot chain) off on = draft_event st.whole.parts
      inv.fits.buckets (parts_event.Seal last_seq (prio_of st.whole.parts.records chain) rest)
      on.asks.0 tt
  drafts_one (Seal last_seq rest (NewRoot r) chain) off on = absurd (cc)
  drafts_one (Take p b) off on = draft_event st.whole.parts inv.fits.buckets
      (parts_event.Reuse b) (take_enabled w st i inv at.known sound.laid order p b on).store.1.0 tt
  drafts_one (known.BeginChange low high gone come old new un) off on = absurd (cc)
  drafts_one (known.Install un steps) off on = absurd (cc)
  drafts_one known.ForgetDrafts off on = absurd (cc)
  drafts_one act off on =
      still_drafts st.whole.parts (after w st i act).whole.parts refl refl refl

-- what stays through both stays
both_stable : (a b c : Node) → StaysStable a b → StaysStable b c → StaysStable a c
both_stable a b c x y = record {
  written = λ h. y.written (x.written h);
  stable = λ s. y.stable (x.stable s);
  sets = λ s. y.sets (x.stable s) ∙ x.sets s;
}

both_drafts : (a b c : parts.State) → StayDrafts a b → StayDrafts b c → StayDrafts a c
both_drafts a b c x y = record {
  leaves = λ k draft.
      let first = x.leaves k draft in
      let later = y.leaves k (ap (λ (s : LeafShare). s.leaf.role) first.0 ∙ draft) in
      (later.0 ∙ first.0, both_stable (node_of a k) (node_of b k) (node_of c k) first.1 later.1);
  inner_nodes = λ k draft.
      let first = x.inner_nodes k draft in
      let later = y.inner_nodes k (ap (λ (s : InnerShare). s.inner.role) first.0 ∙ draft) in (
        later.0 ∙ first.0,
        both_stable (inner_node_of a k) (inner_node_of b k) (inner_node_of c k) first.1 later.1,
      );
}

pub drafts_kept : (w : Opening) (x : parts.State) → IsSound w x
    → IsKeptAt w x (λ act. spine_act act ≡ false)
    (λ a b. StayDrafts a.whole.parts b.whole.parts)
drafts_kept w x sound = record {
  same = λ a. still_drafts a.whole.parts a.whole.parts refl refl refl;
  both = λ a b c. both_drafts a.whole.parts b.whole.parts c.whole.parts;
  one = λ st i act at off on. drafts_one w x sound st i at act off on;
}
