-- An inner node whose sets all stand has none under way until the tree is changed.
use Rattle.std.proofs.Common.{◌≡◌, ◌≢◌, ℕ, false, List, [], ◌∷◌, refl, sym, ap, ◌∙◌}
use Rattle.bc_books.specs.Invariant.{IsInOrder}
use Rattle.bc_events.specs.Acts.{acts_of}
use Rattle.bc_events.specs.Run as core
use Rattle.bc_events.specs.Run.{acts_or_none}
use Rattle.bc_events.specs.declared.event.Event as deeds
use Rattle.bc_key.specs.declared.key.Key.{Key}
use Rattle.bc_known.specs.Acts.{State, Act, Keyed, WriteCache, FailCache, CacheBarrier, Seal, Take, after}
use Rattle.bc_known.specs.Acts as known
use Rattle.bc_known.specs.Laws.{IsSound}
use Rattle.bc_known.specs.Run.{IsEnabled}
use Rattle.bc_known.proofs.Keyed.{parts_join}
use Rattle.bc_known.proofs.Law.{At, inv_at, order_at}
use Rattle.bc_known.proofs.Others.{take_enabled}
use Rattle.bc_known.proofs.Writes.{write_enabled, fault_enabled}
use Rattle.bc_leaves.specs.After as parts_step
use Rattle.bc_leaves.specs.Enabled as parts_act
use Rattle.bc_leaves.specs.Events.{Event, Barrier, Reuse, Fill, FailFill, WriteSet, FailSet, NewLeaf, NewInner, ForgetDrafts, BeginChange, SetParent, FailParent, SealRoot, Install}
use Rattle.bc_leaves.specs.Events as parts_event
use Rattle.bc_leaves.specs.Fits.{HaveBuckets}
use Rattle.bc_leaves.specs.Laws.{parts_of}
use Rattle.bc_leaves.specs.Parts.{Free, InnerNode, NoNode, Role, inner_node_of}
use Rattle.bc_leaves.specs.Parts as parts
use Rattle.bc_leaves.proofs.Chains.{put_else}
use Rattle.bc_meta.specs.Acts as meta
use Rattle.bc_meta.specs.Events as event
use Rattle.bc_meta.specs.Layout.{Layout}
use Rattle.bc_meta.specs.Records.{Node, failed_node, loose_node, put, sent_node}
use Rattle.bc_model.specs.Sector.{Value}
use Rattle.bc_shares.specs.Laws.{Happens}
use Rattle.bc_shares.specs.Touched.{touches_spine}
use Rattle.bc_shares.proofs.Law.{at_state, in_order}
use Rattle.bc_shares.proofs.Nodes.{AtNode, IsOffSpine, inner_same}
use Rattle.bc_shares.proofs.Parts.{IsKeptAt, kept_at, keyed_parts, spine_act, spine_write}
use Rattle.bc_shares.proofs.Rows.{spine_row}
use Rattle.bc_whole.specs.State.{Opening, Write, OfData, OfEntry, OfSet, OfParent, OfLeaf, OfInner, OfPriorities, Outside, SameRoot, NewRoot}
use Rattle.bc_whole.specs.Together.{inserted, step, parts_write, parts_fault, prio_of}
use Rattle.bc_whole.proofs.Kept.{Inv}

-- No set of an inner node is under way that wasn't before.
pub record StayUnsent (a b : parts.State) : Type 0 where
  pub slots : b.inner_nodes ≡ a.inner_nodes
  pub unsent : (y : ℕ) → (a.inner_nodes y).role ≢ NoNode → (inner_node_of a y).sent ≡ false
      → (inner_node_of b y).sent ≡ false

free_some : (r : Role) → r ≡ Free → r ≢ NoNode
free_some r is none = cc

put_unsent : (nodes : ℕ → Node) (b : ℕ) (x : Node) (q : ℕ) → (q ≡ b → ⊥)
    → (nodes q).sent ≡ false → (put nodes b x q).sent ≡ false
put_unsent nodes b x q ne off = ap (λ (n : Node). n.sent) (put_else nodes b x q ne) ∙ off

node_unsent : (st : parts.State) (e : Event) (q : ℕ) → IsOffSpine e → (AtNode st e q → ⊥)
    → (st.records.nodes q).sent ≡ false → ((parts_step.after st e).records.nodes q).sent ≡ false
node_unsent st (WriteSet i set values) q off at u = let b = (st.leaves i).bucket in
    put_unsent st.records.nodes b (sent_node set (st.records.nodes b)) q at u
node_unsent st (FailSet i set values) q off at u = let b = (st.leaves i).bucket in
    put_unsent st.records.nodes b (failed_node set (st.records.nodes b)) q at u
node_unsent st (Reuse b) q off at u = put_unsent st.records.nodes b loose_node q at u
node_unsent st (Fill b place values) q off at u = put_unsent st.records.nodes b loose_node q at u
node_unsent st (FailFill b place values set) q off at u =
    put_unsent st.records.nodes b loose_node q at u
node_unsent st Barrier q off at u = refl
node_unsent st (NewLeaf j leaf set values) q off at u = absurd off
node_unsent st (NewInner j inner set values) q off at u = absurd off
node_unsent st ForgetDrafts q off at u = absurd off
node_unsent st (BeginChange low high gone come old new unused) q off at u = absurd off
node_unsent st (SetParent x set values) q off at u = absurd off
node_unsent st (FailParent x set values) q off at u = absurd off
node_unsent st (SealRoot last_seq prio rest r) q off at u = absurd off
node_unsent st (Install unused) q off at u = absurd off
node_unsent st e q off at u = u

module _ (st : parts.State) (apart : HaveBuckets st.records.nodes st.leaves st.inner_nodes) where
  inner_apart : (e : Event) (x : ℕ) → parts_act.IsEnabled st e → IsOffSpine e
      → (st.inner_nodes x).role ≢ NoNode → AtNode st e (st.inner_nodes x).bucket → ⊥
  inner_apart (WriteSet i set values) x on off some at =
      apart.one_kind i x (free_some _ on.0) some (sym at)
  inner_apart (FailSet i set values) x on off some at =
      apart.one_kind i x (free_some _ on.0) some (sym at)
  inner_apart (Reuse b) x on off some at = on.2 x some at
  inner_apart (Fill b place values) x on off some at = on.2 x some at
  inner_apart (FailFill b place values set) x on off some at = on.2 x some at
  inner_apart (NewLeaf j leaf set values) x on off some at = off
  inner_apart (NewInner j inner set values) x on off some at = off
  inner_apart (SetParent y set values) x on off some at = off
  inner_apart (FailParent y set values) x on off some at = off
  inner_apart e x on off some at = at

  event_unsent : (e : Event) → parts_act.IsEnabled st e → IsOffSpine e
      → StayUnsent st (parts_step.after st e)
  event_unsent e on off = let same = inner_same st e off in record {
    slots = same;
    unsent = λ y some u. ap (λ (f : ℕ → InnerNode).
        ((parts_step.after st e).records.nodes (f y).bucket).sent) same
        ∙ node_unsent st e (st.inner_nodes y).bucket off (inner_apart e y on off some) u;
  }

same_unsent : (a b : parts.State) → b.inner_nodes ≡ a.inner_nodes
    → b.records.nodes ≡ a.records.nodes → StayUnsent a b
same_unsent a b slots nodes = record {
  slots = slots;
  unsent = λ y some u. ap (λ (f : ℕ → Node). (f (b.inner_nodes y).bucket).sent) nodes
      ∙ ap (λ (f : ℕ → InnerNode). (a.records.nodes (f y).bucket).sent) slots ∙ u;
}

keyed_nodes : (p : parts.State) (slot : ℕ) (keys : List Key)
    → (parts_of p (inserted slot keys)).records.nodes ≡ p.records.nodes
keyed_nodes p slot [] = refl
keyed_nodes p slot (key ∷ keys) = ap (λ (s : parts.State). s.records.nodes)
    (parts_join p (inserted slot keys)
    (step (meta.Plain (event.AddKey key)) (parts_event.Insert slot key)))
    ∙ keyed_nodes p slot keys

spine_written : (w : Layout) (y : Write) (values : List Value) → spine_write y ≡ false
    → IsOffSpine (parts_write w y values)
spine_written w (OfParent i set) values off = absurd (cc)
spine_written w (OfLeaf i leaf set) values off = absurd (cc)
spine_written w (OfInner i inner set) values off = absurd (cc)
spine_written w (OfData q place) values off = tt
spine_written w OfEntry values off = tt
spine_written w (OfSet i set) values off = tt
spine_written w (OfPriorities q part set) values off = tt
spine_written w (Outside place) values off = tt

spine_failed : (w : Layout) (y : Write) (values : List Value) → spine_write y ≡ false
    → IsOffSpine (parts_fault w y values)
spine_failed w (OfParent i set) values off = absurd (cc)
spine_failed w (OfLeaf i leaf set) values off = absurd (cc)
spine_failed w (OfInner i inner set) values off = absurd (cc)
spine_failed w (OfData q place) values off = tt
spine_failed w OfEntry values off = tt
spine_failed w (OfSet i set) values off = tt
spine_failed w (OfPriorities q part set) values off = tt
spine_failed w (Outside place) values off = tt

module _ (w : Opening) (x : parts.State) (sound : IsSound w x) (st : State) (i : ℕ)
    (at : At w x st) where
  inv : Inv w st.whole
  inv = inv_at w x st.whole sound at.at

  order : IsInOrder w.flow.books st.whole.flow.books
  order = order_at w x st.whole sound at.at

  one_unsent : (act : Act) → spine_act act ≡ false → IsEnabled w st i act
      → StayUnsent st.whole.parts (after w st i act).whole.parts
  one_unsent (Keyed act slot keys) off on =
      same_unsent st.whole.parts (parts_of st.whole.parts (inserted slot keys))
      (keyed_parts st.whole.parts slot keys).slots (keyed_nodes st.whole.parts slot keys)
  one_unsent (WriteCache y values) off on = event_unsent st.whole.parts inv.fits.buckets
      (parts_write w.layout y values)
      (write_enabled w st i inv at.known sound.laid order y values on).store.1.0
      (spine_written w.layout y values off)
  one_unsent (FailCache y values) off on = event_unsent st.whole.parts inv.fits.buckets
      (parts_fault w.layout y values)
      (fault_enabled w st i inv at.known sound.laid order y values on).store.1.0
      (spine_failed w.layout y values off)
  one_unsent CacheBarrier off on = event_unsent st.whole.parts inv.fits.buckets parts_event.Barrier
      tt tt
  one_unsent (Seal last_seq rest SameRoot chain) off on = event_unsent st.whole.parts
      inv.fits.buckets (parts_event.Seal last_seq (prio_of st.whole.parts.records chain) rest)
      on.asks.0 tt
  one_unsent (Seal last_seq rest (NewRoot r) chain) off on = absurd (cc)
  one_unsent (Take p b) off on = event_unsent st.whole.parts inv.fits.buckets
      (parts_event.Reuse b) (take_enabled w st i inv at.known sound.laid order p b on).store.1.0 tt
  one_unsent (known.BeginChange low high gone come old new un) off on = absurd (cc)
  one_unsent (known.Install un steps) off on = absurd (cc)
  one_unsent known.ForgetDrafts off on = absurd (cc)
  one_unsent act off on =
      same_unsent st.whole.parts (after w st i act).whole.parts refl refl

both_unsent : (a b c : parts.State) → StayUnsent a b → StayUnsent b c → StayUnsent a c
both_unsent a b c x y = record {
  slots = y.slots ∙ x.slots;
  unsent = λ k some u. y.unsent k
      (λ none. some (sym (ap (λ (f : ℕ → InnerNode). (f k).role) x.slots) ∙ none))
      (x.unsent k some u);
}

unsent_kept : (w : Opening) (x : parts.State) → IsSound w x
    → IsKeptAt w x (λ act. spine_act act ≡ false)
    (λ a b. StayUnsent a.whole.parts b.whole.parts)
unsent_kept w x sound = record {
  same = λ a. same_unsent a.whole.parts a.whole.parts refl refl;
  both = λ a b c. both_unsent a.whole.parts b.whole.parts c.whole.parts;
  one = λ st i act at off on. one_unsent w x sound st i at act off on;
}

-- by an event of which the tree isn't changed
pub law_unsent : (w : core.Opening) (x : parts.State) (n : ℕ) (es : List deeds.Event)
    (e : deeds.Event) → Happens w x n es e → touches_spine e.deed ≡ false
    → let st = core.run w (core.start w x n) es in
    StayUnsent st.machine.whole.parts (core.after w st e).machine.whole.parts
law_unsent w x n es e h off =
    let st = core.run w (core.start w x n) es in
    kept_at w.machine x h.sound (λ act. spine_act act ≡ false)
    (λ a b. StayUnsent a.whole.parts b.whole.parts) (unsent_kept w.machine x h.sound) st.machine
    e.seat (acts_or_none (acts_of w.machine st.machine e.seat e.deed))
    (at_state w x n es h.sound h.course) (spine_row w.machine st.machine e.seat e.deed off)
    (in_order w st e (acts_of w.machine st.machine e.seat e.deed) h.enabled)
