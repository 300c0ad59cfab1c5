-- What an act of the machine leaves alone of a leaf, and of the spine.
use Rattle.std.proofs.Common.{◌≡◌, ◌≢◌, inl, inr, ℕ, Bool, true, false, ◌==◌, ◌||◌, List, [], ◌∷◌, refl, sym, ap, ◌∙◌, subst}
use Rattle.bc_model.specs.Sector.{Value}
use Rattle.bc_key.specs.declared.key.Key.{Key}
use Rattle.bc_books.specs.Books.{Step}
use Rattle.bc_books.specs.Shelves.{Purpose}
use Rattle.bc_books.specs.Invariant.{IsInOrder}
use Rattle.bc_meta.specs.Facts.{In}
use Rattle.bc_meta.specs.Layout.{Layout}
use Rattle.bc_meta.specs.Events as event
use Rattle.bc_meta.specs.Acts as meta
use Rattle.bc_meta.proofs.Lists.{by_test}
use Rattle.bc_leaves.specs.Parts.{Role, NoNode, Leaving, Coming}
use Rattle.bc_leaves.specs.Parts as parts
use Rattle.bc_leaves.specs.Events as parts_event
use Rattle.bc_leaves.specs.After as parts_step
use Rattle.bc_leaves.specs.After.{has}
use Rattle.bc_leaves.specs.Enabled as parts_act
use Rattle.bc_leaves.specs.Fits.{HaveBuckets}
use Rattle.bc_leaves.specs.Laws.{parts_of}
use Rattle.bc_leaves.proofs.Chains.{has_in}
use Rattle.bc_leaves.proofs.Frame.{law_frame}
use Rattle.bc_whole.specs.State.{Opening, Write, OfData, OfEntry, OfSet, OfParent, OfLeaf, OfInner, OfPriorities, Outside, Root, SameRoot, NewRoot}
use Rattle.bc_whole.specs.Together.{inserted, step, parts_write, parts_fault, prio_of}
use Rattle.bc_whole.proofs.Kept.{Inv}
use Rattle.bc_known.specs.Acts.{State, Act, Keyed, WriteCache, FailCache, CacheBarrier, Seal, Take, BeginChange, Install, ForgetDrafts, seq_of_write, after}
use Rattle.bc_known.specs.Laws.{IsSound}
use Rattle.bc_known.specs.Run.{IsEnabled, IsRun, run}
use Rattle.bc_known.proofs.Keyed.{parts_join}
use Rattle.bc_known.proofs.Writes.{write_enabled, fault_enabled}
use Rattle.bc_known.proofs.Others.{take_enabled}
use Rattle.bc_known.proofs.Law.{At, inv_at, order_at, keep}
use Rattle.bc_events.specs.Run as core
use Rattle.bc_shares.specs.Shares.{node_share, shape_of, LeafShare, leaf_share, InnerShare, inner_share, SameSpine}
use Rattle.bc_shares.proofs.Acts.{AllActs, IsKept, released_parts}
use Rattle.bc_shares.proofs.Nodes.{TouchesSets, touches_more, leaf_frame, IsOffSpine, inner_same, inner_frame, shape_frame}

-- ---- facts that acts keep in states of a run, a run of them keeps

pub record IsKeptAt (w : Opening) (x : parts.State) (P : Act → Type 0)
    (R : State → State → Type 0) : Type 0 where
  pub same : (a : State) → R a a
  pub both : (a b c : State) → R a b → R b c → R a c
  pub one : (st : State) (i : ℕ) (act : Act) → At w x st → P act → IsEnabled w st i act
      → R st (after w st i act)

pub kept_at : (w : Opening) (x : parts.State) → IsSound w x → (P : Act → Type 0)
    (R : State → State → Type 0) → IsKeptAt w x P R → (st : State) (i : ℕ) (acts : List Act)
    → At w x st → AllActs P acts → IsRun w st (core.by i acts) → R st (run w st (core.by i acts))
kept_at w x sound P R k st i [] at all on = k.same st
kept_at w x sound P R k st i (act ∷ acts) at all on = k.both st (after w st i act) _
    (k.one st i act at all.0 on.0)
    (kept_at w x sound P R k (after w st i act) i acts (keep w x sound st i at act on.0) all.1 on.1)

-- ---- what the parts allow

module _ (w : Opening) (x : parts.State) (sound : IsSound w x) (st : State) (i : ℕ)
    (at : At w x st) where
  inv : Inv w st.whole
  inv = inv_at w x st.whole sound at.at

  order : IsInOrder w.flow.books st.whole.flow.books
  order = order_at w x st.whole sound at.at

  apart : HaveBuckets st.whole.parts.records.nodes st.whole.parts.leaves st.whole.parts.inner_nodes
  apart = inv.fits.buckets

  allows_write : (y : Write) (values : List Value) → IsEnabled w st i (WriteCache y values)
      → parts_act.IsEnabled st.whole.parts (parts_write w.layout y values)
  allows_write y values on =
      (write_enabled w st i inv at.known sound.laid order y values on).store.1.0

  allows_fault : (y : Write) (values : List Value) → IsEnabled w st i (FailCache y values)
      → parts_act.IsEnabled st.whole.parts (parts_fault w.layout y values)
  allows_fault y values on =
      (fault_enabled w st i inv at.known sound.laid order y values on).store.1.0

  allows_take : (p : Purpose) (b : ℕ) → IsEnabled w st i (Take p b)
      → parts_act.IsEnabled st.whole.parts (parts_event.Reuse b)
  allows_take p b on = (take_enabled w st i inv at.known sound.laid order p b on).store.1.0

-- ---- a leaf

abbrev pub leaf_write : ℕ → Write → Bool
leaf_write k (OfSet i set) = k == i
leaf_write k (OfLeaf j leaf set) = k == j
leaf_write k x = false

abbrev pub leaf_fault : ℕ → Write → Bool
leaf_fault k (OfSet i set) = k == i
leaf_fault k x = false

abbrev pub leaf_act : ℕ → Act → Bool
leaf_act k (Keyed act slot keys) = k == slot
leaf_act k (WriteCache x values) = leaf_write k x
leaf_act k (FailCache x values) = leaf_fault k x
leaf_act k (BeginChange low high gone come old new un) = has gone k || has come k
leaf_act k (Install un steps) = true
leaf_act k ForgetDrafts = true
leaf_act k act = false

-- the leaf of a slot that has one stays as it was
abbrev pub SameLeaf : ℕ → State → State → Type 0
SameLeaf k a b = (a.whole.parts.leaves k).role ≢ NoNode
    → leaf_share b.whole.parts k ≡ leaf_share a.whole.parts k

other : (k i : ℕ) → (k == i) ≡ false → k ≡ i → ⊥
other k i off is = by_test k i (λ t. t ≡ false → ⊥) (λ _ e. cc) (λ ne _. ne is) off

pub not_either : (a b : Bool) → (a || b) ≡ false → (a ≡ false) × (b ≡ false)
not_either false b is = (refl, is)
not_either true b is = absurd (cc)

not_in : (xs : List ℕ) (k : ℕ) → has xs k ≡ false → In k xs → ⊥
not_in xs k off i = let on = has_in xs k i in absurd (cc)

-- keys that come into another leaf
keyed_leaf : (p : parts.State) (slot : ℕ) (keys : List Key) (k : ℕ) → (k ≡ slot → ⊥)
    → leaf_share (parts_of p (inserted slot keys)) k ≡ leaf_share p k
keyed_leaf p slot [] k ne = refl
keyed_leaf p slot (key ∷ keys) k ne =
    let q = parts_of p (inserted slot keys) in
    ap (λ (s : parts.State). leaf_share s k) (parts_join p (inserted slot keys)
    (step (meta.Plain (event.AddKey key)) (parts_event.Insert slot key)))
    ∙ ap (λ (l : parts.Leaf). leaf_in q l) (law_frame q (parts_event.Insert slot key) k ne)
    ∙ keyed_leaf p slot keys k ne
  where
    leaf_in : parts.State → parts.Leaf → LeafShare
    leaf_in s l = record { leaf = l; node = node_share (s.records.nodes l.bucket) }

write_off : (w : Layout) (st : parts.State) (y : Write) (values : List Value) (k : ℕ)
    → leaf_write k y ≡ false → TouchesSets st (parts_write w y values) k → ⊥
write_off w st (OfSet i set) values k off t = other k i off t
write_off w st (OfLeaf j leaf set) values k off t = other k j off t
write_off w st (OfData q place) values k off t = t
write_off w st OfEntry values k off t = t
write_off w st (OfParent i set) values k off t = t
write_off w st (OfInner i inner set) values k off t = t
write_off w st (OfPriorities q part set) values k off t = t
write_off w st (Outside place) values k off t = t

fault_off : (w : Layout) (st : parts.State) (y : Write) (values : List Value) (k : ℕ)
    → leaf_fault k y ≡ false → TouchesSets st (parts_fault w y values) k → ⊥
fault_off w st (OfSet i set) values k off t = other k i off t
fault_off w st (OfLeaf j leaf set) values k off t = t
fault_off w st (OfData q place) values k off t = t
fault_off w st OfEntry values k off t = t
fault_off w st (OfParent i set) values k off t = t
fault_off w st (OfInner i inner set) values k off t = t
fault_off w st (OfPriorities q part set) values k off t = t
fault_off w st (Outside place) values k off t = t

module _ (w : Opening) (x : parts.State) (sound : IsSound w x) (k : ℕ) where
  leaf_one : (st : State) (i : ℕ) (act : Act) → At w x st → leaf_act k act ≡ false
      → IsEnabled w st i act → SameLeaf k st (after w st i act)
  leaf_one st i (Keyed act slot keys) at off on some =
      keyed_leaf st.whole.parts slot keys k (other k slot off)
  leaf_one st i (WriteCache y values) at off on some = leaf_frame st.whole.parts
      (apart w x sound st i at) (parts_write w.layout y values) k
      (allows_write w x sound st i at y values on) some
      (write_off w.layout st.whole.parts y values k off)
  leaf_one st i (FailCache y values) at off on some = leaf_frame st.whole.parts
      (apart w x sound st i at) (parts_fault w.layout y values) k
      (allows_fault w x sound st i at y values on) some
      (fault_off w.layout st.whole.parts y values k off)
  leaf_one st i CacheBarrier at off on some = leaf_frame st.whole.parts
      (apart w x sound st i at) parts_event.Barrier k tt some (λ t. t)
  leaf_one st i (Seal last_seq rest SameRoot chain) at off on some = refl
  leaf_one st i (Seal last_seq rest (NewRoot r) chain) at off on some = refl
  leaf_one st i (Take p b) at off on some = leaf_frame st.whole.parts
      (apart w x sound st i at) (parts_event.Reuse b) k (allows_take w x sound st i at p b on) some
      (λ t. t)
  leaf_one st i (BeginChange low high gone come old new un) at off on some =
      let none = not_either (has gone k) (has come k) off in
      leaf_frame st.whole.parts (apart w x sound st i at)
      (parts_event.BeginChange low high gone come old new un) k on.asks.0 some
      (λ t. elim t [ inl a ↦ not_in gone k none.0 a | inr b ↦ not_in come k none.1 b ])
  leaf_one st i (Install un steps) at off on some = absurd (cc)
  leaf_one st i ForgetDrafts at off on some = absurd (cc)
  leaf_one st i act at off on some = refl

  pub leaf_kept : IsKeptAt w x (λ act. leaf_act k act ≡ false) (SameLeaf k)
  leaf_kept = record {
    same = λ a some. refl;
    both = λ a b c x y some. let first = x some in
        y (λ none. some (sym (ap (λ (l : LeafShare). l.leaf.role) first) ∙ none)) ∙ first;
    one = leaf_one;
  }

-- ---- a slot

abbrev pub SameSlot : ℕ → State → State → Type 0
SameSlot k a b = b.whole.parts.leaves k ≡ a.whole.parts.leaves k

keyed_slot : (p : parts.State) (slot : ℕ) (keys : List Key) (k : ℕ) → (k ≡ slot → ⊥)
    → (parts_of p (inserted slot keys)).leaves k ≡ p.leaves k
keyed_slot p slot [] k ne = refl
keyed_slot p slot (key ∷ keys) k ne =
    let q = parts_of p (inserted slot keys) in
    ap (λ (s : parts.State). s.leaves k) (parts_join p (inserted slot keys)
    (step (meta.Plain (event.AddKey key)) (parts_event.Insert slot key)))
    ∙ law_frame q (parts_event.Insert slot key) k ne ∙ keyed_slot p slot keys k ne

slot_one : (k : ℕ) (w : Opening) (st : State) (i : ℕ) (act : Act) → leaf_act k act ≡ false
    → IsEnabled w st i act → SameSlot k st (after w st i act)
slot_one k w st i (Keyed act slot keys) off on =
    keyed_slot st.whole.parts slot keys k (other k slot off)
slot_one k w st i (WriteCache y values) off on = law_frame st.whole.parts
    (parts_write w.layout y values) k (λ t. write_off w.layout st.whole.parts y values k off
    (touches_more st.whole.parts (parts_write w.layout y values) k t))
slot_one k w st i (FailCache y values) off on = law_frame st.whole.parts
    (parts_fault w.layout y values) k (λ t. fault_off w.layout st.whole.parts y values k off
    (touches_more st.whole.parts (parts_fault w.layout y values) k t))
slot_one k w st i (Seal last_seq rest SameRoot chain) off on = refl
slot_one k w st i (Seal last_seq rest (NewRoot r) chain) off on = refl
slot_one k w st i (BeginChange low high gone come old new un) off on =
    let none = not_either (has gone k) (has come k) off in
    law_frame st.whole.parts (parts_event.BeginChange low high gone come old new un) k
    (λ t. elim t [ inl a ↦ not_in gone k none.0 a | inr b ↦ not_in come k none.1 b ])
slot_one k w st i (Install un steps) off on = absurd (cc)
slot_one k w st i ForgetDrafts off on = absurd (cc)
slot_one k w st i act off on = refl

pub slot_kept : (k : ℕ) → IsKept (λ act. leaf_act k act ≡ false) (SameSlot k)
slot_kept k = record {
  same = λ a. refl;
  both = λ a b c x y. y ∙ x;
  one = slot_one k;
}

pub install_slot : (w : Opening) (st : State) (i k : ℕ) (un : ℕ → Bool) (steps : List Step)
    → (st.whole.parts.leaves k).role ≢ Leaving → (st.whole.parts.leaves k).role ≢ Coming
    → SameSlot k st (after w st i (Install un steps))
install_slot w st i k un steps stays old =
    let p = parts_step.after st.whole.parts (parts_event.Install un) in
    ap (λ (s : parts.State). s.leaves k) (released_parts p steps)
    ∙ law_frame st.whole.parts (parts_event.Install un) k
    (λ t. elim t [ inl a ↦ stays a | inr b ↦ old b ])

-- an install leaves a leaf that neither leaves nor comes
pub install_leaf : (w : Opening) (st : State) (i k : ℕ) (un : ℕ → Bool) (steps : List Step)
    → (st.whole.parts.leaves k).role ≢ Leaving → (st.whole.parts.leaves k).role ≢ Coming
    → leaf_share (after w st i (Install un steps)).whole.parts k ≡ leaf_share st.whole.parts k
install_leaf w st i k un steps stays old =
    let p = parts_step.after st.whole.parts (parts_event.Install un) in
    ap (λ (s : parts.State). leaf_share s k) (released_parts p steps)
    ∙ ap (λ (l : parts.Leaf). leaf_in st.whole.parts l)
    (law_frame st.whole.parts (parts_event.Install un) k
    (λ t. elim t [ inl a ↦ stays a | inr b ↦ old b ]))
  where
    leaf_in : parts.State → parts.Leaf → LeafShare
    leaf_in s l = record { leaf = l; node = node_share (s.records.nodes l.bucket) }

-- ---- the spine

abbrev pub spine_write : Write → Bool
spine_write (OfParent i set) = true
spine_write (OfLeaf i leaf set) = true
spine_write (OfInner i inner set) = true
spine_write x = false

abbrev pub is_new_root : Root → Bool
is_new_root SameRoot = false
is_new_root (NewRoot r) = true

abbrev pub spine_act : Act → Bool
spine_act (WriteCache x values) = spine_write x
spine_act (FailCache x values) = spine_write x
spine_act (Seal last_seq rest root chain) = is_new_root root
spine_act (BeginChange low high gone come old new un) = true
spine_act (Install un steps) = true
spine_act ForgetDrafts = true
spine_act act = false

-- the same of the parts
pub record SameParts (a b : parts.State) : Type 0 where
  pub leaves : (k : ℕ) → shape_of (b.leaves k) ≡ shape_of (a.leaves k)
  pub slots : b.inner_nodes ≡ a.inner_nodes
  pub inner_nodes : (x : ℕ) → (a.inner_nodes x).role ≢ NoNode → inner_share b x ≡ inner_share a x
  pub end : b.end ≡ a.end
  pub change : b.change ≡ a.change
  pub unused : b.records.unused ≡ a.records.unused

same_parts : (a : parts.State) → SameParts a a
same_parts a = record {
  leaves = λ k. refl;
  slots = refl;
  inner_nodes = λ x some. refl;
  end = refl;
  change = refl;
  unused = refl;
}

both_parts : (a b c : parts.State) → SameParts a b → SameParts b c → SameParts a c
both_parts a b c x y = record {
  leaves = λ k. y.leaves k ∙ x.leaves k;
  slots = y.slots ∙ x.slots;
  inner_nodes = λ n some. let first = x.inner_nodes n some in
      y.inner_nodes n (λ none. some (sym (ap (λ (l : InnerShare). l.inner.role) first) ∙ none))
      ∙ first;
  end = y.end ∙ x.end;
  change = y.change ∙ x.change;
  unused = y.unused ∙ x.unused;
}

change_same : (st : parts.State) (e : parts_event.Event) → IsOffSpine e
    → (parts_step.after st e).change ≡ st.change
change_same st (parts_event.NewLeaf j leaf set values) off = absurd off
change_same st (parts_event.NewInner j inner set values) off = absurd off
change_same st parts_event.ForgetDrafts off = absurd off
change_same st (parts_event.BeginChange low high gone come old new unused) off = absurd off
change_same st (parts_event.SetParent x set values) off = absurd off
change_same st (parts_event.FailParent x set values) off = absurd off
change_same st (parts_event.SealRoot last_seq prio rest r) off = absurd off
change_same st (parts_event.Install unused) off = absurd off
change_same st e off = refl

unused_same : (st : parts.State) (e : parts_event.Event) → IsOffSpine e
    → (parts_step.after st e).records.unused ≡ st.records.unused
unused_same st (parts_event.NewLeaf j leaf set values) off = absurd off
unused_same st (parts_event.NewInner j inner set values) off = absurd off
unused_same st parts_event.ForgetDrafts off = absurd off
unused_same st (parts_event.BeginChange low high gone come old new unused) off = absurd off
unused_same st (parts_event.SetParent x set values) off = absurd off
unused_same st (parts_event.FailParent x set values) off = absurd off
unused_same st (parts_event.SealRoot last_seq prio rest r) off = absurd off
unused_same st (parts_event.Install unused) off = absurd off
unused_same st e off = refl

parts_frame : (st : parts.State) → HaveBuckets st.records.nodes st.leaves st.inner_nodes
    → (e : parts_event.Event) → parts_act.IsEnabled st e → IsOffSpine e
    → SameParts st (parts_step.after st e)
parts_frame st apart e on off = record {
  leaves = λ k. shape_frame st e k off;
  slots = inner_same st e off;
  inner_nodes = λ x some. inner_frame st apart e x on some off;
  end = refl;
  change = change_same st e off;
  unused = unused_same st e off;
}

-- keys that come in
pub keyed_parts : (p : parts.State) (slot : ℕ) (keys : List Key)
    → SameParts p (parts_of p (inserted slot keys))
keyed_parts p slot [] = same_parts p
keyed_parts p slot (key ∷ keys) =
    let q = parts_of p (inserted slot keys) in
    subst (λ (s : parts.State). SameParts p s) (sym (parts_join p (inserted slot keys)
    (step (meta.Plain (event.AddKey key)) (parts_event.Insert slot key))))
    (both_parts p q (parts_step.after q (parts_event.Insert slot key)) (keyed_parts p slot keys)
    (record {
      leaves = λ k. refl;
      slots = refl;
      inner_nodes = λ x some. refl;
      end = refl;
      change = refl;
      unused = refl;
    }))

spine_written : (w : Layout) (y : Write) (values : List Value) → spine_write y ≡ false
    → IsOffSpine (parts_write w y values)
spine_written w (OfParent i set) values off = absurd (cc)
spine_written w (OfLeaf i leaf set) values off = absurd (cc)
spine_written w (OfInner i inner set) values off = absurd (cc)
spine_written w (OfData q place) values off = tt
spine_written w OfEntry values off = tt
spine_written w (OfSet i set) values off = tt
spine_written w (OfPriorities q part set) values off = tt
spine_written w (Outside place) values off = tt

spine_failed : (w : Layout) (y : Write) (values : List Value) → spine_write y ≡ false
    → IsOffSpine (parts_fault w y values)
spine_failed w (OfParent i set) values off = absurd (cc)
spine_failed w (OfLeaf i leaf set) values off = absurd (cc)
spine_failed w (OfInner i inner set) values off = absurd (cc)
spine_failed w (OfData q place) values off = tt
spine_failed w OfEntry values off = tt
spine_failed w (OfSet i set) values off = tt
spine_failed w (OfPriorities q part set) values off = tt
spine_failed w (Outside place) values off = tt

seq_same : (y : Write) (n : ℕ) → spine_write y ≡ false → seq_of_write y n ≡ n
seq_same (OfParent i set) n off = absurd (cc)
seq_same (OfLeaf i leaf set) n off = absurd (cc)
seq_same (OfInner i inner set) n off = absurd (cc)
seq_same y n off = refl

-- of two states, by their parts and the next seq
spine_is : (a b : State) → SameParts a.whole.parts b.whole.parts → b.next_seq ≡ a.next_seq
    → SameSpine a b
spine_is a b p n = record {
  leaves = p.leaves;
  slots = p.slots;
  inner_nodes = p.inner_nodes;
  end = p.end;
  change = p.change;
  unused = p.unused;
  next_seq = n;
}

parts_are : (a b : State) → SameSpine a b → SameParts a.whole.parts b.whole.parts
parts_are a b s = record {
  leaves = s.leaves;
  slots = s.slots;
  inner_nodes = s.inner_nodes;
  end = s.end;
  change = s.change;
  unused = s.unused;
}

module _ (w : Opening) (x : parts.State) (sound : IsSound w x) where
  spine_one : (st : State) (i : ℕ) (act : Act) → At w x st → spine_act act ≡ false
      → IsEnabled w st i act → SameSpine st (after w st i act)
  spine_one st i (Keyed act slot keys) at off on = spine_is st (after w st i (Keyed act slot keys))
      (keyed_parts st.whole.parts slot keys) refl
  spine_one st i (WriteCache y values) at off on =
      spine_is st (after w st i (WriteCache y values))
      (parts_frame st.whole.parts (apart w x sound st i at) (parts_write w.layout y values)
      (allows_write w x sound st i at y values on) (spine_written w.layout y values off))
      (seq_same y st.next_seq off)
  spine_one st i (FailCache y values) at off on =
      spine_is st (after w st i (FailCache y values))
      (parts_frame st.whole.parts (apart w x sound st i at) (parts_fault w.layout y values)
      (allows_fault w x sound st i at y values on) (spine_failed w.layout y values off))
      (seq_same y st.next_seq off)
  spine_one st i CacheBarrier at off on = spine_is st (after w st i CacheBarrier)
      (parts_frame st.whole.parts (apart w x sound st i at) parts_event.Barrier tt tt) refl
  spine_one st i (Seal last_seq rest SameRoot chain) at off on =
      spine_is st (after w st i (Seal last_seq rest SameRoot chain))
      (parts_frame st.whole.parts (apart w x sound st i at)
      (parts_event.Seal last_seq (prio_of st.whole.parts.records chain) rest) on.asks.0 tt) refl
  spine_one st i (Seal last_seq rest (NewRoot r) chain) at off on = absurd (cc)
  spine_one st i (Take p b) at off on = spine_is st (after w st i (Take p b))
      (parts_frame st.whole.parts (apart w x sound st i at) (parts_event.Reuse b)
      (allows_take w x sound st i at p b on) tt) refl
  spine_one st i (BeginChange low high gone come old new un) at off on = absurd (cc)
  spine_one st i (Install un steps) at off on = absurd (cc)
  spine_one st i ForgetDrafts at off on = absurd (cc)
  spine_one st i act at off on = spine_is st (after w st i act) (record {
    leaves = λ k. refl;
    slots = refl;
    inner_nodes = λ x some. refl;
    end = refl;
    change = refl;
    unused = refl;
  }) refl

  pub spine_kept : IsKeptAt w x (λ act. spine_act act ≡ false) SameSpine
  spine_kept = record {
    same = λ a. spine_is a a (same_parts a.whole.parts) refl;
    both = λ a b c x y. spine_is a c (both_parts a.whole.parts b.whole.parts c.whole.parts
        (parts_are a b x) (parts_are b c y)) (y.next_seq ∙ x.next_seq);
    one = spine_one;
  }
