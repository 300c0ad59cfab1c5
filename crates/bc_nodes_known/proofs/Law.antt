-- The laws on nodes.
use Rattle.std.proofs.Common.{◌≡◌, ◌≢◌, inl, ℕ, ◌+◌, ◌≤◌, Bool, true, false, List, [], ◌∷◌, ◌++◌, Some, None, refl, sym, ap, ◌∙◌, subst, arith, if◌then◌else◌}
use Rattle.bc_model.specs.Sector.{Value}
use Rattle.bc_key.proofs.KeyLaws.{ReadsAsPtr-ptr_word}
use Rattle.bc_key.specs.Words.{ptr_word}
use Rattle.bc_key.specs.declared.ptr.Ptr.{Ptr}
use Rattle.bc_books.specs.Shelves.{Purpose, Priorities, Moving, Tree, Plain, Held}
use Rattle.bc_disk.specs.declared.geometry.Geometry.{Geometry}
use Rattle.bc_facts.specs.Layout.{IsLayoutOf, begins_at}
use Rattle.bc_meta.specs.Facts.{In}
use Rattle.bc_meta.specs.Layout.{Layout, node_end, set_len}
use Rattle.bc_meta.specs.Places.{CanAppend, Places, node_behind}
use Rattle.bc_meta.specs.Records.{Node, Nothing, Fixed, Ready, Safe, Sent, Records, Stage}
use Rattle.bc_meta.specs.Tree.{NodeSet, Owner, set_keys}
use Rattle.bc_leaves.specs.Parts.{NoNode, Draft, Free, Leaving, Coming, NoChange, Role, IsLive, keys_of, node_of, inner_node_of, ready_number}
use Rattle.bc_leaves.specs.Parts as parts
use Rattle.bc_leaves.specs.Fits.{Fits, last_keys}
use Rattle.bc_leaves.specs.Keys.{last_said, ref_said}
use Rattle.bc_leaves.proofs.Pend.{append_both}
use Rattle.bc_whole.specs.State.{Opening}
use Rattle.bc_whole.proofs.Kept.{Inv}
use Rattle.bc_known.specs.Acts.{State}
use Rattle.bc_known.specs.Laws.{IsSound}
use Rattle.bc_known.proofs.Law.{At, inv_at, order_at, at_end}
use Rattle.bc_known.proofs.Places as places
use Rattle.bc_events.specs.Acts.{acts_of}
use Rattle.bc_events.specs.Run as core
use Rattle.bc_events.specs.Run.{acts_or_none}
use Rattle.bc_events.specs.declared.event.Deed.{Deed}
use Rattle.bc_events.specs.declared.event.Deed.TheVariants as deed
use Rattle.bc_events.specs.declared.event.Event.{Event}
use Rattle.bc_events.proofs.Machine.{law_machine}
use Rattle.bc_shares.specs.Shares.{lost_set, node_share, written_sets}
use Rattle.bc_shares.proofs.Acts.{kept_run}
use Rattle.bc_shares.proofs.Law.{at_state, in_order}
use Rattle.bc_shares.proofs.Parts.{kept_at, spine_act}
use Rattle.bc_shares.proofs.Rows.{installs, no_install_row, spine_row}
use Rattle.bc_looks.proofs.Law.{law_slots}
use Rattle.bc_looks.specs.bc_machine.Containers.{HasSets, IsInTree, sets_len}
use Rattle.bc_looks.specs.bc_machine.Standing.{oldest_first, replay_is, replay_runs}
use Rattle.bc_looks.specs.bc_machine.World.{Follows, IsCourseOf, IsReadTree, Origin, replay}
use Rattle.bc_nodes_known.specs.Nodes.{AreNodes, AreOwn, AreStill, IsOwn, LawAppend, LawAppendParent, LawBare, LawBarrier, LawDraft, LawInstall, LawListed, LawNodes, LawOwn, LawRegroup, LawRoot, LawSaid, LawStill, LawUnnamed, LawVacant, StayDrafts, StayNamed, StayVacant}
use Rattle.bc_nodes_known.proofs.Bare.{ComesBare, bare_run}
use Rattle.bc_nodes_known.proofs.Beyond.{Beyond, SameSlots, beyond_installed, beyond_kept, slots_kept}
use Rattle.bc_nodes_known.proofs.Drafts.{drafts_kept, settled_all}
use Rattle.bc_nodes_known.proofs.Install.{install_enabled}
use Rattle.bc_nodes_known.proofs.Nodes.{Shrinks, installed_nodes, shrinks, shrunk}
use Rattle.bc_nodes_known.proofs.Own.{AreOwned, owned_run}
use Rattle.bc_nodes_known.proofs.Places.{own_next, own_number}
use Rattle.bc_nodes_known.proofs.Regroup.{regrouped}
use Rattle.bc_nodes_known.proofs.Roots.{named_kept}
use Rattle.bc_nodes_known.proofs.Vacant.{vacant_kept}

-- ---- states of a run

at_course : (o : Origin) → IsSound o.opening.machine o.parts → (es : List Event) → IsCourseOf o es
    → At o.opening.machine o.parts (replay o es).machine
at_course o sound es on = subst (λ (st : core.State). At o.opening.machine o.parts st.machine)
    (sym (replay_is o es))
    (at_state o.opening o.parts o.next_seq (oldest_first es) sound (replay_runs o es on))

inv_course : (o : Origin) → IsSound o.opening.machine o.parts → (es : List Event) → IsCourseOf o es
    → Inv o.opening.machine (replay o es).machine.whole
inv_course o sound es on = inv_at o.opening.machine o.parts (replay o es).machine.whole sound
    (at_course o sound es on).at

-- ---- nodes that this run wrote

owned_core : (w : core.Opening) (x : parts.State) (n : ℕ) (es : List Event) → IsSound w.machine x
    → core.IsRun w (core.start w x n) es → AreOwned x (λ q. false)
    → let st = (core.run w (core.start w x n) es).machine in
    AreOwned st.whole.parts st.whole.store.places.own
owned_core w x n es sound on h =
    let m = law_machine w (core.start w x n) es on in
    subst (λ (y : State). AreOwned y.whole.parts y.whole.store.places.own) (sym m.last)
    (owned_run w.machine x sound (core.start w x n).machine
    (core.machine_events w (core.start w x n) es) m.course
    (at_end w.machine x n [] sound tt) h)

read_owned : (o : Origin) → IsReadTree o → AreOwned o.parts (λ q. false)
read_owned o read = record {
  leaves = λ k some loaded. absurd (let is = read.leaves k some in cc);
  inner_nodes = λ x some loaded. absurd (let is = read.inner_nodes x some in cc);
}

owned_course : (o : Origin) → IsSound o.opening.machine o.parts → IsReadTree o → (es : List Event)
    → IsCourseOf o es → let st = (replay o es).machine in
    AreOwned st.whole.parts st.whole.store.places.own
owned_course o sound read es on = subst (λ (st : core.State).
    AreOwned st.machine.whole.parts st.machine.whole.store.places.own) (sym (replay_is o es))
    (owned_core o.opening o.parts o.next_seq (oldest_first es) sound (replay_runs o es on)
    (read_owned o read))

own_node : (w : Opening) (st : State) → Inv w st.whole → (q : ℕ)
    → st.whole.store.places.own q ≡ true
    → IsOwn w st q (node_share (st.whole.parts.records.nodes q))
own_node w st inv q own =
    let p = st.whole.store.places in
    let mine = (inv.store.place.nodes q).mine own in record {
      own = own;
      number = subst (λ (r : Records). (e : NodeSet) → In e (node_share (r.nodes q)).sets
          → e.seq ≡ p.seq q) (sym inv.same) (own_number w.layout p.device (p.records.nodes q) q
          (p.node_next q) (p.seq q) p.log mine);
      next = own_next w.layout p.device (p.records.nodes q) q (p.node_next q) (p.seq q) p.log mine
          ∙ ap (λ (r : Records). w.layout.begins (node_share (r.nodes q)).owner
          + sets_len w.layout (node_share (r.nodes q)).sets) (sym inv.same);
    }

own_course : (o : Origin) → IsSound o.opening.machine o.parts → IsReadTree o → (es : List Event)
    → IsCourseOf o es → AreOwn o.opening.machine (replay o es).machine
own_course o sound read es on =
    let st = (replay o es).machine in
    let owned = owned_course o sound read es on in
    let inv = inv_course o sound es on in record {
      leaves = λ k some loaded. own_node o.opening.machine st inv
          (st.whole.parts.leaves k).bucket (owned.leaves k some loaded);
      inner_nodes = λ x some loaded. own_node o.opening.machine st inv
          (st.whole.parts.inner_nodes x).bucket (owned.inner_nodes x some loaded);
    }

pub law_own : LawOwn
law_own x o is course = own_course o is.sound is.begun.read x.log course

-- ---- leaves that come

bare_core : (w : core.Opening) (x : parts.State) (n : ℕ) (es : List Event) → IsSound w.machine x
    → core.IsRun w (core.start w x n) es → ComesBare x
    → ComesBare (core.run w (core.start w x n) es).machine.whole.parts
bare_core w x n es sound on h =
    let m = law_machine w (core.start w x n) es on in
    subst (λ (y : State). ComesBare y.whole.parts) (sym m.last)
    (bare_run w.machine x sound (core.start w x n).machine
    (core.machine_events w (core.start w x n) es) m.course
    (at_end w.machine x n [] sound tt) h)

-- as a run begins nothing comes
coming_live : (r : Role) → r ≡ Coming → IsLive r
coming_live r is = subst IsLive (sym is) tt

begun_bare : (o : Origin) → IsSound o.opening.machine o.parts → o.parts.change ≡ NoChange
    → ComesBare o.parts
begun_bare o sound calm k coming =
    let inv = inv_at o.opening.machine o.parts
    (core.start o.opening o.parts o.next_seq).machine.whole sound
    (at_end o.opening.machine o.parts o.next_seq [] sound tt).at in
    let free = inv.fits.quiet.calm calm k (coming_live (o.parts.leaves k).role coming) in
    absurd (let is : Free ≡ Coming = sym free ∙ coming in cc)

pub law_bare : LawBare
law_bare x o is course = record {
  drafts = λ k draft. ((inv_course o is.sound x.log course).fits.leaves.drafts k draft).none;
  coming = subst (λ (st : core.State). ComesBare st.machine.whole.parts) (sym (replay_is o x.log))
      (bare_core o.opening o.parts o.next_seq (oldest_first x.log) is.sound
      (replay_runs o x.log course) (begun_bare o is.sound is.calm));
}

-- ---- nothing under way

ready_above : (g : Stage) (n : ℕ) → n ≤ ready_number g n
ready_above Nothing n = omega arith
ready_above Fixed n = omega arith
ready_above Ready n = omega arith
ready_above Sent n = omega arith
ready_above Safe n = omega arith

some_in : {A : Type 0} (xs : List A) → xs ≢ [] → (x : A) × In x xs
some_in [] some = absurd (some refl)
some_in (x ∷ xs) some = (x, inl refl)

not_true : (b : Bool) → (b ≡ true → ⊥) → b ≡ false
not_true false off = refl
not_true true off = absurd (off refl)

still_parts : (w : Opening) (st : State) → Inv w st.whole → AreStill st.whole.parts
still_parts w st inv = record {
  leaves = λ k live due. not_true (node_of p k).sent (λ sent.
      let one = some_in (p.leaves k).pending due.some in
      let old = due.durable one.0 one.1 in
      let new = inv.fits.leaves.fresh k live sent one.0 one.1 in
      let above = ready_above p.records.stage p.records.newest.number in
      omega (arith, old, new, above));
  inner_nodes = λ x live other. not_true (inner_node_of p x).sent
      (λ sent. other ((inv.fits.tree.inner x live).next sent).0);
}
  where
    p : parts.State
    p = st.whole.parts

pub law_still : LawStill
law_still x o is course = still_parts o.opening.machine (replay o x.log).machine
    (inv_course o is.sound x.log course)

-- ---- further sets

ptr_begins : (ptr : Ptr) → begins_at (ptr_word ptr) ≡ ptr.offset
ptr_begins ptr = (ReadsAsPtr-ptr_word ptr).offset

not_loaded : (a b : Bool) → (a ≡ true → b ≡ true) → b ≡ false → a ≡ false
not_loaded false b lasts off = refl
not_loaded true b lasts off = absurd (let on = lasts refl in cc)

unsent_sets : (n : Node) → n.sent ≡ false → (node_share n).sets ≡ n.sets
unsent_sets n off = go n.sent off
  where
    go : (sent : Bool) → sent ≡ false → written_sets sent n.last n.sets ≡ n.sets
    go false is = refl
    go true is = absurd (cc)

unfailed : (n : Node) → n.sent ≡ false → (node_share n).lost ≡ None → n.failed ≡ false
unfailed n off none = go n.sent n.failed off none
  where
    go : (sent failed : Bool) → sent ≡ false → lost_set sent failed n.last ≡ None → failed ≡ false
    go false false is nothing = refl
    go false true is nothing = absurd (cc)
    go true failed is nothing = absurd (cc)

unsent_next : (w : Layout) (p : Places) (q : ℕ) → (p.records.nodes q).sent ≡ false
    → node_behind w p q ≡ p.node_next q
unsent_next w p q off =
    ap (λ b. if b then p.node_next q + set_len w (p.records.nodes q).last else p.node_next q) off

abbrev owner_by : ℕ → Bool → Owner
owner_by word leaf = record { word = word; leaf = leaf }

-- What memory has of a node that this run wrote is where its next set goes.
module _ (w : Opening) (st : State) (inv : Inv w st.whole) (q : ℕ) (ptr : Ptr) (leaf : Bool)
    (seq taken : ℕ) (g : Geometry) (divided : IsLayoutOf g w.layout) where
  abbrev n : Node
  n = st.whole.parts.records.nodes q

  abbrev at : Places
  at = st.whole.store.places

  abbrev owner : Owner
  owner = record { word = ptr_word ptr; leaf = leaf }

  same : at.records.nodes q ≡ n
  same = ap (λ (r : Records). r.nodes q) (sym inv.same)

  place : IsOwn w st q (node_share n) → HasSets w.layout (node_share n) seq taken
      → n.sent ≡ false → n.owner ≡ owner → at.node_next q ≡ ptr.offset + taken
  place own has off is =
      let next = sym (unsent_next w.layout at q (ap (λ (m : Node). m.sent) same ∙ off)) ∙ own.next in
      let begins = ap (λ (o : Owner). w.layout.begins o) is ∙ divided.begins owner
      ∙ ptr_begins ptr in
      let count = has.taken_is in
      omega (arith, next, begins, count)

  append : IsOwn w st q (node_share n) → HasSets w.layout (node_share n) seq taken
      → n.sent ≡ false → n.sets ≢ [] → n.owner ≡ owner → (set : NodeSet) (values : List Value)
      → set.seq ≡ seq → taken + set_len w.layout set ≤ w.layout.node_sectors
      → w.layout.sets.spelled owner values ≡ Some set → CanAppend w.layout at q set values
  append own has off some is set values number room spelled =
      let first = some_in n.sets some in
      let held = subst (λ l. In first.0 l) (sym (unsent_sets n off)) first.1 in
      let begins = ap (λ (o : Owner). w.layout.begins o) is ∙ divided.begins owner
      ∙ ptr_begins ptr in
      let next = place own has off is in
      let mine = ap (λ (m : Node). m.owner) same in (
        own.own,
        number ∙ sym (has.number first.0 held) ∙ own.number first.0 held,
        subst (λ (o : Owner). at.node_next q + set_len w.layout set ≤ node_end w.layout o) (sym mine)
            (omega (arith, next, begins, room)),
        ap (λ (o : Owner). w.layout.sets.spelled o values) (mine ∙ is) ∙ spelled,
      )

some_role : (r : Role) → IsInTree r → r ≢ NoNode
some_role NoNode tree none = tree
some_role Draft tree none = tree
some_role Free tree none = cc
some_role Leaving tree none = cc
some_role Coming tree none = tree

live_role : (r : Role) → IsInTree r → IsLive r
live_role NoNode tree = tree
live_role Draft tree = tree
live_role Free tree = tt
live_role Leaving tree = tt
live_role Coming tree = absurd tree

pub law_append : LawAppend
law_append x o is course g k leaf set values divided h off free due fits =
    let w = o.opening.machine in
    let st = (replay o x.log).machine in
    let p = st.whole.parts in
    let inv = inv_course o is.sound x.log course in
    let some = some_role (p.leaves k).role h.at.role in
    let live = live_role (p.leaves k).role h.at.role in
    let loaded = not_loaded (p.leaves k).loaded leaf.loaded h.loaded off in
    let own = (own_course o is.sound is.begun.read x.log course).leaves k some loaded in
    let still = (still_parts w st inv).leaves k live due in
    let q = (p.leaves k).bucket in
    let named = inv.fits.buckets.named k some
    ∙ ap (λ (n : ℕ). owner_by n true) h.at.word in record {
      can_write = (
        free,
        loaded,
        due.some,
        due.durable,
        fits.says,
        unfailed (node_of p k) still (h.whole off),
      );
      can_append = append w st inv q leaf.ptr true leaf.seq leaf.taken g divided own (h.own off)
          still (inv.fits.leaves.firm k live).1 named set values fits.seq fits.room
          (ap (λ (n : ℕ). w.layout.sets.spelled (owner_by n true) values) (sym h.at.word)
          ∙ fits.spelled);
      place = place w st inv q leaf.ptr true leaf.seq leaf.taken g divided own (h.own off) still
          named;
    }

pub law_append_parent : LawAppendParent
law_append_parent x o is course g k n set values divided h off other fits =
    let w = o.opening.machine in
    let st = (replay o x.log).machine in
    let p = st.whole.parts in
    let inv = inv_course o is.sound x.log course in
    let some = some_role (p.inner_nodes k).role h.role in
    let live = live_role (p.inner_nodes k).role h.role in
    let loaded = not_loaded (p.inner_nodes k).loaded n.loaded h.loaded off in
    let own = (own_course o is.sound is.begun.read x.log course).inner_nodes k some loaded in
    let still = (still_parts w st inv).inner_nodes k live other in
    let q = (p.inner_nodes k).bucket in
    let named = inv.fits.buckets.inner_named k some
    ∙ ap (λ (m : ℕ). owner_by m false) h.word in record {
      loaded = loaded;
      can_append = append w st inv q n.ptr false n.seq n.taken g divided own (h.own off)
          still (inv.fits.tree.inner k live).some named set values fits.seq fits.room
          (ap (λ (m : ℕ). w.layout.sets.spelled (owner_by m false) values) (sym h.word)
          ∙ fits.spelled);
      place = place w st inv q n.ptr false n.seq n.taken g divided own (h.own off) still named;
    }

-- ---- leaves that are rewritten

-- the keys of the sets that were written, with the one that no barrier followed
written_keys : (b : Bool) (last : NodeSet) (sets : List NodeSet)
    → set_keys (written_sets b last sets) ≡ (if b then last.keys else []) ++ set_keys sets
written_keys true last sets = refl
written_keys false last sets = refl

pub law_said : LawSaid
law_said x o is course k s leaf h low high =
    let p = (replay o x.log).machine.whole.parts in
    let inv = inv_course o is.sound x.log course in
    let l = p.leaves k in
    let n = node_of p k in
    let sent = keys_of (p.sent l.bucket) in
    let live = live_role l.role h.at.role in
    h.keys s low high
    ∙ ap ref_said (append_both (keys_of l.pending) (set_keys (written_sets n.sent n.last n.sets))
    (keys_of l.pending) (sent ++ set_keys n.sets) s refl
    (ap (λ ks. last_said ks s) (written_keys n.sent n.last n.sets)
    ∙ append_both (last_keys n) (set_keys n.sets) sent (set_keys n.sets) s
    ((inv.fits.leaves.node k live).last s) refl))

-- ---- buckets

nodes_event : (w : core.Opening) (st : core.State) (log : List Event) (i : ℕ) (d : Deed)
    → Follows w st log (record { seat = i; deed = d }) → AreNodes st.machine
    → AreNodes (core.after w st (record { seat = i; deed = d })).machine
nodes_event w st log i (deed.Install c come gone) on h =
    installed_nodes w.machine st.machine i c come.items gone.items on.enabled.course.0.asks.2
    on.names.1 h
nodes_event w st log i d on h =
    let e : Event = record { seat = i; deed = d } in
    shrunk st.machine (core.after w st e).machine
    (kept_run (λ act. installs act ≡ false) Shrinks shrinks w.machine st.machine i
    (acts_or_none (acts_of w.machine st.machine i d)) (no_install_row w.machine st.machine i d tt)
    (in_order w st e (acts_of w.machine st.machine i d) on.enabled)) h

first_nodes : (o : Origin) → IsSound o.opening.machine o.parts → AreNodes (replay o []).machine
first_nodes o sound = record {
  leaves = λ k tree. sound.leaves k (some_role (o.parts.leaves k).role tree);
  inner_nodes = λ x tree. sound.inner_nodes x (some_role (o.parts.inner_nodes x).role tree);
}

nodes_course : (o : Origin) → IsSound o.opening.machine o.parts → (es : List Event)
    → IsCourseOf o es → AreNodes (replay o es).machine
nodes_course o sound [] on = first_nodes o sound
nodes_course o sound (e ∷ es) on = nodes_event o.opening (replay o es) es e.seat e.deed on.0
    (nodes_course o sound es on.2)

pub law_nodes : LawNodes
law_nodes x o is course = nodes_course o is.sound x.log course

pub law_listed : LawListed
law_listed x o is course q p listed =
    let w = o.opening.machine in
    let st = (replay o x.log).machine in
    let at = at_course o is.sound x.log course in
    let inv = inv_course o is.sound x.log course in
    let order = order_at w o.parts st.whole is.sound at.at in
    places.vacant w st inv at.known is.sound.laid order q
    (λ n. subst places.IsNodeShelf listed
    (places.node_shelf w st inv at.known is.sound.laid order q n))

held_chain : (i : ℕ) (p : Purpose) → p ≢ Priorities → places.IsChainShelf (Held i p) → ⊥
held_chain i Priorities other h = other refl
held_chain i Moving other h = h
held_chain i Tree other h = h
held_chain i Plain other h = h

pub law_unnamed : LawUnnamed
law_unnamed x o is course q i p other held =
    let w = o.opening.machine in
    let st = (replay o x.log).machine in
    let at = at_course o is.sound x.log course in
    let inv = inv_course o is.sound x.log course in
    let order = order_at w o.parts st.whole is.sound at.at in
    places.no_chain w st inv at.known is.sound.laid order q
    (λ h. held_chain i p other (subst places.IsChainShelf held h))

-- ---- drafts

pub law_draft : LawDraft
law_draft w x n es e h off =
    let st = core.run w (core.start w x n) es in
    kept_at w.machine x h.sound (λ act. spine_act act ≡ false)
    (λ a b. StayDrafts a.whole.parts b.whole.parts) (drafts_kept w.machine x h.sound) st.machine
    e.seat (acts_or_none (acts_of w.machine st.machine e.seat e.deed))
    (at_state w x n es h.sound h.course) (spine_row w.machine st.machine e.seat e.deed off)
    (in_order w st e (acts_of w.machine st.machine e.seat e.deed) h.enabled)

pub law_barrier : LawBarrier
law_barrier w st i = settled_all st.machine.whole.parts

pub law_vacant : LawVacant
law_vacant w x n es e h off =
    let st = core.run w (core.start w x n) es in
    kept_at w.machine x h.sound (λ act. spine_act act ≡ false)
    (λ a b. StayVacant a.whole.parts b.whole.parts) (vacant_kept w.machine x h.sound) st.machine
    e.seat (acts_or_none (acts_of w.machine st.machine e.seat e.deed))
    (at_state w x n es h.sound h.course) (spine_row w.machine st.machine e.seat e.deed off)
    (in_order w st e (acts_of w.machine st.machine e.seat e.deed) h.enabled)

pub law_root : LawRoot
law_root = record {
  stay = λ w x n es e h off. let st = core.run w (core.start w x n) es in
      kept_at w.machine x h.sound (λ act. spine_act act ≡ false)
      (λ a b. StayNamed a.whole.parts b.whole.parts) (named_kept w.machine x h.sound) st.machine
      e.seat (acts_or_none (acts_of w.machine st.machine e.seat e.deed))
      (at_state w x n es h.sound h.course) (spine_row w.machine st.machine e.seat e.deed off)
      (in_order w st e (acts_of w.machine st.machine e.seat e.deed) h.enabled);
  comes = λ n root r h made. record { newest = h.newest made; sealed = h.sealed };
}

-- ---- installs

beyond_event : (w : core.Opening) (st : core.State) (log : List Event) (i : ℕ) (d : Deed)
    → Fits st.machine.whole.parts → Follows w st log (record { seat = i; deed = d })
    → Beyond st.machine → Beyond (core.after w st (record { seat = i; deed = d })).machine
beyond_event w st log i (deed.Install c come gone) fits on far =
    beyond_installed w.machine st.machine i c come.items gone.items fits on.names.0 far
beyond_event w st log i d fits on far =
    let e : Event = record { seat = i; deed = d } in
    beyond_kept st.machine (core.after w st e).machine
    (kept_run (λ act. installs act ≡ false) SameSlots slots_kept w.machine st.machine i
    (acts_or_none (acts_of w.machine st.machine i d)) (no_install_row w.machine st.machine i d tt)
    (in_order w st e (acts_of w.machine st.machine i d) on.enabled)) far

beyond_course : (o : Origin) → IsSound o.opening.machine o.parts → IsReadTree o → (es : List Event)
    → IsCourseOf o es → Beyond (replay o es).machine
beyond_course o sound read [] on = read.beyond
beyond_course o sound read (e ∷ es) on = beyond_event o.opening (replay o es) es e.seat e.deed
    (inv_course o sound es on.2).fits on.0 (beyond_course o sound read es on.2)

pub law_regroup : LawRegroup
law_regroup x o is course c whole =
    let st = (replay o x.log).machine in
    let inv = inv_course o is.sound x.log course in
    let order = order_at o.opening.machine o.parts st.whole is.sound
    (at_course o is.sound x.log course).at in
    regrouped st.whole.parts inv.fits st.whole.flow.books.index c whole order.counted.leaves
    (law_slots x o is course) (beyond_course o is.sound is.begun.read x.log course)

pub law_install : LawInstall
law_install x o is course i c come gone seat runs h =
    let st = replay o x.log in
    let inv = inv_course o is.sound x.log course in record {
      seat = seat;
      course = (
        install_enabled o.opening.machine st.machine i c come.items gone.items h inv.fits.buckets
            (law_nodes x o is course) (law_regroup x o is course c h.change) runs,
        tt,
      );
      fit = tt;
      its_line = tt;
      plain = λ on. absurd (let off = is.cached in cc);
    }
