-- The laws on what a leaf tells of the index.
use Rattle.std.proofs.Common.{◌≡◌, ◌⊎◌, inl, inr, ℕ, Bool, true, false, List, [], ◌∷◌, ◌++◌, refl, sym, ap, ◌∙◌, subst, arith}
use Rattle.bc_books.specs.Books.{Books, Setup}
use Rattle.bc_books.specs.Invariant.{IsInOrder}
use Rattle.bc_books.specs.Shelves.{Fresh, Spent}
use Rattle.bc_data.specs.After as flow_step
use Rattle.bc_data.specs.Data as flow
use Rattle.bc_leaves.specs.Parts.{Role, NoNode, Draft, Free, Leaving, Coming, Leaf, InRange, IsLive}
use Rattle.bc_leaves.specs.Parts as parts
use Rattle.bc_leaves.specs.Events as parts_event
use Rattle.bc_leaves.specs.After as parts_step
use Rattle.bc_leaves.specs.Fits.{Fits, Partners}
use Rattle.bc_leaves.proofs.Chains.{has_in, in_has}
use Rattle.bc_whole.proofs.Kept.{Inv}
use Rattle.bc_known.specs.Laws.{IsSound}
use Rattle.bc_known.proofs.Law.{At, inv_at, order_at}
use Rattle.bc_events.specs.Acts.{acts_of}
use Rattle.bc_events.specs.Changes.{buckets_gone, leaf_among, regroup, made, dropped, with}
use Rattle.bc_events.specs.Run.{Opening, State, acts_or_none, IsEnabled, after}
use Rattle.bc_events.specs.declared.event.Change.{Change}
use Rattle.bc_events.specs.declared.event.Deed.{Deed}
use Rattle.bc_events.specs.declared.event.Deed.TheVariants as deed
use Rattle.bc_events.specs.declared.event.Event.{Event}
use Rattle.bc_shares.specs.Shares.{books_of}
use Rattle.bc_shares.specs.Touched.{NamesChange}
use Rattle.bc_shares.proofs.Acts.{kept_run, released_parts}
use Rattle.bc_shares.proofs.Law.{in_order, at_state}
use Rattle.bc_shares.proofs.Rows.{IsNoInstall, installs, no_install_row}
use Rattle.bc_machine.specs.Containers.{IsInTree}
use Rattle.bc_machine.specs.World.{Origin, IsCourseOf, Follows, AreInSlots, replay}
use Rattle.bc_machine.specs.Standing.{oldest_first, replay_is, replay_runs}
use Rattle.bc_looks.specs.Looks.{LawSlots, LawKeys, LawAges, LawLive, OfLeaves}
use Rattle.bc_looks.proofs.Keys.{leaf_says}
use Rattle.bc_looks.proofs.Slots.{AllButOne, Shrinks, shrinks, made_slots, stays_in, comes_in}

-- a state of a course is one of the machine's
at_course : (o : Origin) → IsSound o.opening.machine o.parts → (es : List Event) → IsCourseOf o es
    → At o.opening.machine o.parts (replay o es).machine
at_course o sound es on = subst (λ (st : State). At o.opening.machine o.parts st.machine)
    (sym (replay_is o es))
    (at_state o.opening o.parts o.next_seq (oldest_first es) sound (replay_runs o es on))

inv_course : (o : Origin) → IsSound o.opening.machine o.parts → (es : List Event) → IsCourseOf o es
    → Inv o.opening.machine (replay o es).machine.whole
inv_course o sound es on = inv_at o.opening.machine o.parts (replay o es).machine.whole sound
    (at_course o sound es on).at

pub law_keys : LawKeys
law_keys x o is course k s tree within = leaf_says o.opening.machine (replay o x.log).machine.whole
    (inv_course o is.sound x.log course) k s tree within

pub law_ages : LawAges
law_ages x o is course s r at =
    let st = (replay o x.log).machine.whole in
    let w = o.opening.machine in
    let order = order_at w o.parts st is.sound (at_course o is.sound x.log course).at in
    let low = order.counted.durable in
    let high = order.counted.sealed in
    let key = order.known.keys st.flow.books.index.count s (omega arith) r at in
    let b = w.flow.books.bucket r.place in
    let a1 = key.durable in
    let a2 = order.dated.sealed b in
    let a3 = order.dated.version b in
    let b1 = key.oldest in
    let b2 = order.dated.window b in
    record { past = omega arith; near = omega arith }

-- what is written to is no bucket of superblock, journal or uuid table
not_fixed : (w : Setup) (k : Books) → IsInOrder w k → (t : ℕ) → k.owner t ≡ Spent
    → w.fixed (w.bucket t) ≡ false
not_fixed w k order t spent = go (w.fixed (w.bucket t)) refl
  where
    go : (b : Bool) → w.fixed (w.bucket t) ≡ b → b ≡ false
    go false is = refl
    go true is = absurd (let fresh = order.marked.fresh (w.bucket t) (inl is) t refl in
        let same : Fresh ≡ Spent = sym fresh ∙ spent in cc)

pub law_live : LawLive
law_live x o is course s r at =
    let st = (replay o x.log).machine.whole in
    let w = o.opening.machine in
    let order = order_at w o.parts st is.sound (at_course o is.sound x.log course).at in
    let low = order.counted.durable in
    let high = order.counted.sealed in
    let key = order.known.keys st.flow.books.index.count s (omega arith) r at in
    let b = w.flow.books.bucket r.place in record {
      dirty = key.live;
      inside = λ same. (is.sound.laid.area b
          (not_fixed w.flow.books st.flow.books order r.place (key.spent same))).1;
    }

-- ---- slots

abbrev HasSlots : State → Type 0
HasSlots = OfLeaves (λ st k s. (books_of st.machine).index.leaf s ≡ k)

-- what installs nothing leaves each leaf and each sector where they were
shrunk : (w : Opening) (st : State) (e : Event) → IsEnabled w st e → IsNoInstall e.deed
    → Shrinks st.machine (after w st e).machine
shrunk w st e on none = kept_run (λ act. installs act ≡ false) Shrinks shrinks w.machine st.machine
    e.seat (acts_or_none (acts_of w.machine st.machine e.seat e.deed))
    (no_install_row w.machine st.machine e.seat e.deed none)
    (in_order w st e (acts_of w.machine st.machine e.seat e.deed) on)

slots_shrunk : (a b : State) → Shrinks a.machine b.machine → HasSlots a → HasSlots b
slots_shrunk a b h slots k s tree within =
    let old = h.leaves k tree in
    let low = within.0 in
    let high = within.1 in
    let first = old.first in
    let end = old.end in
    h.slots s ∙ slots k s old.tree (omega arith, omega arith)

-- leaves that stay or come don't overlap
no_partners : (a b : Role) → a ≡ Coming → (b ≡ Free) ⊎ (b ≡ Coming) → Partners a b → ⊥
no_partners a b is (inl free) p =
    subst (λ (x : Role). Partners Coming x) free (subst (λ (x : Role). Partners x b) is p)
no_partners a b is (inr coming) p =
    subst (λ (x : Role). Partners Coming x) coming (subst (λ (x : Role). Partners x b) is p)

live_after : (r : Role) → (r ≡ Free) ⊎ (r ≡ Coming) → IsLive r
live_after r (inl is) = subst IsLive (sym is) tt
live_after r (inr is) = subst IsLive (sym is) tt

-- which leaves the tree has behind an install
after_install : (r : Role) → IsInTree (parts_step.installed r) → (r ≡ Free) ⊎ (r ≡ Coming)
after_install NoNode h = absurd h
after_install Draft h = absurd h
after_install Free h = inl refl
after_install Leaving h = absurd h
after_install Coming h = inr refl

free_tree : (r : Role) → r ≡ Free → IsInTree r
free_tree r is = subst IsInTree (sym is) tt

module _ (p : parts.State) (fits : Fits p) (c : Change) (names : NamesChange p c) (k s : ℕ)
    (within : InRange (p.leaves k) s) where
  no_other : ((p.leaves k).role ≡ Free) ⊎ ((p.leaves k).role ≡ Coming)
      → AllButOne p.leaves k s c.come.items
  no_other how i m here =
      let comes = names.only i (has_in c.come.items i m) in
      elim (fits.leaves.apart i k s (live_after (p.leaves i).role (inr comes))
      (live_after (p.leaves k).role how) here within) [
        | inl is ↦ is
        | inr both ↦ absurd (no_partners (p.leaves i).role (p.leaves k).role comes how both)
      ]

  new_slot : (old : ℕ) → ((p.leaves k).role ≡ Free → old ≡ k)
      → ((p.leaves k).role ≡ Free) ⊎ ((p.leaves k).role ≡ Coming)
      → leaf_among p.leaves c.come.items old s ≡ k
  new_slot old stays (inl free) =
      stays_in p.leaves k s c.come.items old (no_other (inl free)) (stays free)
  new_slot old stays (inr comes) = comes_in p.leaves k s c.come.items old (no_other (inr comes))
      (in_has c.come.items k (names.come k comes)) within

slots_installed : (w : Opening) (st : State) (i : ℕ) (c : Change) (come gone : _)
    → Fits st.machine.whole.parts → NamesChange st.machine.whole.parts c → HasSlots st
    → HasSlots (after w st (record { seat = i; deed = deed.Install c come gone }))
slots_installed w st i c come gone fits names slots k s tree within =
    let p = st.machine.whole.parts in
    let un = with p.records.unused (buckets_gone p c) in
    let f = st.machine.whole.flow in
    let steps = regroup f.books.index p.leaves c ∷ (made i come.items ++ dropped gone.items) in
    let same = released_parts (parts_step.after p (parts_event.Install un)) steps in
    let role = subst (λ (q : parts.State). IsInTree (q.leaves k).role) same tree in
    let range = subst (λ (q : parts.State). InRange (q.leaves k) s) same within in
    ap (λ (g : ℕ → ℕ). g s) (made_slots w.machine
    (flow_step.after w.machine.flow f i (flow.Shelve (regroup f.books.index p.leaves c))) i come.items
    gone.items)
    ∙ new_slot p fits c names k s range (f.books.index.leaf s)
    (λ free. slots k s (free_tree (p.leaves k).role free) range)
    (after_install (p.leaves k).role role)

slot_event : (w : Opening) (st : State) (log : List Event) (i : ℕ) (d : Deed)
    → Fits st.machine.whole.parts → Follows w st log (record { seat = i; deed = d }) → HasSlots st
    → HasSlots (after w st (record { seat = i; deed = d }))
slot_event w st log i (deed.Install c come gone) fits on slots =
    slots_installed w st i c come gone fits on.names.0 slots
slot_event w st log i d fits on slots = slots_shrunk st (after w st (record { seat = i; deed = d }))
    (shrunk w st (record { seat = i; deed = d }) on.enabled tt) slots

slots_in : (o : Origin) → IsSound o.opening.machine o.parts → AreInSlots o.opening o.parts
    → (es : List Event) → IsCourseOf o es → HasSlots (replay o es)
slots_in o sound first [] on = first
slots_in o sound first (e ∷ es) on = slot_event o.opening (replay o es) es e.seat e.deed
    (inv_course o sound es on.2).fits on.0 (slots_in o sound first es on.2)

pub law_slots : LawSlots
law_slots x o is course = slots_in o is.sound is.slots x.log course
