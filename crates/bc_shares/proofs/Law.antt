-- The laws on shares.
use Rattle.std.proofs.Common.{◌≡◌, ◌≢◌, ℕ, Bool, true, false, List, ◌∷◌, ◌++◌, Option, Some, None, sym, subst}
use Rattle.bc_leaves.specs.Parts.{NoNode}
use Rattle.bc_leaves.specs.Parts as parts
use Rattle.bc_leaves.specs.After.{has}
use Rattle.bc_known.specs.Acts.{Act}
use Rattle.bc_known.specs.Acts as known
use Rattle.bc_known.specs.Laws.{IsSound}
use Rattle.bc_known.specs.Run as machine
use Rattle.bc_known.proofs.Law.{At, at_end}
use Rattle.bc_events.specs.Acts.{acts_of}
use Rattle.bc_events.specs.Changes.{with, buckets_gone, regroup, made, dropped}
use Rattle.bc_events.specs.Run.{Opening, State, start, by, IsSome, CanDo, acts_or_none, IsEnabled, IsRun, after, run, machine_events}
use Rattle.bc_events.specs.declared.event.Deed.{Deed}
use Rattle.bc_events.specs.declared.event.Deed.TheVariants as deed
use Rattle.bc_events.specs.declared.event.Event.{Event}
use Rattle.bc_events.proofs.Machine.{law_machine}
use Rattle.bc_shares.specs.Shares.{journal_share, SameBuckets, books_of, leaf_share, SameSpine}
use Rattle.bc_shares.specs.Touched.{touches_leaf, NamesItsChange}
use Rattle.bc_shares.specs.Laws.{LawJournal, LawBuckets, Happens, LawSpine, LawSlot, LawLeaf}
use Rattle.bc_shares.proofs.Acts.{AllActs, IsKept, kept_run, journal_act, journal_kept, buckets_act, buckets_kept}
use Rattle.bc_shares.proofs.Parts.{IsKeptAt, kept_at, not_either, leaf_act, SameLeaf, leaf_kept, install_leaf, SameSlot, slot_kept, install_slot, spine_act, spine_kept}
use Rattle.bc_shares.proofs.Rows.{journal_row, buckets_row, leaf_row, spine_row}

pub in_order : (w : Opening) (st : State) (e : Event) (o : Option (List Act)) → IsSome o (CanDo w st e)
    → machine.IsRun w.machine st.machine (by e.seat (acts_or_none o))
in_order w st e None on = absurd on
in_order w st e (Some acts) on = on.course

-- what the acts of a deed keep, the deed keeps
frame : (P : Act → Type 0) (R : known.State → known.State → Type 0) → IsKept P R → (w : Opening)
    (st : State) (e : Event) → IsEnabled w st e
    → AllActs P (acts_or_none (acts_of w.machine st.machine e.seat e.deed))
    → R st.machine (after w st e).machine
frame P R k w st e on all = kept_run P R k w.machine st.machine e.seat
    (acts_or_none (acts_of w.machine st.machine e.seat e.deed)) all
    (in_order w st e (acts_of w.machine st.machine e.seat e.deed) on)

pub law_journal : LawJournal
law_journal w st e on off = frame (λ act. journal_act act ≡ false)
    (λ a b. journal_share b ≡ journal_share a) journal_kept w st e on
    (journal_row w.machine st.machine e.seat e.deed off)

pub law_buckets : LawBuckets
law_buckets w st e on off = frame (λ act. buckets_act act ≡ false)
    (λ a b. SameBuckets (books_of a) (books_of b)) buckets_kept w st e on
    (buckets_row w.machine st.machine e.seat e.deed off)

-- ---- in states of a run

-- the state after a run of events is one of the machine's
pub at_state : (w : Opening) (x : parts.State) (n : ℕ) (es : List Event) → IsSound w.machine x
    → IsRun w (start w x n) es → At w.machine x (run w (start w x n) es).machine
at_state w x n es sound on =
    let m = law_machine w (start w x n) es on in
    subst (λ (y : known.State). At w.machine x y) (sym m.last)
    (at_end w.machine x n (machine_events w (start w x n) es) sound m.course)

frame_at : (w : Opening) (x : parts.State) (n : ℕ) (es : List Event) (e : Event)
    → Happens w x n es e → (P : Act → Type 0) (R : known.State → known.State → Type 0)
    → IsKeptAt w.machine x P R → let st = run w (start w x n) es in
    AllActs P (acts_or_none (acts_of w.machine st.machine e.seat e.deed))
    → R st.machine (after w st e).machine
frame_at w x n es e h P R k all =
    let st = run w (start w x n) es in
    kept_at w.machine x h.sound P R k st.machine e.seat
    (acts_or_none (acts_of w.machine st.machine e.seat e.deed)) (at_state w x n es h.sound h.course)
    all (in_order w st e (acts_of w.machine st.machine e.seat e.deed) h.enabled)

pub law_spine : LawSpine
law_spine w x n es e h off =
    let st = run w (start w x n) es in
    frame_at w x n es e h (λ act. spine_act act ≡ false) SameSpine (spine_kept w.machine x h.sound)
    (spine_row w.machine st.machine e.seat e.deed off)

true_false : (b : Bool) → b ≡ true → b ≡ false → ⊥
true_false b x y = cc

leaf_by : (w : Opening) (x : parts.State) (n : ℕ) (es : List Event) (seat : ℕ) (d : Deed)
    → Happens w x n es (record { seat = seat; deed = d }) → (k : ℕ) → touches_leaf k d ≡ false
    → let st = run w (start w x n) es in
    NamesItsChange st.machine.whole.parts d → (st.machine.whole.parts.leaves k).role ≢ NoNode
    → leaf_share (after w st (record { seat = seat; deed = d })).machine.whole.parts k
    ≡ leaf_share st.machine.whole.parts k
-- an install that names its change leaves each leaf that it doesn't name
leaf_by w x n es seat (deed.Install c come gone) h k off names some =
    let st = (run w (start w x n) es).machine in
    let none = not_either (has c.gone.items k) (has c.come.items k) off in
    install_leaf w.machine st seat k
    (with st.whole.parts.records.unused (buckets_gone st.whole.parts c))
    (regroup st.whole.flow.books.index st.whole.parts.leaves c
    ∷ (made seat come.items ++ dropped gone.items))
    (λ is. true_false (has c.gone.items k) (names.gone k is) none.0)
    (λ is. true_false (has c.come.items k) (names.come k is) none.1)
leaf_by w x n es seat d h k off names some =
    let st = run w (start w x n) es in
    frame_at w x n es (record { seat = seat; deed = d }) h (λ act. leaf_act k act ≡ false)
    (SameLeaf k) (leaf_kept w.machine x h.sound k) (leaf_row k w.machine st.machine seat d tt off)
    some

pub law_slot : LawSlot
law_slot w st e on k off names = go e.seat e.deed on off names
  where
    go : (seat : ℕ) (d : Deed) → IsEnabled w st (record { seat = seat; deed = d })
        → touches_leaf k d ≡ false → NamesItsChange st.machine.whole.parts d
        → SameSlot k st.machine (after w st (record { seat = seat; deed = d })).machine
    go seat (deed.Install c come gone) on off names =
        let none = not_either (has c.gone.items k) (has c.come.items k) off in
        install_slot w.machine st.machine seat k
        (with st.machine.whole.parts.records.unused (buckets_gone st.machine.whole.parts c))
        (regroup st.machine.whole.flow.books.index st.machine.whole.parts.leaves c
        ∷ (made seat come.items ++ dropped gone.items))
        (λ is. true_false (has c.gone.items k) (names.gone k is) none.0)
        (λ is. true_false (has c.come.items k) (names.come k is) none.1)
    go seat d on off names = frame (λ act. leaf_act k act ≡ false) (SameSlot k) (slot_kept k) w st
        (record { seat = seat; deed = d }) on
        (leaf_row k w.machine st.machine seat d tt off)

pub law_leaf : LawLeaf
law_leaf w x n es e h k off names some = leaf_by w x n es e.seat e.deed h k off names some
