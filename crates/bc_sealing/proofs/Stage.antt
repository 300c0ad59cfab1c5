-- How far a sealed entry's write has come, and what others leave of that.
use Rattle.std.proofs.Common.{inl, inr, ◌⊎◌, ◌≡◌, ℕ, Bool, true, false, List, [], ◌∷◌, take, Option, Some, None, refl, sym, ap, subst}
use Rattle.bc_model.specs.Sector.{Value}
use Rattle.bc_events.specs.Acts.{acts_of, failed}
use Rattle.bc_events.specs.Run as core
use Rattle.bc_events.specs.Run.{acts_or_none}
use Rattle.bc_events.specs.Writes.{draft_inner, draft_leaf, map_some, set_in, with_beginning, write_of}
use Rattle.bc_events.specs.declared.event.Deed.{Deed}
use Rattle.bc_events.specs.declared.event.Deed.TheVariants as deed
use Rattle.bc_events.specs.declared.event.Event.{Event}
use Rattle.bc_events.specs.declared.event.Failure.{Failure}
use Rattle.bc_events.specs.declared.event.Failure.TheVariants as failure
use Rattle.bc_events.specs.declared.event.Written.{Written}
use Rattle.bc_events.specs.declared.event.Written.TheVariants as written
use Rattle.bc_known.specs.Acts.{Act, CacheBarrier, FailCache, Install, State, WriteCache, after}
use Rattle.bc_known.specs.Acts as known
use Rattle.bc_known.specs.Run.{IsEnabled, IsRun}
use Rattle.bc_leaves.specs.After as parts_step
use Rattle.bc_leaves.specs.Events as parts_event
use Rattle.bc_leaves.specs.Parts as parts
use Rattle.bc_leaves.specs.Parts.{inner_owner, leaf_owner}
use Rattle.bc_meta.specs.Records.{Fixed, Nothing, Ready, Safe, Sent, Stage, after_barrier}
use Rattle.bc_shares.specs.Touched.{touches_journal}
use Rattle.bc_shares.proofs.Acts.{AllActs, IsKept, journal_act, kept_run, released_parts}
use Rattle.bc_shares.proofs.Law.{in_order}
use Rattle.bc_shares.proofs.Rows.{IsCalm, Off, calm_failed, calm_row, journal_row}
use Rattle.bc_whole.specs.State.{OfData, OfEntry, OfInner, OfLeaf, OfParent, OfPriorities, OfSet, Opening, Outside, Write}
use Rattle.bc_sealing.specs.Laws.{IsUnwritten, IsWritten, LawStage, stage_in, writes_entry}

abbrev stage_of : State → Stage
stage_of st = st.whole.parts.records.stage

-- ---- acts

abbrev entry_act : Act → Bool
entry_act (WriteCache OfEntry values) = true
entry_act act = false

-- the stage is as it was, or as a barrier leaves it
abbrev Settles : Stage → Stage → Type 0
Settles a b = (b ≡ a) ⊎ (b ≡ after_barrier a)

written_same : (w : Opening) (st : State) (i : ℕ) (x : Write) (values : List Value)
    → entry_act (WriteCache x values) ≡ false
    → stage_of (after w st i (WriteCache x values)) ≡ stage_of st
written_same w st i OfEntry values off = absurd (cc)
written_same w st i (OfData q place) values off = refl
written_same w st i (OfSet slot set) values off = refl
written_same w st i (OfParent slot set) values off = refl
written_same w st i (OfLeaf slot leaf set) values off = refl
written_same w st i (OfInner slot inner set) values off = refl
written_same w st i (OfPriorities q part set) values off = refl
written_same w st i (Outside place) values off = refl

failed_same : (w : Opening) (st : State) (i : ℕ) (x : Write) (values : List Value)
    → stage_of (after w st i (FailCache x values)) ≡ stage_of st
failed_same w st i OfEntry values = refl
failed_same w st i (OfData q place) values = refl
failed_same w st i (OfSet slot set) values = refl
failed_same w st i (OfParent slot set) values = refl
failed_same w st i (OfLeaf slot leaf set) values = refl
failed_same w st i (OfInner slot inner set) values = refl
failed_same w st i (OfPriorities q part set) values = refl
failed_same w st i (Outside place) values = refl

settles : (w : Opening) (st : State) (i : ℕ) (act : Act) → journal_act act ≡ false
    → entry_act act ≡ false → Settles (stage_of st) (stage_of (after w st i act))
settles w st i (known.Keyed act slot keys) off other = absurd (cc)
settles w st i (known.Seal last_seq rest root chain) off other = absurd (cc)
settles w st i known.MakeDurable off other = absurd (cc)
settles w st i (known.BeginBucket b) off other = absurd (cc)
settles w st i (WriteCache x values) off other = inl (written_same w st i x values other)
settles w st i (FailCache x values) off other = inl (failed_same w st i x values)
settles w st i CacheBarrier off other = inr refl
settles w st i (Install un steps) off other = inl
    (ap (λ (p : parts.State). p.records.stage)
    (released_parts (parts_step.after st.whole.parts (parts_event.Install un)) steps))
settles w st i act off other = inl refl

asked : (w : Opening) (st : State) (i : ℕ) (act : Act) → entry_act act ≡ true
    → IsEnabled w st i act → stage_of st ≡ Ready
asked w st i (WriteCache OfEntry values) is on = on.asks.0
asked w st i act is on = absurd (cc)

-- what a barrier keeps
barrier_written : (a : Stage) → IsWritten a → IsWritten (after_barrier a)
barrier_written Nothing k = k
barrier_written Fixed k = absurd k
barrier_written Ready k = k
barrier_written Sent k = tt
barrier_written Safe k = k

barrier_unwritten : (a : Stage) → IsUnwritten a → IsUnwritten (after_barrier a)
barrier_unwritten Nothing k = k
barrier_unwritten Fixed k = tt
barrier_unwritten Ready k = k
barrier_unwritten Sent k = absurd k
barrier_unwritten Safe k = k

-- a property of the stage that a barrier keeps
kept_by : (P : Stage → Type 0) → ((a : Stage) → P a → P (after_barrier a)) → (a b : Stage)
    → Settles a b → P a → P b
kept_by P barrier a b (inl is) k = subst P (sym is) k
kept_by P barrier a b (inr is) k = subst P (sym is) (barrier a k)

abbrev Keeps : (Stage → Type 0) → State → State → Type 0
Keeps P a b = P (stage_of a) → P (stage_of b)

module _ (P : Stage → Type 0) (barrier : (a : Stage) → P a → P (after_barrier a)) where
  -- where the entry isn't written
  one_other : (w : Opening) (st : State) (i : ℕ) (act : Act)
      → (journal_act act ≡ false) × (entry_act act ≡ false) → IsEnabled w st i act
      → Keeps P st (after w st i act)
  one_other w st i act off on = kept_by P barrier (stage_of st) (stage_of (after w st i act))
      (settles w st i act off.0 off.1)

  others : IsKept (λ act. (journal_act act ≡ false) × (entry_act act ≡ false)) (Keeps P)
  others = record { same = λ a k. k; both = λ a b c x y k. y (x k); one = one_other }

  -- an entry is written where it is ready, so a written one isn't written again
  module _ (none : (a : Stage) → a ≡ Ready → P a → ⊥) where
    one_act : (w : Opening) (st : State) (i : ℕ) (act : Act) → journal_act act ≡ false
        → IsEnabled w st i act → Keeps P st (after w st i act)
    one_act w st i act off on k = go (entry_act act) refl
      where
        go : (b : Bool) → entry_act act ≡ b → P (stage_of (after w st i act))
        go false other = one_other w st i act (off, other) on k
        go true is = absurd (none (stage_of st) (asked w st i act is on) k)

    all_acts : IsKept (λ act. journal_act act ≡ false) (Keeps P)
    all_acts = record { same = λ a k. k; both = λ a b c x y k. y (x k); one = one_act }

-- ---- rows

entry_calm : IsCalm entry_act
entry_calm = record {
  alone = λ act. refl;
  take = λ p b. refl;
  let_go = λ b room. refl;
  ready = λ room. refl;
  barrier = refl;
}

with_begun : (st : State) (what : Written) (act : Act) → entry_act act ≡ false
    → Off entry_act (with_beginning st what (act ∷ []))
with_begun st (written.Parent inner change) act off = (refl, (off, tt))
with_begun st what act off = (off, tt)

-- each write that it may be
written_by : (st : State) (what : Written) (act : Write → Act) (o : Option Write)
    → ((x : Write) → o ≡ Some x → entry_act (act x) ≡ false)
    → Off entry_act (acts_or_none (map_some (λ x. with_beginning st what (act x ∷ [])) o))
written_by st what act None off = tt
written_by st what act (Some x) off = with_begun st what (act x) (off x refl)

abbrev entry_write : Write → Bool
entry_write OfEntry = true
entry_write x = false

entry_off : (x : Write) (values : List Value) → entry_write x ≡ false
    → entry_act (WriteCache x values) ≡ false
entry_off OfEntry values off = absurd (cc)
entry_off x values off = refl

given : {A : Type 0} (a b : A) → Some a ≡ Some b → a ≡ b
given a b is = cc

mapped : {A : Type 0} (g : A → Write) (o : Option A) (x : Write)
    → ((a : A) → entry_write (g a) ≡ false) → map_some g o ≡ Some x → entry_write x ≡ false
mapped g None x all is = absurd (cc)
mapped g (Some a) x all is = subst (λ y. entry_write y ≡ false) (given (g a) x is) (all a)

no_entry : (w : Opening) (st : State) (what : Written) (at : ℕ) (values : List Value) (x : Write)
    → writes_entry (deed.CacheWrite at what values) ≡ false
    → write_of w st what at values ≡ Some x → entry_write x ≡ false
no_entry w st written.Entry at values x off is = absurd (cc)
no_entry w st written.Data at values x off is = subst (λ y. entry_write y ≡ false)
    (given (OfData (w.flow.books.bucket at) at) x is) refl
no_entry w st (written.Set leaf) at values x off is = mapped (OfSet leaf)
    (set_in w (leaf_owner (st.whole.parts.leaves leaf)) values) x (λ set. refl) is
no_entry w st (written.Parent inner change) at values x off is = mapped (OfParent inner)
    (set_in w (inner_owner (st.whole.parts.inner_nodes inner)) values) x (λ set. refl) is
no_entry w st (written.Leaf n) at values x off is = mapped (OfLeaf n.slot (draft_leaf n))
    (set_in w (leaf_owner (draft_leaf n)) (take n.sectors values)) x (λ set. refl) is
no_entry w st (written.Inner n) at values x off is = mapped (OfInner n.slot (draft_inner n))
    (set_in w (inner_owner (draft_inner n)) (take n.sectors values)) x (λ set. refl) is
no_entry w st (written.Priorities bucket part) at values x off is =
    mapped (OfPriorities bucket part) (w.layout.prios.spelled part values) x (λ set. refl) is

entry_failed : (w : Opening) (st : State) (x : Failure)
    → Off entry_act (acts_or_none (failed w st x))
entry_failed w st (failure.CacheWrite at what values) = written_by st what
    (λ x. FailCache x values) (write_of w st what at values) (λ x is. refl)
entry_failed w st x = calm_failed entry_act entry_calm w st x tt

entry_row : (w : Opening) (st : State) (i : ℕ) (d : Deed) → touches_journal d ≡ false
    → writes_entry d ≡ false → Off entry_act (acts_or_none (acts_of w st i d))
entry_row w st i (deed.InsertWrite leaf keys of first values) off other = absurd (cc)
entry_row w st i (deed.Insert leaf keys form) off other = absurd (cc)
entry_row w st i (deed.Settle leaf candidate keys) off other = absurd (cc)
entry_row w st i (deed.Seal last_seq bucket rest new_root chain) off other = absurd (cc)
entry_row w st i deed.Sealed off other = absurd (cc)
entry_row w st i (deed.Install change come gone) off other = (refl, tt)
entry_row w st i (deed.CacheWrite at what values) off other = written_by st what
    (λ x. WriteCache x values) (write_of w st what at values)
    (λ x is. entry_off x values (no_entry w st what at values x other is))
entry_row w st i (deed.DeviceFault x) off other = entry_failed w st x
entry_row w st i d off other = calm_row entry_act entry_calm w st i d tt

both_off : (f g : Act → Bool) (acts : List Act) → Off f acts → Off g acts
    → AllActs (λ act. (f act ≡ false) × (g act ≡ false)) acts
both_off f g [] a b = tt
both_off f g (act ∷ acts) a b = ((a.0, b.0), both_off f g acts a.1 b.1)

-- ---- events

abbrev done : core.Opening → core.State → Event → List Act
done w st e = acts_or_none (acts_of w.machine st.machine e.seat e.deed)

course : (w : core.Opening) (st : core.State) (e : Event) → core.IsEnabled w st e
    → IsRun w.machine st.machine (core.by e.seat (done w st e))
course w st e on = in_order w st e (acts_of w.machine st.machine e.seat e.deed) on

module _ (P : Stage → Type 0) (barrier : (a : Stage) → P a → P (after_barrier a)) where
  by_others : (w : core.Opening) (st : core.State) (e : Event) → core.IsEnabled w st e
      → touches_journal e.deed ≡ false → writes_entry e.deed ≡ false
      → P (stage_in st) → P (stage_in (core.after w st e))
  by_others w st e on off other = kept_run
      (λ act. (journal_act act ≡ false) × (entry_act act ≡ false)) (Keeps P) (others P barrier)
      w.machine st.machine e.seat (done w st e)
      (both_off journal_act entry_act (done w st e)
      (journal_row w.machine st.machine e.seat e.deed off)
      (entry_row w.machine st.machine e.seat e.deed off other)) (course w st e on)

  by_all : ((a : Stage) → a ≡ Ready → P a → ⊥) → (w : core.Opening) (st : core.State) (e : Event)
      → core.IsEnabled w st e → touches_journal e.deed ≡ false
      → P (stage_in st) → P (stage_in (core.after w st e))
  by_all none w st e on off = kept_run (λ act. journal_act act ≡ false) (Keeps P)
      (all_acts P barrier none) w.machine st.machine e.seat (done w st e)
      (journal_row w.machine st.machine e.seat e.deed off) (course w st e on)

not_written : (a : Stage) → a ≡ Ready → IsWritten a → ⊥
not_written a is k = subst IsWritten is k

not_safe : (a : Stage) → a ≡ Ready → a ≡ Safe → ⊥
not_safe a ready safe = cc

pub law_stage : LawStage
law_stage = record {
  written = by_all IsWritten barrier_written not_written;
  safe = by_all (λ a. a ≡ Safe) (λ a is. ap after_barrier is) not_safe;
  unwritten = by_others IsUnwritten barrier_unwritten;
  ready = by_others (λ a. a ≡ Ready) (λ a is. ap after_barrier is);
}
