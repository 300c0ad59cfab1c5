-- The history of a run's state is what its events put there, each entry by the worker of its line.
use Rattle.std.proofs.Common.{◌≡◌, ℕ, Bool, true, false, List, [], ◌∷◌, ◌++◌, reverse, Option, Some, None, refl, sym, ap, ◌∙◌, append_assoc}
use Rattle.std.specs.Prelude.{option_to_list}
use Rattle.std.proofs.lemmas.List.{reverse-append}
use Rattle.bc_model.specs.Sector.{Value}
use Rattle.bc_model.specs.declared.history.Entry.{Entry}
use Rattle.bc_model.specs.declared.history.Entry.TheVariants as entry
use Rattle.bc_data.specs.Data as flow
use Rattle.bc_data.specs.After as flow_step
use Rattle.bc_whole.specs.State as whole
use Rattle.bc_known.specs.Acts as known
use Rattle.bc_known.specs.Acts.{Act, FailCache}
use Rattle.bc_known.specs.Run as machine
use Rattle.bc_known.specs.Workers.{all_renamed}
use Rattle.bc_events.specs.Acts.{acts_of, claimed, is_exclusive}
use Rattle.bc_events.specs.Writes.{map_some, with_beginning, write_of}
use Rattle.bc_events.specs.Run as core
use Rattle.bc_events.specs.Run.{acts_or_none, IsOf, line_of, IsSome, CanDo, history_of}
use Rattle.bc_events.specs.Columns.{entry_by, entries_of}
use Rattle.bc_events.specs.declared.event.Written.{Written}
use Rattle.bc_events.specs.declared.event.Written.TheVariants as written
use Rattle.bc_events.specs.declared.event.Failure.TheVariants as failure
use Rattle.bc_events.specs.declared.event.Deed.{Deed}
use Rattle.bc_events.specs.declared.event.Deed.TheVariants as deed
use Rattle.bc_events.specs.declared.event.Event.{Event}
use Rattle.bc_hand.specs.bc_machine.Frame.{Notes, touches, Keeps, in_acts, is_noted, rows}

-- ---- by seats

-- the entry of a deed, with the seat's number
abbrev by_seat : ℕ → Deed → Option Entry
by_seat i (deed.BackingWrite first (Some of) values) = Some (entry.Write i of.line first values)
by_seat i (deed.InsertWrite leaf keys of first values) = Some (entry.Write i of.line first values)
by_seat i (deed.Answer of first values) = Some (entry.Read i of.line first values)
by_seat i (deed.FlushFrom of) = Some (entry.FlushFrom i of.line)
by_seat i (deed.FlushDone of) = Some (entry.FlushDone i of.line)
by_seat i (deed.Durable of first count) = Some (entry.Durable i of.line first count)
by_seat i (deed.DeviceFault (failure.BackingWrite first (Some of) values)) =
    Some (entry.Tried first values)
by_seat i d = None

-- an act that no seat notes anything by puts nothing there
still : (i : ℕ) (H : List Entry) (act : flow.Act) → touches act Notes ≡ false
    → flow_step.history_after i H act ≡ H
still i H (flow.BackingWrite route first values) off = absurd (cc)
still i H (flow.InsertWrite line leaf keys first values) off = absurd (cc)
still i H (flow.Say speech) off = absurd (cc)
still i H (flow.Fail (flow.CacheFault payload place values)) off = absurd (cc)
still i H (flow.Fail (flow.BackingFault route first values)) off = absurd (cc)
still i H (flow.Fail flow.BarrierFault) off = absurd (cc)
still i H (flow.Fail flow.ReadFault) off = absurd (cc)
still i H act off = refl

abbrev IsUnnoted : flow.Act → Type 0
IsUnnoted act = touches act Notes ≡ false

stills : (i : ℕ) → Keeps IsUnnoted i (λ a b. b.history ≡ a.history)
stills i = record {
  same = λ a. refl;
  both = λ a b d x y. y ∙ x;
  one = λ w st act off. still i st.history act off;
}

module _ (w : whole.Opening) (st : known.State) (i : ℕ) where
  abbrev H : List Entry
  H = st.whole.flow.history

  -- the history behind some acts of the seat
  abbrev behind_acts : List Act → List Entry
  behind_acts acts = (machine.run w st (core.by i acts)).whole.flow.history

  silent : (d : Deed) → is_noted d ≡ false → behind_acts (acts_or_none (acts_of w st i d)) ≡ H
  silent d off = in_acts IsUnnoted i (λ a b. b.history ≡ a.history) (stills i)
      w st (acts_or_none (acts_of w st i d)) (rows Notes i w st d off)

  claims : (plain : Bool) (leaf first count : ℕ) (exclusive : Bool)
      → behind_acts (claimed plain leaf first count exclusive) ≡ H
  claims false leaf first count exclusive = refl
  claims true leaf first count exclusive = refl

  fails_as : (what : Written) (x : whole.Write) (values : List Value)
      → behind_acts (with_beginning st what (FailCache x values ∷ [])) ≡ H
  fails_as (written.Parent inner change) x values = refl
  fails_as what x values = refl

  fails : (what : Written) (values : List Value) (o : Option whole.Write) → behind_acts
      (acts_or_none (map_some (λ x. with_beginning st what (FailCache x values ∷ [])) o)) ≡ H
  fails what values None = refl
  fails what values (Some x) = fails_as what x values

  grows : (d : Deed)
      → behind_acts (acts_or_none (acts_of w st i d)) ≡ option_to_list (by_seat i d) ++ H
  grows (deed.Claim first count how) =
      claims w.flow.plain (st.whole.flow.books.index.leaf first) first count (is_exclusive how)
  grows deed.Release = refl
  grows (deed.Look leaf) = refl
  grows (deed.CacheRead at None values) = refl
  grows (deed.CacheRead at (Some first) values) = refl
  grows (deed.BackingRead first values) = refl
  grows (deed.BackingWrite first None values) = refl
  grows (deed.BackingWrite first (Some of) values) = refl
  grows deed.BackingBarrier = refl
  grows (deed.InsertWrite leaf keys of first values) = refl
  grows (deed.Answer of first values) = refl
  grows (deed.FlushFrom of) = refl
  grows (deed.FlushDone of) = refl
  grows (deed.Durable of first count) = refl
  grows (deed.DeviceFault (failure.Read device)) = refl
  grows (deed.DeviceFault (failure.Barrier device)) = refl
  grows (deed.DeviceFault (failure.CacheWrite at what values)) =
      fails what values (write_of w st what at values)
  grows (deed.DeviceFault (failure.BackingWrite first None values)) = refl
  grows (deed.DeviceFault (failure.BackingWrite first (Some of) values)) = refl
  grows d = silent d refl

-- ---- by workers

-- a deed is for a line of the seat's worker
names : (w : core.Opening) (i : ℕ) (d : Deed) (H : List Entry) → IsOf w i (line_of d)
    → all_renamed w.worker (option_to_list (by_seat i d) ++ H)
    ≡ option_to_list (entry_by d) ++ all_renamed w.worker H
names w i (deed.BackingWrite first (Some of) values) H is =
    ap (λ n. entry.Write n of.line first values ∷ all_renamed w.worker H) is
names w i (deed.InsertWrite leaf keys of first values) H is =
    ap (λ n. entry.Write n of.line first values ∷ all_renamed w.worker H) is
names w i (deed.Answer of first values) H is =
    ap (λ n. entry.Read n of.line first values ∷ all_renamed w.worker H) is
names w i (deed.FlushFrom of) H is =
    ap (λ n. entry.FlushFrom n of.line ∷ all_renamed w.worker H) is
names w i (deed.FlushDone of) H is =
    ap (λ n. entry.FlushDone n of.line ∷ all_renamed w.worker H) is
names w i (deed.Durable of first count) H is =
    ap (λ n. entry.Durable n of.line first count ∷ all_renamed w.worker H) is
names w i (deed.DeviceFault (failure.BackingWrite first (Some of) values)) H is = refl
names w i (deed.DeviceFault (failure.BackingWrite first None values)) H is = refl
names w i (deed.DeviceFault (failure.Read device)) H is = refl
names w i (deed.DeviceFault (failure.Barrier device)) H is = refl
names w i (deed.DeviceFault (failure.CacheWrite at what values)) H is = refl
names w i (deed.BackingWrite first None values) H is = refl
names w i d H is = refl

its_line : (w : core.Opening) (st : core.State) (e : Event) (o : Option (List Act))
    → IsSome o (CanDo w st e) → IsOf w e.seat (line_of e.deed)
its_line w st e None on = absurd on
its_line w st e (Some acts) on = on.its_line

one : (w : core.Opening) (st : core.State) (e : Event) → core.IsEnabled w st e
    → history_of w (core.after w st e) ≡ option_to_list (entry_by e.deed) ++ history_of w st
one w st e on = ap (all_renamed w.worker) (grows w.machine st.machine e.seat e.deed)
    ∙ names w e.seat e.deed st.machine.whole.flow.history
    (its_line w st e (acts_of w.machine st.machine e.seat e.deed) on)

turn : (o : Option Entry) → reverse (option_to_list o) ≡ option_to_list o
turn None = refl
turn (Some e) = refl

-- the history of a run is its events' entries, the newest first
pub entries_run : (w : core.Opening) (st : core.State) (es : List Event) → core.IsRun w st es
    → history_of w (core.run w st es) ≡ reverse (entries_of es) ++ history_of w st
entries_run w st [] on = refl
entries_run w st (e ∷ es) on =
    entries_run w (core.after w st e) es on.1
    ∙ ap (λ (H : List Entry). reverse (entries_of es) ++ H) (one w st e on.0)
    ∙ sym (append_assoc (reverse (entries_of es)) (option_to_list (entry_by e.deed))
    (history_of w st))
    ∙ ap (λ (H : List Entry). (reverse (entries_of es) ++ H) ++ history_of w st)
    (sym (turn (entry_by e.deed)))
    ∙ ap (λ (H : List Entry). H ++ history_of w st)
    (sym (reverse-append (option_to_list (entry_by e.deed)) (entries_of es)))
