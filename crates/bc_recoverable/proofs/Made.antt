-- What events bring, one by one and all together.
use Rattle.std.proofs.Common.{◌≡◌, ℕ, Bool, true, false, List, [], ◌∷◌, ◌++◌, Option, Some, None, refl, sym, ap, ◌∙◌, subst, append_assoc}
use Rattle.bc_books.specs.Books as book
use Rattle.bc_data.specs.Data as flow
use Rattle.bc_events.specs.Acts.{acts_of, claimed, is_exclusive, list_of, listed, pinned, read_for, taken}
use Rattle.bc_events.specs.Run as core
use Rattle.bc_events.specs.Run.{Opening, State, acts_or_none, machine_events}
use Rattle.bc_events.specs.Writes.{acts_of_failure, acts_of_write, map_some, with_beginning}
use Rattle.bc_events.specs.declared.event.Deed.{Deed}
use Rattle.bc_events.specs.declared.event.Deed.TheVariants as deed
use Rattle.bc_events.specs.declared.event.Event.{Event}
use Rattle.bc_events.specs.declared.event.Failure.TheVariants as failure
use Rattle.bc_events.specs.declared.event.Listing.{Listing}
use Rattle.bc_events.specs.declared.event.MarkForm.TheVariants as mark
use Rattle.bc_events.specs.declared.event.UnpinKind.TheVariants as unpin
use Rattle.bc_events.specs.declared.event.Written.{Written}
use Rattle.bc_events.specs.declared.event.Written.TheVariants as written
use Rattle.bc_events.proofs.Machine.{law_machine}
use Rattle.bc_alloc.specs.declared.purpose.Purpose.{Purpose}
use Rattle.bc_alloc.specs.declared.purpose.Purpose.TheVariants as list
use Rattle.bc_leaves.specs.After.{has}
use Rattle.bc_known.specs.Acts as known
use Rattle.bc_known.specs.Acts.{Act, Alone, BeginBucket, BeginChange, CacheBarrier, FailCache, ForgetDrafts, Install, Keyed, LetGo, MakeDurable, ReadyChain, Seal, Take, WriteCache}
use Rattle.bc_known.specs.Run as machine
use Rattle.bc_dirty_laws.specs.bc_machine.Standing.{oldest_first, replay_is, replay_runs}
use Rattle.bc_dirty_laws.specs.bc_machine.World.{IsCourseOf, Origin, replay}
use Rattle.bc_model.specs.Sector.{Value}
use Rattle.bc_reopened.specs.bc_ranges.Made.{AreWellMade, Frame}
use Rattle.bc_whole.specs.State as whole
use Rattle.bc_whole.specs.State.{OfData, OfEntry, OfPriorities}
use Rattle.bc_recoverable.specs.Made.{AreMade, LawBringsNothing, brings}

-- ---- one list of acts behind another

events_behind : (w : Opening) (st : State) (es fs : List Event)
    → machine_events w st (es ++ fs)
    ≡ machine_events w st es ++ machine_events w (core.run w st es) fs
events_behind w st [] fs = refl
events_behind w st (e ∷ es) fs =
    ap (λ (l : List known.Event). core.by e.seat (core.acts w st e) ++ l)
    (events_behind w (core.after w st e) es fs)
    ∙ sym (append_assoc (core.by e.seat (core.acts w st e))
    (machine_events w (core.after w st e) es)
    (machine_events w (core.run w (core.after w st e) es) fs))

made_behind : (f : Frame) (w : whole.Opening) (st : known.State) (some more : List known.Event)
    → AreWellMade f w st some → AreWellMade f w (machine.run w st some) more
    → AreWellMade f w st (some ++ more)
made_behind f w st [] more first second = second
made_behind f w st (e ∷ some) more first second =
    (first.0, made_behind f w (known.after w st e.seat e.act) some more first.1 second)

-- of a whole run
pub all_made : (f : Frame) (o : Origin) (es : List Event) → IsCourseOf o es → AreMade f o es
    → AreWellMade f o.opening.machine (core.start o.opening o.parts o.next_seq).machine
    (machine_events o.opening (core.start o.opening o.parts o.next_seq) (oldest_first es))
all_made f o [] on made = tt
all_made f o (e ∷ es) on made =
    let w = o.opening in
    let first = core.start o.opening o.parts o.next_seq in
    let before = oldest_first es in
    let last = (law_machine w first before (replay_runs o es on.2)).last in
    let here : AreWellMade f w.machine (core.run w first before).machine
    (machine_events w (core.run w first before) (e ∷ [])) =
    subst (λ (st : State). AreWellMade f w.machine st.machine (machine_events w st (e ∷ [])))
    (replay_is o es) made.0 in
    subst (AreWellMade f w.machine first.machine) (sym (events_behind w first before (e ∷ [])))
    (made_behind f w.machine first.machine (machine_events w first before)
    (machine_events w (core.run w first before) (e ∷ [])) (all_made f o es on.2 made.1)
    (subst (λ (st : known.State). AreWellMade f w.machine st
    (machine_events w (core.run w first before) (e ∷ []))) last here))

-- ---- deeds that bring nothing

-- the acts of a seat are well made, one behind the other
module _ (f : Frame) (w : whole.Opening) (i : ℕ) where
  abbrev Made : known.State → List Act → Type 0
  Made st acts = AreWellMade f w st (core.by i acts ++ [])

  claims : (st : known.State) (plain : Bool) (leaf first count : ℕ) (exclusive : Bool)
      → Made st (claimed plain leaf first count exclusive)
  claims st false leaf first count exclusive = (tt, tt)
  claims st true leaf first count exclusive = (tt, (tt, tt))

  pins : (st : known.State) (at count : ℕ) (full : Bool) → Made st (pinned w at count full)
  pins st at count false = (tt, tt)
  pins st at count true = (tt, (tt, tt))

  takes : (st : known.State) (p : Purpose) (b : ℕ) → Made st (taken i p b)
  takes st list.Plain b = (tt, tt)
  takes st p b = (tt, tt)

  lists : (st : known.State) (xs : List Listing) → Made st (listed xs)
  lists st [] = tt
  lists st (x ∷ xs) = (
    tt,
    lists (known.after w st i
        (Alone (flow.Shelve (book.MakeReady x.bucket (list_of x.list))))) xs,
  )

  reads : (st : known.State) (first : Option ℕ) (values : List Value)
      → Made st (read_for first values)
  reads st None values = (tt, tt)
  reads st (Some first) values = (tt, tt)

  maybe : (st : known.State) (o : Option whole.Write) (act : whole.Write → List Act)
      → ((x : whole.Write) → o ≡ Some x → Made st (act x)) → Made st (acts_or_none (map_some act o))
  maybe st None act each = tt
  maybe st (Some x) act each = each x refl

  writes : (st : known.State) (at : ℕ) (what : Written) (values : List Value)
      → brings (deed.CacheWrite at what values) ≡ false
      → Made st (acts_or_none (acts_of_write w st what at values))
  writes st at written.Data values none = (tt, tt)
  writes st at written.Entry values none = (tt, tt)
  writes st at (written.Priorities bucket part) values none =
      prio (w.layout.prios.spelled part values)
    where
      prio : (o : Option _) → Made st (acts_or_none (map_some (λ (x : whole.Write).
          with_beginning st (written.Priorities bucket part) (WriteCache x values ∷ []))
          (map_some (OfPriorities bucket part) o)))
      prio None = tt
      prio (Some x) = (tt, tt)
  writes st at what values none = absurd (cc)

  fails : (st : known.State) (at : ℕ) (what : Written) (values : List Value)
      → brings (deed.CacheWrite at what values) ≡ false
      → Made st (acts_or_none (acts_of_failure w st what at values))
  fails st at written.Data values none = (tt, tt)
  fails st at written.Entry values none = (tt, tt)
  fails st at (written.Priorities bucket part) values none =
      prio (w.layout.prios.spelled part values)
    where
      prio : (o : Option _) → Made st (acts_or_none (map_some (λ (x : whole.Write).
          with_beginning st (written.Priorities bucket part) (FailCache x values ∷ []))
          (map_some (OfPriorities bucket part) o)))
      prio None = tt
      prio (Some x) = (tt, tt)
  fails st at what values none = absurd (cc)

  done : (st : known.State) (d : Deed) → brings d ≡ false
      → Made st (acts_or_none (acts_of w st i d))
  done st (deed.Claim first count how) none =
      claims st w.flow.plain (st.whole.flow.books.index.leaf first) first count (is_exclusive how)
  done st (deed.Pin at count full) none = pins st at count full
  done st (deed.Unpin (unpin.Place at count)) none = (tt, tt)
  done st (deed.Unpin (unpin.Dead candidate)) none = (tt, tt)
  done st (deed.Unpin (unpin.Hold bucket back)) none = (tt, tt)
  done st (deed.Take purpose bucket) none = takes st purpose bucket
  done st (deed.Ready back named) none =
      (tt, lists (known.after w st i (ReadyChain (has back.items))) named.items)
  done st (deed.CacheRead at first values) none = reads st first values
  done st (deed.CacheWrite at what values) none = writes st at what values none
  done st (deed.InsertWrite leaf keys of first values) none = absurd (cc)
  done st (deed.Insert leaf keys form) none = absurd (cc)
  done st (deed.Settle leaf candidate keys) none = absurd (cc)
  done st (deed.Seal last_seq bucket rest new_root chain) none = absurd (cc)
  done st (deed.Mark mark.Begin) none = (tt, tt)
  done st (deed.Mark (mark.Walk leaf)) none = (tt, tt)
  done st (deed.Mark mark.End) none = (tt, tt)
  done st (deed.Mark mark.Drop) none = (tt, tt)
  done st (deed.LineFrom of) none = tt
  done st (deed.LineDone of) none = tt
  done st (deed.DeviceFault (failure.Read device)) none = (tt, tt)
  done st (deed.DeviceFault (failure.Barrier device)) none = (tt, tt)
  done st (deed.DeviceFault (failure.CacheWrite at what values)) none =
      fails st at what values none
  done st (deed.DeviceFault (failure.BackingWrite first of values)) none = (tt, tt)
  done st d none = (tt, tt)

pub law_brings_nothing : LawBringsNothing
law_brings_nothing f o es e none =
    done f o.opening.machine e.seat (replay o es).machine e.deed none
