-- When an event may be done, what it leaves, and runs.
use Rattle.std.specs.Prelude.{◌≡◌, ℕ, ◌+◌, ◌<◌, true, false, List, [], ◌∷◌, ◌++◌, Option, Some, None, nat_lt}
use Rattle.bc_model.specs.Sector.{Value, Gives}
use Rattle.bc_model.specs.declared.history.Entry.{Entry}
use Rattle.bc_books.specs.Index.{Pointer, put}
use Rattle.bc_data.specs.Data.{claim_of}
use Rattle.bc_leaves.specs.Parts as parts
use Rattle.bc_whole.specs.State as whole
use Rattle.bc_whole.specs.Together.{place_of}
use Rattle.bc_known.specs.Acts.{Act, Alone}
use Rattle.bc_known.specs.Acts as known
use Rattle.bc_known.specs.Run as machine
use Rattle.bc_known.specs.Workers.{all_renamed}
use Rattle.bc_events.specs.Acts.{acts_of}
use Rattle.bc_events.specs.Writes.{write_of}
use Rattle.bc_events.specs.declared.event.LineNumber.{LineNumber}
use Rattle.bc_events.specs.declared.event.Written.{Written}
use Rattle.bc_events.specs.declared.event.Failure.TheVariants as failure
use Rattle.bc_events.specs.declared.event.Deed.{Deed}
use Rattle.bc_events.specs.declared.event.Deed.TheVariants as deed
use Rattle.bc_events.specs.declared.event.Event.{Event}

-- how many seats there are
abbrev pub seat_count : ℕ
seat_count = 320

abbrev pub IsSeat : ℕ → Type 0
IsSeat i = nat_lt i seat_count ≡ true

-- what a run stands on: what the machine was opened with, and the worker that each seat is of
pub record Opening : Type 0 where
  pub machine : whole.Opening
  pub worker : ℕ → ℕ

pub record State : Type 0 where
  pub machine : known.State
  -- the line of a round that each seat began and did not end
  pub line : ℕ → Option LineNumber

abbrev pub start : Opening → parts.State → ℕ → State
start w x next_seq = record {
  machine = machine.start w.machine x next_seq;
  line = λ i. None;
}

-- the history, by workers
abbrev pub history_of : Opening → State → List Entry
history_of w st = all_renamed w.worker st.machine.whole.flow.history

-- ---- what a deed asks beside what its acts ask

-- a write goes where the machine has its place
abbrev pub IsSome : {A : Type 0} → Option A → (A → Type 0) → Type 0
IsSome None P = ⊥
IsSome (Some x) P = P x

abbrev pub IsPlaced : Opening → State → Written → ℕ → List Value → Type 0
IsPlaced w st what at values = IsSome (write_of w.machine st.machine what at values)
    (λ x. place_of w.machine.layout st.machine.whole x ≡ at)

-- a read of data is of the places to which the sectors pointed at the seat's look
abbrev pub ReadsPlaces : State → ℕ → ℕ → ℕ → List Value → Type 0
ReadsPlaces st i at first values = Gives first values (λ s v. (r : Pointer)
    × ((claim_of st.machine.whole.flow i).sight s ≡ Some r) × (r.place + first ≡ at + s))

abbrev pub IsRunning : State → Type 0
IsRunning st = st.machine.whole.flow.halted ≡ false

abbrev pub IsFit : Opening → State → ℕ → Deed → Type 0
IsFit w st i (deed.Claim first count how) = 0 < count
IsFit w st i (deed.CacheRead at (Some first) values) = ReadsPlaces st i at first values
IsFit w st i (deed.CacheWrite at what values) = IsPlaced w st what at values
IsFit w st i (deed.LineFrom of) = IsRunning st
IsFit w st i (deed.LineDone of) = IsRunning st × (st.line i ≡ Some of)
IsFit w st i (deed.DeviceFault (failure.CacheWrite at what values)) = IsPlaced w st what at values
IsFit w st i d = Unit {0}

-- a line is served by a seat of its worker
abbrev pub IsOf : Opening → ℕ → Option LineNumber → Type 0
IsOf w i None = Unit {0}
IsOf w i (Some of) = w.worker i ≡ of.worker

-- the line that a deed is for
abbrev pub line_of : Deed → Option LineNumber
line_of (deed.BackingWrite first of values) = of
line_of (deed.InsertWrite leaf keys of first values) = Some of
line_of (deed.Answer of first values) = Some of
line_of (deed.FlushFrom of) = Some of
line_of (deed.FlushDone of) = Some of
line_of (deed.Durable of first count) = Some of
line_of (deed.LineFrom of) = Some of
line_of (deed.LineDone of) = Some of
line_of (deed.DeviceFault (failure.BackingWrite first of values)) = of
line_of d = None

-- a run that uses the backing device alone does nothing but with data
abbrev pub IsAlone : Act → Type 0
IsAlone (Alone act) = Unit {0}
IsAlone act = ⊥

abbrev pub AreAlone : List Act → Type 0
AreAlone [] = Unit {0}
AreAlone (act ∷ acts) = IsAlone act × AreAlone acts

-- ---- events

-- one seat's acts
abbrev pub by : ℕ → List Act → List known.Event
by i [] = []
by i (act ∷ acts) = record { seat = i; act = act } ∷ by i acts

pub record CanDo (w : Opening) (st : State) (e : Event) (acts : List Act) : Type 0 where
  pub seat : IsSeat e.seat
  pub course : machine.IsRun w.machine st.machine (by e.seat acts)
  pub fit : IsFit w st e.seat e.deed
  pub its_line : IsOf w e.seat (line_of e.deed)
  pub plain : w.machine.flow.plain ≡ true → AreAlone acts

abbrev pub IsEnabled : Opening → State → Event → Type 0
IsEnabled w st e = IsSome (acts_of w.machine st.machine e.seat e.deed) (CanDo w st e)

abbrev pub acts_or_none : Option (List Act) → List Act
acts_or_none None = []
acts_or_none (Some acts) = acts

abbrev pub acts : Opening → State → Event → List Act
acts w st e = acts_or_none (acts_of w.machine st.machine e.seat e.deed)

abbrev pub line_after : (ℕ → Option LineNumber) → ℕ → Deed → ℕ → Option LineNumber
line_after line i (deed.LineFrom of) = put line i (Some of)
line_after line i (deed.LineDone of) = put line i None
line_after line i d = line

abbrev pub after : Opening → State → Event → State
after w st e = record {
  machine = machine.run w.machine st.machine (by e.seat (acts w st e));
  line = line_after st.line e.seat e.deed;
}

abbrev pub IsRun : Opening → State → List Event → Type 0
IsRun w st [] = Unit {0}
IsRun w st (e ∷ es) = IsEnabled w st e × IsRun w (after w st e) es

abbrev pub run : Opening → State → List Event → State
run w st [] = st
run w st (e ∷ es) = run w (after w st e) es

-- the acts of a run's events, one behind the other
abbrev pub machine_events : Opening → State → List Event → List known.Event
machine_events w st [] = []
machine_events w st (e ∷ es) = by e.seat (acts w st e) ++ machine_events w (after w st e) es
