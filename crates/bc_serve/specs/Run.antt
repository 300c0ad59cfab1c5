-- What the run of a trace over a backing device promises.
use Rattle.std.specs.Prelude.{◌≡◌, ◌==◌, ℕ, suc, List, [], ◌∷◌, ◌++◌, filter, map}
use Rattle.bc_disk.specs.Disk.{DiskFacts}
use Rattle.bc_flight.specs.Flight.{InFlight}
use Rattle.bc_parts.specs.Machine.{IsRun, state_after}
use Rattle.bc_events.specs.Columns.{entries_of}
use Rattle.bc_events.specs.declared.event.Deed.{Deed}
use Rattle.bc_events.specs.declared.event.Event.{Event}
use Rattle.bc_book.specs.Pass.{events_in}
use Rattle.bc_book.specs.declared.pass.Pass.{Pass}
use Rattle.bc_plain_laws.specs.bc_machine.World.{IsBacking, opening}
use Rattle.bc_plain_laws.specs.bc_machine.declared.part.BackingPart.{BackingPart}
use Rattle.bc_plain_laws.specs.bc_hand.Seats.{View, by, core}
use Rattle.bc_job.specs.bc_deed.Begun.{opening_parts}
use Rattle.bc_job.specs.bc_deed.Flushed.{HasDone}
use Rattle.bc_script.specs.Served.{Served, ServesLine}
use Rattle.bc_script.specs.declared.answer.Answer.{Answer}
use Rattle.bc_script.specs.declared.line.Line.{Line}
use Rattle.bc_serve.specs.Causes.{CallsBacking, IsCaused, entries_by}
use Rattle.bc_serve.specs.Closed.{ClosedBy}
use Rattle.bc_serve.specs.Deeds.{AreDeedsFor}
use Rattle.bc_serve.specs.declared.closing.Closing.{Closing}

-- the events of the seat i: of a list of the core, what `events_by` of bc_parts is there
abbrev pub events_by : ℕ → List Event → List Event
events_by i es = filter (λ e. e.seat == i) es

-- The seat i served the line of this number with these deeds, which are all of its own between two
-- points of the run, and just those that such an answer takes; by the second it had answered.
pub record IsServedBy (size i number : ℕ) (l : Line) (answer : Answer) (before seen : List Event)
    (ds : List Deed) : Type 0 where
  pub its : events_by i seen ≡ events_by i before ++ map (by i) ds
  pub did : AreDeedsFor size number l answer ds
  pub serves : ServesLine size number l answer (entries_by ds)
  pub caused : IsCaused answer seen ds
  pub calls : CallsBacking ds

-- line by line, from one point of the run to another; the first line has this number
abbrev pub AreServedBy : ℕ → ℕ → ℕ → List Line → List Answer → List Event → List Event → Type 0
AreServedBy size i number [] [] before last = last ≡ before
AreServedBy size i number (l ∷ ls) (a ∷ others) before last = (more : List Event) × (ds : List Deed)
    × IsServedBy size i number l a before (before ++ more) ds
    × AreServedBy size i (suc number) ls others (before ++ more) last
AreServedBy size i number [] (a ∷ others) before last = ⊥
AreServedBy size i number (l ∷ ls) [] before last = ⊥

module _ {C B : Type 0} (cache_facts : C → DiskFacts) (backing_facts : B → DiskFacts) where
  -- the seat has served the lines
  pub record HaveAnswered (size : ℕ) (lines : List Line) (answers : List Answer)
      (v w : View cache_facts backing_facts) : Type 0 where
    pub deeds : List Deed
    pub done : HasDone cache_facts backing_facts deeds v w
    pub served : Served size lines answers (entries_by deeds)
    pub by_line : AreServedBy size v.first 1 lines answers v.seen w.seen
    pub calls : CallsBacking deeds

  -- The pass tells the events of a run from the opening state over this device, and the device that
  -- is left stands for the state that they leave. The answers and the history serve the lines, each
  -- line by its own deeds, of the one seat that did anything by then, and behind the lines the run
  -- was closed.
  pub record HasRun (backing left : BackingPart B) (lines : List Line) (answers : List Answer)
      (how : Closing) (events : List Event) (pass : Pass) : Type 0 where
    pub flight : InFlight
    pub run : IsRun (core cache_facts backing_facts)
        (opening cache_facts backing_facts (opening_parts flight backing)) events
    pub told : events_in pass ≡ events
    pub history : pass.entries.items ≡ entries_of events
    pub device : IsBacking {C = C} cache_facts backing_facts left
        (state_after (core cache_facts backing_facts) (opening_parts flight backing) events)
    pub served : Served backing.size lines answers pass.entries.items
    pub seen : List Event
    pub alone : seen ≡ events_by 16 seen
    pub by_line : AreServedBy backing.size 16 1 lines answers [] seen
    pub last : List Deed
    pub closing : events ≡ seen ++ map (by 0) last
    pub closed : ClosedBy how last events
