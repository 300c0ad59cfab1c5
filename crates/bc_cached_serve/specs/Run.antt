-- A run with a cache that serves a trace, once it was opened.
use Rattle.std.specs.Prelude.{◌≡◌, ℕ, Bool, List, ◌++◌, map, OnOk}
use Rattle.bc_book.specs.Pass.{events_in}
use Rattle.bc_disk.specs.Disk.{DiskFacts}
use Rattle.bc_events.specs.Columns.{entries_of}
use Rattle.bc_events.specs.declared.event.Deed.{Deed}
use Rattle.bc_serve.specs.bc_hand.Seats.{View, by, core, world}
use Rattle.bc_session.specs.bc_loaded.declared.loading.Loaded.{Loaded}
use Rattle.bc_serve.specs.bc_machine.World.{opening}
use Rattle.bc_serve.specs.bc_machine.declared.part.CorePart.{CorePart}
use Rattle.bc_parts.specs.Machine.{IsRun, state_after}
use Rattle.bc_parts.specs.Seat.{PartsView}
use Rattle.bc_replay.specs.declared.held.Survey.{Survey}
use Rattle.bc_script.specs.Served.{Served}
use Rattle.bc_script.specs.declared.line.Line.{Line}
use Rattle.bc_serve.specs.Causes.{entries_by}
use Rattle.bc_session.specs.Close.{HasClosed}
use Rattle.bc_session.specs.Open.{IsRunOver}
use Rattle.bc_session.specs.bc_started.First.{HasAll}
use Rattle.bc_super.specs.Super.{data_sectors}
use Rattle.bc_super.specs.declared.backing.BackingSuper.{BackingSuper}
use Rattle.bc_cached_serve.specs.Deeds.{AreKeeping}
use Rattle.bc_cached_serve.specs.Served.{HaveServed}
use Rattle.bc_cached_serve.specs.declared.whole_run.Outcome.{Outcome}

module _ {C B : Type 0} (cache_facts : C → DiskFacts) (backing_facts : B → DiskFacts) where
  -- The seat has all numbers, and did all that has happened.
  pub record IsAlone (v : View cache_facts backing_facts) : Type 0 where
    pub all : HasAll cache_facts backing_facts v
    pub deeds : List Deed
    pub seen : v.seen ≡ map (by 0) deeds

  -- The seat of worker 1 served the lines, changing no value, and was taken in again.
  pub record HasServedBy (p : PartsView (CorePart C B)) (size : ℕ) (lines : List Line)
      (r : Outcome C B) (v w : View cache_facts backing_facts) : Type 0 where
    pub served : HaveServed cache_facts backing_facts p size lines r.answers.items r.served v w
    pub run : w.run ≡ v.run
    pub deeds : List Deed
    -- nothing else happened
    pub seen : w.seen ≡ v.seen ++ map (by 16) deeds
    pub keeping : AreKeeping deeds
    -- where each line is answered, what they put into the history serves them
    pub serves : OnOk r.served (Served size lines r.answers.items (entries_by deeds))

  -- And then the run was closed. The pass tells the events of the run: those before, the worker's
  -- and those of the closing.
  pub record HasRunOn (p : PartsView (CorePart C B)) (b : BackingSuper) (dirty : Bool) (size : ℕ)
      (lines : List Line) (v : View cache_facts backing_facts) (r : Outcome C B) : Type 0 where
    pub before : View cache_facts backing_facts
    pub lines_by : HasServedBy p size lines r v before
    pub all : HasAll cache_facts backing_facts before
    pub closed : HasClosed cache_facts backing_facts b dirty before r.closed
    pub told : events_in r.closed.pass
        ≡ (v.seen ++ map (by 16) lines_by.deeds) ++ map (by 0) closed.made.deeds
    pub run : IsRun (core cache_facts backing_facts)
        (opening cache_facts backing_facts p.run.start) (events_in r.closed.pass)
    pub ends : world cache_facts backing_facts closed.last
        ≡ state_after (core cache_facts backing_facts) p.run.start (events_in r.closed.pass)
    -- the closing puts nothing into the history
    pub entries : entries_of (events_in r.closed.pass)
        ≡ entries_of v.seen ++ entries_by lines_by.deeds

  -- A pair was opened, as `open` says of the run and its seat, served the lines, and was closed.
  pub record HasRunOver (s : Survey) (b : BackingSuper) (dirty : Bool) (cache : C) (backing : B)
      (loaded : Loaded) (lines : List Line) (r : Outcome C B) : Type 0 where
    pub parts : PartsView (CorePart C B)
    pub seat : View cache_facts backing_facts
    pub over : IsRunOver cache_facts backing_facts s b cache backing loaded parts seat
    pub on : HasRunOn parts b dirty (data_sectors (backing_facts backing).sectors b) lines seat r
    -- the history of the run is that of the lines, and serves them where each is answered
    pub entries : entries_of (events_in r.closed.pass) ≡ entries_by on.lines_by.deeds
    pub serves : OnOk r.served (Served (data_sectors (backing_facts backing).sectors b) lines
        r.answers.items (entries_of (events_in r.closed.pass)))
