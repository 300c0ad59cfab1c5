-- A trace that changes no value, over a pair with a cache.
use Rattle.std.specs.Prelude.{◌≡◌, ℕ, Bool, List, reverse, Option, Some, None, Result, Ok, Err}
use Rattle.bc_book.specs.Pass.{events_in}
use Rattle.bc_book.specs.declared.pass.Pass.{Pass}
use Rattle.bc_session_laws.specs.bc_cached.Laws.{parts_in}
use Rattle.bc_sound_reads.specs.bc_cached_serve.Run.{HasRunOver}
use Rattle.bc_sound_reads.specs.bc_cached_serve.declared.unsound.Unsound.{Unsound}
use Rattle.bc_sound_reads.specs.bc_cached_serve.declared.whole_run.Outcome.{Outcome}
use Rattle.bc_disk.specs.Disk.{DiskFacts, IsKept}
use Rattle.bc_disk.specs.Stream.{StreamFacts}
use Rattle.bc_disk.specs.declared.disk.Device.TheVariants.{Backing}
use Rattle.bc_session_laws.specs.bc_entered.Laws.{ShowsTheSame}
use Rattle.bc_events.specs.Columns.{entries_of}
use Rattle.bc_events.specs.declared.event.Event.{Event}
use Rattle.bc_facts.specs.Layout.{IsLayoutOf}
use Rattle.bc_session_laws.specs.bc_hand.Seats.{world}
use Rattle.bc_image.specs.Pair.{Pair}
use Rattle.bc_image.specs.Reading.{IsView, View}
use Rattle.bc_image.specs.Shown.{shown_by}
use Rattle.bc_image.specs.Sound.{HasSoundParts}
use Rattle.bc_session_laws.specs.bc_loaded.declared.loading.Loaded.{Loaded}
use Rattle.bc_session_laws.specs.bc_machine.World.{Origin}
use Rattle.bc_meta.specs.Layout.{Layout}
use Rattle.bc_model.specs.History.{IsLegal}
use Rattle.bc_model.specs.Sector.{Image}
use Rattle.bc_model.specs.declared.history.Entry.{Entry}
use Rattle.bc_session_laws.specs.bc_open.Left.{ShowsOn}
use Rattle.bc_output.specs.declared.status.Status.{Status}
use Rattle.bc_output.specs.declared.status.Status.TheVariants as statuses
use Rattle.bc_replay.specs.Causes.{OfHeld}
use Rattle.bc_replay.specs.declared.held.Survey.{Survey}
use Rattle.bc_script.specs.Expected.{AllAnswered, answers_of}
use Rattle.bc_script.specs.Served.{Served}
use Rattle.bc_script.specs.Trace.{IsTrace, IsWhole}
use Rattle.bc_script.specs.declared.line.Line.{Line}
use Rattle.bc_sound_reads.specs.bc_serve.declared.closing.Closing.{Closing}
use Rattle.bc_sound_reads.specs.bc_serve.declared.closing.Closing.TheVariants as closing
use Rattle.bc_session_laws.specs.bc_session.Idle.{Tells}
use Rattle.bc_session_laws.specs.bc_session.Open.{ready_of}
use Rattle.bc_session_laws.specs.bc_session.declared.closing.CloseError.{CloseError}
use Rattle.bc_session_laws.specs.bc_session.declared.closing.CloseError.TheVariants as closings
use Rattle.bc_session_laws.specs.Events.{left_by}
use Rattle.bc_session_laws.specs.Laws.{IsRecoverable}
use Rattle.bc_session_laws.specs.bc_started.Laws.{AreUntorn, IsStartedFrom}
use Rattle.bc_sound_reads.specs.Laws.{FindsItSound}
use Rattle.bc_super.specs.Super.{data_sectors}
use Rattle.bc_super.specs.declared.backing.BackingSuper.{BackingSuper}
use Rattle.bc_top.specs.Ended.{IsDone, IsEnd}
use Rattle.bc_top.specs.Idle.{EndsUnopened, IsTested}
use Rattle.bc_top.specs.Top.{AskToKeep, WasReadAs}
use Rattle.bc_top.specs.declared.exit.Exit.{Exit}

-- ---- what is reported of a run

-- the number of the line at which it stopped
abbrev pub stopped_at : Result (Unit {0}) Unsound → Option ℕ
stopped_at (Ok u) = None
stopped_at (Err stop) = Some stop.line

abbrev pub closing_of : Result (Unit {0}) CloseError → Closing
closing_of (Ok u) = closing.Done
closing_of (Err closings.Fault) = closing.Failed Backing
closing_of (Err (closings.Halted device)) = closing.Halted device
closing_of (Err closings.Memory) = closing.Memory

module _ {C B : Type 0} (cache_facts : C → DiskFacts) (facts : B → DiskFacts) (b : BackingSuper)
    (s : Survey) (cache : C) (backing : B) (lines : List Line) where
  -- The parts of the pair were read into memory. Then the pair was opened, the lines were served,
  -- and it was closed, as one of which some data is in the cache alone or none.
  pub record HasRunFrom (r : Outcome C B) : Type 0 where
    pub read : C
    pub kept : IsKept (cache_facts cache) (cache_facts read)
    pub quiet : (cache_facts read).faults ≡ (cache_facts cache).faults
    pub loaded : Loaded
    pub dirty : Bool
    pub tells : Tells dirty loaded.buckets
    pub over : HasRunOver cache_facts facts s b dirty read backing loaded lines r

  -- how many sectors the data are
  abbrev pub size : ℕ
  size = data_sectors (facts backing).sectors b

  -- ---- what it shows

  module _ (r : Outcome C B) (run : HasRunFrom r) where
    abbrev pub events : List Event
    events = events_in r.closed.pass

    -- the newest entry comes first
    abbrev pub history : List Entry
    history = reverse (entries_of events)

    -- the run is seen from this opening of the core, wherever the seqs of new nodes go on
    pub record IsSeenFrom (p : Pair) (v : View) (o : Origin) : Type 0 where
      pub layout : Layout
      pub divided : IsLayoutOf v.geometry layout
      pub next_seq : ℕ
      pub started : IsStartedFrom p v layout
          (parts_in (ready_of run.loaded run.read run.over.over.part)
          run.over.over.is_loaded.are.leaves.pending)
          next_seq (world cache_facts facts run.over.seat) o

    -- the premise: in no state of the run a torn record is read as a whole one by chance
    abbrev pub TearsNone : Origin → Type 0
    TearsNone o = AreUntorn o (left_by cache_facts facts run.over.parts events).log

    -- Each answer is of what the pair showed. Whatever a crash leaves of both devices is a sound
    -- pair that shows of each sector what the history allows, and, since no line writes, what it
    -- showed. Where nothing is refused but a range, the answers are a function of the lines and of
    -- that.
    pub record KeepsThePair (p : Pair) (v : View) : Type 0 where
      pub legal : IsLegal (shown_by p v) history
      pub allowed : (image other : Image) → (cache_facts r.closed.cache).may_leave image
          → (facts r.closed.backing).may_leave other
          → IsRecoverable p v history (record p { cache = image; backing = other })
      pub same : (image other : Image) → (cache_facts r.closed.cache).may_leave image
          → (facts r.closed.backing).may_leave other
          → ShowsTheSame p v (record p { cache = image; backing = other })
      pub answers : AllAnswered size lines r.answers.items
          → r.answers.items ≡ answers_of size lines (shown_by p v)
      -- no line says that a node is damaged, and the run stops at none but for a busy part
      pub found : FindsItSound r

    -- Over a pair that is sound there is an opening from which the run is seen, and from each one
    -- it does so.
    abbrev pub ServesSound : Pair → Type 0
    ServesSound p = (v : View) → IsView p v → HasSoundParts p v
        → ((o : Origin) × IsSeenFrom p v o)
        × ((o : Origin) → IsSeenFrom p v o → TearsNone o → KeepsThePair p v)

  -- ---- how it ended

  -- The run was so. Its devices and its pass were handed back, and its answers were put, as far as
  -- the sink took them, with their status and message.
  pub record HasReported (it : Exit C B) (old new : StreamFacts) (pass : Pass) : Type 0 where
    pub outcome : Outcome C B
    pub run : HasRunFrom outcome
    pub pass_is : pass ≡ outcome.closed.pass
    pub cache_is : it.cache ≡ outcome.closed.cache
    pub backing_is : it.backing ≡ outcome.closed.backing
    pub ends : IsEnd it.status outcome.answers.items (stopped_at outcome.served)
        (closing_of outcome.closed.result) old new
    pub done : it.status ≡ statuses.Done → IsDone size lines outcome.answers.items old new
    -- and then the answers and the history serve the lines
    pub served : it.status ≡ statuses.Done
        → Served size lines outcome.answers.items (entries_of (events_in pass))

-- The trace was read and asks to read or to flush, and the pair was tested. Then it was opened,
-- each line was served in order, up to one that found it unsound or busy, and it was closed.
--
-- Over a pair that was sound each answer is of what it showed, and whatever a crash leaves of both
-- devices is a sound pair that shows the same.
pub record HasServedCached {C B : Type 0} (cache_facts : C → DiskFacts) (facts : B → DiskFacts)
    (cache : C) (backing : B) (it : Exit C B) (source left old new : StreamFacts) (pass : Pass)
    : Type 0 where
  pub lines : List Line
  pub trace : IsTrace lines
  pub whole : IsWhole source left lines
  pub asked : AskToKeep lines
  pub superblock : BackingSuper
  pub survey : Survey
  -- both devices once the pair was tested
  pub tested_cache : C
  pub tested : B
  pub is_tested : IsTested superblock survey (cache_facts cache) (cache_facts tested_cache)
      (facts backing) (facts tested)
  pub reported : HasReported cache_facts facts superblock survey tested_cache tested lines it old
      new pass
  pub serves : OfHeld (ServesSound cache_facts facts superblock survey tested_cache tested lines
      reported.outcome reported.run) (cache_facts cache) (facts backing)

-- The trace was read and asks to read or to flush, the pair was tested, and then it couldn't be
-- opened. Whatever a crash leaves is a sound pair that shows what the pair showed, where that was
-- sound.
pub record HasNotOpened {C B : Type 0} (cache_facts : C → DiskFacts) (facts : B → DiskFacts)
    (status : Status) (source left : StreamFacts) (cache cache' : C) (backing backing' : B)
    (old new : StreamFacts) : Type 0 where
  pub trace : WasReadAs AskToKeep source left
  pub superblock : BackingSuper
  pub survey : Survey
  -- both devices once the pair was tested
  pub tested_cache : C
  pub tested : B
  pub is_tested : IsTested superblock survey (cache_facts cache) (cache_facts tested_cache)
      (facts backing) (facts tested)
  pub ends : EndsUnopened cache_facts facts superblock survey tested_cache cache' tested backing'
      status old new
  pub shows : OfHeld (ShowsOn (cache_facts cache') (facts backing')) (cache_facts cache)
      (facts backing)
