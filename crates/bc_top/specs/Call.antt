-- What a call of the program promises, by what it was given and what it leaves.
use Rattle.std.specs.Prelude.{◌≡◌, ◌⊎◌, IfSome, IsNone, IsSome, List, String}
use Rattle.std.specs.declared.alloc.Global.{Global}
use Rattle.bc_book.specs.declared.pass.Pass.{Pass}
use Rattle.bc_disk.specs.Device.{HasRisen}
use Rattle.bc_disk.specs.Disk.{DiskFacts}
use Rattle.bc_disk.specs.Stream.{StreamFacts}
use Rattle.bc_output.specs.Message.{message_text}
use Rattle.bc_output.specs.declared.message.Message.{Message}
use Rattle.bc_output.specs.declared.status.Status.TheVariants as statuses
use Rattle.bc_words.specs.declared.command.Command.{Command}
use Rattle.bc_top.specs.Cached.{HasNotOpened, HasServedCached}
use Rattle.bc_top.specs.Ended.{HasStopped, IsPutOf}
use Rattle.bc_top.specs.Idle.{HasOpened}
use Rattle.bc_top.specs.Opened.{AsksForNone}
use Rattle.bc_top.specs.Run.{HasServed}
use Rattle.bc_top.specs.Stops.{IsRefusal, message_of, status_of}
use Rattle.bc_top.specs.Top.{AnswersPair, AreSame, Does, IsCheck, IsServeCause, LacksMemory, OneHasRisen, SpellsTrace}
use Rattle.bc_top.specs.declared.exit.Exit.{Exit}
use Rattle.bc_top.specs.declared.stop.Stop.{Stop}

module _ {C B : Type 0} (cache : C) (backing : B) (it : Exit C B) where
  -- the message was put, and nothing was done
  abbrev pub OnlyTells : Message → StreamFacts → StreamFacts → Type 0
  OnlyTells m old new =
      IsPutOf (message_text m) old new × (it.cache ≡ cache) × (it.backing ≡ backing)

  -- the words were refused, or there was no memory for them
  abbrev pub IsUnknown : StreamFacts → StreamFacts → Type 0
  IsUnknown old new = (it.status ≡ statuses.Usage)
      ⊎ LacksMemory it.status cache it.cache backing it.backing old new

module _ {C B : Type 0} (cache_facts : C → DiskFacts) (backing_facts : B → DiskFacts)
    (cache : C) (backing : B) (it : Exit C B) where
  -- a count of a device's faults rose
  abbrev pub DeviceRose : Type 0
  DeviceRose = OneHasRisen (cache_facts cache) (cache_facts it.cache)
      (backing_facts backing) (backing_facts it.backing)

  -- no sector of either device was written
  abbrev pub IsUnwritten : Type 0
  IsUnwritten = AreSame (cache_facts cache) (cache_facts it.cache)
      (backing_facts backing) (backing_facts it.backing)

  -- the command was done, but for want of memory for its words
  abbrev pub Obeys : Command → StreamFacts → StreamFacts → Type 0
  Obeys command old new =
      Does cache_facts backing_facts command it.status cache it.cache backing it.backing old new
      ⊎ LacksMemory it.status cache it.cache backing it.backing old new

  -- the status has its cause, the message was put, and no sector was written
  abbrev pub IsStopped : StreamFacts → StreamFacts → StreamFacts → StreamFacts → Type 0
  IsStopped source left old new = (stop : Stop) × (it.status ≡ status_of stop)
      × IsServeCause stop source left (cache_facts cache) (cache_facts it.cache)
      (backing_facts backing) (backing_facts it.backing)
      × IsPutOf (message_text (message_of stop)) old new × IsUnwritten

  -- Where no run began it is so; or the trace asks for nothing, and the pair was opened and closed;
  -- or it asks to read or to flush, and the pair couldn't be opened.
  abbrev pub HasNotBegun : StreamFacts → StreamFacts → StreamFacts → StreamFacts → Type 0
  HasNotBegun source left old new = IsNone it.pass → IsStopped source left old new
      ⊎ HasOpened cache_facts backing_facts it.status source left cache it.cache backing it.backing
      old new
      ⊎ HasNotOpened cache_facts backing_facts it.status source left cache it.cache backing
      it.backing old new

  -- the run is one over the backing device alone, and the cache device isn't touched
  pub record HasServedAlone (source left old new : StreamFacts) (pass : Pass) : Type 0 where
    pub untouched : it.cache ≡ cache
    pub served : HasServed cache_facts backing_facts it.status source left backing it.backing old
        new pass

  -- a run is such, or one over both devices
  abbrev pub HasRun : StreamFacts → StreamFacts → StreamFacts → StreamFacts → Pass → Type 0
  HasRun source left old new pass = HasServedAlone source left old new pass
      ⊎ HasServedCached cache_facts backing_facts cache backing it source left old new pass

  -- what is refused before a run is refused before anything is written
  abbrev pub KeepsWhatItRefuses : Type 0
  KeepsWhatItRefuses = IsNone it.pass → IsRefusal it.status → IsUnwritten

  -- Where nothing fails a trace in its grammar, over a device that asks for no cache, is served,
  -- but for want of memory.
  abbrev pub Completes : StreamFacts → StreamFacts → StreamFacts → StreamFacts → Type 0
  Completes source left old new = SpellsTrace source → AsksForNone (backing_facts backing)
      → (HasRisen source.faults left.faults → ⊥)
      → (HasRisen (backing_facts backing).faults (backing_facts it.backing).faults → ⊥)
      → (HasStopped old new → ⊥)
      → (it.status ≡ statuses.Done) ⊎ (it.status ≡ statuses.Memory)

  -- A pair that needs its cache is answered by its first refusal, or that what is asked isn't
  -- served; or, where the trace asks for nothing, it is opened and closed, and where it asks to
  -- read, a run began.
  abbrev pub IsJudged : StreamFacts → StreamFacts → StreamFacts → StreamFacts → Type 0
  IsJudged source left old new = AnswersPair source left (cache_facts cache) (cache_facts it.cache)
      (backing_facts backing) (backing_facts it.backing) (IsSome it.pass) it.status old new

  -- Where nothing fails a command but `serve` was done, or had one of these reasons: its words, a
  -- superblock, memory, or of a check the verdict.
  abbrev pub EndsWell : List (String Global) → StreamFacts → StreamFacts → Type 0
  EndsWell words old new = (DeviceRose → ⊥) → (HasStopped old new → ⊥)
      → ((it.status ≡ statuses.Done) ⊎ (it.status ≡ statuses.Usage)
      ⊎ (it.status ≡ statuses.Superblock) ⊎ (it.status ≡ statuses.Memory))
      ⊎ ((it.status ≡ statuses.Image) × IsCheck words)

  -- What every command promises: what it refuses before a run it refuses before anything is
  -- written, and a status that names a device, the source or the sink has its cause there.
  pub record HasCause (source left old new : StreamFacts) : Type 0 where
    pub unwritten : KeepsWhatItRefuses
    pub by_device : it.status ≡ statuses.Device → DeviceRose
    pub by_source : it.status ≡ statuses.Source → HasRisen source.faults left.faults
    pub by_sink : it.status ≡ statuses.Sink → HasStopped old new

  -- What the command that serves a trace promises.
  pub record ServesOver (source left old new : StreamFacts) : Type 0 where
    -- Where no run began the status has its cause, the message was put, and no sector was written;
    -- or a pair with a cache was opened and closed, or couldn't be opened, and whatever a crash
    -- leaves shows what it showed.
    pub stopped : HasNotBegun source left old new
    -- The pass is that of a run whose answers serve the trace, and which give the status, the lines
    -- and the message. Over the backing device alone whatever a crash leaves shows for each sector
    -- a value no older than the last acknowledged flush, and at status `Done` its last write, and
    -- no sector outside of the data is written. Over a pair with a cache no line writes, and
    -- whatever a crash leaves is a sound pair that shows what the pair showed, where that was
    -- sound.
    pub run : IfSome it.pass (HasRun source left old new)
    pub complete : Completes source left old new
    -- A pair with a cache is answered by its first refusal. Where it has none and nothing is asked
    -- of it, it is opened and closed; where it is to be read or flushed, a run begins; and more
    -- isn't served yet.
    pub judged : IsJudged source left old new
