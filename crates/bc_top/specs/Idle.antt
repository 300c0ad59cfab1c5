-- A trace that asks for nothing, over a pair with a cache: it is opened and closed.
use Rattle.std.specs.Prelude.{◌≡◌, ◌⊎◌, ◌*◌, ◌≤◌, Err}
use Rattle.bc_disk.specs.Disk.{DiskFacts}
use Rattle.bc_disk.specs.Stream.{StreamFacts}
use Rattle.bc_session_laws.specs.bc_open.Idle.{HasIdled}
use Rattle.bc_session_laws.specs.bc_open.Left.{ShowsOn}
use Rattle.bc_output.specs.Message.{message_text}
use Rattle.bc_output.specs.declared.status.Status.{Status}
use Rattle.bc_output.specs.declared.status.Status.TheVariants as statuses
use Rattle.bc_recover.specs.Read.{HasParts, IsReadOf}
use Rattle.bc_replay.specs.Causes.{OfHeld}
use Rattle.bc_replay.specs.Survey.{CanBeOpened}
use Rattle.bc_replay.specs.declared.error.OpenError.{OpenError}
use Rattle.bc_replay.specs.declared.held.Survey.{Survey}
use Rattle.bc_session_laws.specs.bc_session.Idle.{IsIdleStop}
use Rattle.bc_session_laws.specs.bc_session.declared.idle.Idled.{Idled}
use Rattle.bc_super.specs.Division.{IsPassThrough}
use Rattle.bc_super.specs.Reading.{ReadsSuper}
use Rattle.bc_super.specs.declared.backing.BackingSuper.{BackingSuper}
use Rattle.bc_top.specs.Ended.{IsPutOf}
use Rattle.bc_top.specs.Opened.{AreQuiet, AreStill, IsReadAgain, IsSameDevice, opening_calls}
use Rattle.bc_top.specs.Stops.{message_of, open_stop, status_of}
use Rattle.bc_top.specs.Top.{AskNothing, WasReadAs}

-- The pair was read whole but for its data, and nothing refuses it: its backing device has this
-- superblock, which asks for a cache. No sector was written and no call failed, and a crash would
-- leave of both devices exactly what they hold.
pub record IsTested (b : BackingSuper) (s : Survey) (cache cache' backing backing' : DiskFacts)
    : Type 0 where
  pub asks : IsPassThrough b → ⊥
  pub can : OfHeld CanBeOpened cache backing
  pub quiet : AreQuiet cache cache' backing backing'
  pub again : IsReadAgain cache cache' backing backing'
      (opening_calls cache cache' backing backing')
  pub still : AreStill cache' backing'
  pub cache_same : IsSameDevice cache cache'
  pub backing_same : IsSameDevice backing backing'
  pub reads : ReadsSuper backing' b
  pub parts : HasParts s
  pub room : s.supers.geometry.bucket * s.supers.geometry.nbuckets ≤ cache'.sectors
  pub read : OfHeld (IsReadOf s) cache' backing'

-- what a pair that wasn't opened and closed leaves
abbrev pub left_with : {C B : Type 0} → OpenError → C → B → Idled C B
left_with error cache backing =
    record { cache = cache; backing = backing; result = Err error }

module _ {C B : Type 0} (cache_facts : C → DiskFacts) (facts : B → DiskFacts) (b : BackingSuper)
    (s : Survey) (cache cache' : C) (backing backing' : B) where
  -- this is why it wasn't opened and closed, and the message was put
  abbrev pub EndsUnopened : Status → StreamFacts → StreamFacts → Type 0
  EndsUnopened status old new = (error : OpenError)
      × IsIdleStop cache_facts facts s cache backing (left_with error cache' backing') error
      × (status ≡ status_of (open_stop error))
      × IsPutOf (message_text (message_of (open_stop error))) old new

  -- it was opened and closed, and nothing was put; or this is why not
  abbrev pub EndsOpening : Status → StreamFacts → StreamFacts → Type 0
  EndsOpening status old new =
      ((status ≡ statuses.Done) × (new ≡ old)
      × HasIdled cache_facts s b cache cache' (facts backing) (facts backing'))
      ⊎ EndsUnopened status old new

-- The trace was read and asks for nothing, the pair was tested, and then it was opened and closed,
-- or not. Whatever a crash leaves is a sound pair that shows what the pair showed, where that was
-- sound.
pub record HasOpened {C B : Type 0} (cache_facts : C → DiskFacts) (facts : B → DiskFacts)
    (status : Status) (source left : StreamFacts) (cache cache' : C) (backing backing' : B)
    (old new : StreamFacts) : Type 0 where
  pub trace : WasReadAs AskNothing source left
  pub superblock : BackingSuper
  pub survey : Survey
  -- both devices once the pair was read
  pub tested_cache : C
  pub tested : B
  pub is_tested : IsTested superblock survey (cache_facts cache) (cache_facts tested_cache)
      (facts backing) (facts tested)
  pub ends : EndsOpening cache_facts facts superblock survey tested_cache cache' tested backing'
      status old new
  pub shows : OfHeld (ShowsOn (cache_facts cache') (facts backing')) (cache_facts cache)
      (facts backing)
