-- The words of a command, and why a trace isn't served.
use Rattle.std.specs.Prelude.{◌≡◌, ◌≢◌, ◌⊎◌, ℕ, All, Any, Bool, List, Some, map, string_bytes, String}
use Rattle.std.specs.declared.alloc.Global.{Global}
use Rattle.bc_sound_reads.specs.bc_cached_serve.Answered.{KeepsValues}
use Rattle.bc_disk.specs.Device.{HasRisen}
use Rattle.bc_disk.specs.Disk.{DiskFacts}
use Rattle.bc_disk.specs.Stream.{StreamFacts}
use Rattle.bc_image.specs.Pair.{Pair}
use Rattle.bc_image.specs.Reading.{IsView, View}
use Rattle.bc_image.specs.Sound.{ServesAlone}
use Rattle.bc_replay.specs.Causes.{OfHeld}
use Rattle.bc_replay.specs.Survey.{IsFirst}
use Rattle.bc_replay.specs.declared.error.OpenError.{OpenError}
use Rattle.bc_script.specs.Trace.{IsCause, IsTrace, IsWhole, SpellAll, lines_of}
use Rattle.bc_script.specs.declared.line.Line.{Line}
use Rattle.bc_script.specs.declared.line.Line.TheVariants as line
use Rattle.bc_script.specs.declared.script.TraceError.TheVariants as trace
use Rattle.bc_pair.specs.declared.pair.NewPair.{NewPair}
use Rattle.bc_words.specs.Words.{IsInRange, Spells}
use Rattle.bc_words.specs.declared.command.Command.{Command}
use Rattle.bc_words.specs.declared.command.Options.{Options}
use Rattle.bc_words.specs.declared.command.Command.TheVariants as command
use Rattle.bc_output.specs.Message.{message_text}
use Rattle.bc_output.specs.declared.status.Status.{Status}
use Rattle.bc_output.specs.declared.status.Status.TheVariants as statuses
use Rattle.bc_output.specs.declared.message.Message.TheVariants as message
use Rattle.bc_top.specs.Ended.{IsPutOf}
use Rattle.bc_super.specs.Division.{IsPassThrough}
use Rattle.bc_super.specs.declared.backing.BackingSuper.{BackingSuper}
use Rattle.bc_top.specs.Opened.{IsAnswerTo, IsOpened, IsOpeningCause, IsSameDevice}
use Rattle.bc_top.specs.Stops.{message_of, status_of}
use Rattle.bc_top.specs.Pairs.{HasAdopted, HasChecked, HasFormatted, HasShown}
use Rattle.bc_top.specs.declared.stop.Stop.{Stop}
use Rattle.bc_top.specs.declared.stop.Stop.TheVariants as stop

-- the words spell this command
abbrev pub Says : List (String Global) → Command → Type 0
Says words command = IsInRange command × Spells (map string_bytes words) command

-- The words say that a trace is to be served. A run over the backing device alone has no use for
-- the options.
abbrev pub IsServe : List (String Global) → Type 0
IsServe words = (options : Options) × Says words (command.Serve options)

-- the words spell no command
abbrev pub SaysNone : List (String Global) → Type 0
SaysNone words = (command : Command) → Says words command → ⊥

-- the words ask whether a pair is sound
abbrev pub IsCheck : List (String Global) → Type 0
IsCheck words = (list : Bool) × Says words (command.Check list)

-- there was no memory to read the words: this is told, and nothing is done
pub record LacksMemory {C B : Type 0} (status : Status) (cache cache' : C) (backing backing' : B)
    (old new : StreamFacts) : Type 0 where
  pub status_is : status ≡ statuses.Memory
  pub cache_is : cache' ≡ cache
  pub backing_is : backing' ≡ backing
  pub told : IsPutOf (message_text message.Memory) old new

-- What a command but `serve` does. The words of `format` are the new pair, field by field.
abbrev pub Does : {C B : Type 0} → (C → DiskFacts) → (B → DiskFacts) → Command → Status
    → C → C → B → B → StreamFacts → StreamFacts → Type 0
Does cache_facts backing_facts (command.Format set cuuid buuid block bucket mode offset)
    status cache cache' backing backing' old new = (p : NewPair)
    × (p.set_uuid ≡ set) × (p.cache_uuid ≡ cuuid) × (p.backing_uuid ≡ buuid)
    × (p.block ≡ block) × (p.bucket ≡ bucket) × (p.mode ≡ mode) × (p.offset ≡ offset)
    × HasFormatted cache_facts backing_facts status cache cache' backing backing' old new p
Does cache_facts backing_facts command.Adopt status cache cache' backing backing' old new =
    HasAdopted cache_facts backing_facts status cache cache' backing backing' old new
Does cache_facts backing_facts command.Show status cache cache' backing backing' old new =
    HasShown cache_facts backing_facts status cache cache' backing backing' old new
Does cache_facts backing_facts (command.Check list) status cache cache' backing backing' old new =
    HasChecked cache_facts backing_facts status cache cache' backing backing' old new list
Does cache_facts backing_facts (command.Serve options)
    status cache cache' backing backing' old new = Unit {0}

-- the source tells a text that spells a trace
abbrev pub SpellsTrace : StreamFacts → Type 0
SpellsTrace source = (text : List ℕ) × (source.text ≡ Some text)
    × ((lines : List Line) × SpellAll (lines_of text) lines × IsTrace lines)

-- no sector of either device was written
abbrev pub AreSame : DiskFacts → DiskFacts → DiskFacts → DiskFacts → Type 0
AreSame cache cache' backing backing' = IsSameDevice cache cache' × IsSameDevice backing backing'

-- neither device was called
abbrev pub AreUncalled : DiskFacts → DiskFacts → DiskFacts → DiskFacts → Type 0
AreUncalled cache cache' backing backing' =
    (cache'.calls ≡ cache.calls) × (backing'.calls ≡ backing.calls)

-- a line that asks for something, and lines of which none does
abbrev pub AskSomething : List Line → Type 0
AskSomething lines = Any (λ l. l ≢ line.Silent) lines

abbrev pub AskNothing : List Line → Type 0
AskNothing lines = All (λ l. l ≡ line.Silent) lines

-- lines of which some asks for something, and none for anything but to read or to flush; and lines
-- of which some asks for more
abbrev pub AskToKeep : List Line → Type 0
AskToKeep lines = AskSomething lines × All KeepsValues lines

abbrev pub AskMore : List Line → Type 0
AskMore lines = All KeepsValues lines → ⊥

-- the whole trace was read before; its lines are such
abbrev pub WasReadAs : (List Line → Type 0) → StreamFacts → StreamFacts → Type 0
WasReadAs P source left = (lines : List Line) × IsTrace lines × IsWhole source left lines × P lines

abbrev pub WasRead : StreamFacts → StreamFacts → Type 0
WasRead source left = (lines : List Line) × IsTrace lines × IsWhole source left lines

-- there was no memory for a run, over a pair that had been opened for it
abbrev pub LacksRun : DiskFacts → DiskFacts → DiskFacts → DiskFacts → Type 0
LacksRun cache cache' backing backing' = (cache'.calls ≡ cache.calls)
    × ((s : BackingSuper) × IsPassThrough s × IsOpened s backing backing')

-- Why a trace isn't served: first the trace is read, and then the pair. Want of memory comes at any
-- time, but no device is called before the whole trace is read, and no call has failed.
abbrev pub IsServeCause : Stop → StreamFacts → StreamFacts
    → DiskFacts → DiskFacts → DiskFacts → DiskFacts → Type 0
IsServeCause stop.Usage source left cache cache' backing backing' = ⊥
IsServeCause (stop.Trace e) source left cache cache' backing backing' =
    IsCause source left (trace.Script e) × AreUncalled cache cache' backing backing'
IsServeCause stop.Source source left cache cache' backing backing' =
    HasRisen source.faults left.faults × AreUncalled cache cache' backing backing'
IsServeCause stop.Memory source left cache cache' backing backing' =
    (IsCause source left trace.Memory × AreUncalled cache cache' backing backing')
    ⊎ (WasRead source left × (LacksRun cache cache' backing backing'
    ⊎ IsOpeningCause cache cache' backing backing' stop.Memory))
IsServeCause stop.Unserved source left cache cache' backing backing' =
    WasReadAs AskMore source left × IsOpeningCause cache cache' backing backing' stop.Unserved
IsServeCause why source left cache cache' backing backing' =
    WasRead source left × IsOpeningCause cache cache' backing backing' why

-- where a call ends so, the count of a device's faults rose
abbrev pub OneHasRisen : DiskFacts → DiskFacts → DiskFacts → DiskFacts → Type 0
OneHasRisen cache cache' backing backing' =
    HasRisen cache.faults cache'.faults ⊎ HasRisen backing.faults backing'.faults

-- the newest entry of the journal still needs one of number 0, which no tool writes
abbrev pub NeedsFirst : Pair → Type 0
NeedsFirst p = (v : View) × IsView p v × (v.reading.newest.item.last_seq ≡ 0)

-- no reader refuses it
abbrev pub HasNoRefusal : Pair → Type 0
HasNoRefusal p = (error : OpenError) → IsFirst p error → ⊥

-- A pair that nothing refuses was opened and closed, and nothing was printed.
abbrev pub EndsIdle : Pair → Status → StreamFacts → StreamFacts → Type 0
EndsIdle p status old new = HasNoRefusal p
    × (((status ≡ statuses.Done) × (new ≡ old)) ⊎ ((status ≡ statuses.Image) × NeedsFirst p))

-- One of which something is to be read or flushed: a run began, or its newest entry is such.
abbrev pub EndsServing : Pair → (begun : Type 0) → Status → Type 0
EndsServing p begun status =
    HasNoRefusal p × (begun ⊎ ((status ≡ statuses.Image) × NeedsFirst p))

-- So it ended, or there was no memory.
abbrev pub EndsAnswering : Pair → List Line → (begun : Type 0) → Status → StreamFacts → StreamFacts
    → Type 0
EndsAnswering p lines begun status old new = (status ≡ statuses.Memory)
    ⊎ ((why : Stop) × IsAnswerTo p why × (why ≡ stop.Unserved → AskMore lines)
    × (status ≡ status_of why) × IsPutOf (message_text (message_of why)) old new)
    ⊎ (AskNothing lines × EndsIdle p status old new)
    ⊎ (AskToKeep lines × EndsServing p begun status)

-- Where the source tells a trace and no call of the source or of a device fails, the pair that both
-- devices hold is so answered, if it isn't served by the backing device alone.
abbrev pub AnswersPair : StreamFacts → StreamFacts → DiskFacts → DiskFacts → DiskFacts → DiskFacts
    → (begun : Type 0) → Status → StreamFacts → StreamFacts → Type 0
AnswersPair source left cache cache' backing backing' begun status old new =
    (spelled : SpellsTrace source)
    → (HasRisen source.faults left.faults → ⊥) → (OneHasRisen cache cache' backing backing' → ⊥)
    → OfHeld (λ p. (ServesAlone p → ⊥) → EndsAnswering p spelled.2.0 begun status old new) cache
    backing
