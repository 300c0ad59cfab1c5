-- What a call that served a trace promises.
use Rattle.std.specs.Prelude.{◌≡◌, List, None}
use Rattle.bc_book.specs.declared.pass.Pass.{Pass}
use Rattle.bc_disk.specs.Disk.{DiskFacts, IfTold}
use Rattle.bc_disk.specs.Stream.{StreamFacts}
use Rattle.bc_events.specs.declared.event.Event.{Event}
use Rattle.bc_output.specs.declared.status.Status.{Status}
use Rattle.bc_output.specs.declared.status.Status.TheVariants as statuses
use Rattle.bc_session_laws.specs.bc_machine.declared.part.BackingPart.{BackingPart}
use Rattle.bc_model.specs.Sector.{Image}
use Rattle.bc_session_laws.specs.bc_plain_laws.Promises.{LeavesLastWrites, IsUntouched, Survives}
use Rattle.bc_script.specs.Trace.{IsTrace, IsWhole}
use Rattle.bc_script.specs.declared.answer.Answer.{Answer}
use Rattle.bc_script.specs.declared.line.Line.{Line}
use Rattle.bc_sound_reads.specs.bc_serve.Run.{HasRun}
use Rattle.bc_sound_reads.specs.bc_serve.declared.closing.Closing.{Closing}
use Rattle.bc_super.specs.Division.{IsPassThrough}
use Rattle.bc_super.specs.Reading.{ReadsSuper}
use Rattle.bc_super.specs.Super.{data_sectors}
use Rattle.bc_super.specs.declared.backing.BackingSuper.{BackingSuper}
use Rattle.bc_top.specs.Ended.{AreExpected, IsDone, IsEnd}
use Rattle.bc_top.specs.Opened.{IsOpened, SameImage}

-- where the device told what it held: its superblock, and that of the sectors as the run began
abbrev pub OverHeld : DiskFacts → (BackingSuper → Image → Type 0) → Type 0
OverHeld d P = IfTold d.holds (λ held. (s : BackingSuper) × ReadsSuper d s
    × ((image : Image) × SameImage held image × P s image))

-- The history is legal, and whatever a crash leaves shows for each sector a value no older than the
-- last acknowledged flush.
abbrev pub HasSurvived : DiskFacts → DiskFacts → Pass → Type 0
HasSurvived old new pass = OverHeld old (λ s image.
    Survives s.data_offset image pass.entries.items new)

-- It shows each sector's last write.
abbrev pub HasSettled : DiskFacts → DiskFacts → Pass → Type 0
HasSettled old new pass = OverHeld old (λ s image.
    LeavesLastWrites s.data_offset image pass.entries.items new)

-- Before the data and behind them the device is as it was.
abbrev pub HasSpared : DiskFacts → DiskFacts → Type 0
HasSpared old new = OverHeld old (λ s image.
    IsUntouched s.data_offset (data_sectors old.sectors s) image new)

-- The pass is that of a run over the device as it was opened, whose answers serve the trace. What
-- they say, the closing and the sink give the status, and the lines and the message that were put.
--
-- Over a device that tells what it holds the history is legal, and whatever a crash leaves shows
-- for each sector a value no older than the last acknowledged flush; at status `Done`, its last
-- write. No sector outside of the data is written.
pub record HasServed {C B : Type 0} (cache_facts : C → DiskFacts) (backing_facts : B → DiskFacts)
    (status : Status) (source source' : StreamFacts) (backing backing' : B)
    (old new : StreamFacts) (pass : Pass) : Type 0 where
  pub opened : BackingPart B
  pub left : BackingPart B
  pub super : BackingSuper
  pub lines : List Line
  pub answers : List Answer
  pub how : Closing
  pub events : List Event
  pub alone : IsPassThrough super
  pub is_opened : IsOpened super (backing_facts backing) (backing_facts opened.disk)
  pub offset : opened.offset ≡ super.data_offset
  pub size : opened.size ≡ data_sectors (backing_facts opened.disk).sectors super
  pub trace : IsTrace lines
  pub whole : IsWhole source source' lines
  pub run : HasRun cache_facts backing_facts opened left lines answers how events pass
  pub left_is : left.disk ≡ backing'
  pub ends : IsEnd status answers None how old new
  pub done : status ≡ statuses.Done → IsDone opened.size lines answers old new
  pub expected : AreExpected super.data_offset opened.size lines answers (backing_facts backing)
  pub survives : HasSurvived (backing_facts backing) (backing_facts backing') pass
  pub stable : status ≡ statuses.Done
      → HasSettled (backing_facts backing) (backing_facts backing') pass
  pub spared : HasSpared (backing_facts backing) (backing_facts backing')
