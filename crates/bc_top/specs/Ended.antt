-- How a run ends: its status, and what is put to the sink.
use Rattle.std.specs.Prelude.{◌≡◌, ◌⊎◌, ℕ, ◌+◌, Bool, true, false, ◌||◌, List, Option, Some, None, Result, Ok, Err, MatchResult, is_some, if◌then◌else◌}
use Rattle.std.specs.List.{list_any}
use Rattle.std.specs.Result.{is_err}
use Rattle.bc_disk.specs.Device.{HasRisen}
use Rattle.bc_disk.specs.Disk.{DiskFacts, IfTold}
use Rattle.bc_disk.specs.Stream.{StreamFacts}
use Rattle.bc_script.specs.declared.line.Line.{Line}
use Rattle.bc_script.specs.Expected.{AllAnswered, answers_of}
use Rattle.bc_script.specs.declared.answer.Answer.{Answer}
use Rattle.bc_script.specs.declared.answer.Answer.TheVariants.{Silent, Done, Runs, Refused}
use Rattle.bc_script.specs.declared.answer.Refusal.TheVariants.{OutOfRange, NoBucket, Fault, Halted, Memory, JournalEnd, Node}
use Rattle.bc_output.specs.declared.answers.Printed.{Printed}
use Rattle.bc_output.specs.declared.message.Message.{Message}
use Rattle.bc_output.specs.declared.message.Message.TheVariants as message
use Rattle.bc_output.specs.declared.message.Origin.TheVariants as origin
use Rattle.bc_output.specs.declared.put.WriteFault.{WriteFault}
use Rattle.bc_output.specs.Lines.{AreLines, StandForAll, IsCut}
use Rattle.bc_output.specs.Message.{message_text}
use Rattle.bc_output.specs.declared.status.Status.{Status}
use Rattle.bc_output.specs.declared.status.Status.TheVariants as statuses
use Rattle.bc_output.specs.Put.{Takes, IsWriteFault}
use Rattle.bc_sound_reads.specs.bc_serve.declared.closing.Closing.{Closing}
use Rattle.bc_sound_reads.specs.bc_serve.declared.closing.Closing.TheVariants as closing

-- an answer says that a device failed, or had failed before
abbrev pub says_fault : Answer → Bool
says_fault Silent = false
says_fault Done = false
says_fault (Runs at values) = false
says_fault (Refused OutOfRange) = false
says_fault (Refused (NoBucket purpose none_len own_len)) = false
says_fault (Refused JournalEnd) = false
says_fault (Refused (Node bucket why)) = false
says_fault (Refused (Fault device)) = true
says_fault (Refused (Halted device)) = true
says_fault (Refused Memory) = false

-- an answer says that there was no memory
abbrev pub says_memory : Answer → Bool
says_memory Silent = false
says_memory Done = false
says_memory (Runs at values) = false
says_memory (Refused OutOfRange) = false
says_memory (Refused (NoBucket purpose none_len own_len)) = false
says_memory (Refused JournalEnd) = false
says_memory (Refused (Node bucket why)) = false
says_memory (Refused (Fault device)) = false
says_memory (Refused (Halted device)) = false
says_memory (Refused Memory) = true

-- an answer says that a node is damaged
abbrev pub says_node : Answer → Bool
says_node Silent = false
says_node Done = false
says_node (Runs at values) = false
says_node (Refused OutOfRange) = false
says_node (Refused (NoBucket purpose none_len own_len)) = false
says_node (Refused JournalEnd) = false
says_node (Refused (Node bucket why)) = true
says_node (Refused (Fault device)) = false
says_node (Refused (Halted device)) = false
says_node (Refused Memory) = false

-- the closing failed or a halt forbade it, or there was no memory for it
abbrev pub has_failed : Closing → Bool
has_failed closing.Done = false
has_failed (closing.Failed device) = true
has_failed (closing.Halted device) = true
has_failed closing.Memory = false

abbrev pub lacked_memory : Closing → Bool
lacked_memory closing.Done = false
lacked_memory (closing.Failed device) = false
lacked_memory (closing.Halted device) = false
lacked_memory closing.Memory = true

-- the status, by whether a line says fault, how the run was closed, whether a line says node or the
-- run stopped at one, whether memory was missed for a line, and whether the putting of the lines
-- was cut short
abbrev pub status_of_end : Bool → Closing → Bool → Bool → Bool → Status
status_of_end fault how unsound memory cut = if fault || has_failed how then statuses.Device
    else if unsound then statuses.Image
    else if memory || lacked_memory how then statuses.Memory
    else if cut then statuses.Sink else statuses.Done

-- the message of a closing, where no line says why the status isn't 0
abbrev pub message_of_closing : Bool → Closing → Bool → Option Message
message_of_closing fault closing.Done told = None
message_of_closing fault (closing.Failed device) told =
    if fault then None else Some (message.Fault (origin.Disk device))
message_of_closing fault (closing.Halted device) told =
    if fault then None else Some (message.Fault (origin.Disk device))
message_of_closing fault closing.Memory told =
    if fault || told then None else Some message.Memory

-- the message: where the run stopped at a line, which that is
abbrev pub message_of_end : Option ℕ → Bool → Closing → Bool → Option Message
message_of_end None fault how told = message_of_closing fault how told
message_of_end (Some line) fault how told = Some (message.Unsound line)

-- of a text that was put the sink took all, or less where a put failed or took nothing
abbrev pub IsPutOf : List ℕ → StreamFacts → StreamFacts → Type 0
IsPutOf text old new = Takes text old new ⊎ ((cause : WriteFault) × IsWriteFault cause text old new)

-- the lines of the answers were put, whole or cut short
abbrev pub ArePut : Printed → List Answer → StreamFacts → StreamFacts → Type 0
ArePut printed answers old new = MatchResult printed.put
    (λ _. (text : List ℕ) × StandForAll printed.memory_missed answers text × Takes text old new)
    (λ cause. IsCut printed.memory_missed cause answers old new)

-- a message behind whole lines was put; behind lines that were cut short, nothing
abbrev pub IsPutBehind : Result (Unit {0}) WriteFault → Option Message → StreamFacts → StreamFacts
    → Type 0
IsPutBehind (Ok _) None old new = new ≡ old
IsPutBehind (Ok _) (Some m) old new = IsPutOf (message_text m) old new
IsPutBehind (Err cause) m old new = new ≡ old

-- The run whose lines have these answers, which stopped at the line of this number or at none, and
-- which was closed so, ends with this status, and the sink has taken what belongs to it.
pub record IsEnd (status : Status) (answers : List Answer) (stopped : Option ℕ) (how : Closing)
    (old new : StreamFacts) : Type 0 where
  -- how the lines were put, and the sink behind them
  pub printed : Printed
  pub between : StreamFacts
  pub lines : ArePut printed answers old between
  pub ends : status ≡ status_of_end (list_any says_fault answers) how
      (list_any says_node answers || is_some stopped)
      (list_any says_memory answers || printed.memory_missed) (is_err printed.put)
  pub message : IsPutBehind printed.put (message_of_end stopped (list_any says_fault answers) how
      (list_any says_node answers || (list_any says_memory answers || printed.memory_missed)))
      between new

-- every line was answered as it should be, and the sink has taken the lines of the answers
pub record IsDone (size : ℕ) (lines : List Line) (answers : List Answer) (old new : StreamFacts)
    : Type 0 where
  pub answered : AllAnswered size lines answers
  pub text : List ℕ
  pub are_lines : AreLines answers text
  pub taken : Takes text old new

-- Over a device that tells what it holds, answers that refuse nothing but a range are a function of
-- the lines and of that. The data has so many sectors from this one on.
abbrev pub AreExpected : ℕ → ℕ → List Line → List Answer → DiskFacts → Type 0
AreExpected offset size lines answers d = AllAnswered size lines answers
    → IfTold d.holds (λ held. answers ≡ answers_of size lines (λ s. held (offset + s)))

-- the sink failed in this call, or took nothing of a piece that isn't empty: that count rose
abbrev pub HasStopped : StreamFacts → StreamFacts → Type 0
HasStopped old new = HasRisen old.faults new.faults ⊎ HasRisen old.stops new.stops
