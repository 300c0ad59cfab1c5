-- With which status and message a call ends before its command is done.
use Rattle.std.specs.Prelude.{◌≡◌, ◌⊎◌}
use Rattle.bc_output.specs.declared.message.Message.{Message}
use Rattle.bc_output.specs.declared.message.Message.TheVariants as message
use Rattle.bc_output.specs.declared.message.Origin.TheVariants as origin
use Rattle.bc_output.specs.Status.{status_of as message_status}
use Rattle.bc_output.specs.declared.status.Status.{Status}
use Rattle.bc_output.specs.declared.status.Status.TheVariants as statuses
use Rattle.bc_script.specs.Reason.{number_of}
use Rattle.bc_replay.specs.Numbers.{number_of as open_number}
use Rattle.bc_replay.specs.declared.error.OpenError.{OpenError}
use Rattle.bc_replay.specs.declared.error.OpenError.TheVariants as errors
use Rattle.bc_super.specs.Super.{number_of as super_number}
use Rattle.bc_check.specs.declared.verdict.CheckError.{CheckError}
use Rattle.bc_check.specs.declared.verdict.CheckError.TheVariants as checks
use Rattle.bc_check.specs.declared.verdict.Verdict.{Verdict}
use Rattle.bc_check.specs.declared.verdict.Verdict.TheVariants as verdicts
use Rattle.bc_pair.specs.declared.error.PairError.{PairError}
use Rattle.bc_pair.specs.declared.error.PairError.TheVariants as pairs
use Rattle.bc_script.specs.declared.script.TraceError.{TraceError}
use Rattle.bc_script.specs.declared.script.TraceError.TheVariants as traces
use Rattle.bc_words.specs.declared.error.WordsError.{WordsError}
use Rattle.bc_words.specs.declared.error.WordsError.TheVariants as words
use Rattle.bc_top.specs.declared.stop.Stop.{Stop}
use Rattle.bc_top.specs.declared.stop.Stop.TheVariants as stop

-- the message
abbrev pub message_of : Stop → Message
message_of stop.Usage = message.Usage
message_of (stop.Trace e) = message.Trace e.line (number_of e.why)
message_of (stop.Superblock device number) = message.Superblock device number
message_of (stop.Image number) = message.Image number
message_of stop.Unserved = message.Unserved
message_of (stop.Fault device) = message.Fault (origin.Disk device)
message_of stop.Source = message.Fault origin.Source
message_of stop.Memory = message.Memory

-- the status
abbrev pub status_of : Stop → Status
status_of why = message_status (message_of why)

-- the words, the trace, a superblock or what stands behind it was refused
abbrev pub IsRefusal : Status → Type 0
IsRefusal status = (status ≡ statuses.Usage) ⊎ (status ≡ statuses.Trace)
    ⊎ (status ≡ statuses.Superblock) ⊎ (status ≡ statuses.Image)

-- why a call ends whose pair can't be opened: a fault of a superblock is told by its own number
abbrev pub open_stop : OpenError → Stop
open_stop (errors.Super device why) = stop.Superblock device (super_number why)
open_stop (errors.Fault device) = stop.Fault device
open_stop errors.Memory = stop.Memory
open_stop error = stop.Image (open_number error)

-- why a call ends whose pair isn't made or shown
abbrev pub pair_stop : PairError → Stop
pair_stop (pairs.Superblock device why) = stop.Superblock device (super_number why)
pair_stop (pairs.Fault device) = stop.Fault device
pair_stop pairs.Memory = stop.Memory

-- why a call ends whose words aren't read
abbrev pub words_stop : WordsError → Stop
words_stop words.Usage = stop.Usage
words_stop words.Memory = stop.Memory

-- why a call ends whose trace isn't read
abbrev pub trace_stop : TraceError → Stop
trace_stop (traces.Script e) = stop.Trace e
trace_stop traces.Fault = stop.Source
trace_stop traces.Memory = stop.Memory

-- why a call ends whose pair gets no verdict
abbrev pub check_stop : CheckError → Stop
check_stop (checks.Open why) = open_stop why
check_stop (checks.Fault device) = stop.Fault device
check_stop checks.Memory = stop.Memory

-- the status of a verdict: all is done where the pair is sound
abbrev pub verdict_status : Verdict → Status
verdict_status verdicts.PassThrough = statuses.Done
verdict_status (verdicts.Sound dirty clean) = statuses.Done
verdict_status (verdicts.Journal bucket) = statuses.Image
verdict_status (verdicts.Age sector) = statuses.Image
verdict_status (verdicts.Agree sector) = statuses.Image
