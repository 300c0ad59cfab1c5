-- How a refusal is told.
use Rattle.std.specs.Prelude.{◌≡◌, ◌⊎◌}
use Rattle.bc_disk.specs.Stream.{StreamFacts}
use Rattle.bc_output.specs.Put.{Takes, IsWriteFault}
use Rattle.bc_output.specs.Message.{message_text}
use Rattle.bc_output.specs.Status.{status_of as message_status}
use Rattle.bc_output.specs.declared.status.Status.{Status}
use Rattle.bc_output.specs.declared.put.WriteFault.{WriteFault}
use Rattle.bc_output.specs.declared.message.Message.{Message}
use Rattle.bc_output.specs.declared.message.Message.TheVariants.{Usage as UsageMessage, Fault as FaultMessage, Memory as MemoryMessage}
use Rattle.bc_output.specs.declared.message.Origin.TheVariants.{Disk}
use Rattle.bc_prog.specs.declared.refusal.Refusal.{Refusal}
use Rattle.bc_prog.specs.declared.refusal.Refusal.TheVariants.{Usage, NotOpened, Memory}

abbrev pub message_of : Refusal → Message
message_of Usage = UsageMessage
message_of (NotOpened device) = FaultMessage (Disk device)
message_of Memory = MemoryMessage

abbrev pub status_of : Refusal → Status
status_of refusal = message_status (message_of refusal)

-- the program ends with its status, and the sink has taken the line of its message or failed
pub record IsRefused (refusal : Refusal) (status : Status) (old new : StreamFacts) : Type 0 where
  pub ended : status ≡ status_of refusal
  pub line : Takes (message_text (message_of refusal)) old new
      ⊎ ((cause : WriteFault) × IsWriteFault cause (message_text (message_of refusal)) old new)

-- it may come of the words of the command line alone
abbrev pub IsOfWords : Refusal → Type 0
IsOfWords Usage = Unit {0}
IsOfWords (NotOpened device) = ⊥
IsOfWords Memory = Unit {0}
