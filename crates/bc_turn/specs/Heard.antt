-- A halt of which a seat has heard is answered before want of memory.
use Rattle.std.specs.Prelude.{◌≡◌, List, Option, Some, None}
use Rattle.bc_append.specs.bc_hand.declared.error.StepError.{StepError}
use Rattle.bc_append.specs.bc_hand.declared.error.StepError.TheVariants as error
use Rattle.bc_disk.specs.declared.disk.Device.{Device}
use Rattle.bc_events.specs.Columns.{halt_of}
use Rattle.bc_events.specs.declared.event.Event.{Event}

-- what a seat answers to an error, which has seen these events and has heard of this halt, or of none
abbrev pub IsAnswerTo : StepError → (heard : Option Device) → (seen : List Event) → StepError → Type 0
IsAnswerTo (error.Fault device) heard seen answer = answer ≡ error.Fault device
IsAnswerTo (error.Halted device) heard seen answer = answer ≡ error.Halted device
IsAnswerTo error.Memory None seen answer = answer ≡ error.Memory
IsAnswerTo error.Memory (Some device) seen answer =
    (answer ≡ error.Halted device) × (halt_of seen ≡ Some device)
