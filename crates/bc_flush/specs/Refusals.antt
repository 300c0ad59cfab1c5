-- Why a flush over a cache is refused.
use Rattle.bc_entry.specs.bc_hand.declared.error.StepError.{StepError}
use Rattle.bc_entry.specs.bc_hand.declared.error.StepError.TheVariants as step
use Rattle.bc_flush.specs.declared.error.FlushError.{FlushError}
use Rattle.bc_flush.specs.declared.error.FlushError.TheVariants as flush

abbrev pub refusal : StepError → FlushError
refusal (step.Fault device) = flush.Fault device
refusal (step.Halted device) = flush.Halted device
refusal step.Memory = flush.Memory
