-- Why requests are refused.
use Rattle.bc_deed.specs.bc_hand.declared.error.StepError.{StepError}
use Rattle.bc_deed.specs.bc_hand.declared.error.StepError.TheVariants as step
use Rattle.bc_job.specs.declared.error.RequestError.{RequestError}
use Rattle.bc_job.specs.declared.error.RequestError.TheVariants as request

abbrev pub refusal : StepError → RequestError
refusal (step.Fault device) = request.Fault device
refusal (step.Halted device) = request.Halted device
refusal step.Memory = request.Memory
