-- What a line is answered where its request was refused.
use Rattle.bc_job.specs.declared.error.RequestError.{RequestError}
use Rattle.bc_job.specs.declared.error.RequestError.TheVariants as request
use Rattle.bc_script.specs.declared.answer.Refusal.{Refusal}
use Rattle.bc_script.specs.declared.answer.Refusal.TheVariants as refusal

abbrev pub refusal_of : RequestError → Refusal
refusal_of request.OutOfRange = refusal.OutOfRange
refusal_of (request.Fault device) = refusal.Fault device
refusal_of (request.Halted device) = refusal.Halted device
refusal_of request.Memory = refusal.Memory
