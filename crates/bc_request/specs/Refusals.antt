-- Why requests over a cache are refused.
use Rattle.bc_reader.specs.bc_fetch.declared.error.LeafError.{LeafError}
use Rattle.bc_reader.specs.bc_fetch.declared.error.LeafError.TheVariants as leaf
use Rattle.bc_job.specs.bc_hand.declared.error.StepError.{StepError}
use Rattle.bc_job.specs.bc_hand.declared.error.StepError.TheVariants as step
use Rattle.bc_reader.specs.declared.error.ReadError.{ReadError}
use Rattle.bc_reader.specs.declared.error.ReadError.TheVariants as error
use Rattle.bc_request.specs.declared.error.RequestError.{RequestError}
use Rattle.bc_request.specs.declared.error.RequestError.TheVariants as request

abbrev pub of_step : StepError → RequestError
of_step (step.Fault device) = request.Fault device
of_step (step.Halted device) = request.Halted device
of_step step.Memory = request.Memory

abbrev pub of_leaf : LeafError → RequestError
of_leaf (leaf.Step e) = of_step e
of_leaf leaf.Busy = request.Busy
of_leaf leaf.Outside = request.Outside
of_leaf leaf.Missing = request.Missing
of_leaf (leaf.Node bucket why) = request.Node bucket why

-- each cause has a refusal of its own
abbrev pub refusal : ReadError → RequestError
refusal (error.Leaf e) = of_leaf e
refusal error.Lost = request.Lost
