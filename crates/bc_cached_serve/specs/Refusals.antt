-- What a line is answered where its request was refused, and which refusals have no answer.
use Rattle.std.specs.Prelude.{◌≡◌, ℕ}
use Rattle.bc_node.specs.declared.error.NodeError.{NodeError}
use Rattle.bc_node.specs.declared.error.NodeError.TheVariants as node
use Rattle.bc_flush.specs.bc_request.declared.error.RequestError.{RequestError}
use Rattle.bc_flush.specs.bc_request.declared.error.RequestError.TheVariants as request
use Rattle.bc_script.specs.declared.answer.Answer.{Answer}
use Rattle.bc_script.specs.declared.answer.Answer.TheVariants as answer
use Rattle.bc_script.specs.declared.answer.Refusal.{Refusal}
use Rattle.bc_script.specs.declared.answer.Refusal.TheVariants as refusal

-- The number by which an answer says why bytes are no node: there is no set at their first sector,
-- or a key lies outside the node's range.
abbrev pub IsNumberOf : NodeError → ℕ → Type 0
IsNumberOf (node.First cause) number = number ≡ 1
IsNumberOf node.Ranges number = number ≡ 2
IsNumberOf node.Fault number = ⊥
IsNumberOf node.Memory number = ⊥

-- a line is answered with this refusal
abbrev pub IsRefusalOf : RequestError → Refusal → Type 0
IsRefusalOf request.OutOfRange why = why ≡ refusal.OutOfRange
IsRefusalOf (request.Fault device) why = why ≡ refusal.Fault device
IsRefusalOf (request.Halted device) why = why ≡ refusal.Halted device
IsRefusalOf request.Memory why = why ≡ refusal.Memory
IsRefusalOf (request.Node bucket error) why =
    (number : ℕ) × IsNumberOf error number × (why ≡ refusal.Node bucket number)
IsRefusalOf error why = ⊥

abbrev pub IsRefusedAs : RequestError → Answer → Type 0
IsRefusedAs error a = (why : Refusal) × (a ≡ answer.Refused why) × IsRefusalOf error why

-- no answer says it: a part of the index is busy, or the index in memory is as that of no sound
-- pair
abbrev pub IsUnsound : RequestError → Type 0
IsUnsound request.Busy = Unit {0}
IsUnsound request.Outside = Unit {0}
IsUnsound request.Missing = Unit {0}
IsUnsound request.Lost = Unit {0}
IsUnsound error = ⊥

-- why bytes are no node, and nothing else
abbrev pub IsNoNode : NodeError → Type 0
IsNoNode (node.First cause) = Unit {0}
IsNoNode node.Ranges = Unit {0}
IsNoNode node.Fault = ⊥
IsNoNode node.Memory = ⊥

-- a refusal that names a bucket says of its bytes that they are no node
abbrev pub NamesNoNode : RequestError → Type 0
NamesNoNode (request.Node bucket error) = IsNoNode error
NamesNoNode error = Unit {0}
