-- Why a node wasn't read.
use Rattle.std.specs.Prelude.{ℕ, List}
use Rattle.bc_set.specs.declared.error.SetError.{SetError}
use Rattle.bc_set.specs.declared.error.SetError.TheVariants.{Memory as SetMemory}
use Rattle.bc_set.specs.declared.set.SetKind.{SetKind}
use Rattle.bc_set.specs.SetBytes.{IsRefused}
use Rattle.bc_node.specs.declared.error.NodeError.{NodeError}
use Rattle.bc_node.specs.declared.error.NodeError.TheVariants as errors

-- the refusal of a node for that of its first set
abbrev pub error_of : SetError → NodeError
error_of SetMemory = errors.Memory
error_of cause = errors.First cause

-- The bytes of a node were refused for this: they begin with no set, for the reason, or memory ran out.
abbrev pub IsCause : ℕ → ℕ → SetKind → List ℕ → NodeError → Type 0
IsCause word set_magic kind bytes (errors.First cause) = IsRefused word set_magic kind bytes cause
IsCause word set_magic kind bytes errors.Memory = Unit {0}
IsCause word set_magic kind bytes errors.Ranges = ⊥
IsCause word set_magic kind bytes errors.Fault = ⊥
