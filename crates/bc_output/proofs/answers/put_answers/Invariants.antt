use Rattle.std.proofs.Common.{length, ◌-◌, ◌≤◌}
use Rattle.std.specs.Prelude.{take}
use Rattle.bc_output.proofs.Standing.{AreTaken}
use Rattle.bc_output.proofs.answers.put_answers.Given as goal

-- what was put for the answers so far
abbrev pub invariant-loop-next : goal.invariant-loop-next
invariant-loop-next g l = (l.next ≤ length l.answers) × AreTaken l.memory_missed (take l.next l.answers) (g.K.Sink.facts l.fn.out) (g.K.Sink.facts l.out)

abbrev pub decreases-loop-next : goal.decreases-loop-next
decreases-loop-next g l = length l.answers - l.next
