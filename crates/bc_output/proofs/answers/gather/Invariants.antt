use Rattle.std.proofs.Common.{length, ◌-◌, ◌≤◌, false, take}
use Rattle.bc_output.specs.Lines.{StandForAll}
use Rattle.bc_output.proofs.answers.gather.Given as goal

-- the lines of so many answers stand there
abbrev pub invariant-loop-count : goal.invariant-loop-count
invariant-loop-count l = (l.count ≤ length l.answers) × StandForAll false (take l.count l.answers) l.lines.items

abbrev pub decreases-loop-count : goal.decreases-loop-count
decreases-loop-count l = length l.answers - l.count
