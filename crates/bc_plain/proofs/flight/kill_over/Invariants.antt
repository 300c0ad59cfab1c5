use Rattle.std.proofs.Common.{◌≡◌, ◌++◌, take, drop}
use Rattle.bc_flight.specs.Candidates.{kill_over}
use Rattle.bc_plain.proofs.flight.kill_over.Given as goal

abbrev pub invariant-loop-candidate : goal.invariant-loop-candidate
invariant-loop-candidate l = take l.candidate-index l.candidates ++ kill_over l.first l.count (drop l.candidate-index l.candidates) ≡ kill_over l.first l.count l.fn.candidates
