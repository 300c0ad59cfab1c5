use Rattle.std.proofs.Common.{◌≡◌, drop}
use Rattle.std.specs.Option.{option_or}
use Rattle.bc_flight.specs.Candidates.{first_of}
use Rattle.bc_plain.proofs.flight.first_of.Given as goal

abbrev pub invariant-loop-candidate : goal.invariant-loop-candidate
invariant-loop-candidate l = option_or l.first (first_of l.wanted (drop l.candidate-index l.candidates)) ≡ first_of l.wanted l.candidates
