use Rattle.std.proofs.Common.{◌≡◌, drop}
use Rattle.bc_flight.specs.Candidates.{first_of}
use Rattle.bc_flight.specs.declared.candidate.Wanted.TheVariants.{Dead}
use Rattle.bc_candidate.proofs.dead.first_dead.Given as goal

abbrev pub invariant-loop-candidate : goal.invariant-loop-candidate
invariant-loop-candidate l =
    first_of Dead l.items ≡ first_of Dead (drop l.candidate-index l.items)
