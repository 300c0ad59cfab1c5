use Rattle.std.proofs.Common.{◌≡◌, drop}
use Rattle.bc_flight.specs.Candidates.{first_of}
use Rattle.bc_flight.specs.declared.candidate.Wanted.TheVariants.{Due}
use Rattle.bc_settle.proofs.due.first_due.Given as goal

abbrev pub invariant-loop-candidate : goal.invariant-loop-candidate
invariant-loop-candidate l = first_of (Due l.before) l.items
    ≡ first_of (Due l.before) (drop l.candidate-index l.items)
