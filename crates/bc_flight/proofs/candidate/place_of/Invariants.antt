use Rattle.std.proofs.Common.{◌≡◌, ◌++◌, take, drop}
use Rattle.bc_flight.specs.Candidates.{first_of, without_first}
use Rattle.bc_flight.proofs.candidate.place_of.Given as goal

abbrev pub invariant-loop-i : goal.invariant-loop-i
invariant-loop-i l = (first_of l.wanted l.items ≡ first_of l.wanted (drop l.i l.items)) × (without_first l.wanted l.items ≡ take l.i l.items ++ without_first l.wanted (drop l.i l.items))
