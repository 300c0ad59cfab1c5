use Rattle.std.proofs.Common.{◌≡◌, ◌+◌, drop}
use Rattle.bc_node.specs.Sets.{taken_by}
use Rattle.bc_node.proofs.read.sectors_of.Given as goal

abbrev pub invariant-loop-set : goal.invariant-loop-set
invariant-loop-set l = l.sectors + taken_by l.g (drop l.set-index l.sets) ≡ taken_by l.g l.sets
