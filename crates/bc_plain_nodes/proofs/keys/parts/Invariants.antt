use Rattle.std.proofs.Common.{◌-◌}
use Rattle.bc_plain_nodes.specs.Look.{look_of}
use Rattle.bc_plain_nodes.proofs.Parts.{AreUpTo}
use Rattle.bc_plain_nodes.proofs.keys.parts.Given as goal

abbrev pub invariant-loop-at : goal.invariant-loop-at
invariant-loop-at l = AreUpTo (look_of l.bare l.keys) l.at l.parts.items

abbrev pub decreases-loop-at : goal.decreases-loop-at
decreases-loop-at l = l.end - l.at
