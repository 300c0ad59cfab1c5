use Rattle.std.proofs.Common.{take}
use Rattle.std.specs.Prelude.{All}
use Rattle.bc_image.specs.Sound.{KeepsRange}
use Rattle.bc_plain_pair.proofs.ranges.has_ranges.Given as goal

abbrev pub invariant-loop-node : goal.invariant-loop-node
invariant-loop-node l = All KeepsRange (take l.node-index l.nodes)
