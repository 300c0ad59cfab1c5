use Rattle.std.proofs.Common.{All, take}
use Rattle.bc_image.specs.Sound.{LiesWithin}
use Rattle.bc_image.specs.Tree.{set_keys}
use Rattle.bc_walk.proofs.node.lie_within.Given as goal

abbrev pub invariant-loop-set : goal.invariant-loop-set
invariant-loop-set l = All (LiesWithin 0 l.from l.end) (set_keys (take l.set-index l.sets))
