use Rattle.std.proofs.Common.{All, take}
use Rattle.bc_image.specs.Sound.{LiesWithin}
use Rattle.bc_inner.proofs.ranges.are_within.Given as goal

abbrev pub invariant-loop-key : goal.invariant-loop-key
invariant-loop-key l = All (LiesWithin 1 l.from l.end) (take l.key-index l.keys)
