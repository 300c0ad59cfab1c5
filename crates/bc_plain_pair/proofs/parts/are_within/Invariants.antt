use Rattle.std.proofs.Common.{take}
use Rattle.std.specs.Prelude.{All}
use Rattle.bc_image.specs.Sound.{LiesWithin}
use Rattle.bc_plain_pair.proofs.parts.are_within.Given as goal

abbrev pub invariant-loop-key : goal.invariant-loop-key
invariant-loop-key l = All (LiesWithin l.level l.from l.end) (take l.key-index l.keys)
