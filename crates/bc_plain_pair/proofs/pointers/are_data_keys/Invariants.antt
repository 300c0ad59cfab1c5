use Rattle.std.proofs.Common.{take}
use Rattle.std.specs.Prelude.{All}
use Rattle.bc_image.specs.Sound.{IsDataKey}
use Rattle.bc_plain_pair.proofs.pointers.are_data_keys.Given as goal

abbrev pub invariant-loop-key : goal.invariant-loop-key
invariant-loop-key l = All (IsDataKey l.g l.size) (take l.key-index l.keys)
