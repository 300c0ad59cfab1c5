use Rattle.std.proofs.Common.{◌≡◌, take}
use Rattle.bc_extent.specs.LastKey.{last_key}
use Rattle.bc_plain.proofs.extent.last_key.Given as goal

abbrev pub invariant-loop-key : goal.invariant-loop-key
invariant-loop-key l = l.last ≡ last_key (take l.key-index l.keys) l.sector
