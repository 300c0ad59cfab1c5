use Rattle.std.proofs.Common.{◌≡◌, take}
use Rattle.bc_model.proofs.values.Values.from_bytes.Given as goal

abbrev pub invariant-loop-place : goal.invariant-loop-place
invariant-loop-place l = l.values ≡ take l.place l.sectors
