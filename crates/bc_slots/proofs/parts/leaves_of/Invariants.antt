use Rattle.std.proofs.Common.{◌≡◌, take}
use Rattle.bc_slots.proofs.parts.leaves_of.Given as goal

abbrev pub invariant-loop-place : goal.invariant-loop-place
invariant-loop-place l = l.leaves.items ≡ take l.place l.tree.leaves
