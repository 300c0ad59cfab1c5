use Rattle.std.proofs.Common.{take}
use Rattle.bc_install.specs.Buckets.{HasTouched}
use Rattle.bc_install.proofs.buckets.touch_leaf.Given as goal

abbrev pub invariant-loop-i : goal.invariant-loop-i
invariant-loop-i l = HasTouched l.first (take l.i l.leaf.keys) l.initial.part l.part
