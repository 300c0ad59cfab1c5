use Rattle.std.proofs.Common.{take}
use Rattle.bc_install.proofs.ends.is_in.Given as goal
use Rattle.bc_meta.specs.Facts.{In}

abbrev pub invariant-loop-other : goal.invariant-loop-other
invariant-loop-other l = In l.number (take l.other-index l.list) → ⊥
