use Rattle.std.proofs.Common.{drop, take}
use Rattle.bc_change.specs.Goes.{numbers}
use Rattle.bc_install.specs.Installed.{AreTakenOut}
use Rattle.bc_install.proofs.leaves.take_going.Given as goal

abbrev pub invariant-loop-i : goal.invariant-loop-i
invariant-loop-i l = AreTakenOut (numbers (take l.i (drop l.e.place l.spine.leaves)))
    l.initial.cache l.cache
