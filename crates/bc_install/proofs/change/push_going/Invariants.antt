use Rattle.std.proofs.Common.{◌≡◌, ◌++◌, drop, take}
use Rattle.bc_change.specs.Goes.{numbers}
use Rattle.bc_install.proofs.change.push_going.Given as goal

abbrev pub invariant-loop-i : goal.invariant-loop-i
invariant-loop-i l = l.list.items
    ≡ l.initial.list.items ++ numbers (take l.i (drop l.e.place l.spine.leaves))
