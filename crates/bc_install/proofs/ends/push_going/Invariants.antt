use Rattle.std.proofs.Common.{◌≡◌, ◌++◌, drop, take}
use Rattle.bc_install.proofs.ends.push_going.Given as goal
use Rattle.bc_install.specs.Ends.{leaf_buckets}

abbrev pub invariant-loop-i : goal.invariant-loop-i
invariant-loop-i l = l.list.items
    ≡ l.initial.list.items ++ leaf_buckets l.g (take l.i (drop l.e.place l.spine.leaves))
