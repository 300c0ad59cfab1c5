use Rattle.std.proofs.Common.{◌≡◌, ◌++◌, take}
use Rattle.bc_tree.proofs.merge.push_keys.Given as goal

abbrev pub invariant-loop-i : goal.invariant-loop-i
invariant-loop-i l = l.all.items ≡ l.initial.all.items ++ take l.i l.keys.keys
