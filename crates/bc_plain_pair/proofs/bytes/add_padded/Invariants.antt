use Rattle.std.proofs.Common.{◌≡◌, ◌++◌, take, replicate}
use Rattle.bc_plain_pair.proofs.bytes.add_padded.Given as goal

abbrev pub invariant-loop-i : goal.invariant-loop-i
invariant-loop-i l = l.all.items ≡ l.initial.all.items ++ take l.i (l.value ++ replicate 512 0)
