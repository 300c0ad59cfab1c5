use Rattle.std.proofs.Common.{◌≡◌, ◌++◌, take, vec_capacity}
use Rattle.bc_plain.proofs.vector.splice.append_within.Given as goal

abbrev pub invariant-loop-key : goal.invariant-loop-key
invariant-loop-key l = record {
  items : l.keys.items ≡ l.fn.keys.items ++ take l.key-index l.more;
  capacity : vec_capacity l.keys ≡ vec_capacity l.fn.keys;
}
