use Rattle.std.proofs.Common.{◌≡◌, ◌+◌, ◌++◌, take, drop}
use Rattle.std.specs.Prelude.{vec_capacity}
use Rattle.bc_spine.proofs.row.overwrite.Given as goal

abbrev pub invariant-loop-i : goal.invariant-loop-i
invariant-loop-i l = record {
  leaves : l.row.items ≡ take l.at l.fn.row.items ++ take l.i l.come ++ drop (l.at + l.i) l.fn.row.items;
  room : vec_capacity l.row ≡ vec_capacity l.fn.row;
}
