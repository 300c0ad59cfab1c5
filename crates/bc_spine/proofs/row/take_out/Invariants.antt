use Rattle.std.proofs.Common.{◌≡◌, ◌+◌, ◌++◌, take, drop}
use Rattle.std.specs.Prelude.{vec_capacity}
use Rattle.bc_spine.proofs.row.take_out.Given as goal

abbrev pub invariant-loop : goal.invariant-loop
invariant-loop l = record {
  leaves : l.row.items ≡ take l.at l.fn.row.items ++ drop (l.at + l.counter) l.fn.row.items;
  room : vec_capacity l.row ≡ vec_capacity l.fn.row;
}
