use Rattle.std.proofs.Common.{◌≡◌, ◌+◌, ◌-◌, ◌++◌, take, drop}
use Rattle.bc_extent.proofs.gap.close.Given as goal

abbrev pub invariant-loop : goal.invariant-loop
invariant-loop l = record {
  keys : l.rows.keys ≡ take l.gap.from l.fn.rows.keys ++ drop l.counter l.fn.rows.keys;
  spare : l.rows.spare ≡ l.fn.rows.spare + (l.counter - l.gap.from);
}
