use Rattle.std.proofs.Common.{◌≡◌, take, drop}
use Rattle.bc_alloc.specs.Reserves.{returned_all, stored_all}
use Rattle.bc_plain.proofs.reserves.PlainReserves.ready.Given as goal

abbrev pub invariant-loop-i : goal.invariant-loop-i
invariant-loop-i l = l.self ≡ record l.fn.self {
  lists = stored_all (take l._i l.fn.self.raised) (returned_all l.old l.fn.self.lists);
  raised = drop l._i l.fn.self.raised;
}
