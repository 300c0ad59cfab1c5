use Rattle.std.proofs.Common.{◌≡◌, ◌-◌, ◌+◌, ◌*◌}
use Rattle.bc_extent.proofs.rows.Rows.reserve.Given as goal

abbrev pub invariant-loop-alloc : goal.invariant-loop-alloc
invariant-loop-alloc l = record {
  keys : l.self.keys ≡ l.fn.self.keys;
  spare : l.self.spare ≡ l.fn.self.spare + 512 * l.added;
}

abbrev pub decreases-loop-alloc : goal.decreases-loop-alloc
decreases-loop-alloc l = l.more - l.self.spare
