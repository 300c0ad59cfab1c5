use Rattle.std.proofs.Common.{◌+◌, ◌<◌, IsTrue}
use Rattle.std.specs.Prelude.{◌↔◌}
use Rattle.bc_plain.proofs.flight.overlaps.Given as goal

abbrev pub invariant-loop-i : goal.invariant-loop-i
invariant-loop-i l = IsTrue l.any ↔ ((0 < l.i) × (l.a.first < l.b.first + l.b.count) × (l.b.first < l.a.first + l.i))
