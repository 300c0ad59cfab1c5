use Rattle.std.proofs.Common.{◌+◌, ◌<◌, ◌≤◌, IsTrue}
use Rattle.std.specs.Prelude.{◌↔◌}
use Rattle.bc_key.specs.Key.{start_of}
use Rattle.bc_plain.proofs.flight.is_over.Given as goal

abbrev pub invariant-loop-i : goal.invariant-loop-i
invariant-loop-i l =
    IsTrue l.any ↔ ((0 < l.i) × (start_of l.candidate.key < l.candidate.key.end) × (l.first < l.candidate.key.end) × (start_of l.candidate.key < l.first + l.i))
