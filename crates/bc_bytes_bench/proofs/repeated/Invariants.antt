use Rattle.std.proofs.Common.{◌≡◌}
use Rattle.bc_bytes_bench.specs.Chain.{chain}
use Rattle.bc_bytes_bench.proofs.repeated.Given as goal

abbrev pub invariant-loop-round : goal.invariant-loop-round
invariant-loop-round l = l.sum ≡ chain l._round l.bytes
