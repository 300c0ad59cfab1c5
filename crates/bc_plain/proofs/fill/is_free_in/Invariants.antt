use Rattle.std.proofs.Common.{take, IsTrue}
use Rattle.std.specs.Prelude.{◌↔◌}
use Rattle.bc_fill.specs.Fresh.{IsFreeIn}
use Rattle.bc_plain.proofs.fill.is_free_in.Given as goal

abbrev pub invariant-loop-one : goal.invariant-loop-one
invariant-loop-one l = IsTrue l.free ↔ IsFreeIn l.size (take l.one-index l.buckets) l.sector
