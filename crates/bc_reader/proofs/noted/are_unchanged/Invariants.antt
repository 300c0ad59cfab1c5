use Rattle.std.proofs.Common.{take}
use Rattle.std.specs.Prelude.{All}
use Rattle.bc_reader.specs.Noted.{IsUnchanged}
use Rattle.bc_reader.proofs.noted.are_unchanged.Given as goal

abbrev pub invariant-loop-seen : goal.invariant-loop-seen
invariant-loop-seen l = All (IsUnchanged l.buckets) (take l.seen-index l.noted)
