use Rattle.std.proofs.Common.{arith}
use Rattle.bc_records_bench.proofs.records.read_entries.Goals as goal

pub returns : goal.returns
returns c = λ some. c.loop-round.invariant (omega (arith, some, c.loop-round-test.false))
