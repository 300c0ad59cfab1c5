use Rattle.std.proofs.Common.{rules}
use Rattle.bc_pair.proofs.Makings.{zero_refused}
use Rattle.bc_pair.proofs.format.check.Goals as goal

pub returns-then-eq-clause-refused : goal.returns-then-eq-clause-refused
returns-then-eq-clause-refused c =
    rw c.refused-then-eq.ensures (zero_refused c.args.pair.now c.args.cache c.args.backing c.in-Ok.l c.in-Ok.ensures.ok c.in-Ok.ensures.sizes (search rules))
