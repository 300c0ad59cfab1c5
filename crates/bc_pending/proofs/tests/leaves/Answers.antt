use Rattle.std.proofs.Common.{◌^◌, refl, arith}
use Rattle.bc_pending.proofs.tests.leaves.Goals as goal

pub returns : goal.returns
returns c = (2 ^ 40, (refl, omega arith, (refl, omega arith, refl)))
