use Rattle.std.proofs.Common.{arith}
use Rattle.bc_disk.proofs.Amounts.{records_fit}
use Rattle.bc_prio.proofs.sizes.records_in_part.Goals as goal

pub returns-clause-room : goal.returns-clause-room
returns-clause-room c = let fit = records_fit c.args.g.now in omega (arith, fit.room)
