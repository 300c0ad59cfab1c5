use Rattle.bc_super.proofs.Readings.{either}
use Rattle.bc_super.proofs.laws.one_reading.Goals as goal

pub returns-clause-either : goal.returns-clause-either
returns-clause-either c = either
