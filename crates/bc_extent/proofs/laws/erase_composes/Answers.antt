use Rattle.bc_extent.proofs.Composed.{erase_composed}
use Rattle.bc_extent.proofs.laws.erase_composes.Goals as goal

pub returns : goal.returns
returns c = erase_composed
