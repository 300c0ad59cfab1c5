use Rattle.bc_extent.proofs.Looks.{changes_composed}
use Rattle.bc_extent.proofs.laws.changes_compose.Goals as goal

pub returns : goal.returns
returns c = changes_composed
