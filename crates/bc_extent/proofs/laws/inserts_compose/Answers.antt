use Rattle.bc_extent.proofs.Looks.{inserts_composed}
use Rattle.bc_extent.proofs.laws.inserts_compose.Goals as goal

pub returns : goal.returns
returns c = inserts_composed
