use Rattle.bc_model.proofs.Floors.{flush_covered}
use Rattle.bc_model.proofs.laws.flush_covers.Goals as goal

pub returns : goal.returns
returns c = flush_covered
