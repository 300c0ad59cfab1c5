use Rattle.bc_collect.proofs.Runs.{law_collects}
use Rattle.bc_collect.proofs.laws.law_collects.Goals as goal

pub returns : goal.returns
returns c = law_collects
