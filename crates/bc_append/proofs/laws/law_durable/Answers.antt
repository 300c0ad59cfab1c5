use Rattle.bc_append.proofs.Lasting.{law_lasts}
use Rattle.bc_append.proofs.laws.law_durable.Goals as goal

pub returns-clause-lasts : goal.returns-clause-lasts
returns-clause-lasts c = law_lasts
