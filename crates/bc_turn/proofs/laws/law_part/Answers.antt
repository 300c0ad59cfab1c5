use Rattle.bc_turn.proofs.Lasting.{law_lasts}
use Rattle.bc_turn.proofs.Told.{law_told}
use Rattle.bc_turn.proofs.laws.law_part.Goals as goal

pub returns-clause-told : goal.returns-clause-told
returns-clause-told c = law_told

pub returns-clause-lasts : goal.returns-clause-lasts
returns-clause-lasts c = law_lasts
