use Rattle.bc_collect.proofs.Reserve.{law_reserve}
use Rattle.bc_collect.proofs.laws.law_reserve.Goals as goal

pub returns : goal.returns
returns c = law_reserve
