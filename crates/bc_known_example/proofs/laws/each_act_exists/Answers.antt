use Rattle.bc_known_example.proofs.Each.{has_all_acts}
use Rattle.bc_known_example.proofs.laws.each_act_exists.Goals as goal

pub returns : goal.returns
returns c = has_all_acts
