use Rattle.bc_events_example.proofs.Each.{has_all_deeds}
use Rattle.bc_events_example.proofs.laws.each_deed_exists.Goals as goal

pub returns : goal.returns
returns c = has_all_deeds
