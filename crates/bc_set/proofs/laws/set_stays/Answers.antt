use Rattle.bc_set.proofs.SetLaws.{place_fits, place_stays}
use Rattle.bc_set.proofs.laws.set_stays.Goals as goal

pub returns-clause-fits : goal.returns-clause-fits
returns-clause-fits c = place_fits

pub returns-clause-stays : goal.returns-clause-stays
returns-clause-stays c = place_stays
