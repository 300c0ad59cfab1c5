use Rattle.bc_image.proofs.Stays.{reading_stays}
use Rattle.bc_image.proofs.laws.reading_rests.Goals as goal

pub returns : goal.returns
returns c = reading_stays
