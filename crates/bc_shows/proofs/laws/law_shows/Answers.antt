use Rattle.bc_shows.proofs.Law.{law_shows}
use Rattle.bc_shows.proofs.laws.law_shows.Goals as goal

pub returns : goal.returns
returns c = law_shows
