use Rattle.bc_shows.proofs.Keys.{law_keys}
use Rattle.bc_shows.proofs.laws.law_keys.Goals as goal

pub returns : goal.returns
returns c = law_keys
