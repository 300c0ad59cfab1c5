use Rattle.bc_shows.proofs.Teeth.{law_teeth_bucket}
use Rattle.bc_shows.proofs.laws.law_teeth_bucket.Goals as goal

pub returns : goal.returns
returns c = law_teeth_bucket
