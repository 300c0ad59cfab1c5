use Rattle.bc_image.proofs.Places.{lies_in_bucket}
use Rattle.bc_image.proofs.laws.places_lie_in_the_bucket.Goals as goal

pub returns : goal.returns
returns c = lies_in_bucket
