use Rattle.bc_place.proofs.Marking.{law_named}
use Rattle.bc_place.proofs.Saying.{law_said}
use Rattle.bc_place.proofs.laws.law_named.Goals as goal

pub returns-clause-buckets : goal.returns-clause-buckets
returns-clause-buckets c = law_named

pub returns-clause-said : goal.returns-clause-said
returns-clause-said c = law_said
