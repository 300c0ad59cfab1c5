use Rattle.bc_fill.proofs.Freshness.{are_gone, others_stay, were_free}
use Rattle.bc_fill.proofs.laws.places_are_fresh.Goals as goal

pub returns-clause-given : goal.returns-clause-given
returns-clause-given c = were_free

pub returns-clause-gone : goal.returns-clause-gone
returns-clause-gone c = are_gone

pub returns-clause-others : goal.returns-clause-others
returns-clause-others c = others_stay
