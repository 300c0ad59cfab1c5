use Rattle.bc_pair.proofs.Cache.{record_high}
use Rattle.bc_pair.proofs.Stands.{others_kept, parts_of}
use Rattle.bc_pair.proofs.laws.what_is_made.Goals as goal

pub returns-clause-first : goal.returns-clause-first
returns-clause-first c g s in_it = record_high g s in_it

pub returns-clause-others : goal.returns-clause-others
returns-clause-others at g c b old new s made out = others_kept g made.records made.runs (parts_of g made.records made.runs made.are_runs) made.super made.is_super.whole old new made.is s out
