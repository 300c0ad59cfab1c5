use Rattle.bc_candidate.proofs.Reading as known
use Rattle.bc_candidate.proofs.laws.law_keepable.Goals as goal

pub returns-clause-read : goal.returns-clause-read
returns-clause-read g c = known.law_read g.C.Disk.facts g.B.Disk.facts

pub returns-clause-through : goal.returns-clause-through
returns-clause-through g c = known.law_through g.C.Disk.facts g.B.Disk.facts
