use Rattle.bc_firm.proofs.Lasting as known
use Rattle.bc_firm.proofs.laws.law_behind.Goals as goal

pub returns-clause-kept : goal.returns-clause-kept
returns-clause-kept g c = known.law_kept g.C.Disk.facts g.B.Disk.facts

pub returns-clause-behind : goal.returns-clause-behind
returns-clause-behind g c = known.law_behind g.C.Disk.facts g.B.Disk.facts
