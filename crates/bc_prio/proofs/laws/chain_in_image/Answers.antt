use Rattle.bc_prio.proofs.Found.{one_chain_in, chain_stays, chain_in}
use Rattle.bc_prio.proofs.Refused.{refused_in}
use Rattle.bc_prio.proofs.laws.chain_in_image.Goals as goal

pub returns-clause-one : goal.returns-clause-one
returns-clause-one g c = one_chain_in

pub returns-clause-stays : goal.returns-clause-stays
returns-clause-stays g c = chain_stays

pub returns-clause-told : goal.returns-clause-told
returns-clause-told g c = λ geometry d. chain_in geometry (g.D.Disk.facts d)

pub returns-clause-refused : goal.returns-clause-refused
returns-clause-refused g c = λ geometry old new. refused_in geometry (g.D.Disk.facts old) (g.D.Disk.facts new)
