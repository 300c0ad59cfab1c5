use Rattle.bc_disk.proofs.Stands.{barrier_stands, fault_stands, on_good, on_fault}
use Rattle.bc_disk.proofs.modelled.barrier.Goals as goal

pub returns-clause-ok : goal.returns-clause-ok
returns-clause-ok g c =
    let old = g.D.Disk.facts c.args.disk.now in
    let new = g.D.Disk.facts c.barrier.new.self in
    on_good c.barrier.result old new c.barrier.ensures.ok c.barrier.ensures.counted (barrier_stands old new g.model c.requires.1)

pub returns-clause-failed : goal.returns-clause-failed
returns-clause-failed g c =
    let old = g.D.Disk.facts c.args.disk.now in
    let new = g.D.Disk.facts c.barrier.new.self in
    on_fault c.barrier.result old new c.barrier.ensures.failed c.barrier.ensures.counted (fault_stands old new g.model c.requires.1)
