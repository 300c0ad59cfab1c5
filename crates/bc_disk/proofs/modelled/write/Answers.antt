use Rattle.bc_model.specs.Sector.{values_of}
use Rattle.bc_disk.proofs.Stands.{write_stands, failed_write_stands, on_good, on_fault}
use Rattle.bc_disk.proofs.modelled.write.Goals as goal

pub returns-clause-ok : goal.returns-clause-ok
returns-clause-ok g c =
    let old = g.D.Disk.facts c.args.disk.now in
    let new = g.D.Disk.facts c.write.new.self in
    on_good c.write.result old new c.write.ensures.ok c.write.ensures.counted (write_stands old new g.model c.requires.1.1 c.args.at (values_of c.args.bytes.now))

pub returns-clause-failed : goal.returns-clause-failed
returns-clause-failed g c =
    let old = g.D.Disk.facts c.args.disk.now in
    let new = g.D.Disk.facts c.write.new.self in
    on_fault c.write.result old new c.write.ensures.failed c.write.ensures.counted (failed_write_stands old new g.model c.requires.1.1 c.args.at (values_of c.args.bytes.now))
