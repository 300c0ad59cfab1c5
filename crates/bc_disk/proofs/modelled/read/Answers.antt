use Rattle.std.proofs.lemmas.Result.{on_ok_weaker}
use Rattle.bc_model.specs.Sector.{values_of}
use Rattle.bc_disk.proofs.Stands.{read_stands, fault_stands, read_may, on_good, on_fault, on_either}
use Rattle.bc_disk.proofs.modelled.read.Goals as goal

pub returns-clause-values : goal.returns-clause-values
returns-clause-values g c =
    on_ok_weaker c.read.result (read_may (g.D.Disk.facts c.args.disk.now) g.model c.args.at (values_of c.read.new.into) c.requires.1.1) c.read.ensures.ok

pub returns-clause-ok : goal.returns-clause-ok
returns-clause-ok g c =
    let old = g.D.Disk.facts c.args.disk.now in
    let new = g.D.Disk.facts c.read.new.self in
    on_good c.read.result old new (on_either c.read.result c.read.ensures.kept).0 c.read.ensures.counted (read_stands old new g.model c.requires.1.1)

pub returns-clause-failed : goal.returns-clause-failed
returns-clause-failed g c =
    let old = g.D.Disk.facts c.args.disk.now in
    let new = g.D.Disk.facts c.read.new.self in
    on_fault c.read.result old new (on_either c.read.result c.read.ensures.kept).1 c.read.ensures.counted (fault_stands old new g.model c.requires.1.1)
