use Rattle.std.proofs.lemmas.Result.{on_ok_weaker}
use Rattle.bc_disk.specs.Disk.{IsSettled}
use Rattle.bc_disk.proofs.Stands.{settled_stands}
use Rattle.bc_disk.proofs.modelled.settle.Goals as goal

pub returns-clause-ok : goal.returns-clause-ok
returns-clause-ok g c =
    let new = g.D.Disk.facts c.barrier.new.self in
    on_ok_weaker c.barrier.result (λ (is : IsSettled (g.D.Disk.facts c.args.disk.now) new). settled_stands new is.leaves) c.barrier.ensures.ok
