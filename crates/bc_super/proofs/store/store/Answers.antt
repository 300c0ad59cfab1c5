use Rattle.bc_super.proofs.Stores.{first_fails, then_second}
use Rattle.bc_super.proofs.store.store.Goals as goal

pub returns-in_err-write-clause-counted : goal.returns-in_err-write-clause-counted
returns-in_err-write-clause-counted g c =
    first_fails c.from_residual.result (g.D.Disk.facts c.args.disk.now) (g.D.Disk.facts c.write.new.self) c.from_residual.ensures.0 c.in_err-write.ensures.counted

pub returns-clause-counted : goal.returns-clause-counted
returns-clause-counted g c =
    then_second c.barrier.result (g.D.Disk.facts c.args.disk.now) (g.D.Disk.facts c.write.new.self) (g.D.Disk.facts c.barrier.new.self) c.in_ok-write.ensures.counted c.barrier.ensures.counted
