use Rattle.bc_model.specs.Sector.{values_of}
use Rattle.bc_enter.proofs.Calls.{partly, second_fails, then_third}
use Rattle.bc_enter.proofs.write.write_entry.Goals as goal

pub returns-in_err-write-clause-partly : goal.returns-in_err-write-clause-partly
returns-in_err-write-clause-partly g c =
    partly c.args.at (values_of c.args.bytes.now) (g.D.Disk.facts c.args.disk.now) (g.D.Disk.facts c.barrier.new.self) (g.D.Disk.facts c.write.new.self)
    c.in_ok-barrier.ensures.ok c.in_err-write.ensures.failed

pub returns-in_err-write-clause-counted : goal.returns-in_err-write-clause-counted
returns-in_err-write-clause-counted g c =
    second_fails c.from_residual-in_err-write.result (g.D.Disk.facts c.args.disk.now) (g.D.Disk.facts c.barrier.new.self) (g.D.Disk.facts c.write.new.self)
    c.from_residual-in_err-write.ensures.0 c.in_ok-barrier.ensures.counted c.in_err-write.ensures.counted

pub returns-clause-counted : goal.returns-clause-counted
returns-clause-counted g c =
    then_third c.barrier-2.result (g.D.Disk.facts c.args.disk.now) (g.D.Disk.facts c.barrier.new.self) (g.D.Disk.facts c.write.new.self) (g.D.Disk.facts c.barrier-2.new.self)
    c.in_ok-barrier.ensures.counted c.in_ok-write.ensures.counted c.barrier-2.ensures.counted
