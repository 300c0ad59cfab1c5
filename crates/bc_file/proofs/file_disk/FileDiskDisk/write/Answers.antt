use Rattle.std.proofs.Common.{refl}
use Rattle.bc_file.proofs.Untold.{any_outcome, some_outcome, on_ok, on_err}
use Rattle.bc_file.proofs.file_disk.FileDiskDisk.write.Goals as goal

pub returns-clause-ok : goal.returns-clause-ok
returns-clause-ok c = on_ok c.count.result record { sectors = refl; holds = tt; leaves = any_outcome c.args.at _ }

pub returns-clause-failed : goal.returns-clause-failed
returns-clause-failed c = on_err c.count.result record { sectors = refl; holds = tt; leaves = some_outcome c.args.at _ }
