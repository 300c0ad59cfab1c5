use Rattle.std.proofs.Common.{arith}
use Rattle.bc_record_rows.proofs.priorities.FrontDisk.read.Goals as goal

pub read-requires : goal.read-requires
read-requires c =
    let on = c.requires.on_disk in
    let kept = c.if-keeps.ensures in
    record { on_disk = (on.0, on.1, on.2, omega (arith, kept)) }
