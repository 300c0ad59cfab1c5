use Rattle.std.proofs.Common.{ap, arith, length}
use Rattle.bc_disk.specs.Memory.{Memory}
use Rattle.bc_rows.proofs.calls.image.Goals as goal

pub write_backing-requires : goal.write_backing-requires
write_backing-requires c =
    let e = ap (λ (m : Memory). length m.bytes) c.in_ok-disk.ensures in
    c.superblock.ensures _ (omega (arith, e, c.in_ok-vec.ensures.len, c.requires))
