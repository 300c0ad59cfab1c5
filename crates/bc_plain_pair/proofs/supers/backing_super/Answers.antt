use Rattle.std.proofs.Common.{List, ℕ, length, ap, Some}
use Rattle.std.specs.Prelude.{◌/◌}
use Rattle.bc_disk.specs.Bytes.{image_of}
use Rattle.bc_disk.specs.MemDisk.{as_disk}
use Rattle.bc_plain_pair.proofs.Disks.{backing_there, backing_not, large}
use Rattle.bc_plain_pair.proofs.supers.backing_super.Goals as goal

pub returns-in-Ok : goal.returns-in-Ok
returns-in-Ok c =
    let d = as_disk c.in_ok-disk.disk in
    backing_there d c.args.cache.now c.args.backing.now c.in-Ok.s (ap (λ (bs : List ℕ). Some (image_of bs)) c.in_ok-disk.ensures) (ap (λ (bs : List ℕ). length bs / 512) c.in_ok-disk.ensures)
    (large d.sectors (λ low. let never = c.in-Ok.ensures.small.1 low in absurd (cc))) c.in-Ok.ensures.ok

pub returns : goal.returns
returns c =
    let d = as_disk c.in_ok-disk.disk in
    backing_not d c.args.cache.now c.args.backing.now c.in-Err.error (ap (λ (bs : List ℕ). Some (image_of bs)) c.in_ok-disk.ensures) (ap (λ (bs : List ℕ). length bs / 512) c.in_ok-disk.ensures)
    c.in_ok-refused-in-Err.ensures c.in-Err.ensures.refused
