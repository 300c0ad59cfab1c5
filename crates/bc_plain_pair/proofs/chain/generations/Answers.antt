use Rattle.std.proofs.Common.{List, ℕ, Some, ap}
use Rattle.bc_disk.specs.Bytes.{image_of}
use Rattle.bc_disk.specs.MemDisk.{as_disk}
use Rattle.bc_prio.proofs.Found.{chain_in}
use Rattle.bc_prio.proofs.Refused.{never_both, refused_in}
use Rattle.bc_plain_pair.proofs.chain.generations.Goals as goal

pub returns-in-Ok : goal.returns-in-Ok
returns-in-Ok c =
    chain_in c.args.g.now (as_disk c.in_ok-disk.disk) (image_of c.args.image.now) c.args.first c.in-Ok.gens (ap (λ (bs : List ℕ). Some (image_of bs)) c.in_ok-disk.ensures) c.in-Ok.ensures.ok

pub returns : goal.returns
returns c = λ gens there.
    let g = c.args.g.now in
    let image = image_of c.args.image.now in
    never_both g image c.args.first gens c.in-Err.error there
    (refused_in g (as_disk c.in_ok-disk.disk) (as_disk c.read_chain.new.disk) image c.args.first c.in-Err.error (ap (λ (bs : List ℕ). Some (image_of bs)) c.in_ok-disk.ensures)
    c.in_ok-refused-in-Err.ensures.0 c.in_ok-refused-in-Err.ensures.1 c.in-Err.ensures.refused)
