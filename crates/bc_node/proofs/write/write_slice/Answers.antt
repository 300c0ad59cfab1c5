use Rattle.std.proofs.Common.{◌≡◌, ◌*◌, length, take, OnOk, OnErr, subst, ◌∙◌, arith}
use Rattle.std.proofs.lemmas.List.{length-take-le}
use Rattle.bc_model.specs.Sector.{values_of}
use Rattle.bc_disk.specs.Disk.{IsWritten, IsFailedWrite}
use Rattle.bc_node.specs.Writing.{put_sectors, set_of}
use Rattle.bc_node.proofs.Further.{put_some}
use Rattle.bc_node.proofs.write.write_slice.Goals as goal

pub write-requires : goal.write-requires
write-requires g c =
    let s = set_of c.args.seq c.args.keys.now in
    let n = put_sectors c.args.g.now c.args.taken s in
    let size : c.put_length-length.result ≡ 512 * n = c.put_length-length.ensures.is s c.fill_slice-size.ensures.size in
    let within = c.put_length-length.ensures.within in
    let whole : length c.fill_slice-size.new.buffer ≡ 512 * c.args.g.now.node_sectors = c.fill_slice-size.auto.buffer ∙ c.requires.whole in
    record {
      on_disk = (
        n,
        put_some c.args.g.now c.args.taken s,
        length-take-le c.put_length-length.result c.fill_slice-size.new.buffer (omega (arith, within, whole)) ∙ size,
        c.requires.room,
      );
    }

pub returns-clause-ok : goal.returns-clause-ok
returns-clause-ok g c =
    let s = set_of c.args.seq c.args.keys.now in
    let size : c.put_length-length.result ≡ 512 * put_sectors c.args.g.now c.args.taken s = c.put_length-length.ensures.is s c.fill_slice-size.ensures.size in
    subst (λ n. OnOk c.write.result (IsWritten c.args.at (values_of (take n c.fill_slice-size.new.buffer)) (g.D.Disk.facts c.args.disk.now) (g.D.Disk.facts c.write.new.self))) size c.write.ensures.ok

pub returns-clause-failed : goal.returns-clause-failed
returns-clause-failed g c =
    let s = set_of c.args.seq c.args.keys.now in
    let size : c.put_length-length.result ≡ 512 * put_sectors c.args.g.now c.args.taken s = c.put_length-length.ensures.is s c.fill_slice-size.ensures.size in
    subst (λ n. OnErr c.write.result (IsFailedWrite c.args.at (values_of (take n c.fill_slice-size.new.buffer)) (g.D.Disk.facts c.args.disk.now) (g.D.Disk.facts c.write.new.self))) size c.write.ensures.failed
