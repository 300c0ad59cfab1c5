use Rattle.std.proofs.Common.{◌≡◌, ℕ, List, Some, get_or, ap, sym, ◌∙◌, arith}
use Rattle.bc_disk.specs.Bytes.{image_of}
use Rattle.bc_disk.specs.MemDisk.{as_disk}
use Rattle.bc_key.specs.Key.{pointer_of}
use Rattle.bc_uuid.specs.declared.entry.UuidEntry.{UuidEntry}
use Rattle.bc_uuid.proofs.Unique.{table_in}
use Rattle.bc_plain_pair.proofs.Tables.{names_by}
use Rattle.bc_plain_pair.proofs.uuids.names_first.Goals as goal

pub returns-in-Ok : goal.returns-in-Ok
returns-in-Ok c =
    let g = c.args.g.now in
    let image = image_of c.args.cache.now in
    let points : pointer_of c.args.key.now ≡ Some c.in-Some.ptr = cc in
    let read = c.in-Ok.ensures.table in
    let table = table_in g (as_disk c.in_ok-disk.disk) image c.bucket_at-bucket.result c.in-Ok.table (ap (λ (bs : List ℕ). Some (image_of bs)) c.in_ok-disk.ensures) read in
    let many = read.many in
    let wide = g.bucket_from in
    names_by g image c.args.key.now c.args.uuid.now c.bucket_at-bucket.result c.in-Ok.table c.index-entries-0.result c.in-Some.ptr points (sym c.bucket_at-bucket.ensures) table (omega (arith, many, wide))
    (c.index-entries-0.is ∙ ap (λ (xs : List UuidEntry). get_or xs 0 c.index-entries-0.result) c.entries.ensures) c.has_uuid.result c.has_uuid.ensures
