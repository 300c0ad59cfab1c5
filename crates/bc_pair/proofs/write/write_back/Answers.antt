use Rattle.std.proofs.Common.{◌+◌, arith}
use Rattle.bc_pair.specs.Records.{AreNodes, IsRecordSector, IsTableAt, Then}
use Rattle.bc_pair.proofs.Bytes.{table_wrote}
use Rattle.bc_pair.proofs.Writes.{wrote_failed, wrote_then}
use Rattle.bc_pair.proofs.write.write_back.Goals as goal

pub returns-in_err-write : goal.returns-in_err-write
returns-in_err-write g c =
    let g' = c.args.g.now in
    let r = c.args.r.now in
    let old = g.C.Disk.facts c.args.cache.now in
    let mid = g.C.Disk.facts c.write.new.disk in
    wrote_failed (IsRecordSector g') 1 3 (IsTableAt g' r.table) (Then (IsTableAt g' r.table) (AreNodes g' r)) c.in_err-write.field-0.0 c.from_residual.result old mid (omega arith) c.from_residual.ensures.0
    (table_wrote g' c.args.l.now.uuid r.table _ old mid c.requires.names.uuid c.in_err-write.ensures.written)

pub returns : goal.returns
returns g c =
    let g' = c.args.g.now in
    let r = c.args.r.now in
    let old = g.C.Disk.facts c.args.cache.now in
    let mid = g.C.Disk.facts c.write.new.disk in
    let new = g.C.Disk.facts c.write_nodes.new.cache in
    wrote_then (IsRecordSector g') 1 2 (IsTableAt g' r.table) (AreNodes g' r) c.write_nodes.result old mid new
    (table_wrote g' c.args.l.now.uuid r.table _ old mid c.requires.names.uuid c.in_ok-write.ensures.written) c.write_nodes.ensures
