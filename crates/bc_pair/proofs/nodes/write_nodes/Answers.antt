use Rattle.std.proofs.Common.{arith}
use Rattle.bc_image.specs.Formatted.{leaf_bucket, root_bucket}
use Rattle.bc_set.specs.declared.set.SetKind.TheVariants.{Extents, Children}
use Rattle.bc_pair.specs.Records.{AreNodes, IsNodeAt, IsRecordSector}
use Rattle.bc_pair.proofs.Bytes.{leaf_keys, leaf_wrote, root_few, root_keys, root_wrote}
use Rattle.bc_pair.proofs.Writes.{wrote_failed, wrote_then}
use Rattle.bc_pair.proofs.nodes.write_nodes.Goals as goal

pub write_node-requires-clause-small : goal.write_node-requires-clause-small
write_node-requires-clause-small g c = root_few c.requires.root.leaf c.args.r.now.root.keys c.requires.root.key.leads.count c.requires.root.set.has

pub returns-in_err-write_node : goal.returns-in_err-write_node
returns-in_err-write_node g c =
    let g' = c.args.g.now in
    let r = c.args.r.now in
    let old = g.C.Disk.facts c.args.cache.now in
    let mid = g.C.Disk.facts c.write_node.new.cache in
    wrote_failed (IsRecordSector g') 1 2 (IsNodeAt g' (root_bucket g') Children r.root) (AreNodes g' r) c.in_err-write_node.field-0.0 c.from_residual.result old mid (omega arith) c.from_residual.ensures.0
    (root_wrote g' c.args.l.now.root Children r.root _ old mid c.requires.names.root (c.in_err-write_node.ensures Children (root_keys c.requires.root.leaf r.root.keys c.requires.root.set.has)))

pub write_node-requires-2-clause-room : goal.write_node-requires-2-clause-room
write_node-requires-2-clause-room g c =
    let wrote = c.in_ok-write_node.ensures Children (root_keys c.requires.root.leaf c.args.r.now.root.keys c.requires.root.set.has) in
    omega (arith, c.requires.room.room, wrote.others.sectors)

pub returns : goal.returns
returns g c =
    let g' = c.args.g.now in
    let r = c.args.r.now in
    let old = g.C.Disk.facts c.args.cache.now in
    let mid = g.C.Disk.facts c.write_node.new.cache in
    let new = g.C.Disk.facts c.write_node-2.new.cache in
    wrote_then (IsRecordSector g') 1 1 (IsNodeAt g' (root_bucket g') Children r.root) (IsNodeAt g' (leaf_bucket g') Extents r.leaf) c.write_node-2.result old mid new
    (root_wrote g' c.args.l.now.root Children r.root _ old mid c.requires.names.root (c.in_ok-write_node.ensures Children (root_keys c.requires.root.leaf r.root.keys c.requires.root.set.has)))
    (leaf_wrote g' c.args.l.now.leaf Extents r.leaf c.write_node-2.result mid new c.requires.names.leaf (c.write_node-2.ensures Extents (leaf_keys r.leaf.keys c.requires.leaf.has)))
