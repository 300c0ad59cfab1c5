use Rattle.std.proofs.Common.{◌*◌, ℕ, List, ◌++◌, take, length, replicate, refl, ap, ◌∙◌, subst}
use Rattle.bc_bytes.specs.Fields.{SameOutside}
use Rattle.bc_set.specs.SetBytes.{IsSet}
use Rattle.bc_pair.specs.Records.{IsNodeAt, IsNodeSector}
use Rattle.bc_pair.proofs.Bytes.{node_bytes, node_inside}
use Rattle.bc_pair.proofs.Writes.{wrote_one}
use Rattle.bc_pair.proofs.nodes.write_node.Goals as goal

pub returns : goal.returns
returns g c = λ kind are.
    let g' = c.args.g.now in
    let bucket = c.args.bucket in
    let s = c.args.set.now in
    let bytes = c.write_set.new.into in
    let at = c.from.result * c.from-2.result in
    let place = ap (λ n. n * c.from-2.result) c.from.ensures ∙ ap (λ n. g'.bucket * n) c.from-2.ensures in
    let size = c.write_set.ensures.bytes in
    let whole = node_bytes g' bucket at kind s c.fill.new.self bytes place (c.fill.ensures.after (λ y e. e) ∙ ap (λ n. replicate n 0) c.requires.whole) c.write_set.auto.into
    (λ rest. subst (λ n. IsSet (256 * at) g'.set_magic kind (take n bytes ++ rest) s) size (c.write_set.ensures.written kind rest are)) c.write_set.ensures.words
    (subst (λ n. SameOutside n c.fill.new.self bytes 0) size c.write_set.ensures.behind) in
    wrote_one (IsNodeSector g' bucket) (IsNodeAt g' bucket kind s) at (g'.bucket * bucket) bytes place (node_inside g' bucket bytes whole.whole) (bytes, whole, refl)
    c.write.result (g.C.Disk.facts c.args.cache.now) (g.C.Disk.facts c.write.new.self) c.write.ensures.ok c.write.ensures.failed c.write.ensures.counted
