use Rattle.std.proofs.Common.{ap, ◌∙◌}
use Rattle.bc_disk.specs.Bytes.{image_of}
use Rattle.bc_record.specs.Sectors.{bytes_to}
use Rattle.bc_set.specs.declared.set.Set.{Set}
use Rattle.bc_set.proofs.Records.{set_codec}
use Rattle.bc_plain_pair.proofs.node.numbered_at.Goals as goal

pub returns-then-set-seq : goal.returns-then-set-seq
returns-then-set-seq c = λ s is.
    let g = c.args.g.now in
    let found = rw c.in-Some.is at c.in_ok-set.ensures in
    let same = (set_codec g c.args.word c.args.kind).one (bytes_to (image_of c.args.image.now) c.args.end c.args.place) c.in-Some.set s found is.0 in
    c.if-set-seq.true (ap (λ (x : Set). x.seq) same ∙ is.1)
