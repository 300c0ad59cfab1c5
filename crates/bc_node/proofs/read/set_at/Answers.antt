use Rattle.std.proofs.Common.{◌≡◌, ◌≤◌, ℕ, List, length, subst, sym, ap, ◌∙◌, arith}
use Rattle.bc_record.specs.Sectors.{in_blocks}
use Rattle.bc_set.specs.declared.set.Set.{Set}
use Rattle.bc_set.specs.SetBytes.{IsSet, bytes_of}
use Rattle.bc_set.proofs.SetLaws.{one_set, set_fits}
use Rattle.bc_node.proofs.Bytes.{part_at, length-part_at, part_here}
use Rattle.bc_node.proofs.read.set_at.Goals as goal

pub returns-then-set-seq : goal.returns-then-set-seq
returns-then-set-seq c = λ s is.
    let g = c.args.g.now in
    let bytes = c.args.bytes.now in
    let here = subst (λ (bs : List ℕ). IsSet c.args.word g.set_magic c.args.kind bs s) (part_here g.node_sectors bytes c.args.place c.requires.whole c.requires.within) is.0 in
    let same : c.in-Ok.set ≡ s = one_set c.args.word g.set_magic c.args.kind (part_at bytes c.args.place) c.in-Ok.set s c.in-Ok.ensures.found here in
    c.if-set-seq.true (ap (λ (x : Set). x.seq) same ∙ is.1)

pub in_blocks-sectors-requires-clause-bytes : goal.in_blocks-sectors-requires-clause-bytes
in_blocks-sectors-requires-clause-bytes c =
    let g = c.args.g.now in
    let bytes = c.args.bytes.now in
    let fits : bytes_of c.in-Ok.set ≤ length (part_at bytes c.args.place) = set_fits c.args.word g.set_magic c.args.kind (part_at bytes c.args.place) c.in-Ok.set c.in-Ok.ensures.found in
    let few = g.node_is_one in
    omega (arith, fits, length-part_at bytes c.args.place, c.requires.whole, few, c.bytes.ensures)

pub returns-else-set-seq : goal.returns-else-set-seq
returns-else-set-seq c =
    let g = c.args.g.now in
    let bytes = c.args.bytes.now in (
      (subst (λ (bs : List ℕ). IsSet c.args.word g.set_magic c.args.kind bs c.in-Ok.set) (sym (part_here g.node_sectors bytes c.args.place c.requires.whole c.requires.within)) c.in-Ok.ensures.found, c.if-set-seq.false),
      c.in_blocks-sectors.ensures ∙ ap (λ n. in_blocks g.block n) c.bytes.ensures,
    )

pub returns-in_ok-refused-in-Err : goal.returns-in_ok-refused-in-Err
returns-in_ok-refused-in-Err c = λ s is.
    let g = c.args.g.now in
    let bytes = c.args.bytes.now in
    let here = subst (λ (bs : List ℕ). IsSet c.args.word g.set_magic c.args.kind bs s) (part_here g.node_sectors bytes c.args.place c.requires.whole c.requires.within) is.0 in
    c.in_ok-refused-in-Err.ensures (c.in-Err.ensures.only s here)
