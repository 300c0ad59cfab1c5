use Rattle.std.proofs.Common.{ap, sym, subst, ◌∙◌}
use Rattle.std.proofs.lemmas.Bool.{iff_false}
use Rattle.bc_disk.specs.Bytes.{image_of}
use Rattle.bc_disk.specs.declared.geometry.Geometry.{Geometry}
use Rattle.bc_image.specs.Reading.{Reading}
use Rattle.bc_image.specs.Sound.{HasPointers, HasRanges, HasSuperblocks}
use Rattle.bc_jset.specs.Entries.{FoundEntry}
use Rattle.bc_super.specs.declared.backing.BackingSuper.{BackingSuper}
use Rattle.bc_plain_pair.proofs.Whole.{records_by}
use Rattle.bc_plain_pair.proofs.sound.has_records.Goals as goal

pub returns-then-not-has_superblocks : goal.returns-then-not-has_superblocks
returns-then-not-has_superblocks c = λ records.
    iff_false c.has_superblocks.ensures c.if-not-has_superblocks.true
    (subst (λ (b : BackingSuper). HasSuperblocks b c.cache.result.now) (sym c.backing.ensures) (subst (HasSuperblocks c.args.v.now.backing) (sym c.cache.ensures) records.superblocks))

pub returns-then-not-branch : goal.returns-then-not-branch
returns-then-not-branch c = λ records. let none = rw c.if-not-branch.true at c.in_ok-has_ranges.ensures in none (subst HasRanges (sym c.reading-r.ensures) records.ranges)

pub returns-then-not-has_pointers : goal.returns-then-not-has_pointers
returns-then-not-has_pointers c = λ records.
    c.if-not-has_pointers.ensures
    (subst (λ (g : Geometry). HasPointers g c.args.size c.reading-r.result.now) (sym c.geometry-g.ensures) (subst (HasPointers c.args.v.now.geometry c.args.size) (sym c.reading-r.ensures) records.pointers))

pub returns : goal.returns
returns c =
    records_by c.args.size (image_of c.args.cache.now) c.args.v.now c.geometry-g.result.now c.newest.result.now.item.uuid_bucket c.backing-2.result.now.uuid c.geometry-g.ensures
    (ap (λ (e : FoundEntry). e.item.uuid_bucket) (c.newest.ensures ∙ ap (λ (r : Reading). r.newest) c.reading-r.ensures)) (ap (λ (b : BackingSuper). b.uuid) c.backing-2.ensures) c.names_first.result
    (subst (HasSuperblocks c.args.v.now.backing) c.cache.ensures (subst (λ (b : BackingSuper). HasSuperblocks b c.cache.result.now) c.backing.ensures (c.has_superblocks.ensures.0 c.if-not-has_superblocks.false)))
    (subst HasRanges c.reading-r.ensures (rw c.if-not-branch.false at c.in_ok-has_ranges.ensures))
    (subst (HasPointers c.args.v.now.geometry c.args.size) c.reading-r.ensures (subst (λ (g : Geometry). HasPointers g c.args.size c.reading-r.result.now) c.geometry-g.ensures c.if-not-has_pointers.ensures))
    c.names_first.ensures
