use Rattle.std.proofs.Common.{◌+◌, ◌-◌, ◌<◌, List, [], ◌∷◌, ◌++◌, subst, sym, ap, ◌∙◌, arith, append_assoc}
use Rattle.std.proofs.lemmas.List.{append-nil}
use Rattle.bc_disk.specs.Bytes.{image_of}
use Rattle.bc_set.specs.declared.set.Set.{Set}
use Rattle.bc_record.specs.Sectors.{in_blocks}
use Rattle.bc_record.specs.Kind.{AreFound}
use Rattle.bc_record.proofs.Blocks.{block_some}
use Rattle.bc_set.specs.Records.{numbered_kind}
use Rattle.bc_plain_pair.proofs.Sets.{taken, few_bytes, lists_more}
use Rattle.bc_plain_pair.proofs.node.add_further.Goals as goal

pub loop-set-init : goal.loop-set-init
loop-set-init c = record { small = c.requires.small; blocks = c.requires.blocks.0; whole = c.requires.blocks.1; here = []; all = sym (append-nil c.args.sets.now.items); lists = λ rest p. p }

pub loop-set-preserved : goal.loop-set-preserved
loop-set-preserved c =
    let g = c.args.g.now in
    let image = image_of c.args.image.now in
    let found = rw c.in-Some.is at c.in_ok-set.ensures in
    let so = c.loop-set.invariant in
    let more = taken g c.args.word c.args.kind c.args.seq image c.args.end c.loop-set.place so.blocks c.sectors_of-sectors.result c.in-Some.set so.whole found (c.sectors_of-sectors.ensures ∙ ap (in_blocks g.block) c.bytes.ensures) in
    record {
      small = so.small;
      blocks = more.left;
      whole = more.whole;
      here = so.here ++ c.in-Some.set ∷ [];
      all = c.in_ok-push.ensures.items ∙ ap (λ (xs : List Set). xs ++ c.in-Some.set ∷ []) so.all ∙ append_assoc c.args.sets.now.items so.here (c.in-Some.set ∷ []);
      lists = lists_more (numbered_kind g c.args.word c.args.kind c.args.seq) image c.args.end c.args.from c.loop-set.place (c.loop-set.place + c.sectors_of-sectors.result) so.here c.in-Some.set so.lists found (ap (λ n. c.loop-set.place + n) (c.sectors_of-sectors.ensures ∙ ap (in_blocks g.block) c.bytes.ensures));
    }

pub sectors_of-sectors-requires-clause-block : goal.sectors_of-sectors-requires-clause-block
sectors_of-sectors-requires-clause-block c = block_some c.args.g.now

pub sectors_of-sectors-requires-clause-bytes : goal.sectors_of-sectors-requires-clause-bytes
sectors_of-sectors-requires-clause-bytes c =
    let g = c.args.g.now in
    let found = rw c.in-Some.is at c.in_ok-set.ensures in
    let few = few_bytes g c.args.word c.args.kind c.args.seq (image_of c.args.image.now) c.args.end c.loop-set.place c.in-Some.set found in
    omega (arith, few, c.bytes.ensures, c.loop-set.invariant.small)

pub overflow_add-place : goal.overflow_add-place
overflow_add-place c =
    let g = c.args.g.now in
    let found = rw c.in-Some.is at c.in_ok-set.ensures in
    let so = c.loop-set.invariant in
    let more = taken g c.args.word c.args.kind c.args.seq (image_of c.args.image.now) c.args.end c.loop-set.place so.blocks c.sectors_of-sectors.result c.in-Some.set so.whole found (c.sectors_of-sectors.ensures ∙ ap (in_blocks g.block) c.bytes.ensures) in
    omega (arith, more.fits, so.small)

pub loop-set-smaller : goal.loop-set-smaller
loop-set-smaller c =
    let g = c.args.g.now in
    let found = rw c.in-Some.is at c.in_ok-set.ensures in
    let so = c.loop-set.invariant in
    let more = taken g c.args.word c.args.kind c.args.seq (image_of c.args.image.now) c.args.end c.loop-set.place so.blocks c.sectors_of-sectors.result c.in-Some.set so.whole found (c.sectors_of-sectors.ensures ∙ ap (in_blocks g.block) c.bytes.ensures) in
    let less : c.args.end - (c.loop-set.place + c.sectors_of-sectors.result) < c.args.end - c.loop-set.place = omega (arith, more.some, more.fits) in
    less

pub returns : goal.returns
returns c =
    let so = c.loop-set.invariant in
    let none = rw c.in_default.is at c.in_ok-set.ensures in (
      so.here,
      subst (λ (xs : List Set). AreFound (numbered_kind c.args.g.now c.args.word c.args.kind c.args.seq) (image_of c.args.image.now) c.args.end c.args.from xs) (append-nil so.here) (so.lists [] none),
      so.all,
    )
