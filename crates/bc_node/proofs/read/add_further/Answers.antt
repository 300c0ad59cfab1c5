use Rattle.std.proofs.Common.{◌+◌, ◌-◌, ◌<◌, List, [], ◌∷◌, ◌++◌, subst, sym, ap, ◌∙◌, arith, append_assoc}
use Rattle.std.proofs.lemmas.List.{append-nil}
use Rattle.bc_disk.specs.Bytes.{image_of}
use Rattle.bc_set.specs.declared.set.Set.{Set}
use Rattle.bc_record.specs.Kind.{AreFound}
use Rattle.bc_set.specs.Records.{numbered_kind}
use Rattle.bc_node.proofs.Bytes.{taken, lists_more}
use Rattle.bc_node.proofs.read.add_further.Goals as goal

pub loop-set-init : goal.loop-set-init
loop-set-init c = record { blocks = c.requires.blocks.0; whole = c.requires.blocks.1; here = []; all = sym (append-nil c.args.sets.now.items); lists = λ rest p. p }

pub overflow_add-place : goal.overflow_add-place
overflow_add-place c =
    let g = c.args.g.now in
    let found = rw c.in-Some.is at c.in_ok-set.ensures in
    let more = taken g c.args.word c.args.kind (image_of c.args.bytes.now) c.loop-set.place c.loop-set.invariant.blocks c.in-Some.sectors c.in-Some.set c.loop-set.invariant.whole found.0.0 found.1 in
    let few = g.node_is_one in
    omega (arith, more.fits, few)

pub loop-set-smaller : goal.loop-set-smaller
loop-set-smaller c =
    let g = c.args.g.now in
    let found = rw c.in-Some.is at c.in_ok-set.ensures in
    let more = taken g c.args.word c.args.kind (image_of c.args.bytes.now) c.loop-set.place c.loop-set.invariant.blocks c.in-Some.sectors c.in-Some.set c.loop-set.invariant.whole found.0.0 found.1 in
    let less : g.node_sectors - (c.loop-set.place + c.in-Some.sectors) < g.node_sectors - c.loop-set.place = omega (arith, more.some, more.fits) in
    less

pub loop-set-preserved : goal.loop-set-preserved
loop-set-preserved c =
    let g = c.args.g.now in
    let image = image_of c.args.bytes.now in
    let found = rw c.in-Some.is at c.in_ok-set.ensures in
    let so = c.loop-set.invariant in
    let more = taken g c.args.word c.args.kind image c.loop-set.place so.blocks c.in-Some.sectors c.in-Some.set so.whole found.0.0 found.1 in
    record {
      blocks = more.left;
      whole = more.whole;
      here = so.here ++ c.in-Some.set ∷ [];
      all = c.in_ok-push.ensures.items ∙ ap (λ (xs : List Set). xs ++ c.in-Some.set ∷ []) so.all ∙ append_assoc c.args.sets.now.items so.here (c.in-Some.set ∷ []);
      lists = lists_more (numbered_kind g c.args.word c.args.kind c.args.seq) image g.node_sectors c.args.from c.loop-set.place (c.loop-set.place + c.in-Some.sectors) so.here c.in-Some.set so.lists found.0 (ap (λ n. c.loop-set.place + n) found.1);
    }

pub returns : goal.returns
returns c =
    let so = c.loop-set.invariant in
    let none = rw c.in_default.is at c.in_ok-set.ensures in (
      so.here,
      subst (λ (xs : List Set). AreFound (numbered_kind c.args.g.now c.args.word c.args.kind c.args.seq) (image_of c.args.bytes.now) c.args.g.now.node_sectors c.args.from xs) (append-nil so.here) (so.lists [] none),
      so.all,
    )
