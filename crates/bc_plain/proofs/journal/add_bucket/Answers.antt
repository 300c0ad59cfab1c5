use Rattle.std.proofs.Common.{◌+◌, ◌-◌, ◌<◌, List, [], ◌∷◌, ◌++◌, subst, sym, ap, ◌∙◌, refl, arith}
use Rattle.std.proofs.lemmas.List.{append-nil}
use Rattle.bc_disk.specs.Bytes.{image_of}
use Rattle.bc_record.specs.Kind.{AreFound}
use Rattle.bc_record.proofs.Blocks.{bucket_blocks}
use Rattle.bc_jset.specs.declared.entry.JEntry.{JEntry}
use Rattle.bc_jset.specs.Records.{entry_kind}
use Rattle.bc_record.specs.Places.{at_place}
use Rattle.bc_jset.specs.Entries.{FoundEntry, bucket_start, bucket_end}
use Rattle.bc_plain.proofs.Listed.{placed_more, behind_more, bucket_within, device_small, taken, lists_more}
use Rattle.bc_plain.proofs.journal.add_bucket.Goals as goal

pub loop-entry-init : goal.loop-entry-init
loop-entry-init c =
    let g = c.args.g.now in
    let blocks = bucket_blocks g in
    record {
      blocks = blocks.0;
      whole = ap (λ m. bucket_start g c.args.i + m) blocks.1;
      here = [];
      all = sym (append-nil c.args.all.now.items);
      next = refl;
      lists = λ rest p. p;
    }

pub overflow_add-place : goal.overflow_add-place
overflow_add-place c =
    let g = c.args.g.now in
    let found = rw c.in-Some.is at c.in_ok-entry.ensures in
    let more = taken g (image_of c.args.image.now) (bucket_end g c.args.i) c.loop-entry.place c.loop-entry.invariant.blocks c.in-Some.sectors c.in-Some.entry c.loop-entry.invariant.whole found.0 found.1 in
    omega (arith, more.fits, bucket_within g c.args.i c.requires.bucket, device_small g)

pub loop-entry-smaller : goal.loop-entry-smaller
loop-entry-smaller c =
    let g = c.args.g.now in
    let found = rw c.in-Some.is at c.in_ok-entry.ensures in
    let more = taken g (image_of c.args.image.now) (bucket_end g c.args.i) c.loop-entry.place c.loop-entry.invariant.blocks c.in-Some.sectors c.in-Some.entry c.loop-entry.invariant.whole found.0 found.1 in
    let less : bucket_end g c.args.i - (c.loop-entry.place + c.in-Some.sectors) < bucket_end g c.args.i - c.loop-entry.place = omega (arith, more.some, more.fits) in
    less

pub loop-entry-preserved : goal.loop-entry-preserved
loop-entry-preserved c =
    let g = c.args.g.now in
    let image = image_of c.args.image.now in
    let found = rw c.in-Some.is at c.in_ok-entry.ensures in
    let so = c.loop-entry.invariant in
    let more = taken g image (bucket_end g c.args.i) c.loop-entry.place so.blocks c.in-Some.sectors c.in-Some.entry so.whole found.0 found.1 in
    record {
      blocks = more.left;
      whole = more.whole;
      here = so.here ++ c.in-Some.entry ∷ [];
      all =
          c.in_ok-push.ensures.items ∙ ap (λ (xs : List FoundEntry). xs ++ at_place c.loop-entry.place c.in-Some.entry ∷ []) so.all
          ∙ placed_more (entry_kind g) (bucket_start g c.args.i) c.loop-entry.place c.args.all.now.items so.here c.in-Some.entry so.next;
      next = ap (λ n. c.loop-entry.place + n) found.1 ∙ behind_more (entry_kind g) (bucket_start g c.args.i) c.loop-entry.place so.here c.in-Some.entry so.next;
      lists = lists_more (entry_kind g) image (bucket_end g c.args.i) (bucket_start g c.args.i) c.loop-entry.place (c.loop-entry.place + c.in-Some.sectors) so.here c.in-Some.entry so.lists found.0 (ap (λ n. c.loop-entry.place + n) found.1);
    }

pub returns : goal.returns
returns c =
    let so = c.loop-entry.invariant in
    let none = rw c.in_default.is at c.in_ok-entry.ensures in (
      so.here,
      subst (λ (xs : List JEntry). AreFound (entry_kind c.args.g.now) (image_of c.args.image.now) (bucket_end c.args.g.now c.args.i) (bucket_start c.args.g.now c.args.i) xs)
          (append-nil so.here) (so.lists [] none),
      so.all,
    )
