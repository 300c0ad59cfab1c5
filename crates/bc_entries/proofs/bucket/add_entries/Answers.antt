use Rattle.std.proofs.Common.{◌≡◌, ◌+◌, ◌-◌, ◌*◌, ◌<◌, ℕ, List, [], ◌∷◌, ◌++◌, refl, subst, sym, ap, ◌∙◌, arith, append_assoc}
use Rattle.std.proofs.lemmas.List.{append-nil}
use Rattle.bc_disk.specs.Bytes.{image_of}
use Rattle.bc_jset.specs.declared.entry.JEntry.{JEntry}
use Rattle.bc_jset.specs.Records.{entry_kind}
use Rattle.bc_jset.specs.Entries.{FoundEntry}
use Rattle.bc_record.specs.Kind.{AreFound}
use Rattle.bc_record.specs.Places.{at_place, placed}
use Rattle.bc_record.proofs.Blocks.{bucket_blocks}
use Rattle.bc_entries.proofs.There.{lists_more, behind_more, placed_more}
use Rattle.bc_entries.proofs.Taken.{IsTaken, taken}
use Rattle.bc_entries.proofs.bucket.add_entries.Goals as goal

pub loop-item-init : goal.loop-item-init
loop-item-init c =
    let b = bucket_blocks c.args.g.now in
    record { blocks = b.0; whole = omega (arith, b.1); here = []; all = sym (append-nil c.args.all.now.items); lists = λ rest p. p; at = omega arith }

pub overflow_add-place : goal.overflow_add-place
overflow_add-place c =
    let g = c.args.g.now in
    let found = rw c.in-Some.is at c.in_ok-item.ensures in
    let more = taken g (image_of c.args.bytes.now) c.loop-item.place c.loop-item.invariant.blocks c.in-Some.sectors c.in-Some.item c.loop-item.invariant.whole found.0 found.1 in
    let few = g.bucket_to in
    omega (arith, more.fits, few)

pub loop-item-smaller : goal.loop-item-smaller
loop-item-smaller c =
    let g = c.args.g.now in
    let found = rw c.in-Some.is at c.in_ok-item.ensures in
    let more = taken g (image_of c.args.bytes.now) c.loop-item.place c.loop-item.invariant.blocks c.in-Some.sectors c.in-Some.item c.loop-item.invariant.whole found.0 found.1 in
    let less : g.bucket - (c.loop-item.place + c.in-Some.sectors) < g.bucket - c.loop-item.place = omega (arith, more.some, more.fits) in
    less

pub loop-item-preserved : goal.loop-item-preserved
loop-item-preserved c =
    let g = c.args.g.now in
    let kind = entry_kind g in
    let image = image_of c.args.bytes.now in
    let found = rw c.in-Some.is at c.in_ok-item.ensures in
    let so = c.loop-item.invariant in
    let more = taken g image c.loop-item.place so.blocks c.in-Some.sectors c.in-Some.item so.whole found.0 found.1 in
    let put : placed kind c.args.start (so.here ++ c.in-Some.item ∷ []) ≡ placed kind c.args.start so.here ++ at_place (c.args.start + c.loop-item.place) c.in-Some.item ∷ [] = placed_more kind c.args.start (c.args.start + c.loop-item.place) so.here c.in-Some.item so.at in
    record {
      blocks = more.left;
      whole = more.whole;
      here = so.here ++ c.in-Some.item ∷ [];
      all = c.in_ok-push.ensures.items ∙ ap (λ (xs : List FoundEntry). xs ++ at_place (c.args.start + c.loop-item.place) c.in-Some.item ∷ []) so.all
          ∙ append_assoc c.args.all.now.items (placed kind c.args.start so.here) (at_place (c.args.start + c.loop-item.place) c.in-Some.item ∷ [])
          ∙ ap (λ (xs : List FoundEntry). c.args.all.now.items ++ xs) (sym put);
      lists = lists_more kind image g.bucket 0 c.loop-item.place (c.loop-item.place + c.in-Some.sectors) so.here c.in-Some.item so.lists found.0 (ap (λ n. c.loop-item.place + n) found.1);
      at = behind_more kind c.args.start so.here c.in-Some.item ∙ (let f = found.1 in let a = so.at in omega (arith, f, a));
    }

pub returns : goal.returns
returns c =
    let so = c.loop-item.invariant in
    let none = rw c.in_default.is at c.in_ok-item.ensures in (
      so.here,
      subst (λ (xs : List JEntry). AreFound (entry_kind c.args.g.now) (image_of c.args.bytes.now) c.args.g.now.bucket 0 xs) (append-nil so.here) (so.lists [] none),
      so.all,
    )
