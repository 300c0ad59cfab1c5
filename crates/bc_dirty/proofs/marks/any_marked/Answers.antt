use Rattle.std.proofs.Common.{◌≡◌, List, None, sym, ap, ◌∙◌, subst}
use Rattle.std.specs.Bool.{MatchBool}
use Rattle.std.specs.Prelude.{Any}
use Rattle.bc_bucket.specs.declared.bucket.Bucket.{Bucket}
use Rattle.bc_bucket.specs.declared.bucket.Mark.TheVariants as marks
use Rattle.bc_dirty_laws.proofs.Law.{law_marked}
use Rattle.bc_dirty_laws.specs.Dirty.{IsNoneDirty}
use Rattle.bc_fetch.proofs.of_bc_deed.May.{did_nothing}
use Rattle.bc_fetch.proofs.of_bc_hand.Between.{did_between}
use Rattle.bc_fetch.specs.bc_hand.Seats.{world}
use Rattle.bc_fetch.specs.bc_machine.World.{FromEach, World}
use Rattle.bc_fetch.specs.bc_machine.declared.part.BucketsPart.{BucketsPart}
use Rattle.bc_dirty.specs.Walk.{HasMarked}
use Rattle.bc_dirty.proofs.Walking.{marked_no, marked_yes, same_world}
use Rattle.bc_dirty.proofs.marks.any_marked.Goals as goal

pub returns-clause-waited : goal.returns-clause-waited
returns-clause-waited g c = (did_between g.C.Disk.facts g.B.Disk.facts None c.args.seat.now
    c.borrow_buckets-buckets.new.seat c.borrow_buckets-buckets.new.seat c.return_buckets.new.seat
    c.borrow_buckets-buckets.ensures.still c.borrow_buckets-buckets.ensures.waited
    (did_nothing g.C.Disk.facts g.B.Disk.facts c.borrow_buckets-buckets.new.seat
    c.borrow_buckets-buckets.ensures.lent.seat) c.return_buckets.ensures.waited
    c.return_buckets.ensures.seen c.return_buckets.ensures.heard
    c.return_buckets.ensures.works.seat).is

pub returns-clause-some : goal.returns-clause-some
returns-clause-some g c = λ yes. subst HasMarked
    (sym (same_world g.C.Disk.facts g.B.Disk.facts c.borrow_buckets-buckets.new.seat
    c.return_buckets.new.seat c.return_buckets.ensures.waited.same.run
    c.return_buckets.ensures.seen)) (
      c.borrow_buckets-buckets.result.0,
      c.borrow_buckets-buckets.ensures.lent.stand.buckets,
      marked_yes c.borrow_buckets-buckets.result.0 c.has_dirty-marked.result yes
          (subst (λ (xs : List Bucket). MatchBool c.has_dirty-marked.result
          (Any (λ (b : Bucket). b.mark ≡ marks.Dirty) xs)
          (¬ (Any (λ (b : Bucket). b.mark ≡ marks.Dirty) xs)))
          (c.records.ensures ∙ ap (λ (p : BucketsPart). p.buckets.records) c.get.ensures)
          c.has_dirty-marked.ensures),
    )

pub returns-clause-none : goal.returns-clause-none
returns-clause-none g c = λ no. subst (λ (x : World). FromEach x IsNoneDirty)
    (sym (same_world g.C.Disk.facts g.B.Disk.facts c.borrow_buckets-buckets.new.seat
    c.return_buckets.new.seat c.return_buckets.ensures.waited.same.run
    c.return_buckets.ensures.seen))
    (law_marked (world g.C.Disk.facts g.B.Disk.facts c.borrow_buckets-buckets.new.seat)
    c.borrow_buckets-buckets.result.0 c.borrow_buckets-buckets.ensures.lent.stand.buckets
    (marked_no c.borrow_buckets-buckets.result.0 c.has_dirty-marked.result no
    (subst (λ (xs : List Bucket). MatchBool c.has_dirty-marked.result
    (Any (λ (b : Bucket). b.mark ≡ marks.Dirty) xs)
    (¬ (Any (λ (b : Bucket). b.mark ≡ marks.Dirty) xs)))
    (c.records.ensures ∙ ap (λ (p : BucketsPart). p.buckets.records) c.get.ensures)
    c.has_dirty-marked.ensures)))
