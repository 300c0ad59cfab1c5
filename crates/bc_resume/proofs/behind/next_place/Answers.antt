use Rattle.std.proofs.Common.{◌≤◌, ◌∙◌, sym, subst}
use Rattle.std.proofs.lemmas.List.Elements.{All-contains}
use Rattle.bc_entries.specs.Reading.{EndsWithin}
use Rattle.bc_resume.proofs.Next.{contained, next_first, next_higher, next_is, next_kept}
use Rattle.bc_resume.proofs.behind.next_place.Goals as goal
use Rattle.bc_resume.proofs.behind.next_place.Goals.{then-bucket_of-bucket, else-bucket_of-bucket}

pub loop-i-init : goal.loop-i-init
loop-i-init c = next_first c.args.g.now c.args.journal.now.entries c.args.newest.now c.end_of-next.result c.requires.counts c.end_of-next.ensures

pub end_of-requires : goal.end_of-requires
end_of-requires c =
    let es = c.args.journal.now.entries in
    let e = c.entry-e.result.now in
    All-contains (EndsWithin c.args.g.now) es e c.requires.ends (contained es c.loop-i.i e c.entry-e.ensures)

pub loop-i-preserved : goal.loop-i-preserved
loop-i-preserved c =
    let g = c.args.g.now in
    let es = c.args.journal.now.entries in
    let newest = c.args.newest.now in
    let next = c.loop-i.next in
    let i = c.loop-i.i in
    let e = c.entry-e.result.now in
    elim c.if-bucket_of-bucket.branch [
      | then-bucket_of-bucket w ↦
          next_higher g es newest next c.if-bucket_of-bucket.next w.end_of.result i e c.loop-i.invariant c.entry-e.ensures
          (sym c.bucket_of.ensures ∙ w.if-bucket_of-bucket.true ∙ c.bucket_of-bucket.ensures) w.end_of.ensures (w.next-is ∙ w.max-next.ensures)
      | else-bucket_of-bucket w ↦
          next_kept g es newest next c.if-bucket_of-bucket.next i e c.loop-i.invariant c.entry-e.ensures
          (λ same. w.if-bucket_of-bucket.false (c.bucket_of.ensures ∙ same ∙ sym c.bucket_of-bucket.ensures)) w.next-is
    ]

pub returns : goal.returns
returns c =
    next_is c.args.g.now c.args.journal.now.entries c.args.newest.now c.loop-i.next c.loop-i.i
    (subst (λ n. n ≤ c.loop-i.i) c.len-i-end.ensures c.loop-i-test.false) c.loop-i.invariant
