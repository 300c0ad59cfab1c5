use Rattle.std.proofs.Common.{◌/◌, ◌<◌, ◌∙◌, ◌++◌, List, length, sym, ap, subst, arith}
use Rattle.bc_bucket.specs.Buckets.{bucket_of}
use Rattle.bc_bucket.specs.Meaning.{IsFound}
use Rattle.bc_bucket.specs.Walk.{found_at}
use Rattle.bc_bucket.specs.declared.bucket.Bucket.{Bucket}
use Rattle.bc_bucket.specs.declared.walk.Found.{Found}
use Rattle.bc_traced.specs.Rows.{reference_in}
use Rattle.bc_traced.proofs.Walked.{row_counted}
use Rattle.bc_traced.proofs.trace.add_row.Goals as goal

pub returns-then-bucket-from-clause-found : goal.returns-then-bucket-from-clause-found
returns-then-bucket-from-clause-found c = λ k refs inside found.
    let g = c.args.g.now in
    let own = (bucket_of c.args.buckets.now k).generation in
    let row = c.args.row.now in
    let ptr = c.in-Some.ptr in
    let walk = c.args.walk.now in
    let bucket = ptr.offset / c.from.result in
    let inside_it : bucket < length walk = omega (arith, c.if-bucket-from.true, c.from-2.ensures, c.requires.walk) in
    subst (λ (w : List Found). IsFound own (refs ++ reference_in g k row) (found_at w k)) (sym c.add.ensures)
    (row_counted g k bucket own row ptr (sym c.in-Some.ensures) (ap (λ n. ptr.offset / n) c.from.ensures) walk refs c.get-own.result.generation inside_it
    (λ e. ap (λ (b : Bucket). b.generation) (c.get-own.ensures ∙ ap (bucket_of c.args.buckets.now) e)) found)
