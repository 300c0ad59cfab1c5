use Rattle.std.proofs.Common.{take, subst}
use Rattle.bc_bucket.specs.Buckets.{bucket_of}
use Rattle.bc_bucket.specs.Meaning.{IsFound}
use Rattle.bc_bucket.specs.Walk.{found_at}
use Rattle.bc_bucket.specs.declared.walk.Reference.{Reference}
use Rattle.std.proofs.Common.{List}
use Rattle.bc_traced.specs.Rows.{references}
use Rattle.bc_traced.proofs.Walked.{references_next}
use Rattle.bc_traced.proofs.trace.walk_rows.Goals as goal

pub loop-i-preserved : goal.loop-i-preserved
loop-i-preserved c =
    let g = c.args.g.now in
    let rows = c.args.rows.now.keys in
    let i = c.loop-i.i in
    record {
      each = c.add_row.ensures.each;
      found = λ k inside.
          subst (λ (rs : List Reference). IsFound (bucket_of c.args.buckets.now k).generation rs (found_at c.add_row.new.walk k)) (references_next g k rows i c.key.result c.key.ensures.key)
          (c.add_row.ensures.found k (references g k (take i rows)) inside (c.loop-i.invariant.found k inside));
    }
