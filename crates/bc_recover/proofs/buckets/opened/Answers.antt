use Rattle.bc_recover.proofs.Marked.{marked_traced}
use Rattle.bc_recover.proofs.buckets.opened.Goals as goal

pub returns : goal.returns
returns c =
    marked_traced c.args.g.now c.args.gens.now.records c.args.rows.now.keys c.args.uses.now c.in_ok-buckets.buckets c.mark_metadata.new.buckets c.in_ok-buckets.ensures c.mark_metadata.ensures
