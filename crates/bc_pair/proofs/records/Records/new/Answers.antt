use Rattle.std.proofs.Common.{ℕ, List, sym, ap, ◌∙◌, subst}
use Rattle.bc_disk.specs.declared.gens.BucketRecord.{BucketRecord}
use Rattle.bc_disk.specs.Chain.{sets_in_chain}
use Rattle.bc_pair.specs.Records.{AreBuckets, AreFresh}
use Rattle.bc_pair.proofs.records.Records.new.Goals as goal

pub returns : goal.returns
returns c =
    let g = c.args.g.now in
    let names = c.requires.names in
    let buckets = c.add_chain.new.gens.chain in
    record {
      entry = c.first_entry.ensures;
      fresh = subst (λ (rs : List BucketRecord). AreFresh g rs) (sym c.in_ok-add_chain.ensures.records) c.in_ok-gens.ensures.fresh;
      chain = subst (λ n. AreBuckets n (sets_in_chain g) buckets) names.prio (subst (λ n. AreBuckets c.args.l.now.prio n buckets) names.sets c.in_ok-add_chain.ensures.chain);
      many = c.in_ok-table.ensures.many;
      table = record { first = c.in_ok-table.ensures.first; others = c.in_ok-table.ensures.others };
      root = c.in_ok-root.ensures;
      leaf = c.empty_leaf.ensures;
    }
