use Rattle.std.proofs.Common.{◌+◌, ◌-◌, ◌/◌, ap, arith}
use Rattle.bc_disk.specs.Chain.{sets_in_chain}
use Rattle.bc_disk.proofs.Amounts.{records_fit}
use Rattle.bc_disk.proofs.chain.sets_in_chain.Goals as goal

pub overflow_sub-result : goal.overflow_sub-result
overflow_sub-result c = let fit = records_fit c.args.g.now in omega (arith, fit.many)

pub overflow_add-result : goal.overflow_add-result
overflow_add-result c = let fit = records_fit c.args.g.now in omega (arith, fit.few, fit.buckets)

pub nonzero_div-result : goal.nonzero_div-result
nonzero_div-result c = let fit = records_fit c.args.g.now in omega (arith, fit.many)

pub returns : goal.returns
unfolding sets_in_chain
returns c = ap (λ n. (c.args.g.now.nbuckets + (n - 1)) / n) c.records_in_set-fit.ensures
