use Rattle.bc_tree.proofs.Few.{merge_few, rewrite_few, split_few}
use Rattle.bc_tree.proofs.laws.a_change_takes_few_buckets.Goals as goal

pub returns-clause-rewrite : goal.returns-clause-rewrite
returns-clause-rewrite c = rewrite_few

pub returns-clause-split : goal.returns-clause-split
returns-clause-split c = split_few

pub returns-clause-merge : goal.returns-clause-merge
returns-clause-merge c = merge_few
