use Rattle.bc_walk.proofs.Trees.{is_tree, tree_walked, tree_met}
use Rattle.bc_walk.proofs.laws.walk_is_tree.Goals as goal

pub returns-clause-tree : goal.returns-clause-tree
returns-clause-tree c = is_tree

pub returns-clause-walk : goal.returns-clause-walk
returns-clause-walk c = tree_walked

pub returns-clause-met : goal.returns-clause-met
returns-clause-met c = tree_met
