use Rattle.bc_tree.proofs.Coming.{same_changed}
use Rattle.bc_tree.proofs.install.change_nodes.Goals as goal

pub returns-in-Some-clause-below : goal.returns-in-Some-clause-below
returns-in-Some-clause-below c = same_changed c.args.below.now.items c.args.place c.index_mut.result.now c.change-2.new.node c.args.lower c.index_mut.ensures.value c.change-2.ensures

pub returns-in_default-clause-below : goal.returns-in_default-clause-below
returns-in_default-clause-below c = same_changed c.args.below.now.items c.args.place c.index_mut.result.now c.change-2.new.node c.args.lower c.index_mut.ensures.value c.change-2.ensures
