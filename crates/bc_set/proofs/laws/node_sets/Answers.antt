use Rattle.bc_set.proofs.NodeSets.{node_exists, one_node, node_stays, node_goes_on, alone}
use Rattle.bc_set.proofs.laws.node_sets.Goals as goal

pub returns-clause-exists : goal.returns-clause-exists
returns-clause-exists c = node_exists

pub returns-clause-one : goal.returns-clause-one
returns-clause-one c = one_node

pub returns-clause-stays : goal.returns-clause-stays
returns-clause-stays c = node_stays

pub returns-clause-goes_on : goal.returns-clause-goes_on
returns-clause-goes_on c = node_goes_on

pub returns-clause-alone : goal.returns-clause-alone
returns-clause-alone c = alone
