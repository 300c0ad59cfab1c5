use Rattle.bc_node.proofs.LastKeys.{added}
use Rattle.bc_node.proofs.pending.add.Goals as goal

pub returns-clause-added : goal.returns-clause-added
returns-clause-added c = added c.args.key.now c.args.map.now.keys c.insert.new.self.keys c.insert.ensures.shows c.insert.ensures.order
