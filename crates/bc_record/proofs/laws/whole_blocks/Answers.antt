use Rattle.bc_record.proofs.Blocks.{blocks_hold, blocks_within}
use Rattle.bc_record.proofs.laws.whole_blocks.Goals as goal

pub returns-clause-hold : goal.returns-clause-hold
returns-clause-hold c = blocks_hold

pub returns-clause-fewest : goal.returns-clause-fewest
returns-clause-fewest c = blocks_within
