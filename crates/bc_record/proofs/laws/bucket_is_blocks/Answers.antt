use Rattle.bc_record.proofs.Blocks.{block_some, bucket_blocks, node_blocks}
use Rattle.bc_record.proofs.laws.bucket_is_blocks.Goals as goal

pub returns-clause-some : goal.returns-clause-some
returns-clause-some c = block_some

pub returns-clause-whole : goal.returns-clause-whole
returns-clause-whole c = bucket_blocks

pub returns-clause-node : goal.returns-clause-node
returns-clause-node c = node_blocks
