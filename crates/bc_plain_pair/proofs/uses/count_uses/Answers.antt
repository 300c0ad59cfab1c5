use Rattle.bc_plain_pair.proofs.UseCounts.{counted_by}
use Rattle.bc_plain_pair.proofs.uses.count_uses.Goals as goal

pub returns : goal.returns
returns c =
    counted_by c.args.v.now c.geometry-g.result.now c.reading-r.result.now c.geometry-g.ensures c.reading-r.ensures c.args.live.now c.requires c.args.bucket c.count_so.result c.is_super.result c.is_journal.result c.is_in_chain.result
    c.is_in_table.result c.is_in_node.result c.is_among.result c.is_super.ensures c.is_journal.ensures c.is_in_chain.ensures c.is_in_table.ensures c.is_in_node.ensures c.is_among.ensures c.count_so.ensures
