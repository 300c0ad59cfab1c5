use Rattle.std.proofs.Common.{◌+◌, ◌*◌, arith}
use Rattle.bc_journal.proofs.Sizes.{most_fit}
use Rattle.bc_plain_nodes.proofs.journal.sectors_for.Goals as goal

pub returns-clause-few : goal.returns-clause-few
returns-clause-few c =
    let few = most_fit c.args.g.now (240 + 8 * c.args.words) (omega (arith, c.requires)) in
    omega (arith, few, c.in_blocks.ensures)
