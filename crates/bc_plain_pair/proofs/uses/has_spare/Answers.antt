use Rattle.std.proofs.Common.{ap, ◌∙◌}
use Rattle.bc_disk.specs.Chain.{sets_in_chain}
use Rattle.bc_plain_pair.proofs.Spares.{enough_spare, few_spare}
use Rattle.bc_plain_pair.proofs.uses.has_spare.Goals as goal

pub returns-then-found-wanted : goal.returns-then-found-wanted
returns-then-found-wanted c =
    few_spare c.args.v.now.geometry c.args.v.now.reading c.count_spare-found.result c.sets_in_chain-wanted.result c.count_spare-found.ensures (c.sets_in_chain-wanted.ensures ∙ ap sets_in_chain c.geometry.ensures) c.if-found-wanted.true

pub returns : goal.returns
returns c =
    enough_spare c.args.v.now.geometry c.args.v.now.reading c.count_spare-found.result c.sets_in_chain-wanted.result c.count_spare-found.ensures (c.sets_in_chain-wanted.ensures ∙ ap sets_in_chain c.geometry.ensures) c.if-found-wanted.false
