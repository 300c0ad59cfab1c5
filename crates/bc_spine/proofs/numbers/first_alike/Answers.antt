use Rattle.std.proofs.Common.{◌∙◌}
use Rattle.bc_spine.proofs.Alike.{least_alike_unset}
use Rattle.bc_spine.proofs.numbers.first_alike.Goals as goal

pub returns : goal.returns
returns c =
    let first = c.alike_unset.ensures in
    least_alike_unset c.args.leaves.now c.flag.new.flags c.args.parts c.args.rest c.args.most
    c.alike_unset.result c.flag.ensures c.requires.all (c.flag.auto.flags ∙ c.requires.long)
    first.alike first.unset first.set
