use Rattle.std.proofs.Common.{◌∙◌}
use Rattle.bc_spine.proofs.Flags.{least_unset}
use Rattle.bc_spine.proofs.numbers.first_free.Goals as goal

pub returns : goal.returns
returns c =
    let first = c.first_unset.ensures in
    least_unset c.args.leaves.now c.flag.new.flags c.args.from c.args.most c.first_unset.result c.flag.ensures c.requires.all c.requires.from (c.flag.auto.flags ∙ c.requires.long) first.from first.within first.unset first.set
