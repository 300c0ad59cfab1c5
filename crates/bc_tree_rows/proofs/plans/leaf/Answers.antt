use Rattle.std.proofs.Common.{◌∙◌}
use Rattle.bc_plan.proofs.Examples.{found_leaf}
use Rattle.bc_tree_rows.proofs.plans.leaf.Goals as goal

pub returns : goal.returns
returns c = found_leaf c.args.spine.now c.find-range.result c.args.sector c.new.result c.len.ensures.all c.find-range.ensures c.requires c.new.ensures.begins (c.new.ensures.ends ∙ c.new-key.ensures.end)
