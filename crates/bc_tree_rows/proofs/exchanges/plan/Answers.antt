use Rattle.bc_tree_rows.proofs.exchanges.plan.Goals as goal

pub plan_split-requires : goal.plan_split-requires
plan_split-requires c = record {
  leaf = c.leaf-leaf.result;
  there = c.leaf-leaf.ensures.leaf;
  above = c.if-leaf-cut.true;
  below = c.if-cut-leaf.true;
  multiple = c.cut_of-cut.ensures;
}
