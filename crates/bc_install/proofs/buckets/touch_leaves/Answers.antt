use Rattle.std.proofs.Common.{◌++◌, Option, sym, subst}
use Rattle.std.specs.Prelude.{option_to_list}
use Rattle.bc_grouped.specs.Touched.{keys_in}
use Rattle.bc_install.specs.Buckets.{HasTouched}
use Rattle.bc_install.proofs.Touching.{touched_two}
use Rattle.bc_install.proofs.buckets.touch_leaves.Goals as goal
use Rattle.bc_node.specs.Leaf.{Leaf}

pub returns-in-Some : goal.returns-in-Some
returns-in-Some c = subst (λ (o : Option Leaf). HasTouched c.args.first
    (c.args.low.now.keys ++ keys_in (option_to_list o)) c.args.part.now
    c.touch_leaf-in-Some.new.part) (sym c.in-Some.is)
    (touched_two c.args.first c.args.low.now c.in-Some.high c.args.part.now c.touch_leaf.new.part
    c.touch_leaf-in-Some.new.part c.touch_leaf.ensures c.touch_leaf-in-Some.ensures)
