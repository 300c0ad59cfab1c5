use Rattle.std.proofs.Common.{List, subst}
use Rattle.bc_inner.specs.Inner.{Inner}
use Rattle.bc_key.specs.declared.key.Key.{Key}
use Rattle.bc_plan.specs.Parent.{TakesSet}
use Rattle.bc_tree.specs.Append.{CanAppend}
use Rattle.bc_tree_rows.proofs.plans.write_set.Goals as goal

pub write_parent-requires-clause-set : goal.write_parent-requires-clause-set
write_parent-requires-clause-set g c =
    let s = c.args.spine.now in
    subst (λ n. (node : Inner) × (keys : List Key) × TakesSet s c.args.plan.now node keys × CanAppend s.geometry n node keys) c.sectors.ensures (c.takes_set-takes.ensures c.if-takes.true)

pub returns-then-takes : goal.returns-then-takes
returns-then-takes g c = c.write_parent.ensures.fits c.args.plan.now c.requires
