use Rattle.std.proofs.Common.{List, subst}
use Rattle.std.specs.Bool.{MatchBool}
use Rattle.std.specs.Prelude.{Any}
use Rattle.bc_image.specs.Pointers.{PointsInto}
use Rattle.bc_image.specs.Tree.{Node}
use Rattle.bc_plain_pair.proofs.uses.is_in_node.Goals as goal

pub returns : goal.returns
returns c =
    subst (λ (ns : List Node). MatchBool c.has_node.result (Any (λ (n : Node). PointsInto c.args.g.now n.key c.args.bucket) ns) (Any (λ (n : Node). PointsInto c.args.g.now n.key c.args.bucket) ns → ⊥)) c.nodes.ensures c.has_node.ensures
