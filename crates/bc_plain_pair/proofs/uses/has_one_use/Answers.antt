use Rattle.std.proofs.Common.{ap, ◌∙◌}
use Rattle.bc_image.specs.Reading.{Reading}
use Rattle.bc_plain_pair.proofs.UseCounts.{both_of}
use Rattle.bc_plain_pair.proofs.uses.has_one_use.Goals as goal

pub returns-then-has_one_kind : goal.returns-then-has_one_kind
returns-then-has_one_kind c =
    both_of c.args.v.now.geometry c.geometry.result.now c.args.v.now.reading c.nodes.result.now c.are_apart.result c.geometry.ensures
    (c.nodes.ensures ∙ ap (λ (r : Reading). r.nodes) c.reading.ensures) (rw c.if-has_one_kind.true at c.has_one_kind.ensures) c.are_apart.ensures
