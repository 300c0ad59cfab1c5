use Rattle.std.proofs.Common.{ℕ, ◌+◌, refl, ap, ◌∙◌}
use Rattle.bc_install.proofs.Brought.{unmade_next}
use Rattle.bc_install.proofs.buckets.unmake_nodes.Goals as goal

pub loop-bucket-preserved : goal.loop-bucket-preserved
loop-bucket-preserved c = unmade_next c.args.first c.args.buckets.now c.loop-bucket.bucket-index _ _
    c.args.part.now c.loop-bucket.part c.unmake_node.new.part c.loop-bucket-test.true refl
    (ap (λ (n : ℕ). n + c.from-in-loop-bucket.result) c.from.ensures
    ∙ ap (λ (n : ℕ). c.args.first + n) c.from-in-loop-bucket.ensures)
    c.loop-bucket.invariant c.unmake_node.ensures
