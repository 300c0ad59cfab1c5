use Rattle.std.proofs.Common.{ℕ, [], ◌∷◌, ◌++◌, ap, ◌∙◌}
use Rattle.bc_install.proofs.Listed.{gone_next}
use Rattle.bc_install.proofs.ends.push_going.Goals as goal

pub loop-i-preserved : goal.loop-i-preserved
loop-i-preserved c = gone_next c.args.g.now c.args.spine.now.leaves c.args.e.now.place c.loop-i.i
    c.leaf-leaf.result c.args.list.now.items c.loop-i.list.items c.push.new.self.items
    c.leaf-leaf.ensures.leaf c.loop-i.invariant (c.in_ok-push.ensures.items
    ∙ ap (λ (n : ℕ). c.loop-i.list.items ++ n ∷ []) c.bucket_by.ensures)
