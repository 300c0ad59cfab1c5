use Rattle.std.proofs.Common.{◌+◌, subst}
use Rattle.bc_bypass.proofs.Dirt.{none_yet, one_more}
use Rattle.bc_write_back.specs.bc_sight.Sight.{IsOnBacking}
use Rattle.bc_bypass.proofs.backed.are_backed.Goals as goal

pub loop-done-init : goal.loop-done-init
loop-done-init c = none_yet c.args.leaf.now c.args.first

pub loop-done-preserved : goal.loop-done-preserved
loop-done-preserved c = one_more c.args.leaf.now c.args.first c.loop-done.done
    c.loop-done.invariant
    (subst (λ n. IsOnBacking c.args.leaf.now (c.args.first + n)) c.from.ensures
    c.if-not-is_backed.ensures)
