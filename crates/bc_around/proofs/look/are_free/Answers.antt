use Rattle.std.proofs.Common.{◌≡◌, ◌+◌, None, subst}
use Rattle.bc_flush.specs.bc_sight.Sight.{said_in}
use Rattle.bc_around.proofs.Keyed.{more_free, none_free}
use Rattle.bc_around.proofs.look.are_free.Goals as goal

pub loop-done-init : goal.loop-done-init
loop-done-init c = none_free c.args.leaf.now c.args.first

pub loop-done-preserved : goal.loop-done-preserved
loop-done-preserved c = more_free c.args.leaf.now c.args.first c.loop-done.done
    c.loop-done.invariant
    (subst (λ n. said_in c.args.leaf.now (c.args.first + n) ≡ None) c.from.ensures
    c.if-is_keyed.ensures)
