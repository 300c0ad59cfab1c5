use Rattle.std.proofs.Common.{◌≡◌, ◌+◌, None, subst}
use Rattle.bc_candidate.specs.bc_sight.Sight.{said_in}
use Rattle.bc_settle.proofs.Fitting.{more_bare, none_bare}
use Rattle.bc_settle.proofs.fit.are_bare.Goals as goal

pub loop-done-init : goal.loop-done-init
loop-done-init c = none_bare c.args.leaf.now c.args.first

pub loop-done-preserved : goal.loop-done-preserved
loop-done-preserved c = more_bare c.args.leaf.now c.args.first c.loop-done.done
    c.loop-done.invariant
    (subst (λ n. said_in c.args.leaf.now (c.args.first + n) ≡ None) c.from.ensures
    c.if-is_keyed.ensures)
