use Rattle.std.proofs.Common.{refl}
use Rattle.bc_install.proofs.Each.{each_next}
use Rattle.bc_install.proofs.ends.each_of.Goals as goal

pub loop-number-preserved : goal.loop-number-preserved
loop-number-preserved c = each_next c.args.all.now c.loop-number.number-index _
    c.loop-number.each.items c.push_once.new.list.items c.loop-number-test.true refl
    c.loop-number.invariant c.in_ok-push_once.ensures
