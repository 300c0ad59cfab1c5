use Rattle.bc_install.proofs.Listed.{old_pushed}
use Rattle.bc_install.proofs.change.push_old.Goals as goal

pub returns : goal.returns
returns c = old_pushed c.push_behind.result c.args.g.now c.args.spine.now c.args.plan.now
    c.args.list.now.items c.push_gone.new.list.items c.push_root.new.list.items
    c.push_behind.new.list.items c.bottom_at.result.now c.root.result.now c.below.result.now
    c.saturating_add.result c.bottom_at.ensures c.root.ensures.root c.below.ensures
    c.below.type_inv.0 c.in_ok-push_gone.ensures c.in_ok-push_root.ensures
    c.saturating_add.ensures c.push_behind.ensures
