use Rattle.bc_reload.proofs.Adding.{added_after}
use Rattle.bc_reload.proofs.add.add_keys.Goals as goal

pub returns-clause-ok : goal.returns-clause-ok
returns-clause-ok c =
    let made = c.in_ok-reserve.ensures in
    added_after c.args.keys.now c.args.leaf.now c.reserve.new.self c.add_all.new.leaf made.node made.keys made.pending made.entries c.add_all.ensures
