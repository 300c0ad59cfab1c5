use Rattle.bc_install.proofs.Out.{none_out, slot_out}
use Rattle.bc_install.proofs.leaves.take_out.Goals as goal

pub returns-in_default : goal.returns-in_default
returns-in_default c = none_out c.args.number c.args.cache.now c.in_default.ensures

pub returns : goal.returns
returns c = slot_out c.args.number c.in-Some.slot c.args.cache.now c.let_go_in.new.cache
    c.take.new.self c.take.result c.in-Some.ensures c.let_go_in.ensures c.take.ensures
