use Rattle.bc_install.proofs.Coming.{both_of, first_of}
use Rattle.bc_install.proofs.leaves.bring_leaves.Goals as goal

pub returns-in_default : goal.returns-in_default
returns-in_default c = λ plan e f s. first_of plan c.args.count c.args.part c.args.new.leaves
    c.args.new.first c.args.new.second c.args.cache.now c.bring.new.cache e f s c.bring.ensures

pub returns-in_default-second : goal.returns-in_default-second
returns-in_default-second c = λ plan e f s. first_of plan c.args.count c.args.part
    c.args.new.leaves c.args.new.first c.args.new.second c.args.cache.now c.bring.new.cache e f s
    c.bring.ensures

pub returns : goal.returns
returns c = λ plan e f s. both_of plan c.args.count c.args.part c.args.new.leaves c.args.new.first
    c.args.new.second c.args.cache.now c.bring.new.cache e f s c.bring.ensures c.in-Some.range
    c.in-Some-second.leaf c.bring-2.new.cache c.in-Some.is c.in-Some-second.is c.bring-2.ensures
