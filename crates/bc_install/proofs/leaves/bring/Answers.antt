use Rattle.bc_install.proofs.Coming.{none_came, one_came}
use Rattle.bc_install.proofs.leaves.bring.Goals as goal
use Rattle.std.proofs.Common.{arith}

pub returns-in-Some : goal.returns-in-Some
returns-in-Some c = none_came c.args.count c.args.part c.args.number c.args.leaf c.args.cache.now
    (λ room. room.misses c.in-Some.field-0 c.in-Some.ensures.has)

pub returns : goal.returns
returns c =
    let its = c.if-number-count.false in
    one_came c.args.count c.args.part c.args.number c.in-Some-empty_slot.slot _ c.args.leaf
    c.args.cache.now c.put.new.self (omega (arith, its)) c.in-Some-empty_slot.ensures c.put.ensures
