use Rattle.std.proofs.Common.{refl}
use Rattle.bc_replaced.proofs.Asking.{same_hand}
use Rattle.bc_replaced.proofs.replace.give_up.Goals as goal

pub let_go_all-requires-clause-order : goal.let_go_all-requires-clause-order
let_go_all-requires-clause-order g c none = record {
  journal = c.requires.behind.journal;
  cache = c.requires.behind.cache;
  backing = c.requires.behind.backing;
}

pub returns-in-Ok-clause-same : goal.returns-in-Ok-clause-same
returns-in-Ok-clause-same g c = same_hand c.args.hand.now c.let_go_all.new.hand c.requires.behind
    c.let_go_all.ensures.hand c.let_go_all.ensures.rest

pub returns-in-Ok-clause-given_up : goal.returns-in-Ok-clause-given_up
returns-in-Ok-clause-given_up g c = (refl, c.in-Ok.ensures.ok)

pub returns-in-Err-clause-same : goal.returns-in-Err-clause-same
returns-in-Err-clause-same g c = same_hand c.args.hand.now c.let_go_all.new.hand c.requires.behind
    c.let_go_all.ensures.hand c.let_go_all.ensures.rest
