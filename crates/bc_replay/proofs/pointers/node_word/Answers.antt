use Rattle.std.proofs.Common.{inr, refl}
use Rattle.bc_replay.proofs.Words.{no_node_word}
use Rattle.bc_replay.proofs.pointers.node_word.Goals as goal

pub returns-in-Some : goal.returns-in-Some
returns-in-Some c = λ not. inr c.in-Some.ensures

pub returns-in-None : goal.returns-in-None
returns-in-None c = no_node_word c.args.g.now c.args.root c.args.key.now c.args.key.now.count refl c.in-None.ensures
