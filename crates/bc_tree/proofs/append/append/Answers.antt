use Rattle.bc_tree.proofs.Appends.{more_if, room_says}
use Rattle.bc_tree.proofs.append.append.Goals as goal

pub append-requires-clause-fresh : goal.append-requires-clause-fresh
append-requires-clause-fresh g c = (room_says c.args.g.now c.args.node.now c.args.keys.now c.requires.can.room).0

pub append-requires-clause-some : goal.append-requires-clause-some
append-requires-clause-some g c = (room_says c.args.g.now c.args.node.now c.args.keys.now c.requires.can.room).1

pub append-requires-clause-fits : goal.append-requires-clause-fits
append-requires-clause-fits g c = (room_says c.args.g.now c.args.node.now c.args.keys.now c.requires.can.room).2

pub returns-clause-taken : goal.returns-clause-taken
returns-clause-taken g c = more_if c.append.result c.args.g.now c.args.keys.now c.args.node.now c.append.new.self c.append.ensures.written c.append.ensures.kept
