use Rattle.std.proofs.Common.{arith}
use Rattle.bc_node.proofs.LastKeys.{put_live, put_bare}
use Rattle.bc_node.proofs.last.put.Goals as goal

pub returns-then-key-gt0-clause-put : goal.returns-then-key-gt0-clause-put
returns-then-key-gt0-clause-put c = put_live c.args.key.now c.args.map.now.keys c.insert.new.self.keys c.if-key-gt0.true c.insert.ensures.shows c.insert.ensures.order

pub returns-else-key-gt0-clause-put : goal.returns-else-key-gt0-clause-put
returns-else-key-gt0-clause-put c =
    put_bare c.args.key.now c.start.result c.from.result c.args.map.now.keys c.erase.new.self.keys c.requires.extent (let none = c.if-key-gt0.false in omega (arith, none)) c.start.ensures c.from.ensures
    c.erase.ensures.shows c.erase.ensures.order
