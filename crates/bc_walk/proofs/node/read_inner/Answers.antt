use Rattle.std.proofs.Common.{sym, subst}
use Rattle.bc_walk.specs.Loading.{IsUnread}
use Rattle.bc_walk.proofs.Nodes.{inner_unread}
use Rattle.bc_walk.proofs.node.read_inner.Goals as goal

pub returns-in-Err-clause-refused : goal.returns-in-Err-clause-refused
returns-in-Err-clause-refused g c =
    let old = g.D.Disk.facts c.args.disk.now in
    subst (IsUnread old c.args.g.now c.args.level c.args.from c.args.key.now c.args.bucket) (sym c.error_of.ensures)
    (inner_unread old (g.D.Disk.facts c.load.new.disk) c.args.g.now c.args.level c.args.from c.args.key.now c.args.bucket c.in-Err.why c.requires.level c.in-Err.ensures.refused)
