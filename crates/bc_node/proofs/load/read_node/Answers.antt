use Rattle.std.proofs.Common.{◌∙◌}
use Rattle.bc_node.proofs.Loaded.{held_so, unread_so}
use Rattle.bc_node.proofs.load.read_node.Goals as goal

pub returns-clause-found : goal.returns-clause-found
returns-clause-found g c =
    held_so c.args.g.now c.args.word c.args.kind c.args.at c.read.new.into (g.D.Disk.facts c.args.disk.now) c.read_sets.result c.in_ok-read.ensures.ok c.read_sets.ensures.found

pub returns-clause-refused : goal.returns-clause-refused
returns-clause-refused g c =
    unread_so c.args.g.now c.args.word c.args.kind c.args.at c.read.new.into (g.D.Disk.facts c.args.disk.now) (g.D.Disk.facts c.read.new.self) c.read_sets.result (c.read.auto.into ∙ c.requires.whole)
    c.in_ok-read.ensures.ok c.in_ok-read.ensures.counted c.read_sets.ensures.refused
