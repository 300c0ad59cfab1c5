use Rattle.bc_entries.proofs.Held.{holds_so, cause_so}
use Rattle.bc_entries.proofs.read.read_journal.Goals as goal

pub returns-clause-found : goal.returns-clause-found
returns-clause-found g c = holds_so c.args.g.now (g.D.Disk.facts c.args.disk.now) c.in_ok-all.all.items c.journal_of.result c.in_ok-all.ensures.stand c.journal_of.ensures.fit

pub returns-clause-refused : goal.returns-clause-refused
returns-clause-refused g c = cause_so c.args.g.now (g.D.Disk.facts c.args.disk.now) c.in_ok-all.all.items c.journal_of.result c.in_ok-all.ensures.stand c.journal_of.ensures.unfit
