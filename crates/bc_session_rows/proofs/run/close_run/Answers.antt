use Rattle.bc_session_rows.proofs.Running.{usable_at}
use Rattle.bc_session_rows.proofs.run.close_run.Goals as goal

pub close-requires-clause-usable : goal.close-requires-clause-usable
close-requires-clause-usable g c = usable_at g.C.Disk.facts g.B.Disk.facts
    c.args.opened.superblock c.args.opened.parts c.args.opened.seat c.requires.has
    c.requires.works.run
