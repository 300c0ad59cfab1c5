use Rattle.bc_recover.specs.Read.{IsReadOf}
use Rattle.bc_cached_serve.proofs.of_bc_session.Stops.{held_on, stands_kept}
use Rattle.bc_cached_serve_rows.proofs.run.serve_surveyed.Goals as goal

pub run_lines-requires-clause-read : goal.run_lines-requires-clause-read
run_lines-requires-clause-read g c = held_on (g.C.Disk.facts c.args.cache)
    (g.C.Disk.facts c.load.new.cache) c.in_ok-loaded.ensures.kept (g.B.Disk.facts c.args.backing)
    (IsReadOf c.args.s.now) c.requires.read

pub run_lines-requires-clause-still : goal.run_lines-requires-clause-still
run_lines-requires-clause-still g c = stands_kept (g.C.Disk.facts c.args.cache)
    (g.C.Disk.facts c.load.new.cache) c.in_ok-loaded.ensures.kept c.requires.still
