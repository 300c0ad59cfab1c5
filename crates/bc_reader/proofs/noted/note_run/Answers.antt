use Rattle.bc_fetch.proofs.of_bc_hand.Knowing.{map_ok}
use Rattle.bc_reader.proofs.Uses.{of_run}
use Rattle.bc_reader.proofs.noted.note_run.Goals as goal

pub returns-in-Cache-clause-ok : goal.returns-in-Cache-clause-ok
returns-in-Cache-clause-ok c = map_ok c.note_places.result
    (of_run c.args.buckets.now c.note_places.new.noted.items c.args.run.now c.in-Cache.at
    c.in-Cache.dirty c.in-Cache.is) c.note_places.ensures.ok
