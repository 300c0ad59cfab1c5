use Rattle.bc_check.proofs.Aged.{aged_told}
use Rattle.bc_check.proofs.window.first_aged.Goals as goal

pub returns : goal.returns
returns c = λ p h.
    let s = c.args.s.now in
    aged_told p s.supers.backing s.supers.cache s.supers.geometry s.journal s.gens s.seen.items s.index.keys s.uses.items h c.first_aged_row.result c.first_aged_row.ensures
