use Rattle.std.proofs.Common.{true, false}
use Rattle.bc_check.proofs.Summed.{total_told}
use Rattle.bc_check.proofs.totals.count_sectors.Goals as goal

pub returns-clause-dirty : goal.returns-clause-dirty
returns-clause-dirty c = λ p h.
    let s = c.args.s.now in
    total_told p s.supers.backing s.supers.cache s.supers.geometry s.journal s.gens s.seen.items s.index.keys s.uses.items h true _ c.count_kind.ensures

pub returns-clause-clean : goal.returns-clause-clean
returns-clause-clean c = λ p h.
    let s = c.args.s.now in
    total_told p s.supers.backing s.supers.cache s.supers.geometry s.journal s.gens s.seen.items s.index.keys s.uses.items h false _ c.count_kind-2.ensures
