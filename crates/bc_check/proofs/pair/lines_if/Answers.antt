use Rattle.bc_walk.proofs.Goes.{on_ok}
use Rattle.bc_check.proofs.Says.{listed}
use Rattle.bc_check.proofs.pair.lines_if.Goals as goal

pub returns-in-Sound : goal.returns-in-Sound
returns-in-Sound c =
    let s = c.args.s.now in
    on_ok c.list_buckets.result _ _
    (λ v lines. λ p h. listed s.supers.backing s.supers.cache s.supers.geometry s.journal s.gens s.seen.items s.index.keys s.uses.items c.args.list c.args.verdict c.in-Sound.dirty c.in-Sound.clean c.if-list.true c.in-Sound.is p h v.items (lines p h))
    c.list_buckets.ensures
