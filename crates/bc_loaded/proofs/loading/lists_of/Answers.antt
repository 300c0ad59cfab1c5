use Rattle.bc_loaded.proofs.Fit.{fit}
use Rattle.bc_loaded.proofs.loading.lists_of.Goals as goal

pub returns-clause-fit : goal.returns-clause-fit
returns-clause-fit c = fit c.args.s.now.supers.geometry.nbuckets c.in_ok-reserves.reserves
    c.in_ok-buckets.buckets c.in_ok-reserves.ensures.count c.in_ok-buckets.ensures.unheld
    c.raised_len-raised.ensures.in_order
