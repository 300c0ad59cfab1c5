use Rattle.std.proofs.Common.{ap, ◌∙◌}
use Rattle.bc_by_set.proofs.Deciding.{fits_in, prepared_of, taker_in}
use Rattle.bc_journal.specs.Journal.{Journal}
use Rattle.bc_journal.specs.Ring.{Ring}
use Rattle.bc_by_set.proofs.put.prepare_in.Goals as goal

pub prepare_set-requires-clause-fits : goal.prepare_set-requires-clause-fits
prepare_set-requires-clause-fits g c = fits_in c.args.hand.now c.args.plan.now c.requires.tree
    c.in-Some.spine c.get.result.now c.in-Some.is c.get.ensures

pub prepare_set-requires-clause-takes : goal.prepare_set-requires-clause-takes
prepare_set-requires-clause-takes g c = taker_in c.args.hand.now c.args.plan.now c.requires.tree
    c.in-Some.spine c.get.result.now c.in-Some.is c.get.ensures

pub returns : goal.returns
returns g c = prepared_of c.args.hand.now c.args.plan.now c.prepare_set.result
    c.geometry.result.now c.in-Some-journal.journal c.in-Some.spine c.get.result.now
    c.in-Some-journal.is c.in-Some.is c.get.ensures
    (c.geometry.ensures ∙ ap (λ (r : Ring). r.geometry) c.ring.ensures.value
    ∙ ap (λ (j : Journal). j.ring.geometry) c.get-journal.ensures) c.prepare_set.ensures
