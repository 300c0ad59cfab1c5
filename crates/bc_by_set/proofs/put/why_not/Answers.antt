use Rattle.std.proofs.Common.{ap, ◌∙◌}
use Rattle.bc_by_root.proofs.Waiting.{never_both, same_some, told}
use Rattle.bc_by_set.proofs.Deciding.{fits_in, inside, outside, taker_in}
use Rattle.bc_by_set.proofs.put.why_not.Goals as goal

pub lies_within-requires-clause-takes : goal.lies_within-requires-clause-takes
lies_within-requires-clause-takes g c = taker_in c.args.hand.now c.args.plan.now c.requires.tree
    c.in-Some-spine.spine c.get.result.now c.in-Some-spine.is c.get.ensures

pub lies_within-requires-clause-fits : goal.lies_within-requires-clause-fits
lies_within-requires-clause-fits g c = fits_in c.args.hand.now c.args.plan.now c.requires.tree
    c.in-Some-spine.spine c.get.result.now c.in-Some-spine.is c.get.ensures

pub returns-then-not-lies_within-clause-some : goal.returns-then-not-lies_within-clause-some
returns-then-not-lies_within-clause-some g c = λ j d j_is d_is. outside c.args.hand.now
    c.args.plan.now c.lies_within.result c.sectors.result (g.C.Disk.facts d).sectors
    c.in-Some-spine.spine c.get.result.now c.in-Some-spine.is c.get.ensures
    (c.sectors.ensures ∙ ap (λ x. (g.C.Disk.facts x).sectors)
    (same_some c.args.hand.now.cache c.in-Some-cache.cache d c.in-Some-cache.is d_is))
    c.lies_within.ensures c.if-not-lies_within.true

pub returns-then-not-are_durable_to-clause-some : goal.returns-then-not-are_durable_to-clause-some
returns-then-not-are_durable_to-clause-some g c =
    λ j d j_is d_is p l p_is l_is all. never_both c.are_durable_to.result
    c.if-not-are_durable_to.true ((told c.args.hand.now c.args.plan.now c.are_durable_to.result
    c.get-journal.result.now c.in-Some.journal j c.get.result.now c.in-Some-spine.spine p
    c.in-Some-leaves.leaves l c.durable.result c.in-Some.is c.in-Some-spine.is c.in-Some-leaves.is
    c.get-journal.ensures c.get.ensures c.durable.ensures.value c.are_durable_to.ensures j_is p_is
    l_is).1 all)

pub returns-clause-none : goal.returns-clause-none
returns-clause-none g c = λ j d j_is d_is. record {
  within = λ p p_is. inside c.args.hand.now c.args.plan.now c.lies_within.result c.sectors.result
      (g.C.Disk.facts d).sectors c.in-Some-spine.spine c.get.result.now c.in-Some-spine.is
      c.get.ensures (c.sectors.ensures ∙ ap (λ x. (g.C.Disk.facts x).sectors)
      (same_some c.args.hand.now.cache c.in-Some-cache.cache d c.in-Some-cache.is d_is))
      c.lies_within.ensures c.if-not-lies_within.false p p_is;
  durable = λ p l p_is l_is. (told c.args.hand.now c.args.plan.now c.are_durable_to.result
      c.get-journal.result.now c.in-Some.journal j c.get.result.now c.in-Some-spine.spine p
      c.in-Some-leaves.leaves l c.durable.result c.in-Some.is c.in-Some-spine.is
      c.in-Some-leaves.is c.get-journal.ensures c.get.ensures c.durable.ensures.value
      c.are_durable_to.ensures j_is p_is l_is).0 c.if-not-are_durable_to.false;
}
