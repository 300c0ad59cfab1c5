use Rattle.std.proofs.Common.{ap, ◌∙◌, subst}
use Rattle.bc_by_root.proofs.Waiting.{never_both, same_some, told, within_as}
use Rattle.bc_by_root.proofs.put.why_not.Goals as goal
use Rattle.bc_install.specs.bc_entry.Seal.{CanSeal}

pub returns-then-not-are_durable_to-clause-some : goal.returns-then-not-are_durable_to-clause-some
returns-then-not-are_durable_to-clause-some g c =
    λ j d j_is d_is p l p_is l_is all. never_both c.are_durable_to.result
    c.if-not-are_durable_to.true ((told c.args.hand.now c.args.plan.now c.are_durable_to.result
    c.get-journal.result.now c.in-Some.journal j c.get.result.now c.in-Some-spine.spine p
    c.in-Some-leaves.leaves l c.durable.result c.in-Some.is c.in-Some-spine.is c.in-Some-leaves.is
    c.get-journal.ensures c.get.ensures c.durable.ensures.value c.are_durable_to.ensures j_is p_is
    l_is).1 all)

pub returns-clause-none : goal.returns-clause-none
returns-clause-none g c = λ j d j_is d_is.
    let same = c.get-journal.ensures
    ∙ same_some c.args.hand.now.journal c.in-Some.journal j c.in-Some.is j_is in record {
      seals = subst CanSeal same c.in_default-no_entry.ensures.none;
      within = within_as c.geometry-g.result.now j c.from.result c.from-2.result
          c.sectors.result (g.C.Disk.facts d).sectors c.from.ensures c.from-2.ensures
          (c.geometry-g.ensures ∙ ap (λ r. r.geometry) c.ring.ensures.value
          ∙ ap (λ x. x.ring.geometry) same)
          (c.sectors.ensures ∙ ap (λ x. (g.C.Disk.facts x).sectors)
          (same_some c.args.hand.now.cache c.in-Some-cache.cache d c.in-Some-cache.is d_is))
          c.if-from-sectors.false;
      durable = λ p l p_is l_is. (told c.args.hand.now c.args.plan.now c.are_durable_to.result
          c.get-journal.result.now c.in-Some.journal j c.get.result.now c.in-Some-spine.spine p
          c.in-Some-leaves.leaves l c.durable.result c.in-Some.is c.in-Some-spine.is
          c.in-Some-leaves.is c.get-journal.ensures c.get.ensures c.durable.ensures.value
          c.are_durable_to.ensures j_is p_is l_is).0 c.if-not-are_durable_to.false;
    }
