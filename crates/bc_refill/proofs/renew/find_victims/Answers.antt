use Rattle.std.proofs.Common.{◌≤◌, length, Some, refl, sym, ap, ◌∙◌, subst}
use Rattle.std.specs.Prelude.{vec_capacity}
use Rattle.bc_alloc.specs.Victims.{AreVictims}
use Rattle.bc_new_chain.proofs.InHand.{same_some}
use Rattle.bc_new_chain.specs.bc_machine.declared.part.BucketsPart.{BucketsPart}
use Rattle.bc_refill.proofs.renew.find_victims.Goals as goal

pub search-requires : goal.search-requires
search-requires g c = subst (λ (p : BucketsPart). length p.buckets.records
    ≤ vec_capacity c.args.into.now)
    (same_some c.args.hand.now.buckets c.requires.0 c.get_mut.result.now c.requires.1
    (sym c.take.ensures.value ∙ c.in-Some.is ∙ ap Some (sym c.get_mut.ensures.part))) c.requires.2

pub returns-clause-same : goal.returns-clause-same
returns-clause-same g c = (
  c.get_mut.result.now,
  c.search.new.part,
  sym c.take.ensures.value ∙ c.in-Some.is ∙ ap Some (sym c.get_mut.ensures.part),
  refl,
  c.search.ensures.same,
)

pub returns-clause-victims : goal.returns-clause-victims
returns-clause-victims g c = λ p is. subst (λ (q : BucketsPart). AreVictims q.reserves q.buckets
    c.search.new.into.items)
    (same_some c.args.hand.now.buckets c.get_mut.result.now p
    (sym c.take.ensures.value ∙ c.in-Some.is ∙ ap Some (sym c.get_mut.ensures.part)) is)
    c.search.ensures.victims
