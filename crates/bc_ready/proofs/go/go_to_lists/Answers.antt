use Rattle.std.proofs.Common.{◌<◌, refl, sym, ap, ◌∙◌, subst, arith, length, take}
use Rattle.bc_alloc.specs.Buckets.{AreFor, AreLoose, all_changed, made_ready, unmarked}
use Rattle.bc_alloc.specs.Reserve.{IsDistinct, times}
use Rattle.bc_bucket.specs.Buckets.{Buckets}
use Rattle.bc_fill.specs.Fill.{AreOpen}
use Rattle.bc_raise.specs.bc_renew.Ready.{chained}
use Rattle.bc_ready.proofs.Fitting.{all_length, all_size, chained_fit, chained_loose, open_ready, touched_fit, touched_open, touched_size}
use Rattle.bc_ready.proofs.go.go_to_lists.Goals as goal

-- the chains may go, or nothing is done
pub let_go_all-requires-clause-distinct : goal.let_go_all-requires-clause-distinct
let_go_all-requires-clause-distinct c = subst IsDistinct
    (c.deref.ensures.value ∙ sym c.deref-2.ensures.value)
    (c.if-not-can_go.ensures.0 refl).taken.distinct

pub let_go_all-requires-clause-each : goal.let_go_all-requires-clause-each
let_go_all-requires-clause-each c = λ k some.
    let its = (c.if-not-can_go.ensures.0 refl).taken.each k
    (subst (λ ks. 0 < times k ks) (c.deref-2.ensures.value ∙ sym c.deref.ensures.value) some) in
    let same = c.args.part.now.fit.same_count in
    let below = its.there in (omega (arith, below, same), its.held)

pub ready-requires-clause-fit : goal.ready-requires-clause-fit
ready-requires-clause-fit c = subst (λ (b : Buckets). AreFor c.args.part.now.reserves b)
    (sym c.let_go_all.ensures)
    (chained_fit c.args.part.now.reserves c.deref-2.result.now c.args.part.now.buckets
    c.args.part.now.fit)

pub ready-requires-clause-distinct : goal.ready-requires-clause-distinct
ready-requires-clause-distinct c = subst IsDistinct (sym c.deref-3.ensures.value)
    (c.if-not-can_go.ensures.0 refl).distinct

pub ready-requires-clause-loose : goal.ready-requires-clause-loose
ready-requires-clause-loose c = subst (λ (b : Buckets). AreLoose c.args.part.now.reserves b
    c.deref-3.result.now) (sym c.let_go_all.ensures)
    (chained_loose c.args.part.now.reserves c.deref-3.result.now c.deref-2.result.now
    c.args.part.now.buckets (subst (AreLoose c.args.part.now.reserves c.args.part.now.buckets)
    (sym c.deref-3.ensures.value) (c.if-not-can_go.ensures.0 refl).loose))

pub touch_all-requires : goal.touch_all-requires
touch_all-requires c = λ k some.
    let p = c.args.part.now in
    let its = (c.if-not-can_go.ensures.0 refl).taken.each k
    (subst (λ ks. 0 < times k ks) (c.deref-4.ensures.value ∙ sym c.deref.ensures.value) some) in
    let below = its.there in
    let same = p.fit.same_count in
    let ks = take c.args.named p.reserves.raised in
    let long = ap (λ (b : Buckets). length b.records) c.ready.ensures.buckets
    ∙ all_length made_ready ks (all_changed unmarked c.deref-3.result.now c.let_go_all.new.buckets)
    ∙ all_length unmarked c.deref-3.result.now c.let_go_all.new.buckets
    ∙ ap (λ (b : Buckets). length b.records) c.let_go_all.ensures
    ∙ all_length chained c.deref-2.result.now p.buckets in omega (arith, below, same, long)

pub invariant_of-part : goal.invariant_of-part
invariant_of-part c =
    let p = c.args.part.now in
    let ks = take c.args.named p.reserves.raised in
    let go = c.if-not-can_go.ensures.0 refl in
    let is = c.ready.ensures.buckets
    ∙ ap (λ (b : Buckets). all_changed made_ready ks (all_changed unmarked c.deref-3.result.now b))
    c.let_go_all.ensures
    ∙ ap (λ old. all_changed made_ready ks
    (all_changed unmarked old (all_changed chained c.deref-2.result.now p.buckets)))
    c.deref-3.ensures.value
    ∙ ap (λ new. all_changed made_ready ks
    (all_changed unmarked p.chain.items (all_changed chained new p.buckets)))
    (c.deref-2.ensures.value ∙ sym c.deref.ensures.value) in
    let size = ap (λ (b : Buckets). b.size) is
    ∙ all_size made_ready ks
    (all_changed unmarked p.chain.items (all_changed chained c.deref.result.now p.buckets))
    ∙ all_size unmarked p.chain.items (all_changed chained c.deref.result.now p.buckets)
    ∙ all_size chained c.deref.result.now p.buckets in
    let then_ = c.touch_all.ensures in record {
      order = c.ready.ensures.in_order;
      fit = subst (λ (b : Buckets). AreFor c.ready.new.self b) (sym then_)
          (touched_fit c.ready.new.self c.deref-4.result.now c.ready.new.b c.ready.ensures.fit);
      «open» = ∣ subst (λ (b : Buckets). AreOpen p.fill c.ready.new.self b) (sym then_)
          (touched_open p.fill c.ready.new.self c.deref-4.result.now c.ready.new.b
          (open_ready p c.args.named c.deref.result.now go c.ready.new.self c.ready.new.b
          c.ready.ensures.fit c.ready.ensures.count is size)) ∣₁;
      sized = let sized = p.sized in
          let last = ap (λ (b : Buckets). b.size) then_
          ∙ touched_size c.deref-4.result.now c.ready.new.b in
          omega (arith, sized, size, last);
    }
