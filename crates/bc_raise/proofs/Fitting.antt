-- Lists, records and open buckets fit each other once a bucket is raised.
use Rattle.std.proofs.Common.{◌≡◌, ◌≢◌, ◌⊎◌, inl, inr, ℕ, ◌≤◌, Bool, true, false, [], ◌∷◌, ◌++◌, refl, sym, ap, ◌∙◌, subst, arith}
use Rattle.std.proofs.lemmas.Bool.{cases_eq}
use Rattle.bc_alloc.proofs.Fits.{held_stays}
use Rattle.bc_alloc.proofs.Times.{times-append, times_one, times_other}
use Rattle.bc_alloc.specs.Reserves.{IsInOrder, times_listed}
use Rattle.bc_alloc.specs.Victims.{IsCandidate}
use Rattle.bc_bucket.specs.Bucket.{raised}
use Rattle.bc_bucket.specs.Buckets.{bucket_of, changed}
use Rattle.bc_fill.specs.Fill.{AreOpen}
use Rattle.bc_renew.proofs.Parts.{are_open}
use Rattle.bc_held.specs.bc_machine.declared.part.BucketsPart.{BucketsPart}

never : (b : Bool) → b ≡ true → b ≡ false → ⊥
never b is off = cc

-- the open ones are held, and so none of them was raised
pub open_raised : (p : BucketsPart) (n : ℕ) → IsCandidate p.reserves p.buckets n
    → AreOpen p.fill (record p.reserves { raised = p.reserves.raised ++ n ∷ [] })
    (changed raised n p.buckets)
open_raised p n may = record {
  distinct = (are_open p).distinct;
  each = λ k some. let its = (are_open p).each k some in
      let other : n ≢ k = λ e. never (bucket_of p.buckets k).held its.1
      (ap (λ j. (bucket_of p.buckets j).held) (sym e) ∙ may.reclaimable.not_held) in
      let none = times_other k n other in
      let both = times-append k p.reserves.raised (n ∷ []) in
      let was = its.2 in (
        its.0,
        held_stays raised (λ x. refl) n p.buckets k ∙ its.1,
        omega (arith, none, both, was),
      );
  free = (are_open p).free;
}

-- each bucket stands once on the lists or among the raised ones, or nowhere
pub order_raised : (p : BucketsPart) (n : ℕ) → IsCandidate p.reserves p.buckets n
    → IsInOrder (record p.reserves { raised = p.reserves.raised ++ n ∷ [] })
order_raised p n may = record {
  four = p.order.four;
  short = p.order.short;
  once = λ k. once k (cases_eq k n);
  below = λ k past.
      let none = times_other k n (λ e. (let there = may.there in
      let same = p.fit.same_count in omega (arith, there, same, past, e))) in
      let both = times-append k p.reserves.raised (n ∷ []) in
      let was = p.order.below k past in omega (arith, none, both, was);
}
  where
    once : (k : ℕ) → (k ≡ n) ⊎ (k ≢ n)
        → times_listed (record p.reserves { raised = p.reserves.raised ++ n ∷ [] }) k ≤ 1
    once k (inl e) =
        let both = times-append k p.reserves.raised (n ∷ []) in
        let one = times_one k n in
        let none = subst (λ j. times_listed p.reserves j ≡ 0) (sym e) may.loose in
        omega (arith, both, one, none)
    once k (inr ne) =
        let both = times-append k p.reserves.raised (n ∷ []) in
        let none = times_other k n (λ e. ne (sym e)) in
        let was = p.order.once k in omega (arith, both, none, was)
