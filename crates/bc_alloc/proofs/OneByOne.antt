-- Once the first victim is raised, the others are the victims.
use Rattle.std.proofs.Common.{◌≡◌, ◌≢◌, ◌⊎◌, inl, inr, ℕ, suc, ◌+◌, ◌<◌, List, [], ◌∷◌, ◌++◌, length, get_or, sym, ◌∙◌, ap, subst, arith}
use Rattle.std.proofs.lemmas.Bool.{cases_eq}
use Rattle.std.proofs.lemmas.List.{length_push}
use Rattle.bc_bucket.specs.declared.bucket.Bucket.{Bucket}
use Rattle.bc_bucket.specs.Bucket.{raised, IsReclaimable}
use Rattle.bc_bucket.specs.Buckets.{Buckets, changed}
use Rattle.bc_alloc.specs.Reserve.{times}
use Rattle.bc_alloc.specs.Reserves.{Reserves, times_listed, wanted}
use Rattle.bc_alloc.specs.Victims.{AreVictims, IsBefore, IsCandidate, priority_of}
use Rattle.bc_alloc.proofs.Fits.{other_stays, this_changes, same_length}
use Rattle.bc_alloc.proofs.Times.{times-append, times-cons, times_other, times_same}
use Rattle.bc_alloc.proofs.Unique.{never_both}

-- with one more raised bucket
abbrev more : Reserves → ℕ → Reserves
more r v = record r { raised = r.raised ++ v ∷ [] }

listed_more : (r : Reserves) (v k : ℕ) → times_listed (more r v) k ≡ times_listed r k + times k (v ∷ [])
listed_more r v k = let e = times-append k r.raised (v ∷ []) in omega arith

one_less : (r : Reserves) (v : ℕ) → 0 < wanted r → wanted (more r v) + 1 ≡ wanted r
one_less r v some = let e = length_push r.raised v in omega arith

priority_stays : (b : Buckets) (v : ℕ) → v < length b.records → (j : ℕ) → priority_of (changed raised v b).records j ≡ priority_of b.records j
priority_stays b v there j = go (cases_eq j v)
  where
    go : (j ≡ v) ⊎ (j ≢ v) → priority_of (changed raised v b).records j ≡ priority_of b.records j
    go (inl e) = subst (λ i. priority_of (changed raised v b).records i ≡ priority_of b.records i) (sym e) (ap (λ (x : Bucket). x.priority) (this_changes raised v b there))
    go (inr ne) = ap (λ (x : Bucket). x.priority) (other_stays raised v b j ne)

before_stays : (b : Buckets) (v j k : ℕ) → v < length b.records → IsBefore b.records j k → IsBefore (changed raised v b).records j k
before_stays b v j k there h = go h
  where
    ej : priority_of (changed raised v b).records j ≡ priority_of b.records j
    ej = priority_stays b v there j

    ek : priority_of (changed raised v b).records k ≡ priority_of b.records k
    ek = priority_stays b v there k

    go : (priority_of b.records j < priority_of b.records k) ⊎ ((priority_of b.records j ≡ priority_of b.records k) × (j < k)) → IsBefore (changed raised v b).records j k
    go (inl lt) = inl (omega (arith, ej, ek))
    go (inr eq) = inr (ej ∙ eq.0 ∙ sym ek, eq.1)

still : (r : Reserves) (b : Buckets) (v k : ℕ) → k ≢ v → IsCandidate r b k → IsCandidate (more r v) (changed raised v b) k
still r b v k ne c = record {
  there = let e = same_length raised v b in let t = c.there in omega arith;
  reclaimable = subst (λ (x : Bucket). IsReclaimable x) (sym (other_stays raised v b k ne)) c.reclaimable;
  loose = let e = listed_more r v k in let z = times_other k v (λ s. ne (sym s)) in let l = c.loose in omega arith;
}

was : (r : Reserves) (b : Buckets) (v k : ℕ) → IsCandidate (more r v) (changed raised v b) k → (k ≢ v) × IsCandidate r b k
was r b v k c = (
  other,
  record {
    there = let e = same_length raised v b in let t = c.there in omega arith;
    reclaimable = subst (λ (x : Bucket). IsReclaimable x) (other_stays raised v b k other) c.reclaimable;
    loose = let e = listed_more r v k in let l = c.loose in omega arith;
  },
)
  where
    other : k ≢ v
    other e =
        let m = listed_more r v k in
        let one = subst (λ i. times i (v ∷ []) ≡ 1) (sym e) (times_same v) in
        let l = c.loose in
        omega arith

pub one_by_one : (r : Reserves) (b : Buckets) (v : ℕ) (vs : List ℕ) → AreVictims r b (v ∷ vs) → AreVictims (more r v) (changed raised v b) vs
one_by_one r b v vs all = record {
  chosen = λ i lt. still r b v (get_or vs i 0) (differs i lt) (all.chosen (suc i) (omega arith));
  ordered = λ i j ij lt. before_stays b v (get_or vs i 0) (get_or vs j 0) there (all.ordered (suc i) (suc j) (omega arith) (omega arith));
  first = λ k c none i lt. let w = was r b v k c in before_stays b v (get_or vs i 0) k there (all.first k w.1 (nowhere k w.0 none) (suc i) (omega arith));
  few = let f = all.few in let e = one_less r v (omega arith) in omega arith;
  enough = λ less k c. let w = was r b v k c in let f = all.few in let e = one_less r v (omega arith) in let t = all.enough (omega arith) k w.1 in let m = times-cons k v vs in let z = times_other k v (λ s. w.0 (sym s)) in omega arith;
}
  where
    there : v < length b.records
    there = let c = all.chosen 0 (omega arith) in c.there

    differs : (i : ℕ) → i < length vs → get_or vs i 0 ≢ v
    differs i lt e =
        let first : IsBefore b.records v (get_or vs i 0) = all.ordered 0 (suc i) (omega arith) (omega arith) in
        let twice : IsBefore b.records v v = subst (λ w. IsBefore b.records v w) e first in
        never_both b.records v v twice twice

    nowhere : (k : ℕ) → k ≢ v → times k vs ≡ 0 → times k (v ∷ vs) ≡ 0
    nowhere k ne none = let m = times-cons k v vs in let z = times_other k v (λ s. ne (sym s)) in omega arith
