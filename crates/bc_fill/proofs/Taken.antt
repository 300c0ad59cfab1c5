-- A bucket that was just taken may be opened.
use Rattle.std.proofs.Common.{◌≡◌, ◌≢◌, ◌⊎◌, inl, inr, ℕ, ◌+◌, ◌<◌, ◌≤◌, true, List, [], ◌∷◌, ◌++◌, length, sym, ap, ◌∙◌, subst, arith}
use Rattle.std.proofs.lemmas.Bool.{cases_eq, cases_lt}
use Rattle.std.proofs.lemmas.List.{map-append}
use Rattle.bc_bucket.specs.declared.bucket.Bucket.{Bucket}
use Rattle.bc_bucket.specs.Bucket.{with_held}
use Rattle.bc_bucket.specs.Buckets.{Buckets, bucket_of, changed}
use Rattle.bc_alloc.specs.declared.purpose.Purpose.{Purpose}
use Rattle.bc_alloc.specs.declared.purpose.Purpose.TheVariants as purposes
use Rattle.bc_alloc.specs.Buckets.{AreFor}
use Rattle.bc_alloc.specs.Reserve.{times}
use Rattle.bc_alloc.specs.Reserves.{Reserves, IsInOrder, TakesFirst, list_of, place_of, times_listed}
use Rattle.bc_alloc.proofs.Fits.{other_stays, this_changes}
use Rattle.bc_alloc.proofs.Times.{times-append, times_first, times_got, times_one, times_other, times_same}
use Rattle.bc_fill.specs.declared.fill.Open.{Open}
use Rattle.bc_fill.specs.Fill.{bucket_numbers, just_opened, AreOpen, HaveFree}

small : (p : Purpose) → place_of p < 4
small purposes.Priorities = omega arith
small purposes.Moving = omega arith
small purposes.Tree = omega arith
small purposes.Plain = omega arith

-- it stands on the lists once less often
less : (r q : Reserves) (p : Purpose) (k : ℕ) → length r.lists ≡ 4 → TakesFirst p k r q → (j : ℕ) → times_listed q j + times j (k ∷ []) ≡ times_listed r j
less r q p k four t j =
    let place = small p in
    subst (λ (x : Reserves). times_listed x j + times j (k ∷ []) ≡ times_listed r j) (sym t.others)
    (times_got r (place_of p) (record (list_of p r) { buckets = (list_of p q).buckets }) k (omega arith) (λ i. times_first (list_of p q).buckets (list_of p r).buckets k t.first i) j)

one_more : (j k : ℕ) (fs : List Open) → times j (bucket_numbers (fs ++ just_opened k ∷ [])) ≡ times j (bucket_numbers fs) + times j (k ∷ [])
one_more j k fs =
    ap (λ (ks : List ℕ). times j ks) (map-append (λ (o : Open). o.bucket) fs (just_opened k ∷ []))
    ∙ times-append j (bucket_numbers fs) (k ∷ [])

free_more : (size k : ℕ) (fs : List Open) → 0 < size → HaveFree size fs → HaveFree size (fs ++ just_opened k ∷ [])
free_more size k [] some h = (some, tt)
free_more size k (o ∷ fs) some h = (h.0, free_more size k fs some h.1)

pub still_open : (fs : List Open) (r q : Reserves) (b : Buckets) (p : Purpose) (k : ℕ) → IsInOrder r → AreFor r b → 0 < b.size → AreOpen fs r b → TakesFirst p k r q → AreOpen (fs ++ just_opened k ∷ []) q (changed (with_held true) k b)
still_open fs r q b p k order fit some h t = record {
  distinct = λ j. let m = one_more j k fs in let d = once j (cases_lt 0 (times j (bucket_numbers fs))) in omega arith;
  each = λ j there. each j (cases_lt 0 (times j (bucket_numbers fs))) (let m = one_more j k fs in omega arith);
  free = free_more b.size k fs some h.free;
}
  where
    took : (j : ℕ) → times_listed q j + times j (k ∷ []) ≡ times_listed r j
    took = less r q p k order.four t

    below : k < r.count
    below = go (cases_lt k r.count)
      where
        go : (k < r.count) ⊎ (r.count ≤ k) → k < r.count
        go (inl lt) = lt
        go (inr le) = absurd (let none = order.below k le in let one = times_same k in let e = took k in omega arith)

    same_count : q.count ≡ r.count
    same_count = ap (λ (x : Reserves). x.count) t.others

    once : (j : ℕ) → (0 < times j (bucket_numbers fs)) ⊎ (times j (bucket_numbers fs) ≤ 0) → times j (bucket_numbers fs) + times j (k ∷ []) ≤ 1
    once j (inl there) = let none = (h.each j there).2 in let d = h.distinct j in let e = took j in omega arith
    once j (inr none) = let one = times_one j k in omega arith

    held : (j : ℕ) → (bucket_of b j).held ≡ true → (j ≡ k) ⊎ (j ≢ k) → (bucket_of (changed (with_held true) k b) j).held ≡ true
    held j was (inl same) =
        let n = fit.same_count in
        ap (λ (x : Bucket). x.held) (subst (λ i. bucket_of (changed (with_held true) k b) i ≡ with_held true (bucket_of b k)) (sym same) (this_changes (with_held true) k b (omega (arith, below))))
    held j was (inr ne) = ap (λ (x : Bucket). x.held) (other_stays (with_held true) k b j ne) ∙ was

    each : (j : ℕ) → (0 < times j (bucket_numbers fs)) ⊎ (times j (bucket_numbers fs) ≤ 0) → 0 < times j (bucket_numbers fs) + times j (k ∷ []) → (j < q.count) × ((bucket_of (changed (with_held true) k b) j).held ≡ true) × (times_listed q j ≡ 0)
    each j (inl there) some =
        let was = h.each j there in
        let low = was.0 in
        let none = was.2 in
        let e = took j in
        (omega (arith, same_count), held j was.1 (cases_eq j k), omega arith)
    each j (inr none) some = new (cases_eq j k)
      where
        new : (j ≡ k) ⊎ (j ≢ k) → (j < q.count) × ((bucket_of (changed (with_held true) k b) j).held ≡ true) × (times_listed q j ≡ 0)
        new (inl same) =
            let n = fit.same_count in
            let e = took k in
            let one = times_same k in
            let most = order.once k in
            let gone : times_listed q k ≡ 0 = omega arith in (
              omega (arith, same_count, below),
              ap (λ (x : Bucket). x.held) (subst (λ i. bucket_of (changed (with_held true) k b) i ≡ with_held true (bucket_of b k)) (sym same) (this_changes (with_held true) k b (omega (arith, below)))),
              subst (λ i. times_listed q i ≡ 0) (sym same) gone,
            )
        new (inr ne) = absurd (let zero_times = times_other j k (λ e. ne (sym e)) in omega arith)
