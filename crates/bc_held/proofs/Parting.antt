-- What the type of the buckets in hand says of them, behind a bucket that was taken, and one that was
-- let go.
use Rattle.std.proofs.Common.{◌≡◌, ◌≢◌, ◌⊎◌, inl, inr, ℕ, ◌+◌, ◌<◌, ◌≤◌, Bool, true, false, List, [], ◌∷◌, length, refl, sym, ap, ◌∙◌, subst, arith}
use Rattle.std.specs.Prelude.{Err, IfOk, Ok, OnErr, Result, slice_index, slice_index_or, sum_by, if◌then◌else◌}
use Rattle.std.proofs.lemmas.Bool.{cases_eq, cases_lt}
use Rattle.std.proofs.lemmas.List.{set_past}
use Rattle.std.proofs.lemmas.List.Sums.{sum_by-cons}
use Rattle.bc_alloc.proofs.Fits.{other_stays, same_length, this_changes}
use Rattle.bc_alloc.proofs.Times.{times-cons, times_other}
use Rattle.bc_alloc.specs.Buckets.{AreFor}
use Rattle.bc_alloc.specs.Reserve.{Reserve, has_room, prepended, times}
use Rattle.bc_alloc.specs.Reserves.{IsInOrder, Reserves, TakesFirst, list_of, put_back, times_listed}
use Rattle.bc_alloc.specs.declared.purpose.NoBucket.{NoBucket}
use Rattle.bc_alloc.specs.declared.purpose.Purpose.{Purpose}
use Rattle.bc_bucket.specs.Bucket.{no_bucket, with_held}
use Rattle.bc_bucket.specs.Buckets.{Buckets, bucket_of, changed}
use Rattle.bc_bucket.specs.declared.bucket.Bucket.{Bucket}
use Rattle.bc_fill.specs.Fill.{AreOpen, bucket_numbers}
use Rattle.bc_fill.specs.declared.fill.Open.{Open}
use Rattle.bc_held.proofs.Lists.{opens_stay, order_stays}
use Rattle.bc_held.specs.Next.{is_among}
use Rattle.bc_meta.proofs.Lists.{by_test}
use Rattle.bc_place.proofs.Parts.{are_open}
use Rattle.bc_place.specs.bc_machine.declared.part.BucketsPart.{BucketsPart}
use Rattle.bc_places.proofs.Lists.{first_in}
use Rattle.bc_places.proofs.Open.{on_no_list}

-- the first of a list is one of the device's
pub below : (p : BucketsPart) (s : Purpose) (n : ℕ)
    → n ≡ slice_index (list_of s p.reserves).buckets 0
    → 0 < length (list_of s p.reserves).buckets → n < length p.buckets.records
below p s n is some = go (cases_lt n (length p.buckets.records))
  where
    in_list : (ks : List ℕ) → n ≡ slice_index ks 0 → 0 < length ks → 0 < times n ks
    in_list [] is some = absurd (omega (arith, some))
    in_list (k ∷ ks) is some = subst (λ (j : ℕ). 0 < times j (k ∷ ks)) (sym is) (first_in k ks)

    go : (n < length p.buckets.records) ⊎ (length p.buckets.records ≤ n)
        → n < length p.buckets.records
    go (inl lt) = lt
    go (inr far) =
        let count = p.fit.same_count in
        let none = on_no_list p.reserves s n (p.order.below n (omega (arith, far, count))) in
        let there = in_list (list_of s p.reserves).buckets is some in
        absurd (omega (arith, none, there))

-- ---- a bucket is taken, or none

pub record IsFit (fs : List Open) (r : Reserves) (b : Buckets) : Type 0 where
  pub order : IsInOrder r
  pub fit : AreFor r b
  pub opens : AreOpen fs r b
  pub sized : 0 < b.size

pub behind_take : (p : BucketsPart) (o : Result ℕ NoBucket) (q : Reserves) (b : Buckets) (s : Purpose)
    → IfOk o (λ k. TakesFirst s k p.reserves q)
    → IfOk o (λ k. b ≡ changed (with_held true) k p.buckets)
    → OnErr o ((q ≡ p.reserves) × (b ≡ p.buckets)) → AreFor q b → IsFit p.fill q b
behind_take p (Ok k) q b s taken held none fit = record {
  order = order_stays p.reserves q s k p.order taken;
  fit = fit;
  opens = subst (λ (x : Buckets). AreOpen p.fill q x) (sym held)
      (opens_stay p.fill p.reserves q p.buckets s k p.order p.fit p.sized (are_open p) taken);
  sized = let some = p.sized in
      let same = ap (λ (x : Buckets). x.size) held in omega (arith, some, same);
}
behind_take p (Err e) q b s taken held none fit = record {
  order = subst IsInOrder (sym none.0) p.order;
  fit = fit;
  opens = subst (λ (x : Buckets). AreOpen p.fill q x) (sym none.1)
      (subst (λ (r : Reserves). AreOpen p.fill r p.buckets) (sym none.0) (are_open p));
  sized = let some = p.sized in
      let same = ap (λ (x : Buckets). x.size) none.1 in omega (arith, some, same);
}

-- ---- a bucket is let go

among_times : (n : ℕ) (fs : List Open) → is_among n fs ≡ false
    → times n (bucket_numbers fs) ≡ 0
among_times n [] off = refl
among_times n (o ∷ fs) off = by_test o.bucket n
    (λ b. (if b then true else is_among n fs) ≡ false → times n (bucket_numbers (o ∷ fs)) ≡ 0)
    (λ same on. absurd (true_false on))
    (λ ne rest. let c = times-cons n o.bucket (bucket_numbers fs) in
    let zero_times = times_other n o.bucket ne in
    let none = among_times n fs rest in omega (arith, c, zero_times, none)) off
  where
    true_false : true ≡ false → ⊥
    true_false e = cc

-- a hold that ends
held_then : (n : ℕ) (b : Buckets) (j : ℕ) → (bucket_of b j).held ≡ false
    → (bucket_of (changed (with_held false) n b) j).held ≡ false
held_then n b j was = go (cases_eq j n) (cases_lt n (length b.records))
  where
    go : (j ≡ n) ⊎ (j ≢ n) → (n < length b.records) ⊎ (length b.records ≤ n)
        → (bucket_of (changed (with_held false) n b) j).held ≡ false
    go (inl e) (inl lt) = ap (λ m. (bucket_of (changed (with_held false) n b) m).held) e
        ∙ ap (λ (x : Bucket). x.held) (this_changes (with_held false) n b lt)
    go (inl e) (inr far) = ap (λ (xs : List Bucket). (slice_index_or xs j no_bucket).held)
        (set_past b.records n (with_held false (bucket_of b n)) far)
        ∙ was
    go (inr ne) far = ap (λ (x : Bucket). x.held) (other_stays (with_held false) n b j ne) ∙ was

-- the list that it may go back to has it then
back_times : (r : Reserves) (n j : ℕ) → j ≢ n
    → times_listed (record r { lists = put_back n r.lists }) j ≡ times_listed r j
back_times r n j ne = ap (λ m. m + times j r.raised) (go r.lists)
  where
    more : (b : Bool) (l : Reserve)
        → times j (if b then prepended n l else l).buckets ≡ times j l.buckets
    more true l = let c = times-cons j n l.buckets in
        let zero_times = times_other j n (λ e. ne (sym e)) in omega (arith, c, zero_times)
    more false l = refl

    go : (ls : List Reserve) → sum_by (λ (l : Reserve). times j l.buckets) (put_back n ls)
        ≡ sum_by (λ (l : Reserve). times j l.buckets) ls
    go [] = refl
    go (l ∷ ls) =
        let one = sum_by-cons (λ (l : Reserve). times j l.buckets)
        (if has_room l then prepended n l else l) ls in
        let two = sum_by-cons (λ (l : Reserve). times j l.buckets) l ls in
        let same = more (has_room l) l in omega (arith, one, two, same)

pub unheld_fit : (r : Reserves) (b : Buckets) (n : ℕ) → AreFor r b
    → AreFor r (changed (with_held false) n b)
unheld_fit r b n fit = record {
  same_count = same_length (with_held false) n b ∙ fit.same_count;
  not_held = λ j some. held_then n b j (fit.not_held j some);
}

opens_but : (fs : List Open) (r q : Reserves) (b : Buckets) (n : ℕ) → q.count ≡ r.count
    → ((j : ℕ) → j ≢ n → times_listed q j ≡ times_listed r j) → is_among n fs ≡ false
    → AreOpen fs r b → AreOpen fs q (changed (with_held false) n b)
opens_but fs r q b n count lists off opens = record {
  distinct = opens.distinct;
  each = λ j there.
      let was = opens.each j there in
      let low = was.0 in
      let none = among_times n fs off in
      let ne : j ≢ n = λ e. (let here = subst (λ (m : ℕ). 0 < times m (bucket_numbers fs)) e there in
      omega (arith, here, none)) in (
        omega (arith, low, count),
        ap (λ (x : Bucket). x.held) (other_stays (with_held false) n b j ne) ∙ was.1,
        lists j ne ∙ was.2,
      );
  free = opens.free;
}

pub unheld_opens : (p : BucketsPart) (n : ℕ) → is_among n p.fill ≡ false
    → AreOpen p.fill p.reserves (changed (with_held false) n p.buckets)
unheld_opens p n off = opens_but p.fill p.reserves p.reserves p.buckets n refl (λ j ne. refl) off
    (are_open p)

pub back_opens : (p : BucketsPart) (n : ℕ) → is_among n p.fill ≡ false
    → AreOpen p.fill (record p.reserves { lists = put_back n p.reserves.lists })
    (changed (with_held false) n p.buckets)
back_opens p n off = opens_but p.fill p.reserves
    (record p.reserves { lists = put_back n p.reserves.lists }) p.buckets n refl
    (back_times p.reserves n) off (are_open p)
