-- A place's sectors were free, and aren't any more.
use Rattle.std.proofs.Common.{◌≡◌, ◌≢◌, ◌⊎◌, inl, inr, ℕ, ◌+◌, ◌*◌, ◌<◌, ◌≤◌, List, [], ◌∷◌, sym, ap, subst, arith, if◌then◌else◌}
use Rattle.std.proofs.Math.Nat.{mul-le-mul_left}
use Rattle.std.proofs.lemmas.Bool.{cases_eq, cases_lt}
use Rattle.bc_bucket.specs.Buckets.{Buckets}
use Rattle.bc_alloc.specs.Reserve.{times}
use Rattle.bc_alloc.specs.Reserves.{Reserves}
use Rattle.bc_fill.specs.declared.fill.Open.{Open}
use Rattle.bc_fill.specs.declared.fill.Placed.{Placed}
use Rattle.bc_fill.specs.Fill.{after, bucket_numbers, AreOpen, HaveFree, IsCut}
use Rattle.bc_fill.specs.Fresh.{IsFreeIn, IsOf}
use Rattle.bc_fill.proofs.Opens.{by_test, times-cons, times_same}

-- sectors of two buckets are different
other_bucket : (size j k s : ℕ) → j ≢ k → j * size ≤ s → s < j * size + size → k * size ≤ s → s < k * size + size → ⊥
other_bucket size j k s ne low high klow khigh = go (cases_lt j k)
  where
    go : (j < k) ⊎ (k ≤ j) → ⊥
    go (inl lt) = let next : j + 1 ≤ k = omega arith in let m = mul-le-mul_left size next in omega arith
    go (inr le) = let next : k + 1 ≤ j = omega (arith, ne) in let m = mul-le-mul_left size next in omega arith

none_in_rest : (size k s : ℕ) (rest : List Open) → times k (bucket_numbers rest) ≡ 0 → k * size ≤ s → s < k * size + size → IsFreeIn size rest s → ⊥
none_in_rest size k s [] none low high free = free
none_in_rest size k s (o ∷ rest) none low high free = go (cases_eq o.bucket k) free (λ later. none_in_rest size k s rest (let c = times-cons k o.bucket (bucket_numbers rest) in omega arith) low high later)
  where
    go : (o.bucket ≡ k) ⊎ (o.bucket ≢ k) → ((o.bucket * size + o.next ≤ s) × (s < o.bucket * size + size)) ⊎ IsFreeIn size rest s → (IsFreeIn size rest s → ⊥) → ⊥
    go (inl e) h later = let c = times-cons k o.bucket (bucket_numbers rest) in let one = subst (λ (j : ℕ). times k (j ∷ []) ≡ 1) (sym e) (times_same k) in omega arith
    go (inr ne) (inl h) later = other_bucket size o.bucket k s ne (let l = h.0 in omega arith) h.1 low high
    go (inr ne) (inr h) later = later h

pub were_free : (fs gs : List Open) (r : Reserves) (b d : Buckets) (count : ℕ) (p : Placed) → AreOpen fs r b → IsCut fs gs b d count p → (s : ℕ) → IsOf p s → IsFreeIn b.size fs s
were_free fs gs r b d count p h c s of =
    let free = subst (λ (xs : List Open). HaveFree b.size xs) c.were h.free in
    let n = c.placed.sectors in
    let o = c.placed.offset in
    let low = free.0 in
    subst (λ (xs : List Open). IsFreeIn b.size xs s) (sym c.were) (inl (let l = of.0 in omega arith, let u = of.1 in omega arith))

gone_after : (size n s : ℕ) (o : Open) (rest : List Open) → times o.bucket (bucket_numbers rest) ≡ 0 → o.bucket * size + o.next ≤ s → s < o.bucket * size + o.next + n → o.next + n ≤ size → IsFreeIn size (after size n o rest) s → ⊥
gone_after size n s o rest none low high fits =
    by_test (o.next + n) size (λ t. IsFreeIn size (if t then rest else record o { next = o.next + n } ∷ rest) s → ⊥)
    (λ full free. none_in_rest size o.bucket s rest none (omega arith) (omega arith) free)
    (λ part free. go free)
  where
    go : ((o.bucket * size + (o.next + n) ≤ s) × (s < o.bucket * size + size)) ⊎ IsFreeIn size rest s → ⊥
    go (inl h) = let l = h.0 in omega arith
    go (inr h) = none_in_rest size o.bucket s rest none (omega arith) (omega arith) h

pub are_gone : (fs gs : List Open) (r : Reserves) (b d : Buckets) (count : ℕ) (p : Placed) → AreOpen fs r b → IsCut fs gs b d count p → (s : ℕ) → IsOf p s → IsFreeIn b.size gs s → ⊥
are_gone fs gs r b d count p h c s of still =
    let free = subst (λ (xs : List Open). HaveFree b.size xs) c.were h.free in
    let n = c.placed.sectors in
    let o = c.placed.offset in
    let low = free.0 in
    let once = h.distinct c.first.bucket in
    let e = ap (λ (xs : List Open). times c.first.bucket (bucket_numbers xs)) c.were in
    let t = times-cons c.first.bucket c.first.bucket (bucket_numbers c.rest) in
    let one = times_same c.first.bucket in
    gone_after b.size p.count s c.first c.rest (omega arith) (let l = of.0 in omega arith) (let u = of.1 in omega arith) (omega arith)
    (subst (λ (xs : List Open). IsFreeIn b.size xs s) c.are still)

kept_after : (size n s : ℕ) (o : Open) (rest : List Open) → IsFreeIn size (after size n o rest) s → IsFreeIn size (o ∷ rest) s
kept_after size n s o rest =
    by_test (o.next + n) size (λ t. IsFreeIn size (if t then rest else record o { next = o.next + n } ∷ rest) s → IsFreeIn size (o ∷ rest) s)
    (λ full free. inr free)
    (λ part free. go free)
  where
    go : ((o.bucket * size + (o.next + n) ≤ s) × (s < o.bucket * size + size)) ⊎ IsFreeIn size rest s → ((o.bucket * size + o.next ≤ s) × (s < o.bucket * size + size)) ⊎ IsFreeIn size rest s
    go (inl h) = inl (let l = h.0 in omega arith, h.1)
    go (inr h) = inr h

pub others_stay : (fs gs : List Open) (b d : Buckets) (count : ℕ) (p : Placed) → IsCut fs gs b d count p → (s : ℕ) → IsFreeIn b.size gs s → IsFreeIn b.size fs s
others_stay fs gs b d count p c s free =
    subst (λ (xs : List Open). IsFreeIn b.size xs s) (sym c.were) (kept_after b.size p.count s c.first c.rest (subst (λ (xs : List Open). IsFreeIn b.size xs s) c.are free))
