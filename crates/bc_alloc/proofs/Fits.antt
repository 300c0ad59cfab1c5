-- The records of buckets beside the lists on which they stand.
use Rattle.std.proofs.Common.{◌≡◌, ◌≢◌, ◌⊎◌, inl, inr, ℕ, ◌+◌, ◌<◌, ◌≤◌, Bool, false, List, [], ◌∷◌, length, get_or, set, sym, ap, ◌∙◌, subst, arith, get_or-set_same, get_or-set_other, length-set}
use Rattle.std.proofs.lemmas.Bool.{cases_eq, cases_lt}
use Rattle.std.proofs.lemmas.List.{set-set, set_past}
use Rattle.bc_bucket.specs.declared.bucket.Bucket.{Bucket}
use Rattle.bc_bucket.specs.Bucket.{no_bucket}
use Rattle.bc_bucket.specs.Buckets.{Buckets, bucket_of, changed}
use Rattle.bc_alloc.specs.Reserve.{times}
use Rattle.bc_alloc.specs.Reserves.{Reserves, times_listed}
use Rattle.bc_alloc.specs.Buckets.{AreFor}
use Rattle.bc_alloc.proofs.Times.{times_other}

abbrev pub held_of : Buckets → ℕ → Bool
held_of b k = (bucket_of b k).held

-- other buckets stay
pub other_stays : (f : Bucket → Bucket) (k : ℕ) (b : Buckets) (j : ℕ) → j ≢ k → bucket_of (changed f k b) j ≡ bucket_of b j
other_stays f k b j ne = get_or-set_other b.records k j (f (bucket_of b k)) no_bucket ne

pub this_changes : (f : Bucket → Bucket) (k : ℕ) (b : Buckets) → k < length b.records → bucket_of (changed f k b) k ≡ f (bucket_of b k)
this_changes f k b within = get_or-set_same b.records k (f (bucket_of b k)) no_bucket within

-- a change that leaves `held` alone
pub held_stays : (f : Bucket → Bucket) → ((x : Bucket) → (f x).held ≡ x.held) → (k : ℕ) (b : Buckets) (j : ℕ) → held_of (changed f k b) j ≡ held_of b j
held_stays f keeps k b j = go (cases_eq j k) (cases_lt k (length b.records))
  where
    go : (j ≡ k) ⊎ (j ≢ k) → (k < length b.records) ⊎ (length b.records ≤ k) → held_of (changed f k b) j ≡ held_of b j
    go (inl e) (inl lt) = subst (λ i. held_of (changed f k b) i ≡ held_of b i) (sym e) (ap (λ (x : Bucket). x.held) (this_changes f k b lt) ∙ keeps (bucket_of b k))
    go (inl e) (inr le) = ap (λ (xs : List Bucket). (get_or xs j no_bucket).held) (set_past b.records k (f (bucket_of b k)) le)
    go (inr ne) h = ap (λ (x : Bucket). x.held) (other_stays f k b j ne)

pub same_length : (f : Bucket → Bucket) (k : ℕ) (b : Buckets) → length (changed f k b).records ≡ length b.records
same_length f k b = length-set b.records k (f (bucket_of b k))

-- the buckets stay unheld, but for one that is on no list then
pub still_for : (r s : Reserves) (b d : Buckets) → AreFor r b → s.count ≡ r.count → length d.records ≡ length b.records → ((j : ℕ) → 0 < times_listed s j → (0 < times_listed r j) × (held_of d j ≡ held_of b j)) → AreFor s d
still_for r s b d h count same kept =
    record {
      same_count = same ∙ h.same_count ∙ sym count;
      not_held = λ j some. let k = kept j some in k.1 ∙ h.not_held j k.0;
    }

-- one more bucket, which isn't held
pub still_for_more : (r s : Reserves) (b d : Buckets) (k : ℕ) → AreFor r b → s.count ≡ r.count → length d.records ≡ length b.records → ((j : ℕ) → times_listed s j ≤ times_listed r j + times j (k ∷ [])) → ((j : ℕ) → held_of d j ≡ held_of b j) → held_of b k ≡ false → AreFor s d
still_for_more r s b d k h count same more kept free =
    record { same_count = same ∙ h.same_count ∙ sym count; not_held = λ j some. at j some (cases_eq j k) }
  where
    at : (j : ℕ) → 0 < times_listed s j → (j ≡ k) ⊎ (j ≢ k) → held_of d j ≡ false
    at j some (inl e) = kept j ∙ ap (λ i. held_of b i) e ∙ free
    at j some (inr ne) = kept j ∙ h.not_held j (let m = more j in let z = times_other j k (λ e. ne (sym e)) in omega arith)

-- two changes of one bucket are one
pub changed_twice : (f g : Bucket → Bucket) (k : ℕ) (b : Buckets) → k < length b.records → changed g k (changed f k b) ≡ changed (λ x. g (f x)) k b
changed_twice f g k b within =
    ap (λ (xs : List Bucket). record b { records = xs })
    (ap (λ (x : Bucket). set (set b.records k (f (bucket_of b k))) k (g x)) (this_changes f k b within) ∙ set-set b.records k (f (bucket_of b k)) (g (f (bucket_of b k))))
