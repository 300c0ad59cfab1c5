-- The buckets that may be raised, by flags that say which are on a list.
use Rattle.std.proofs.Common.{◌≡◌, ◌⊎◌, ◌↔◌, inl, inr, ℕ, ◌<◌, ◌≤◌, Bool, true, false, List, length, get_or, refl, arith}
use Rattle.std.proofs.lemmas.Bool.{cases_lt}
use Rattle.bc_bucket.specs.Buckets.{Buckets}
use Rattle.bc_alloc.specs.Reserves.{Reserves, times_listed}
use Rattle.bc_alloc.specs.Victims.{AreFirst, IsCandidate, IsOpen}

-- the buckets with an open record that aren't flagged are candidates
pub victims : (r : Reserves) (b : Buckets) (flags : List Bool) (most : ℕ) (vs : List ℕ) → ((k : ℕ) → k < length b.records → (get_or flags k false ≡ true) ↔ (0 < times_listed r k)) → AreFirst (IsOpen b.records flags) b.records most vs → AreFirst (IsCandidate r b) b.records most vs
victims r b flags most vs tell first = record {
  chosen = λ i lt. candidate (get_or vs i 0) (first.chosen i lt);
  ordered = first.ordered;
  first = λ k o none i lt. first.first k (unflagged k o) none i lt;
  few = first.few;
  enough = λ less k o. first.enough less k (unflagged k o);
}
  where
    none_of : (k : ℕ) → (0 < times_listed r k → ⊥) → times_listed r k ≡ 0
    none_of k never = go (cases_lt 0 (times_listed r k))
      where
        go : (0 < times_listed r k) ⊎ (times_listed r k ≤ 0) → times_listed r k ≡ 0
        go (inl some) = absurd (never some)
        go (inr none) = omega arith

    no_flag : (f : Bool) → (f ≡ true → ⊥) → f ≡ false
    no_flag true never = absurd (never refl)
    no_flag false never = refl

    both : (f : Bool) → f ≡ true → f ≡ false → ⊥
    both f a b = cc

    candidate : (k : ℕ) → IsOpen b.records flags k → IsCandidate r b k
    candidate k o = record { there = o.there; reclaimable = o.reclaimable; loose = none_of k (λ some. both (get_or flags k false) ((tell k o.there).1 some) o.unlisted) }

    unflagged : (k : ℕ) → IsCandidate r b k → IsOpen b.records flags k
    unflagged k o = record { there = o.there; reclaimable = o.reclaimable; unlisted = no_flag (get_or flags k false) (λ is. let some = (tell k o.there).0 is in let loose = o.loose in omega arith) }
