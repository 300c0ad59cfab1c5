-- Lists and buckets of one survey.
use Rattle.std.proofs.Common.{◌≡◌, ◌⊎◌, inl, inr, ℕ, ◌<◌, ◌≤◌, false, sym, ◌∙◌, arith}
use Rattle.std.proofs.lemmas.Bool.{cases_lt}
use Rattle.bc_alloc.specs.Buckets.{AreFor}
use Rattle.bc_alloc.specs.Reserves.{IsInOrder, Reserves, times_listed}
use Rattle.bc_bucket.specs.Buckets.{Buckets, bucket_of}
use Rattle.bc_recover.specs.Known.{AreUnheld}

pub fit : (n : ℕ) (r : Reserves) (b : Buckets) → r.count ≡ n → AreUnheld n b → IsInOrder r
    → AreFor r b
fit n r b count unheld order = record {
  same_count = unheld.each ∙ sym count;
  not_held = λ k some. held k some (cases_lt k n);
}
  where
    held : (k : ℕ) → 0 < times_listed r k → (k < n) ⊎ (n ≤ k) → (bucket_of b k).held ≡ false
    held k some (inl low) = unheld.not_held k low
    held k some (inr high) = absurd (let none = order.below k (omega (arith, count)) in omega arith)
