-- A list of buckets, of which those in front have changed already.
use Rattle.std.proofs.Common.{◌≡◌, ◌≢◌, ◌⊎◌, inl, inr, ℕ, ◌+◌, ◌<◌, ◌≤◌, List, length, get_or, set, refl, sym, ap, ◌∙◌, subst, arith, get_or-set_same, get_or-set_other, length-set}
use Rattle.std.proofs.lemmas.Bool.{cases_eq}
use Rattle.bc_bucket.specs.declared.bucket.Bucket.{Bucket}
use Rattle.bc_bucket.specs.Bucket.{no_bucket}

-- those below k have changed by f, and the others are as they were
pub record UpTo (f : ℕ → Bucket → Bucket) (k : ℕ) (old new : List Bucket) : Type 0 where
  pub below : (j : ℕ) → j < k → get_or new j no_bucket ≡ f j (get_or old j no_bucket)
  pub from_there : (j : ℕ) → k ≤ j → get_or new j no_bucket ≡ get_or old j no_bucket
  pub same_count : length new ≡ length old

pub at_first : (f : ℕ → Bucket → Bucket) (xs : List Bucket) → UpTo f 0 xs xs
at_first f xs = record { below = λ j h. absurd (omega arith); from_there = λ j h. refl; same_count = refl }

pub one_more : (f : ℕ → Bucket → Bucket) (k : ℕ) (old new : List Bucket) (x : Bucket) → UpTo f k old new → k < length new → x ≡ f k (get_or new k no_bucket) → UpTo f (k + 1) old (set new k x)
one_more f k old new x h within is =
    record {
      below = λ j lt. here j lt (cases_eq j k);
      from_there = λ j le. get_or-set_other new k j x no_bucket (λ e. omega arith) ∙ h.from_there j (omega arith);
      same_count = length-set new k x ∙ h.same_count;
    }
  where
    here : (j : ℕ) → j < k + 1 → (j ≡ k) ⊎ (j ≢ k) → get_or (set new k x) j no_bucket ≡ f j (get_or old j no_bucket)
    here j lt (inl e) =
        subst (λ i. get_or (set new k x) i no_bucket ≡ f i (get_or old i no_bucket)) (sym e)
        (get_or-set_same new k x no_bucket within ∙ is ∙ ap (λ (b : Bucket). f k b) (h.from_there k (omega arith)))
    here j lt (inr ne) = get_or-set_other new k j x no_bucket ne ∙ h.below j (omega (arith, ne))

-- one that stays
pub one_stays : (f : ℕ → Bucket → Bucket) (k : ℕ) (old new : List Bucket) → UpTo f k old new → f k (get_or new k no_bucket) ≡ get_or new k no_bucket → UpTo f (k + 1) old new
one_stays f k old new h stays =
    record { below = λ j lt. here j lt (cases_eq j k); from_there = λ j le. h.from_there j (omega arith); same_count = h.same_count }
  where
    here : (j : ℕ) → j < k + 1 → (j ≡ k) ⊎ (j ≢ k) → get_or new j no_bucket ≡ f j (get_or old j no_bucket)
    here j lt (inl e) =
        subst (λ i. get_or new i no_bucket ≡ f i (get_or old i no_bucket)) (sym e)
        (sym stays ∙ ap (λ (b : Bucket). f k b) (h.from_there k (omega arith)))
    here j lt (inr ne) = h.below j (omega (arith, ne))
