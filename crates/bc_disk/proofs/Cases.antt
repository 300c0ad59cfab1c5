-- Cases on a test of two numbers, and counts that stay at their end.
use Rattle.std.proofs.Common.{◌≡◌, ◌≢◌, ◌⊎◌, inl, inr, ℕ, suc, Bool, true, false, if◌then◌else◌, ◌==◌, sym, subst, arith}
use Rattle.std.proofs.lemmas.Bool.Decides.{eqb_tells}
use Rattle.bc_disk.specs.Device.{next_count, count_end, HasRisen}

pub by_test : (a b : ℕ) (P : Bool → Type 0) → (a ≡ b → P true) → (a ≢ b → P false) → P (a == b)
by_test a b P same other = go (eqb_tells a b)
  where
    go : (((a == b) ≡ true) × (a ≡ b)) ⊎ (((a == b) ≡ false) × (a ≢ b)) → P (a == b)
    go (inl t) = subst P (sym t.0) (same t.1)
    go (inr t) = subst P (sym t.0) (other t.1)

-- a call that is counted makes its count rise, or finds it at its end
pub next_count_rises : (n : ℕ) → HasRisen n (next_count n)
next_count_rises n = by_test n count_end (λ b. HasRisen n (if b then n else suc n)) (λ e. inr e) (λ ne. inl (omega arith))
