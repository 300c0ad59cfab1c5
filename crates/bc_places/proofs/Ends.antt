-- A place that ends where a bucket ends.
use Rattle.std.proofs.Common.{◌≡◌, ℕ, ◌+◌, ◌*◌, ◌%◌, ◌<◌, ◌≤◌, ◌==◌, true, false, refl, ap, ◌∙◌, arith}
use Rattle.std.proofs.Math.Nat.{mul-add-mod_self_right, mod-eq_of_lt, mod_self}
use Rattle.bc_fill.proofs.Opens.{by_test}

-- the end of a part of a bucket, as a sector of the device
end_of : (k size m : ℕ) → m < size → (k * size + m) % size ≡ m
end_of k size m lt = mul-add-mod_self_right k size m ∙ mod-eq_of_lt lt

end_at : (k size : ℕ) → (k * size + size) % size ≡ 0
end_at k size = mul-add-mod_self_right k size size ∙ mod_self size

pub fills_is : (k size next n at : ℕ) → at ≡ k * size + next → 1 ≤ n → next + n ≤ size → ((at + n) % size == 0) ≡ (next + n == size)
fills_is k size next n at is some fits = by_test (next + n) size (λ b. ((at + n) % size == 0) ≡ b)
    (λ full. let e : at + n ≡ k * size + size = omega (arith, is, full) in
    truth ((at + n) % size) (ap (λ x. x % size) e ∙ end_at k size))
    (λ part. let e : at + n ≡ k * size + (next + n) = omega (arith, is) in
    let m : (at + n) % size ≡ next + n = ap (λ x. x % size) e ∙ end_of k size (next + n) (omega (arith, part)) in
    falsity ((at + n) % size) (omega arith))
  where
    truth : (x : ℕ) → x ≡ 0 → (x == 0) ≡ true
    truth x e = by_test x 0 (λ b. b ≡ true) (λ _. refl) (λ ne. absurd (ne e))

    falsity : (x : ℕ) → 1 ≤ x → (x == 0) ≡ false
    falsity x lt = by_test x 0 (λ b. b ≡ false) (λ e. absurd (omega arith)) (λ ne. refl)
