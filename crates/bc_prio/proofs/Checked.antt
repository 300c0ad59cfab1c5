-- What two tests for equality say that give the same answer, or not.
use Rattle.std.proofs.Common.{◌≡◌, ◌↔◌, ◌==◌, ℕ, true, false, not, subst, sym}
use Rattle.std.proofs.Math.Bool.{beq}
use Rattle.bc_model.proofs.Cases.{by_test}

abbrev AreEqual : (a b p s : ℕ) → Type 0
AreEqual a b p s = (a ≡ b) ↔ (p ≡ s)

both_or_neither : (a b p s : ℕ) → not (beq (a == b) (p == s)) ≡ false → (a ≡ b) ↔ (p ≡ s)
both_or_neither a b p s =
    by_test a b (λ x. not (beq x (p == s)) ≡ false → AreEqual a b p s)
    (λ same. by_test p s (λ y. not (beq true y) ≡ false → AreEqual a b p s) (λ e h. ((λ x. e), (λ x. same))) (λ apart h. absurd (cc)))
    (λ apart. by_test p s (λ y. not (beq false y) ≡ false → AreEqual a b p s) (λ e h. absurd (cc)) (λ no h. ((λ x. absurd (apart x)), (λ x. absurd (no x)))))

one_alone : (a b p s : ℕ) → not (beq (a == b) (p == s)) ≡ true → ((a ≡ b) ↔ (p ≡ s)) → ⊥
one_alone a b p s =
    by_test a b (λ x. not (beq x (p == s)) ≡ true → AreEqual a b p s → ⊥)
    (λ same. by_test p s (λ y. not (beq true y) ≡ true → AreEqual a b p s → ⊥) (λ e h both. cc) (λ apart h both. apart (both.0 same)))
    (λ apart. by_test p s (λ y. not (beq false y) ≡ true → AreEqual a b p s → ⊥) (λ e h both. apart (both.1 e)) (λ no h both. cc))

-- the same of numbers that these are
pub same_count : (a n p s t : ℕ) → a ≡ n → s ≡ t → not (beq (a == 0) (p == s)) ≡ false → (n ≡ 0) ↔ (p ≡ t)
same_count a n p s t is of h =
    subst (λ (m : ℕ). (m ≡ 0) ↔ (p ≡ t)) is (subst (λ (m : ℕ). (a ≡ 0) ↔ (p ≡ m)) of (both_or_neither a 0 p s h))

pub other_count : (a n p s t : ℕ) → a ≡ n → s ≡ t → not (beq (a == 0) (p == s)) ≡ true → ((n ≡ 0) ↔ (p ≡ t)) → ⊥
other_count a n p s t is of h both =
    one_alone a 0 p s h (subst (λ (m : ℕ). (m ≡ 0) ↔ (p ≡ s)) (sym is) (subst (λ (m : ℕ). (n ≡ 0) ↔ (p ≡ m)) (sym of) both))
