-- What the ends of the workers show of the requests before.
use Rattle.std.proofs.Common.{◌≡◌, ◌≢◌, ◌⊎◌, inl, inr, ℕ, ◌+◌, ◌<◌, ◌^◌, ◌==◌, Bool, true, false, List, [], ◌∷◌, ◌++◌, get_or, set, reverse, Option, Some, None, sym, ap, ◌∙◌, subst, arith, if◌then◌else◌, get_or-set_same, get_or-set_other, length-set}
use Rattle.std.proofs.lemmas.Bool.Decides.{eqb_tells}
use Rattle.std.proofs.lemmas.List.{reverse-append}
use Rattle.bc_mode.specs.Streak.{capped, end_of, extended, streak_after, tail_after, IsBehind}
use Rattle.bc_mode.specs.declared.streak.Request.{Request}
use Rattle.bc_mode.specs.declared.streak.Tail.{Tail}

by_test : (a b : ℕ) (P : Bool → Type 0) → (a ≡ b → P true) → (a ≢ b → P false) → P (a == b)
by_test a b P same other = go (eqb_tells a b)
  where
    go : (((a == b) ≡ true) × (a ≡ b)) ⊎ (((a == b) ≡ false) × (a ≢ b)) → P (a == b)
    go (inl t) = subst P (sym t.0) (same t.1)
    go (inr t) = subst P (sym t.0) (other t.1)

capped_capped : (n k : ℕ) → capped (capped n + k) ≡ capped (n + k)
capped_capped n k = omega arith

capped_small : (n : ℕ) → n < 2 ^ 32 → n ≡ capped n
capped_small n small = omega arith

pub extended_is : (before : List Request) (r : Request) → r.count < 2 ^ 32 → extended (tail_after before r.worker) r.first r.count ≡ capped (streak_after before r)
extended_is [] r small = capped_small r.count small
extended_is (p ∷ before) r small =
    by_test p.worker r.worker
    (λ b. extended (if b then Some (record { end = end_of p; streak = capped (streak_after before p) }) else tail_after before r.worker) r.first r.count
    ≡ capped (if b then (if end_of p == r.first then streak_after before p + r.count else r.count) else streak_after before r))
    (λ _. by_test (end_of p) r.first
    (λ b. (if b then capped (capped (streak_after before p) + r.count) else r.count) ≡ capped (if b then streak_after before p + r.count else r.count))
    (λ _. capped_capped (streak_after before p) r.count) (λ _. capped_small r.count small))
    (λ _. extended_is before r small)

pub behind_more : (earlier : List Request) (tails : List (Option Tail)) (r : Request) (i : ℕ) (streak : ℕ) → IsBehind earlier tails → i + 1 ≡ r.worker → i < 16
    → streak ≡ capped (streak_after (reverse earlier) r) → IsBehind (earlier ++ r ∷ []) (set tails i (Some (record { end = end_of r; streak = streak })))
behind_more earlier tails r i streak h own within is = (
  length-set tails i (Some (record { end = end_of r; streak = streak })) ∙ h.0,
  λ k below. subst (λ (rs : List Request). get_or (set tails i (Some (record { end = end_of r; streak = streak }))) k None ≡ tail_after rs (k + 1)) (sym (reverse-append earlier (r ∷ []))) (at k below),
)
  where
    at : (k : ℕ) → k < 16 → get_or (set tails i (Some (record { end = end_of r; streak = streak }))) k None ≡ tail_after (r ∷ reverse earlier) (k + 1)
    at k below =
        by_test r.worker (k + 1)
        (λ b. get_or (set tails i (Some (record { end = end_of r; streak = streak }))) k None ≡ (if b then Some (record { end = end_of r; streak = capped (streak_after (reverse earlier) r) }) else tail_after (reverse earlier) (k + 1)))
        (λ same. let here : k ≡ i = omega arith in
        subst (λ j. get_or (set tails i (Some (record { end = end_of r; streak = streak }))) j None ≡ Some (record { end = end_of r; streak = capped (streak_after (reverse earlier) r) })) (sym here)
        (get_or-set_same tails i (Some (record { end = end_of r; streak = streak })) None (let l = h.0 in omega arith) ∙ ap (λ n. Some (record { end = end_of r; streak = n })) is))
        (λ other. let away : k ≢ i = λ e. other (omega arith) in get_or-set_other tails i k (Some (record { end = end_of r; streak = streak })) None away ∙ h.1 k below)
