-- Single sectors of bytes and of runs.
use Rattle.std.proofs.Common.{◌≡◌, ◌⊎◌, inl, inr, ℕ, zero, suc, ◌+◌, ◌-◌, List, [], ◌∷◌, ◌++◌, length, take, drop, min, length-drop, Some, None, if◌then◌else◌, refl, sym, ap, ◌∙◌, subst, arith}
use Rattle.std.specs.Prelude.{◌↔◌, slice_get}
use Rattle.std.proofs.lemmas.List.{take_min, length-take-le}
use Rattle.std.proofs.lemmas.Option.{slice_get_within}
use Rattle.bc_model.specs.Sector.{Value, at_run, Gives}
use Rattle.bc_model.proofs.Sectors.{take_more}
use Rattle.bc_model.proofs.Cases.{by_test}

-- the value that a run gives to the sector that is i sectors behind the first
pub at_run-slice_get : (first i s : ℕ) (vs : List Value) (v : Value) → s ≡ first + i → slice_get vs i ≡ Some v → at_run first vs s ≡ Some v
at_run-slice_get first i s [] v is at = absurd (cc)
at_run-slice_get first zero s (x ∷ xs) v is at = by_test first s (λ b. (if b then Some x else at_run (suc first) xs s) ≡ Some v) (λ _. at) (λ ne. absurd (ne (omega arith)))
at_run-slice_get first (suc i) s (x ∷ xs) v is at = by_test first s (λ b. (if b then Some x else at_run (suc first) xs s) ≡ Some v) (λ e. absurd (omega arith)) (λ ne. at_run-slice_get (suc first) i s xs v (omega arith) at)

-- what a slice of at most 512 bytes has
pub take_window : (k m : ℕ) (xs : List ℕ) → m ≡ min (length xs - k) 512 → take (k + m - k) (drop k xs) ≡ take 512 (drop k xs)
take_window k m xs is =
    let e : k + m - k ≡ min 512 (length (drop k xs)) = omega (arith, length-drop k xs) in
    ap (λ n. take n (drop k xs)) e ∙ take_min 512 (drop k xs)

at_run_front : (first : ℕ) (xs ys : List Value) (s : ℕ) (v : Value) → at_run first xs s ≡ Some v → at_run first (xs ++ ys) s ≡ Some v
at_run_front first [] ys s v h = absurd (cc)
at_run_front first (x ∷ xs) ys s v h =
    by_test first s (λ b. (if b then Some x else at_run (suc first) xs s) ≡ Some v → (if b then Some x else at_run (suc first) (xs ++ ys) s) ≡ Some v)
    (λ _ k. k) (λ _ k. at_run_front (suc first) xs ys s v k) h

at_run_last : (first : ℕ) (xs : List Value) (v : Value) (s : ℕ) → s ≡ first + length xs → at_run first (xs ++ v ∷ []) s ≡ Some v
at_run_last first [] v s is = by_test first s (λ b. (if b then Some v else None) ≡ Some v) (λ _. refl) (λ ne. absurd (ne (omega arith)))
at_run_last first (x ∷ xs) v s is =
    by_test first s (λ b. (if b then Some x else at_run (suc first) (xs ++ v ∷ []) s) ≡ Some v) (λ e. absurd (omega arith)) (λ _. at_run_last (suc first) xs v s (omega arith))

at_run_parts : (first : ℕ) (xs : List Value) (v : Value) (s : ℕ) (w : Value) → at_run first (xs ++ v ∷ []) s ≡ Some w → (at_run first xs s ≡ Some w) ⊎ ((s ≡ first + length xs) × (v ≡ w))
at_run_parts first [] v s w h =
    by_test first s (λ b. (if b then Some v else None) ≡ Some w → (None ≡ Some w) ⊎ ((s ≡ first + 0) × (v ≡ w))) (λ e k. inr (omega arith, cc)) (λ _ k. absurd (cc)) h
at_run_parts first (x ∷ xs) v s w h =
    by_test first s (λ b. (if b then Some x else at_run (suc first) (xs ++ v ∷ []) s) ≡ Some w → ((if b then Some x else at_run (suc first) xs s) ≡ Some w) ⊎ ((s ≡ first + suc (length xs)) × (v ≡ w)))
    (λ _ k. inl k) (λ _ k. go (at_run_parts (suc first) xs v s w k)) h
  where
    go : (at_run (suc first) xs s ≡ Some w) ⊎ ((s ≡ suc first + length xs) × (v ≡ w)) → (at_run (suc first) xs s ≡ Some w) ⊎ ((s ≡ first + suc (length xs)) × (v ≡ w))
    go (inl k) = inl k
    go (inr k) = inr (let is = k.0 in omega arith, k.1)

-- one more value of a run
pub gives_more : (P : ℕ → Value → Type 0) (first : ℕ) (vs : List Value) (i : ℕ) (v : Value) → slice_get vs i ≡ Some v → Gives first (take (i + 1) vs) P ↔ (Gives first (take i vs) P × P (first + i) v)
gives_more P first vs i v at =
    let inside = slice_get_within vs i v at in
    let Q : List Value → Type 0 = λ xs. Gives first xs P ↔ (Gives first (take i vs) P × P (first + i) v) in
    subst Q (sym (take_more i vs v at)) (step (take i vs) (length-take-le i vs (omega arith)))
  where
    step : (xs : List Value) → length xs ≡ i → Gives first (xs ++ v ∷ []) P ↔ (Gives first xs P × P (first + i) v)
    step xs len = ((λ h. ((λ s w k. h s w (at_run_front first xs (v ∷ []) s w k)), h (first + i) v (at_run_last first xs v (first + i) (omega arith)))), (λ h s w k. go h s w (at_run_parts first xs v s w k)))
      where
        go : Gives first xs P × P (first + i) v → (s : ℕ) (w : Value) → (at_run first xs s ≡ Some w) ⊎ ((s ≡ first + length xs) × (v ≡ w)) → P s w
        go h s w (inl k) = h.0 s w k
        go h s w (inr k) = let is : first + i ≡ s = omega (arith, k.0) in subst (λ (x : Value). P s x) k.1 (subst (λ n. P n v) is h.1)
