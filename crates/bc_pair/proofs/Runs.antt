-- Runs of values one behind the other, and sectors of zeros.
use Rattle.std.proofs.Common.{◌≡◌, ℕ, zero, suc, ◌+◌, ◌-◌, ◌*◌, ◌<◌, ◌≤◌, List, [], ◌∷◌, ◌++◌, length, drop, replicate, refl, sym, ap, ◌∙◌, arith}
use Rattle.std.specs.Prelude.{Option, Some, if◌then◌else◌}
use Rattle.std.proofs.lemmas.List.{take-replicate, drop-replicate, length-replicate, replicate-append-replicate}
use Rattle.bc_model.specs.Sector.{Value, Image, at_run, unless, sectors, values_of}
use Rattle.bc_model.proofs.Cases.{by_test}
use Rattle.bc_model.proofs.Runs.{at_miss}
use Rattle.bc_model.proofs.Sectors.{values_whole}
use Rattle.bc_pair.specs.Runs.{over, zeros}

-- one run and then the run behind it
pub run_joined : (first : ℕ) (xs ys : List Value) (s : ℕ) (v : Value) → unless (at_run (first + length xs) ys s) (unless (at_run first xs s) v) ≡ unless (at_run first (xs ++ ys) s) v
run_joined first [] ys s v = let none : first + 0 ≡ first = omega arith in ap (λ n. unless (at_run n ys s) v) none
run_joined first (x ∷ xs) ys s v =
    by_test first s (λ b. unless (at_run (first + suc (length xs)) ys s) (unless (if b then Some x else at_run (suc first) xs s) v) ≡ unless (if b then Some x else at_run (suc first) (xs ++ ys) s) v)
    (λ here. ap (λ (o : Option Value). unless o x) (at_miss (first + suc (length xs)) ys s (λ inside. absurd (omega arith))))
    (λ other. let behind : first + suc (length xs) ≡ suc first + length xs = omega arith in
    ap (λ n. unless (at_run n ys s) (unless (at_run (suc first) xs s) v)) behind ∙ run_joined (suc first) xs ys s v)

zero_sectors : (n : ℕ) → sectors n (replicate (512 * n) 0) ≡ zeros n
zero_sectors zero = refl
zero_sectors (suc n) =
    let many : 512 * suc n - 512 ≡ 512 * n = omega arith in
    ap (λ (v : Value). v ∷ sectors n (drop 512 (replicate (512 * suc n) 0))) (take-replicate 512 (512 * suc n) 0 (omega arith))
    ∙ ap (λ (bytes : List ℕ). replicate 512 0 ∷ sectors n bytes) (drop-replicate 512 (512 * suc n) 0 ∙ ap (λ k. replicate k 0) many)
    ∙ ap (λ (vs : List Value). replicate 512 0 ∷ vs) (zero_sectors n)

-- bytes of zeros are sectors of zeros
pub values_of_zeros : (n : ℕ) (bytes : List ℕ) → bytes ≡ replicate (512 * n) 0 → values_of bytes ≡ zeros n
values_of_zeros n bytes is =
    let long : length (replicate (512 * n) 0) ≡ 512 * n = length-replicate {A = ℕ} (512 * n) 0 in
    ap values_of is ∙ values_whole n (replicate (512 * n) 0) long ∙ zero_sectors n

pub length_zeros : (n : ℕ) → length (zeros n) ≡ n
length_zeros n = length-replicate {A = Value} n (replicate 512 0)

-- one more bucket of zeros behind those that were written
pub zeros_more : (start size n at : ℕ) (a b z : Image) (s : ℕ) → at ≡ start + size * n → b s ≡ over start (zeros (size * n)) a s → z s ≡ over at (zeros size) b s → z s ≡ over start (zeros (size * (n + 1))) a s
zeros_more start size n at a b z s place so_far last =
    let more : size * n + size ≡ size * (n + 1) = omega arith in
    let behind : at ≡ start + length (zeros (size * n)) = place ∙ ap (λ k. start + k) (sym (length_zeros (size * n))) in
    last ∙ ap (λ n. unless (at_run n (zeros size) s) (b s)) behind
    ∙ ap (λ (v : Value). unless (at_run (start + length (zeros (size * n))) (zeros size) s) v) so_far
    ∙ run_joined start (zeros (size * n)) (zeros size) s (a s)
    ∙ ap (λ (vs : List Value). unless (at_run start vs s) (a s)) (replicate-append-replicate (size * n) size (replicate 512 0) ∙ ap zeros more)

at_same : (v : Value) (first n s : ℕ) → first ≤ s → s < first + n → at_run first (replicate n v) s ≡ Some v
at_same v first zero s low high = absurd (omega arith)
at_same v first (suc n) s low high =
    by_test first s (λ b. (if b then Some v else at_run (suc first) (replicate n v) s) ≡ Some v)
    (λ here. refl)
    (λ other. at_same v (suc first) n s (next other) (omega arith))
  where
    next : (first ≡ s → ⊥) → suc first ≤ s
    next other = grind (arith, other)

-- a sector of the zeros
pub at_zeros : (first n s : ℕ) → first ≤ s → s < first + n → at_run first (zeros n) s ≡ Some (replicate 512 0)
at_zeros first n s low high = at_same (replicate 512 0) first n s low high
