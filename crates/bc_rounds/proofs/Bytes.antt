-- Generations of near versions are told from each other by their bytes.
use Rattle.std.proofs.Common.{◌≡◌, ◌≢◌, ℕ, ◌-◌, ◌%◌, ◌≤◌, Bool, true, false, refl, ap, ◌∙◌, arith}
use Rattle.std.specs.Prelude.{◌&&◌, nat_le}
use Rattle.bc_key.specs.Generation.{behind}
use Rattle.bc_bucket.specs.Walk.{is_stale}
use Rattle.bc_model.proofs.Cases.{by_le}
use Rattle.bc_rounds.specs.Rows.{IsNear}

pub behind_near : (now old : ℕ) → IsNear now old → behind (now % 256) (old % 256) ≡ now - old
behind_near now old h = let past = h.past in let near = h.near in omega (arith, past, near)

abbrev by_far : ℕ → Bool
by_far n = nat_le 1 n && nat_le n 128

far_is : (n : ℕ) → 1 ≤ n → n ≤ 96 → by_far n ≡ true
far_is n low high = by_le 1 n (λ a. (a && nat_le n 128) ≡ true)
    (λ _. by_le n 128 (λ b. b ≡ true) (λ _. refl) (λ less. absurd (omega (arith, less, high))))
    (λ less. absurd (omega (arith, less, low)))

pub not_stale : (now old : ℕ) → IsNear now old → now ≡ old
    → is_stale (now % 256) (old % 256) ≡ false
not_stale now old h same = ap by_far (behind_near now old h)
    ∙ ap by_far (let none : now - old ≡ 0 = omega (arith, same) in none)

pub stale : (now old : ℕ) → IsNear now old → now ≢ old → is_stale (now % 256) (old % 256) ≡ true
stale now old h other = ap by_far (behind_near now old h)
    ∙ far_is (now - old) (let past = h.past in omega (arith, past, other))
    (let near = h.near in omega (arith, near))
