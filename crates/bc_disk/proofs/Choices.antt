-- The choice that a sector takes, counted down along its written values.
use Rattle.std.proofs.Common.{◌≡◌, ℕ, zero, suc, ◌+◌, ◌-◌, ◌<◌, ◌≤◌, List, [], ◌∷◌, length, get_or, refl, ap, arith}
use Rattle.std.proofs.lemmas.Nat.{mod_below}
use Rattle.bc_model.specs.Sector.{Value}
use Rattle.bc_disk.specs.declared.crash.Pick.{Pick}
use Rattle.bc_disk.specs.declared.crash.Pick.TheVariants.{Stable, Newest, Mixed}
use Rattle.bc_disk.specs.Crash.{choice}

-- what a sector holds once the values came, of which it takes as many as it wants
abbrev pub advance : ℕ → Value → List Value → Value
advance zero v vs = v
advance (suc n) v [] = v
advance (suc n) v (x ∷ xs) = advance n x xs

pub advance-none : (n : ℕ) (v : Value) → advance n v [] ≡ v
advance-none zero v = refl
advance-none (suc n) v = refl

pub advance-get_or : (n : ℕ) (v : Value) (vs : List Value) → n ≤ length vs → advance n v vs ≡ get_or (v ∷ vs) n []
advance-get_or zero v vs low = refl
advance-get_or (suc n) v [] low = absurd (omega arith)
advance-get_or (suc n) v (x ∷ xs) low = advance-get_or n x xs (omega arith)

pub advance-next : (n : ℕ) (v x : Value) (xs : List Value) → 0 < n → advance n v (x ∷ xs) ≡ advance (n - 1) x xs
advance-next zero v x xs some = absurd (omega arith)
advance-next (suc n) v x xs some = ap (λ k. advance k x xs) (let e : n ≡ suc n - 1 = omega arith in e)

pub choice_le : (pick : Pick) (s written : ℕ) → choice pick s written ≤ written
choice_le Stable s written = omega arith
choice_le Newest s written = omega arith
choice_le (Mixed n) s written = omega (arith, mod_below (n + s) (written + 1) (omega arith))

pub choice-zero : (pick : Pick) (s : ℕ) → choice pick s 0 ≡ 0
choice-zero pick s = omega (arith, choice_le pick s 0)
