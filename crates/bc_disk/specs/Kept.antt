-- What a disk in memory keeps makes it an honest disk.
use Rattle.std.specs.Prelude.{◌≡◌, ◌⊎◌, ℕ, ◌≤◌, ◌^◌, List, [], ◌∷◌, length, refl}
use Rattle.std.proofs.Common.{inl, inr, arith}
use Rattle.std.proofs.Math.Logic.{∥∥₁_elim}
use Rattle.std.proofs.lemmas.Bool.{cases_eq}
use Rattle.bc_model.specs.Sector.{Value}
use Rattle.bc_disk.specs.Device.{Among}
use Rattle.bc_disk.specs.Disk.{IsHonest}
use Rattle.bc_disk.specs.Bytes.{image_of}
use Rattle.bc_disk.specs.Log.{choices}
use Rattle.bc_disk.specs.Memory.{Memory, facts_of}

-- two values are the same or not
pub same_or_not : (v w : Value) → (v ≡ w) ⊎ (v ≡ w → ⊥)
same_or_not [] [] = inl refl
same_or_not [] (y ∷ w) = inr (λ e. cc)
same_or_not (x ∷ v) [] = inr (λ e. cc)
same_or_not (x ∷ v) (y ∷ w) = go (cases_eq x y) (same_or_not v w)
  where
    go : (x ≡ y) ⊎ (x ≡ y → ⊥) → (v ≡ w) ⊎ (v ≡ w → ⊥) → (x ∷ v ≡ y ∷ w) ⊎ (x ∷ v ≡ y ∷ w → ⊥)
    go (inl e) (inl f) = inl cc
    go (inr differs) other = inr (λ e. differs (cc))
    go (inl e) (inr differs) = inr (λ f. differs (cc))

pub among_or_not : (v : Value) (ws : List Value) → Among v ws ⊎ (Among v ws → ⊥)
among_or_not v [] = inr (λ a. a)
among_or_not v (w ∷ ws) = go (same_or_not v w) (among_or_not v ws)
  where
    go : (v ≡ w) ⊎ (v ≡ w → ⊥) → Among v ws ⊎ (Among v ws → ⊥) → Among v (w ∷ ws) ⊎ (Among v (w ∷ ws) → ⊥)
    go (inl e) rest = inl (inl e)
    go (inr differs) (inl a) = inl (inr a)
    go (inr differs) (inr never) = inr neither
      where
        neither : Among v (w ∷ ws) → ⊥
        neither (inl e) = differs e
        neither (inr a) = never a

-- so a value that is somehow among others is among them
pub among_surely : (v : Value) (ws : List Value) → ∥ Among v ws ∥₁ → Among v ws
among_surely v ws there = go (among_or_not v ws)
  where
    go : Among v ws ⊎ (Among v ws → ⊥) → Among v ws
    go (inl a) = a
    go (inr never) = absurd (∥∥₁_elim there (λ x y. absurd x) never)

pub honest_memory : (m : Memory) → length m.bytes ≤ 2 ^ 50 → ((s : ℕ) → ∥ Among (image_of m.bytes s) (choices m.stable m.written s) ∥₁) → IsHonest (facts_of m)
honest_memory m small kept = record { size = omega arith; possible = λ s. among_surely (image_of m.bytes s) (choices m.stable m.written s) (kept s) }
