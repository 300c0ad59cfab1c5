-- What a device that stands for the model may hold, of the data and around them.
use Rattle.std.proofs.Common.{◌≡◌, inl, inr, ℕ, ◌+◌, ◌-◌, ◌<◌, ◌≤◌, Bool, true, false, List, [], ◌∷◌, Option, Some, None, subst, arith}
use Rattle.std.specs.Prelude.{nat_lt, if◌then◌else◌}
use Rattle.std.proofs.lemmas.Bool.{lt-ltb, le-ltb}
use Rattle.bc_model.specs.Sector.{Value, Image}
use Rattle.bc_disk.specs.Device.{Content, Among, MayLeave}
use Rattle.bc_disk.specs.Disk.{IfTold, Allows}

-- what a told device holds and may leave is what the model has
pub told_holds : (told : Bool) (c : Content) (holds : Option Image) (may : Image → Type 0)
    → told ≡ true → Allows (if told then Some c else None) holds may
    → IfTold holds (λ new. (t : ℕ) → Among (new t) (c.reads t))
told_holds false c holds may is allows = absurd (cc)
told_holds true c None may is allows = absurd allows
told_holds true c (Some new) may is allows = allows.0

pub told_leaves : (told : Bool) (c : Content) (holds : Option Image) (may : Image → Type 0)
    → told ≡ true → Allows (if told then Some c else None) holds may
    → (left : Image) → may left → MayLeave c left
told_leaves false c holds may is allows left can = absurd (cc)
told_leaves true c None may is allows left can = absurd allows
told_leaves true c (Some new) may is allows left can = allows.1 left can

pub map_told : (o : Option Image) (P Q : Image → Type 0) → ((image : Image) → P image → Q image)
    → IfTold o P → IfTold o Q
map_told None P Q f h = tt
map_told (Some image) P Q f h = f image h

head_is : (v x : Value) → Among v (x ∷ []) → v ≡ x
head_is v x h = elim h [ inl e ↦ e | inr never ↦ absurd never ]

-- the values of a device behind whose first sectors the data lie
abbrev pub all_values : ℕ → Image → (ℕ → List Value) → ℕ → List Value
all_values offset ahead values t = if nat_lt t offset then ahead t ∷ [] else values (t - offset)

module _ (offset : ℕ) (ahead image : Image) (values : ℕ → List Value)
    (among : (t : ℕ) → Among (image t) (all_values offset ahead values t)) where
  -- a sector of the data
  pub data_at : (s : ℕ) → Among (image (offset + s)) (values s)
  data_at s = let back : offset + s - offset ≡ s = omega arith in
      subst (λ k. Among (image (offset + s)) (values k)) back
      (subst (λ b. Among (image (offset + s))
      (if b then ahead (offset + s) ∷ [] else values (offset + s - offset)))
      (le-ltb (offset + s) offset (omega arith)) (among (offset + s)))

  -- one before them
  pub before_at : (t : ℕ) → t < offset → image t ≡ ahead t
  before_at t low = head_is (image t) (ahead t)
      (subst (λ b. Among (image t) (if b then ahead t ∷ [] else values (t - offset)))
      (lt-ltb t offset low) (among t))

  -- and one behind them, of which there is one value
  pub behind_at : (size : ℕ) (held : Image)
      → ((s : ℕ) → size ≤ s → values s ≡ held (offset + s) ∷ []) → (t : ℕ) → offset + size ≤ t
      → image t ≡ held t
  behind_at size held one t high =
      let s : ℕ = t - offset in let at : offset + s ≡ t = omega arith in
      subst (λ k. image k ≡ held k) at (head_is (image (offset + s)) (held (offset + s))
      (subst (Among (image (offset + s))) (one s (omega arith)) (data_at s)))
