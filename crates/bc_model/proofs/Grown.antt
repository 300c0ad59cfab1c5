-- Which values a history allows, as it grows.
use Rattle.std.proofs.Common.{◌≡◌, ◌⊎◌, inl, inr, ℕ, ◌≤◌, List, [], ◌∷◌, length, Option, Some, None, refl, sym, ap, arith}
use Rattle.std.specs.Prelude.{MatchBool}
use Rattle.bc_model.specs.Sector.{Value, Image, unless}
use Rattle.bc_model.specs.History.{gives, may_give, now, AllowedFrom}
use Rattle.bc_model.specs.declared.history.Entry.{Entry}
use Rattle.bc_model.specs.declared.history.Entry.TheVariants.{Write, Tried}
use Rattle.bc_model.proofs.Cases.{by_le}

pub gives_may : (e : Entry) (s : ℕ) (v : Value) → gives e s ≡ Some v → may_give e s ≡ Some v
gives_may (Tried first values) s v h = absurd (cc)
gives_may e s v h = h

pub silent_gives : (e : Entry) (s : ℕ) → may_give e s ≡ None → gives e s ≡ None
silent_gives (Write worker line first values) s h = h
silent_gives e s h = refl

-- the present is allowed from any floor on
pub allowed_now : (opening : Image) (f : ℕ) (es : List Entry) (s : ℕ) (v : Value) → v ≡ now opening es s → AllowedFrom f opening es s v
allowed_now opening f [] s v is = is
allowed_now opening f (e ∷ es) s v is =
    let rest = allowed_now opening f es s v in
    by_le f (length es) (λ b. MatchBool b ((may_give e s ≡ Some v) ⊎ AllowedFrom f opening es s v) (v ≡ now opening (e ∷ es) s)) (λ _. go (gives e s) (gives_may e s v) is rest) (λ _. is)
  where
    go : (o : Option Value) → (o ≡ Some v → may_give e s ≡ Some v) → v ≡ unless o (now opening es s) → (v ≡ now opening es s → AllowedFrom f opening es s v) → (may_give e s ≡ Some v) ⊎ AllowedFrom f opening es s v
    go None may h k = inr (k h)
    go (Some x) may h k = inl (may (ap Some (sym h)))

-- what was allowed stays so
pub allowed_grown : (opening : Image) (f : ℕ) (e : Entry) (es : List Entry) (s : ℕ) (v : Value) → f ≤ length es → AllowedFrom f opening es s v → AllowedFrom f opening (e ∷ es) s v
allowed_grown opening f e es s v le h = by_le f (length es) (λ b. MatchBool b ((may_give e s ≡ Some v) ⊎ AllowedFrom f opening es s v) (v ≡ now opening (e ∷ es) s)) (λ _. inr h) (λ lt. absurd (omega arith))

-- what a new entry may give is allowed from each earlier floor on
pub allowed_given : (opening : Image) (f : ℕ) (e : Entry) (es : List Entry) (s : ℕ) (v : Value) → f ≤ length es → may_give e s ≡ Some v → AllowedFrom f opening (e ∷ es) s v
allowed_given opening f e es s v le h = by_le f (length es) (λ b. MatchBool b ((may_give e s ≡ Some v) ⊎ AllowedFrom f opening es s v) (v ≡ now opening (e ∷ es) s)) (λ _. inl h) (λ lt. absurd (omega arith))

-- a floor at the end allows the present alone
pub allowed_end : (opening : Image) (f : ℕ) (es : List Entry) (s : ℕ) (v : Value) → length es ≤ f → AllowedFrom f opening es s v → v ≡ now opening es s
allowed_end opening f [] s v le h = h
allowed_end opening f (e ∷ es) s v le h = by_le f (length es) (λ b. MatchBool b ((may_give e s ≡ Some v) ⊎ AllowedFrom f opening es s v) (v ≡ now opening (e ∷ es) s) → v ≡ now opening (e ∷ es) s) (λ l. absurd (omega arith)) (λ _ k. k) h

-- a higher floor allows no more
pub allowed_lower : (opening : Image) (f g : ℕ) (es : List Entry) (s : ℕ) (v : Value) → f ≤ g → AllowedFrom g opening es s v → AllowedFrom f opening es s v
allowed_lower opening f g [] s v le h = h
allowed_lower opening f g (e ∷ es) s v le h =
    let rest = allowed_lower opening f g es s v le in
    by_le g (length es) (λ b. MatchBool b ((may_give e s ≡ Some v) ⊎ AllowedFrom g opening es s v) (v ≡ now opening (e ∷ es) s) → AllowedFrom f opening (e ∷ es) s v)
    (λ in_ k. go (omega arith) rest k)
    (λ _ is. allowed_now opening f (e ∷ es) s v is) h
  where
    go : f ≤ length es → (AllowedFrom g opening es s v → AllowedFrom f opening es s v) → (may_give e s ≡ Some v) ⊎ AllowedFrom g opening es s v → AllowedFrom f opening (e ∷ es) s v
    go low k (inl given) = allowed_given opening f e es s v low given
    go low k (inr old) = allowed_grown opening f e es s v low (k old)
