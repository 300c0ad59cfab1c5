-- Free sectors of one more open bucket.
use Rattle.std.proofs.Common.{◌≡◌, ◌⊎◌, inl, inr, ℕ, ◌+◌, ◌*◌, ◌<◌, ◌≤◌, List, [], ◌∷◌, ◌++◌, length, take, get_or, sym, ap, ◌∙◌, subst}
use Rattle.std.specs.Prelude.{◌↔◌}
use Rattle.std.proofs.lemmas.List.{take_more}
use Rattle.bc_fill.specs.declared.fill.Open.{Open}
use Rattle.bc_fill.specs.Fresh.{IsFreeIn}

-- the sector is a free one of this bucket
abbrev pub IsFreeOf : ℕ → Open → ℕ → Type 0
IsFreeOf size o s = (o.bucket * size + o.next ≤ s) × (s < o.bucket * size + size)

before : (size : ℕ) (os : List Open) (o : Open) (s : ℕ) → IsFreeIn size os s → IsFreeIn size (os ++ o ∷ []) s
before size [] o s f = elim f [ ]
before size (p ∷ os) o s (inl f) = inl f
before size (p ∷ os) o s (inr f) = inr (before size os o s f)

last : (size : ℕ) (os : List Open) (o : Open) (s : ℕ) → IsFreeOf size o s → IsFreeIn size (os ++ o ∷ []) s
last size [] o s f = inl f
last size (p ∷ os) o s f = inr (last size os o s f)

parts : (size : ℕ) (os : List Open) (o : Open) (s : ℕ) → IsFreeIn size (os ++ o ∷ []) s → IsFreeIn size os s ⊎ IsFreeOf size o s
parts size [] o s (inl f) = inr f
parts size [] o s (inr f) = elim f [ ]
parts size (p ∷ os) o s (inl f) = inl (inl f)
parts size (p ∷ os) o s (inr f) = go (parts size os o s f)
  where
    go : IsFreeIn size os s ⊎ IsFreeOf size o s → IsFreeIn size (p ∷ os) s ⊎ IsFreeOf size o s
    go (inl f) = inl (inr f)
    go (inr f) = inr f

pub free_more : (size s i : ℕ) (os : List Open) (d : Open) → i < length os → IsFreeIn size (take (i + 1) os) s ↔ (IsFreeIn size (take i os) s ⊎ IsFreeOf size (get_or os i d) s)
free_more size s i os d low =
    let o = get_or os i d in
    subst (λ (xs : List Open). IsFreeIn size xs s ↔ (IsFreeIn size (take i os) s ⊎ IsFreeOf size o s)) (sym (take_more os i d low)) (parts size (take i os) o s, back)
  where
    back : IsFreeIn size (take i os) s ⊎ IsFreeOf size (get_or os i d) s → IsFreeIn size (take i os ++ get_or os i d ∷ []) s
    back (inl f) = before size (take i os) (get_or os i d) s f
    back (inr f) = last size (take i os) (get_or os i d) s f
