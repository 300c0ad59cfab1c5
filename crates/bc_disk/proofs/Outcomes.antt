-- What a crash may leave, where each sector has choices of its own.
use Rattle.std.proofs.Common.{◌≡◌, ◌⊎◌, inl, inr, ℕ, List, ◌∷◌, ◌++◌, Some, refl, sym, subst}
use Rattle.std.specs.Prelude.{option_to_list}
use Rattle.bc_model.specs.Sector.{Value, Image, at_run}
use Rattle.bc_disk.specs.Device.{Among}
use Rattle.bc_disk.specs.Disk.{TornOutcomes, SomeTornOutcomes}
use Rattle.bc_disk.proofs.Amongs.{among_left, among_right, among_parts, optional, among_optional, among_same}

module _ (first : Image) (old new : ℕ → List Value) (at : ℕ) (values : List Value) (grown : (s : ℕ) → new s ≡ first s ∷ old s ++ option_to_list (at_run at values s)) where
  -- the sector before a write that may have given it this value
  before : (s : ℕ) (v : Value) → Among v (new s) → (b : Value) × Among b (first s ∷ old s) × ((v ≡ b) ⊎ (at_run at values s ≡ Some v))
  before s v a = go (among_parts v (first s ∷ old s) (option_to_list (at_run at values s)) (subst (λ (l : List Value). Among v l) (grown s) a))
    where
      go : Among v (first s ∷ old s) ⊎ Among v (option_to_list (at_run at values s)) → (b : Value) × Among b (first s ∷ old s) × ((v ≡ b) ⊎ (at_run at values s ≡ Some v))
      go (inl kept) = (v, kept, inl refl)
      go (inr given) = (first s, inl refl, inr (optional v (at_run at values s) given))

  after : (s : ℕ) (b v : Value) → Among b (first s ∷ old s) → (v ≡ b) ⊎ (at_run at values s ≡ Some v) → Among v (new s)
  after s b v a step = subst (λ (l : List Value). Among v l) (sym (grown s)) (go step)
    where
      go : (v ≡ b) ⊎ (at_run at values s ≡ Some v) → Among v (first s ∷ old s ++ option_to_list (at_run at values s))
      go (inl e) = among_left v (first s ∷ old s) (option_to_list (at_run at values s)) (among_same b v (first s ∷ old s) e a)
      go (inr given) = among_right v (first s ∷ old s) (option_to_list (at_run at values s)) (among_optional v (at_run at values s) given)

  pub grown_outcomes : TornOutcomes at values (λ image. (s : ℕ) → Among (image s) (first s ∷ old s)) (λ image. (s : ℕ) → Among (image s) (new s))
  grown_outcomes image = (
    (λ may. ((λ s. (before s (image s) (may s)).0), (λ s. (before s (image s) (may s)).1), (λ s. (before s (image s) (may s)).2))),
    (λ was. λ s. after s (was.0 s) (image s) (was.1 s) (was.2 s)),
  )

  pub some_grown_outcomes : SomeTornOutcomes at values (λ image. (s : ℕ) → Among (image s) (first s ∷ old s)) (λ image. (s : ℕ) → Among (image s) (new s))
  some_grown_outcomes = record {
    keeps = λ image may s. after s (image s) (image s) (may s) (inl refl);
    adds = λ image. (grown_outcomes image).0;
  }

pub same_outcomes : (at : ℕ) (values : List Value) (old : Image → Type 0) → SomeTornOutcomes at values old old
same_outcomes at values old = record { keeps = λ image may. may; adds = λ image may. (image, may, λ s. inl refl) }
