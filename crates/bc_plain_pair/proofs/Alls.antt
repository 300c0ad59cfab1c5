-- What is tested of each element of a list in turn.
use Rattle.std.proofs.Common.{◌≡◌, ℕ, ◌+◌, ◌<◌, ◌≤◌, List, length, take, get_or, refl, sym, subst, ◌∙◌}
use Rattle.std.specs.Prelude.{◌↔◌, true, false, All, Any, Contains, IsTrue}
use Rattle.std.proofs.lemmas.List.{take_all}
use Rattle.std.proofs.lemmas.List.Elements.{All-more, All-same, All-contains, Contains-get_or}
use Rattle.std.proofs.lemmas.Bool.{true≢false}

module _ {X : Type 0} (P : X → Type 0) (xs : List X) (i : ℕ) where
  -- one for which it fails
  pub all_not : (x : X) → i < length xs → x ≡ get_or xs i x → (P x → ⊥) → IsTrue false ↔ All P xs
  all_not x low is bad = ((λ never. absurd (true≢false (sym never))), (λ all. absurd (bad (subst P (sym is) (all i x low)))))

  pub all_more : (x : X) → i < length xs → x ≡ get_or xs i x → P x → All P (take i xs) → All P (take (i + 1) xs)
  all_more x low is here all = All-more P xs i x low all (subst P is here)

  pub all_so : length xs ≤ i → All P (take i xs) → IsTrue true ↔ All P xs
  all_so end all = ((λ t. All-same P xs (take i xs) (sym (take_all i xs end)) all), (λ h. refl))

  pub all_fails : (x : X) → i < length xs → x ≡ get_or xs i x → (P x → ⊥) → All P xs → ⊥
  all_fails x low is bad all = bad (subst P (sym is) (all i x low))

  pub all_ends : length xs ≤ i → All P (take i xs) → All P xs
  all_ends end all = All-same P xs (take i xs) (sym (take_all i xs end)) all

-- ---- whether it holds of some element

module _ {X : Type 0} (P : X → Type 0) (xs : List X) (i : ℕ) where
  pub any_here : (x : X) → i < length xs → x ≡ get_or xs i x → P x → Any P xs
  any_here x low is here = (i, x, low, sym is, here)

  pub any_more : (x : X) → i < length xs → x ≡ get_or xs i x → (P x → ⊥) → All (λ y. P y → ⊥) (take i xs) → All (λ y. P y → ⊥) (take (i + 1) xs)
  any_more x low is bad none = All-more (λ y. P y → ⊥) xs i x low none (subst (λ (y : X). P y → ⊥) is bad)

  pub any_none : length xs ≤ i → All (λ y. P y → ⊥) (take i xs) → Any P xs → ⊥
  any_none end none any =
      let all = All-same (λ y. P y → ⊥) xs (take i xs) (sym (take_all i xs end)) none in
      all any.0 any.1 any.2 (subst P (sym any.3) any.4)

-- ---- whether it is an element

module _ (xs : List ℕ) (i b : ℕ) where
  pub is_found : (x : ℕ) → i < length xs → x ≡ get_or xs i x → x ≡ b → Contains xs b
  is_found x low is same = subst (Contains xs) (sym is ∙ same) (Contains-get_or xs i x low)

  pub not_yet : (x : ℕ) → i < length xs → x ≡ get_or xs i x → (x ≡ b → ⊥) → All (λ y. y ≡ b → ⊥) (take i xs) → All (λ y. y ≡ b → ⊥) (take (i + 1) xs)
  not_yet x low is other none = any_more (λ y. y ≡ b) xs i x low is other none

  pub not_found : length xs ≤ i → All (λ y. y ≡ b → ⊥) (take i xs) → Contains xs b → ⊥
  not_found end none has = All-contains (λ y. y ≡ b → ⊥) xs b (All-same (λ y. y ≡ b → ⊥) xs (take i xs) (sym (take_all i xs end)) none) has refl
