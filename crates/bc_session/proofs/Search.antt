-- A search through the buckets for one of a mark.
use Rattle.std.proofs.Common.{◌≡◌, ℕ, ◌+◌, ◌<◌, ◌≤◌, List, get_or, length, take, sym, subst}
use Rattle.std.specs.Prelude.{All, Any}
use Rattle.std.proofs.lemmas.List.{take_all}
use Rattle.std.proofs.lemmas.List.Elements.{All-more, All-same}

module _ {X : Type 0} (P : X → Type 0) (xs : List X) (i : ℕ) where
  pub any_here : (x : X) → i < length xs → x ≡ get_or xs i x → P x → Any P xs
  any_here x low is here = (i, x, low, sym is, here)

  pub any_more : (x : X) → i < length xs → x ≡ get_or xs i x → (P x → ⊥)
      → All (λ y. P y → ⊥) (take i xs) → All (λ y. P y → ⊥) (take (i + 1) xs)
  any_more x low is bad none =
      All-more (λ y. P y → ⊥) xs i x low none (subst (λ (y : X). P y → ⊥) is bad)

  pub any_none : length xs ≤ i → All (λ y. P y → ⊥) (take i xs) → Any P xs → ⊥
  any_none end none any =
      let all = All-same (λ y. P y → ⊥) xs (take i xs) (sym (take_all i xs end)) none in
      all any.0 any.1 any.2 (subst P (sym any.3) any.4)
