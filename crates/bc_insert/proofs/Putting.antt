-- A slot's leaf that was lent, and a list of keys turned round.
use Rattle.std.proofs.Common.{◌≡◌, ℕ, zero, suc, List, [], ◌∷◌, Option, Some, None, sym, ap, subst}
use Rattle.std.specs.Prelude.{All, reverse, slice_get, slice_set}
use Rattle.std.proofs.lemmas.List.{reverse-append}
use Rattle.std.proofs.lemmas.List.Elements.{All-head, All-push, All-tail}
use Rattle.bc_cache.specs.Lending.{leaf_set}
use Rattle.bc_cache.specs.declared.slots.Cached.{Cached}
use Rattle.bc_node.specs.Leaf.{Leaf}

-- the slot has the leaf that was lent last
pub set_leaf : (slots : List (Option Cached)) (slot : ℕ) (cached : Cached) (leaf : Leaf)
    → slice_get slots slot ≡ Some (Some cached)
    → leaf_set slots slot leaf ≡ slice_set slots slot (Some (record cached { leaf = leaf }))
set_leaf [] zero cached leaf e = absurd (cc)
set_leaf [] (suc slot) cached leaf e = absurd (cc)
set_leaf (None ∷ slots) zero cached leaf e = absurd (cc)
set_leaf (Some c ∷ slots) zero cached leaf e =
    ap (λ (x : Cached). Some (record x { leaf = leaf }) ∷ slots) (one c cached e)
  where
    one : (a b : Cached) → Some (Some a) ≡ Some (Some b) → a ≡ b
    one a b is = cc
set_leaf (kept ∷ slots) (suc slot) cached leaf e =
    ap (λ (l : List (Option Cached)). kept ∷ l) (set_leaf slots slot cached leaf e)

pub all_reversed : {X : Type 0} (P : X → Type 0) (xs : List X) → All P xs → All P (reverse xs)
all_reversed P [] all = all
all_reversed P (x ∷ xs) all = subst (All P) (sym (reverse-append (x ∷ []) xs))
    (All-push P (reverse xs) x (all_reversed P xs (All-tail P x xs all)) (All-head P x xs all))

pub one_cached : (o : Option (Option Cached)) (a b : Cached) → o ≡ Some (Some a)
    → o ≡ Some (Some b) → a ≡ b
one_cached o a b x y = cc

pub one_some : {A : Type 0} (o : Option A) (a b : A) → o ≡ Some a → o ≡ Some b → a ≡ b
one_some o a b x y = cc
