-- Keys of sets, one after another.
use Rattle.std.proofs.Common.{◌≡◌, ℕ, ◌+◌, ◌<◌, List, [], ◌∷◌, ◌++◌, length, take, drop, get_or, refl, sym, ap, ◌∙◌}
use Rattle.std.specs.Prelude.{All, Some, slice_get}
use Rattle.std.proofs.lemmas.Option.{get_or_from_slice_get}
use Rattle.std.proofs.lemmas.Grind.{flat_map-append}
use Rattle.std.proofs.lemmas.List.{append-nil, take_more, take_at, drop_at, take-append-drop}
use Rattle.std.proofs.lemmas.List.Elements.{All-same, All-take, All-drop}
use Rattle.bc_image.specs.Tree.{set_keys}
use Rattle.bc_key.specs.declared.key.Key.{Key}
use Rattle.bc_set.specs.declared.set.Set.{Set}

-- one key more
pub taken_key : (keys : List Key) (i : ℕ) (key : Key) → i < length keys → key ≡ get_or keys i key → take (i + 1) keys ≡ take i keys ++ key ∷ []
taken_key keys i key low is = take_more keys i key low ∙ ap (λ (k : Key). take i keys ++ k ∷ []) (sym is)

-- the keys of one set more
pub taken_set : (sets : List Set) (i : ℕ) (s : Set) → i < length sets → s ≡ get_or sets i s → set_keys (take (i + 1) sets) ≡ set_keys (take i sets) ++ s.keys
taken_set sets i s low is =
    ap set_keys (take_more sets i s low) ∙ flat_map-append (λ (x : Set). x.keys) (take i sets) (get_or sets i s ∷ []) ∙ ap (λ (ks : List Key). set_keys (take i sets) ++ ks) (append-nil (get_or sets i s).keys)
    ∙ ap (λ (x : Set). set_keys (take i sets) ++ x.keys) (sym is)

module _ {X : Type 0} (P : X → Type 0) where
  all_left : (xs ys : List X) → All P (xs ++ ys) → All P xs
  all_left xs ys h = All-same P xs (take (length xs) (xs ++ ys)) (sym (take_at xs ys (length xs) refl)) (All-take P (length xs) (xs ++ ys) h)

  all_right : (xs ys : List X) → All P (xs ++ ys) → All P ys
  all_right xs ys h = All-same P ys (drop (length xs) (xs ++ ys)) (sym (drop_at xs ys (length xs) refl)) (All-drop P (length xs) (xs ++ ys) h)

-- what all keys of the sets have, those of each set have
pub of_one_set : (P : Key → Type 0) (sets : List Set) (i : ℕ) (s : Set) → i < length sets → s ≡ get_or sets i s → All P (set_keys sets) → All P s.keys
of_one_set P sets i s low is all =
    let cut : set_keys sets ≡ (set_keys (take i sets) ++ s.keys) ++ set_keys (drop (i + 1) sets) =
    ap set_keys (sym (take-append-drop (i + 1) sets)) ∙ flat_map-append (λ (x : Set). x.keys) (take (i + 1) sets) (drop (i + 1) sets)
    ∙ ap (λ (ks : List Key). ks ++ set_keys (drop (i + 1) sets)) (taken_set sets i s low is) in
    all_right P (set_keys (take i sets)) s.keys (all_left P (set_keys (take i sets) ++ s.keys) (set_keys (drop (i + 1) sets)) (All-same P ((set_keys (take i sets) ++ s.keys) ++ set_keys (drop (i + 1) sets)) (set_keys sets) (sym cut) all))

-- the key at a place of a list
pub key_here : (keys : List Key) (i : ℕ) (key : Key) → slice_get keys i ≡ Some key → key ≡ get_or keys i key
key_here keys i key is = sym (get_or_from_slice_get keys i key key is)
