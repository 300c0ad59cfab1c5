-- Children that come in and go, one after another.
use Rattle.std.proofs.Common.{◌≡◌, ◌≢◌, inl, inr, ℕ, zero, suc, ◌+◌, ◌<◌, ◌≤◌, List, [], ◌∷◌, ◌++◌, length, take, drop, set, get_or, refl, sym, subst, ap, ◌∙◌, arith, append_assoc}
use Rattle.std.specs.Prelude.{AllPairs, Result, Ok, Err, OnOk, OnErr, insert, remove}
use Rattle.std.specs.List.{AllWithin}
use Rattle.std.proofs.Math.Seq.{drop-cons}
use Rattle.std.proofs.lemmas.Bool.{cases_lt, lt-ltb, le-ltb}
use Rattle.std.proofs.lemmas.List.{take_more, take-append-drop, take_more_set, drop-set-lt, get_or-drop, length-drop}
use Rattle.bc_image.specs.Children.{child_before, with_child, with_children}
use Rattle.bc_image.proofs.Children.{Way, below, same, above, way, with_rises, rise_pairs, pairs_rise}
use Rattle.bc_key.specs.declared.key.Key.{Key}

abbrev pub Rise : List Key → Type 0
Rise children = AllPairs (λ a b. a.end < b.end) children

-- ---- one child

pub with_order : (key : Key) (cs : List Key) → Rise cs → Rise (with_child key cs)
with_order key cs order = rise_pairs 0 (with_child key cs) (with_rises 0 key cs (omega arith) (pairs_rise 0 cs (λ k d inside. omega arith) order))

-- those that end before it stay in front
skip : (key : Key) (cs : List Key) (i : ℕ) → i ≤ length cs → AllWithin (λ c. c.end < key.end) cs 0 i → with_child key cs ≡ take i cs ++ with_child key (drop i cs)
skip key [] zero inside before = refl
skip key [] (suc i) inside before = absurd (omega arith)
skip key (c ∷ cs) zero inside before = refl
skip key (c ∷ cs) (suc i) inside before = go (way key c cs) (skip key cs i (omega (arith, inside)) (λ k d low high. before (suc k) d (omega arith) (omega (arith, high))))
  where
    go : Way key c cs → with_child key cs ≡ take i cs ++ with_child key (drop i cs) → with_child key (c ∷ cs) ≡ take (suc i) (c ∷ cs) ++ with_child key (drop (suc i) (c ∷ cs))
    go (above gt at) rest = at ∙ ap (λ (xs : List Key). c ∷ xs) rest
    go (below lt at) rest = absurd (let first = before 0 c (omega arith) (omega arith) in omega (arith, first, lt))
    go (same is at) rest = absurd (let first = before 0 c (omega arith) (omega arith) in omega (arith, first, is))

live : (key : Key) (cs : List Key) → 0 < key.count → child_before key cs ≡ key ∷ cs
live key cs some = let test = lt-ltb 0 key.count some in rw test refl

bare : (key : Key) (cs : List Key) → key.count ≤ 0 → child_before key cs ≡ cs
bare key cs none = let test = le-ltb 0 key.count none in rw test refl

-- the first of the others has its end
own : (key child : Key) (cs : List Key) → child.end ≡ key.end → with_child key (child ∷ cs) ≡ child_before key cs
own key child cs is = go (way key child cs)
  where
    go : Way key child cs → with_child key (child ∷ cs) ≡ child_before key cs
    go (above gt at) = absurd (omega (arith, gt, is))
    go (below lt at) = absurd (omega (arith, lt, is))
    go (same e at) = at

-- the first of the others, if there is one, ends behind it
between : (key : Key) (cs : List Key) → AllWithin (λ c. key.end < c.end) cs 0 (length cs) → with_child key cs ≡ child_before key cs
between key [] behind = refl
between key (c ∷ cs) behind = go (way key c cs)
  where
    first : key.end < c.end
    first = behind 0 c (omega arith) (omega arith)

    go : Way key c cs → with_child key (c ∷ cs) ≡ child_before key (c ∷ cs)
    go (above gt at) = absurd (omega (arith, gt, first))
    go (below lt at) = at
    go (same e at) = absurd (omega (arith, e, first))

module _ (key child : Key) (cs : List Key) (i : ℕ) (inside : i < length cs) (before : AllWithin (λ c. c.end < key.end) cs 0 i) (is : child ≡ get_or cs i child) (here : child.end ≡ key.end) where
  own_at : with_child key cs ≡ take i cs ++ child_before key (drop (suc i) cs)
  own_at =
      skip key cs i (omega (arith, inside)) before
      ∙ ap (λ (xs : List Key). take i cs ++ with_child key xs) (drop-cons cs i child inside ∙ ap (λ (c : Key). c ∷ drop (suc i) cs) (sym is))
      ∙ ap (λ (xs : List Key). take i cs ++ xs) (own key child (drop (suc i) cs) here)

  pub takes_place : 0 < key.count → set cs i key ≡ with_child key cs
  takes_place some =
      sym (take-append-drop (suc i) (set cs i key))
      ∙ ap (λ (xs : List Key). xs ++ drop (suc i) (set cs i key)) (let e : suc i ≡ i + 1 = omega arith in ap (λ n. take n (set cs i key)) e ∙ take_more_set cs i key inside)
      ∙ ap (λ (xs : List Key). (take i cs ++ key ∷ []) ++ xs) (drop-set-lt (suc i) cs i key (omega arith))
      ∙ append_assoc (take i cs) (key ∷ []) (drop (suc i) cs)
      ∙ ap (λ (xs : List Key). take i cs ++ xs) (sym (live key (drop (suc i) cs) some))
      ∙ sym own_at

  pub takes_away : key.count ≤ 0 → remove cs i ≡ with_child key cs
  takes_away none = ap (λ (xs : List Key). take i cs ++ xs) (sym (bare key (drop (suc i) cs) none)) ∙ sym own_at

module _ (key : Key) (cs : List Key) (i : ℕ) (inside : i ≤ length cs) (before : AllWithin (λ c. c.end < key.end) cs 0 i) (behind : AllWithin (λ c. key.end < c.end) cs i (length cs)) where
  among : with_child key cs ≡ take i cs ++ child_before key (drop i cs)
  among = skip key cs i inside before ∙ ap (λ (xs : List Key). take i cs ++ xs) (between key (drop i cs) (λ k d low high. later k d high))
    where
      later : (k : ℕ) (d : Key) → k < length (drop i cs) → key.end < (get_or (drop i cs) k d).end
      later k d high = let e = get_or-drop i cs k d in let long = length-drop i cs in subst (λ (c : Key). key.end < c.end) (sym e) (behind (i + k) d (omega arith) (omega (arith, high, long, inside)))

  pub comes_in : 0 < key.count → insert cs i key ≡ with_child key cs
  comes_in some = ap (λ (xs : List Key). take i cs ++ xs) (sym (live key (drop i cs) some)) ∙ sym among

  pub stays_out : key.count ≤ 0 → cs ≡ with_child key cs
  stays_out none = sym (take-append-drop i cs) ∙ ap (λ (xs : List Key). take i cs ++ xs) (sym (bare key (drop i cs) none)) ∙ sym among

-- ---- one after another

pub with_append : (xs ys cs : List Key) → with_children (xs ++ ys) cs ≡ with_children ys (with_children xs cs)
with_append [] ys cs = refl
with_append (x ∷ xs) ys cs = with_append xs ys (with_child x cs)

pub with_more : (keys : List Key) (i : ℕ) (key : Key) (cs : List Key) → i < length keys → key ≡ get_or keys i key → with_children (take (i + 1) keys) cs ≡ with_child key (with_children (take i keys) cs)
with_more keys i key cs inside is =
    ap (λ (ks : List Key). with_children ks cs) (take_more keys i key inside ∙ ap (λ (k : Key). take i keys ++ k ∷ []) (sym is)) ∙ with_append (take i keys) (key ∷ []) cs

-- ---- a search among them

pub rise_le : (cs : List Key) → Rise cs → (i j : ℕ) (d : Key) → i ≤ j → j < length cs → (get_or cs i d).end ≤ (get_or cs j d).end
rise_le cs order i j d le inside = elim (cases_lt i j) [
  | inl lt ↦ (let up = order i j d lt inside in omega (arith, up))
  | inr ge ↦ (let same : i ≡ j = omega (arith, le, ge) in let e = ap (λ n. (get_or cs n d).end) same in omega (arith, e))
]

-- none has the end, so that those from a place on end behind it
pub behind_it : (cs : List Key) (end i : ℕ) → Rise cs → AllWithin (λ c. end ≤ c.end) cs i (length cs) → (i < length cs → (d : Key) → (get_or cs i d).end ≢ end) → AllWithin (λ c. end < c.end) cs i (length cs)
behind_it cs end i order behind differs = λ k d from below. elim (cases_lt i k) [
  | inl lt ↦ (let up = order i k d lt below in let first = behind i d (omega arith) (omega (arith, lt, below)) in omega (arith, up, first))
  | inr ge ↦ (
      let same : k ≡ i = omega (arith, from, ge) in
      let at = behind k d from below in
      let e = ap (λ n. (get_or cs n d).end) same in
      let not = differs (omega (arith, same, below)) d in
      elim (cases_lt end (get_or cs k d).end) [ inl lt ↦ lt | inr le ↦ absurd (not (omega (arith, at, le, e))) ])
]

-- what can't fail was done
pub surely : {E : Type 0} → (r : Result (Unit {0}) E) (P Q : Type 0) → OnOk r P → OnErr r Q → (Q → ⊥) → P
surely (Ok u) P Q ok err never = ok
surely (Err e) P Q ok err never = absurd (never err)
