-- Keys between two sectors.
use Rattle.std.proofs.Common.{◌≡◌, ◌⊎◌, inl, inr, ℕ, zero, suc, ◌+◌, ◌<◌, ◌≤◌, true, false, List, [], ◌∷◌, ◌++◌, length, get_or, Option, Some, None, if◌then◌else◌, refl, sym, subst, ap, ◌∙◌, arith}
use Rattle.std.specs.Prelude.{All, Contains, take, slice_get, ◌&&◌, nat_le, nat_lt, MatchOption, IsSomeAnd}
use Rattle.std.proofs.lemmas.Bool.{cases_lt, le-leb, lt-leb, lt-ltb, le-ltb, and_from, and_left, and_right}
use Rattle.std.proofs.lemmas.List.Elements.{All-nil, All-cons, All-tail, All-contains, All-weaker}
use Rattle.std.proofs.lemmas.List.Kept.{AllPairs-cons}
use Rattle.bc_extent.specs.Extents.{IsInOrder, IsRange, IsRest, Shows}
use Rattle.bc_extent.specs.LastKey.{last_key}
use Rattle.bc_extent.proofs.LastKeys.{last_key_at, last_key_found, last_key_none}
use Rattle.bc_key.specs.Key.{start_of, Covers}
use Rattle.bc_key.specs.declared.key.Key.{Key}
use Rattle.bc_tree.specs.Parts.{AreParts, IsCutTo, LiesBetween, Meets, Misses, bounded}

-- ---- one more key

pub missed : (from end : ℕ) (keys parts : List Key) (key : Key) → AreParts from end keys parts → Misses from end key → AreParts from end (keys ++ key ∷ []) parts
missed from end [] parts key are miss = inl (miss, are)
missed from end (k ∷ keys) parts key (inl h) miss = inl (h.0, missed from end keys parts key h.1 miss)
missed from end (k ∷ keys) parts key (inr h) miss = inr (h.0, h.1, h.2, h.3, missed from end keys h.1 key h.4 miss)

pub met : (from end : ℕ) (keys parts : List Key) (key part : Key) → AreParts from end keys parts → IsCutTo from end key part → AreParts from end (keys ++ key ∷ []) (parts ++ part ∷ [])
met from end [] parts key part are cut = inr (part, [], ap (λ ps. ps ++ part ∷ []) are, cut, refl)
met from end (k ∷ keys) parts key part (inl h) cut = inl (h.0, met from end keys parts key part h.1 cut)
met from end (k ∷ keys) parts key part (inr h) cut =
    inr (h.0, h.1 ++ part ∷ [], ap (λ ps. ps ++ part ∷ []) h.2, h.3, met from end keys h.1 key part h.4 cut)

-- a key that doesn't meet the range misses it
pub misses : (from end : ℕ) (key : Key) → ¬ (Meets from end key) → Misses from end key
misses from end key not = go (cases_lt (start_of key) end) (cases_lt from key.end)
  where
    go : (start_of key < end) ⊎ (end ≤ start_of key) → (from < key.end) ⊎ (key.end ≤ from) → Misses from end key
    go (inr high) b = inl high
    go (inl low) (inr below) = inr below
    go (inl low) (inl above) = absurd (not (low, above))

-- ---- what the parts are

Contains-later : (key : Key) (keys : List Key) (found : Key) → Contains keys found → Contains (key ∷ keys) found
Contains-later key keys found c = let inside = c.1 in (suc c.0, omega arith, c.2)

-- each is of some key
abbrev IsOfSome : ℕ → ℕ → List Key → Key → Type 0
IsOfSome from end keys part = (whole : Key) × Contains keys whole × IsCutTo from end whole part

later : (from end : ℕ) (k : Key) (keys : List Key) (part : Key) → IsOfSome from end keys part → IsOfSome from end (k ∷ keys) part
later from end k keys part h = (h.0, Contains-later k keys h.0 h.1, h.2)

each : (from end : ℕ) (keys parts : List Key) → AreParts from end keys parts → All (IsOfSome from end keys) parts
each from end [] parts are = subst (All (IsOfSome from end [])) (sym are) (All-nil (IsOfSome from end []))
each from end (k ∷ keys) parts (inl h) = All-weaker (IsOfSome from end keys) (IsOfSome from end (k ∷ keys)) (later from end k keys) parts (each from end keys parts h.1)
each from end (k ∷ keys) parts (inr h) =
    subst (All (IsOfSome from end (k ∷ keys))) (sym h.2)
    (All-cons (IsOfSome from end (k ∷ keys)) h.0 h.1 (k, (zero, omega arith, refl), h.3)
    (All-weaker (IsOfSome from end keys) (IsOfSome from end (k ∷ keys)) (later from end k keys) h.1 (each from end keys h.1 h.4)))

-- each key that meets the range has one
abbrev HasPart : ℕ → ℕ → List Key → Key → Type 0
HasPart from end parts whole = (part : Key) × Contains parts part × IsCutTo from end whole part

has_part : (from end : ℕ) (keys parts : List Key) → AreParts from end keys parts → (n : ℕ) (whole : Key) → n < length keys → get_or keys n whole ≡ whole → Meets from end whole → HasPart from end parts whole
has_part from end [] parts are n whole inside is meets = absurd (omega arith)
has_part from end (k ∷ keys) parts (inl h) zero whole inside is meets = absurd (apart h.0)
  where
    apart : Misses from end k → ⊥
    apart (inl high) = let low = subst (λ (x : Key). start_of x < end) (sym is) meets.0 in omega arith
    apart (inr low) = let high = subst (λ (x : Key). from < x.end) (sym is) meets.1 in omega arith
has_part from end (k ∷ keys) parts (inl h) (suc n) whole inside is meets = has_part from end keys parts h.1 n whole (omega arith) is meets
has_part from end (k ∷ keys) parts (inr h) zero whole inside is meets =
    (h.0, subst (λ ps. Contains ps h.0) (sym h.2) (zero, omega arith, refl), subst (λ (x : Key). IsCutTo from end x h.0) is h.3)
has_part from end (k ∷ keys) parts (inr h) (suc n) whole inside is meets =
    let rest = has_part from end keys h.1 h.4 n whole (omega arith) is meets in
    (rest.0, subst (λ ps. Contains ps rest.0) (sym h.2) (Contains-later h.0 h.1 rest.0 rest.1), rest.2)

-- ---- their order

tail_order : (k : Key) (keys : List Key) → IsInOrder (k ∷ keys) → IsInOrder keys × All (λ b. k.end ≤ start_of b) keys
tail_order k keys order =
    ((All-tail IsRange k keys order.0, λ i j d before inside. order.1 (suc i) (suc j) d (omega arith) (omega arith)), λ i d inside. let first = order.1 0 (suc i) d (omega arith) (omega arith) in first)

after : (from end : ℕ) (k part other : Key) (keys : List Key) → IsCutTo from end k part → IsOfSome from end keys other → All (λ b. k.end ≤ start_of b) keys → part.end ≤ start_of other
after from end k part other keys one two behind =
    let low = All-contains (λ (b : Key). k.end ≤ start_of b) keys two.0 behind two.1 in
    omega (arith, one.cut.to, two.2.cut.from, low)

pub parts_order : (from end : ℕ) (keys parts : List Key) → IsInOrder keys → AreParts from end keys parts → IsInOrder parts
parts_order from end [] parts order are = subst IsInOrder (sym are) (All-nil IsRange, λ i j d before inside. absurd (omega arith))
parts_order from end (k ∷ keys) parts order (inl h) = parts_order from end keys parts (tail_order k keys order).0 h.1
parts_order from end (k ∷ keys) parts order (inr h) =
    let tail = tail_order k keys order in
    let rest = parts_order from end keys h.1 tail.0 h.4 in
    let of = each from end keys h.1 h.4 in
    subst IsInOrder (sym h.2) (
      All-cons IsRange h.0 h.1 h.3.range rest.0,
      AllPairs-cons (λ a b. a.end ≤ start_of b) h.0 h.1 (λ i d inside. after from end k h.0 (get_or h.1 i d) keys h.3 (of i d inside) tail.1) rest.1,
    )

pub parts_within : (from end : ℕ) (keys parts : List Key) → AreParts from end keys parts → All (LiesBetween from end) parts
parts_within from end keys parts are =
    All-weaker (IsOfSome from end keys) (LiesBetween from end) (λ part h. (omega (arith, h.2.begins), omega (arith, h.2.ends))) parts (each from end keys parts are)

-- ---- what they show

bounded_in : (from end : ℕ) (look : ℕ → Option Key) (s : ℕ) → from ≤ s → s < end → bounded from end look s ≡ look s
bounded_in from end look s low high =
    let test : (nat_le from s && nat_lt s end) ≡ true = and_from (nat_le from s) (nat_lt s end) (le-leb from s low) (lt-ltb s end high) in
    ap (λ b. if b then look s else None) test

bounded_some : (from end : ℕ) (look : ℕ → Option Key) (s : ℕ) (key : Key) → bounded from end look s ≡ Some key → (from ≤ s) × (s < end) × (look s ≡ Some key)
bounded_some from end look s key is = go (cases_lt s from) (cases_lt s end)
  where
    out : (nat_le from s && nat_lt s end) ≡ false → ⊥
    out test = let none = ap (λ b. if b then look s else None) test in let two : None ≡ Some key = sym none ∙ is in absurd (cc)

    go : (s < from) ⊎ (from ≤ s) → (s < end) ⊎ (end ≤ s) → (from ≤ s) × (s < end) × (look s ≡ Some key)
    go (inl less) high = absurd (out (and_left (nat_le from s) (nat_lt s end) (lt-leb from s less)))
    go (inr low) (inr more) = absurd (out (and_right (nat_le from s) (nat_lt s end) (le-ltb s end more)))
    go (inr low) (inl high) = (low, high, sym (bounded_in from end look s low high) ∙ is)

-- a part is what the bounded look-up leaves of its key
rest_of : (from end : ℕ) (keys : List Key) (whole part : Key) → IsInOrder keys → Contains keys whole → IsCutTo from end whole part → IsRest (bounded from end (last_key keys)) whole part
rest_of from end keys whole part order there cut = record {
  cut = cut.cut;
  inside = λ s hit.
      let covered : Covers whole s = (omega (arith, cut.begins, hit.0), omega (arith, cut.ends, hit.1)) in
      bounded_in from end (last_key keys) s (omega (arith, cut.begins, hit.0)) (omega (arith, cut.ends, hit.1)) ∙ last_key_at keys s whole order there covered;
  before = λ s next is.
      let some = bounded_some from end (last_key keys) s whole is in
      let hit = (last_key_found keys s whole some.2).1 in
      omega (arith, next, cut.begins, some.0, hit.0);
  behind = λ is.
      let some = bounded_some from end (last_key keys) part.end whole is in
      let hit = (last_key_found keys part.end whole some.2).1 in
      omega (arith, cut.ends, some.1, hit.1);
}

pub parts_show : (from end : ℕ) (keys parts : List Key) → IsInOrder keys → AreParts from end keys parts → Shows (bounded from end (last_key keys)) parts
parts_show from end keys parts order are sector = go (bounded from end (last_key keys) sector) refl
  where
    good : IsInOrder parts
    good = parts_order from end keys parts order are

    Rest : Key → Key → Type 0
    Rest whole = IsRest (bounded from end (last_key keys)) whole

    hidden : bounded from end (last_key keys) sector ≡ None → (part : Key) → IsOfSome from end keys part → ¬ (Covers part sector)
    hidden none part h hit =
        let covered : Covers h.0 sector = (omega (arith, h.2.begins, hit.0), omega (arith, h.2.ends, hit.1)) in
        let shown = bounded_in from end (last_key keys) sector (omega (arith, h.2.begins, hit.0)) (omega (arith, h.2.ends, hit.1)) ∙ last_key_at keys sector h.0 order h.1 covered in
        let two : None ≡ Some h.0 = sym none ∙ shown in
        absurd (cc)

    go : (look : Option Key) → bounded from end (last_key keys) sector ≡ look → MatchOption look (last_key parts sector ≡ None) (λ whole. IsSomeAnd (last_key parts sector) (Rest whole))
    go None none = last_key_none parts sector (All-weaker (IsOfSome from end keys) (λ part. ¬ (Covers part sector)) (hidden none) parts (each from end keys parts are))
    go (Some whole) is =
        let some = bounded_some from end (last_key keys) sector whole is in
        let found = last_key_found keys sector whole some.2 in
        let has = has_part from end keys parts are found.0.0 whole found.0.1 found.0.2 (omega (arith, some.1, found.1.0), omega (arith, some.0, found.1.1)) in
        let covered : Covers has.0 sector = (omega (arith, has.2.begins, some.0, found.1.0), omega (arith, has.2.ends, some.1, found.1.1)) in
        let at = last_key_at parts sector has.0 good has.1 covered in
        subst (λ o. IsSomeAnd o (Rest whole)) (sym at) (rest_of from end keys whole has.0 order found.0 has.2)

-- ---- a loop's steps

-- one key more is read
pub got : (keys : List Key) (i : ℕ) (key : Key) → slice_get keys i ≡ Some key → take i keys ++ key ∷ [] ≡ take (i + 1) keys
got [] i key is = absurd (cc)
got (k ∷ keys) zero key is = let e : k ≡ key = cc in ap (λ (v : Key). v ∷ []) (sym e)
got (k ∷ keys) (suc i) key is =
    let e : suc (i + 1) ≡ suc i + 1 = omega arith in
    ap (λ ks. k ∷ ks) (got keys i key is) ∙ ap (λ n. take n (k ∷ keys)) e

-- their order is known once one was read
pub order_read : (keys : List Key) (i : ℕ) → length keys ≤ i → (0 < i → IsInOrder keys) → IsInOrder keys
order_read [] i all known = (All-nil IsRange, λ k j d before inside. absurd (omega arith))
order_read (k ∷ keys) i all known = known (omega arith)
