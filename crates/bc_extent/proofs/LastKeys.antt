-- The last key of a list, and of a list in order.
use Rattle.std.proofs.Common.{◌≡◌, ◌⊎◌, inl, inr, ℕ, zero, suc, ◌<◌, ◌≤◌, Bool, true, false, List, [], ◌∷◌, ◌++◌, length, get_or, Option, Some, None, refl, sym, ap, ◌∙◌, subst, arith, if◌then◌else◌}
use Rattle.std.specs.Prelude.{nat_le, nat_lt, All, Contains}
use Rattle.std.specs.List.Sorted.{IsNonDecreasingBy}
use Rattle.std.proofs.lemmas.Bool.{cases_order, le-leb, lt-leb, lt-ltb, le-ltb, cases_lt, and_from, and_left, and_right}
use Rattle.std.proofs.lemmas.List.{get_or_default}
use Rattle.std.proofs.lemmas.List.Elements.{All-head, All-tail, All-contains}
use Rattle.bc_key.specs.declared.key.Key.{Key}
use Rattle.bc_key.specs.Key.{start_of, Covers}
use Rattle.std.specs.Option.{option_or}
use Rattle.bc_extent.specs.LastKey.{covers, last_key}
use Rattle.bc_extent.specs.Extents.{IsInOrder}

-- the test, with what it tells
pub covers_tells : (key : Key) (sector : ℕ) → ((covers key sector ≡ true) × Covers key sector) ⊎ ((covers key sector ≡ false) × ¬ (Covers key sector))
covers_tells key sector = go (cases_lt sector (start_of key)) (cases_lt sector key.end)
  where
    go : (sector < start_of key) ⊎ (start_of key ≤ sector) → (sector < key.end) ⊎ (key.end ≤ sector) → ((covers key sector ≡ true) × Covers key sector) ⊎ ((covers key sector ≡ false) × ¬ (Covers key sector))
    go (inl before) end = inr (and_left (nat_le (start_of key) sector) (nat_lt sector key.end) (lt-leb (start_of key) sector before), λ c. let low = c.0 in omega arith)
    go (inr from) (inr behind) = inr (and_right (nat_le (start_of key) sector) (nat_lt sector key.end) (le-ltb sector key.end behind), λ c. let high = c.1 in omega arith)
    go (inr from) (inl below) = inl (and_from (nat_le (start_of key) sector) (nat_lt sector key.end) (le-leb (start_of key) sector from) (lt-ltb sector key.end below), (from, below))

-- by whether the key covers the sector
pub by_cover : (key : Key) (sector : ℕ) (P : Bool → Type 0) → (Covers key sector → P true) → (¬ (Covers key sector) → P false) → P (covers key sector)
by_cover key sector P hit miss = go (covers_tells key sector)
  where
    go : ((covers key sector ≡ true) × Covers key sector) ⊎ ((covers key sector ≡ false) × ¬ (Covers key sector)) → P (covers key sector)
    go (inl t) = subst P (sym t.0) (hit t.1)
    go (inr t) = subst P (sym t.0) (miss t.1)

Contains-later : (key : Key) (keys : List Key) (found : Key) → Contains keys found → Contains (key ∷ keys) found
Contains-later key keys found c = let inside = c.1 in (suc c.0, omega arith, c.2)

-- the last key is of the list and covers the sector
pub last_key_found : (keys : List Key) (sector : ℕ) (found : Key) → last_key keys sector ≡ Some found → Contains keys found × Covers found sector
last_key_found [] sector found is = absurd (cc)
last_key_found (key ∷ keys) sector found is = go (last_key keys sector) (λ rest. last_key_found keys sector found rest) refl is
  where
    go : (later : Option Key) → (last_key keys sector ≡ Some found → Contains keys found × Covers found sector) → last_key keys sector ≡ later → option_or later (if covers key sector then Some key else None) ≡ Some found → Contains (key ∷ keys) found × Covers found sector
    go (Some other) recur rest same = let all = recur (rest ∙ same) in (Contains-later key keys found all.0, all.1)
    go None recur rest same =
        by_cover key sector (λ b. option_or None (if b then Some key else None) ≡ Some found → Contains (key ∷ keys) found × Covers found sector)
        (λ hit one. let e : key ≡ found = cc in ((zero, omega arith, e), subst (λ k. Covers k sector) e hit))
        (λ miss one. absurd (cc))
        same

-- where none covers it there is none
pub last_key_none : (keys : List Key) (sector : ℕ) → All (λ key. ¬ (Covers key sector)) keys → last_key keys sector ≡ None
last_key_none [] sector miss = refl
last_key_none (key ∷ keys) sector miss =
    let rest = last_key_none keys sector (All-tail (λ (k : Key). ¬ (Covers k sector)) key keys miss) in
    ap (λ later. option_or later (if covers key sector then Some key else None)) rest
    ∙ by_cover key sector (λ b. (if b then Some key else None) ≡ None) (λ hit. absurd (All-head (λ (k : Key). ¬ (Covers k sector)) key keys miss hit)) (λ not. refl)

or_none : (one other : Option Key) → option_or one other ≡ None → (one ≡ None) × (other ≡ None)
or_none None other h = (refl, h)
or_none (Some key) other h = absurd (cc)

-- where there is none, none covers it
pub none_covers : (keys : List Key) (sector : ℕ) → last_key keys sector ≡ None → All (λ key. ¬ (Covers key sector)) keys
none_covers [] sector none = λ k d inside hit. absurd (omega arith)
none_covers (key ∷ keys) sector none =
    let both = or_none (last_key keys sector) (if covers key sector then Some key else None) none in
    go both.1 (none_covers keys sector both.0)
  where
    go : (if covers key sector then Some key else None) ≡ None → All (λ k. ¬ (Covers k sector)) keys → All (λ k. ¬ (Covers k sector)) (key ∷ keys)
    go first rest zero d inside = by_cover key sector (λ b. (if b then Some key else None) ≡ None → ¬ (Covers key sector)) (λ hit not. absurd (cc)) (λ miss _. miss) first
    go first rest (suc k) d inside = rest k d (omega arith)

-- in order, two keys that cover a sector are one
pub one_covers : (keys : List Key) (sector : ℕ) (a b : Key) → IsInOrder keys → Contains keys a → Contains keys b → Covers a sector → Covers b sector → a ≡ b
one_covers keys sector a b order here there low high = go (cases_order here.0 there.0)
  where
    at : (i j : ℕ) → i < j → j < length keys → (get_or keys i a).end ≤ start_of (get_or keys j a)
    at i j before inside = order.1 i j a before inside

    b_is : get_or keys there.0 a ≡ b
    b_is = get_or_default keys there.0 a b there.1 ∙ there.2

    go : (here.0 ≡ there.0) ⊎ ((here.0 < there.0) ⊎ (there.0 < here.0)) → a ≡ b
    go (inl same) = sym here.2 ∙ ap (λ i. get_or keys i a) same ∙ b_is
    go (inr (inl before)) =
        let apart : a.end ≤ start_of b = subst (λ (k : Key). k.end ≤ start_of b) here.2 (subst (λ (k : Key). (get_or keys here.0 a).end ≤ start_of k) b_is (at here.0 there.0 before there.1)) in
        let high_a = low.1 in
        let low_b = high.0 in
        absurd (omega arith)
    go (inr (inr before)) =
        let apart : b.end ≤ start_of a = subst (λ (k : Key). b.end ≤ start_of k) here.2 (subst (λ (k : Key). k.end ≤ start_of (get_or keys here.0 a)) b_is (at there.0 here.0 before here.1)) in
        let low_a = low.0 in
        let high_b = high.1 in
        absurd (omega arith)

-- in order, a key of the list that covers the sector is the last one
pub last_key_at : (keys : List Key) (sector : ℕ) (key : Key) → IsInOrder keys → Contains keys key → Covers key sector → last_key keys sector ≡ Some key
last_key_at keys sector key order here hit = go (last_key keys sector) refl
  where
    go : (found : Option Key) → last_key keys sector ≡ found → last_key keys sector ≡ Some key
    go None none = absurd (All-contains (λ (k : Key). ¬ (Covers k sector)) keys key (none_covers keys sector none) here hit)
    go (Some other) is = let found = last_key_found keys sector other is in is ∙ ap Some (one_covers keys sector other key order found.0 here found.1 hit)

-- in order, ends and starts rise
pub ends_rise : (keys : List Key) → IsInOrder keys → IsNonDecreasingBy (λ (key : Key). key.end) keys
ends_rise keys order i j d before inside = go (cases_order i j)
  where
    go : (i ≡ j) ⊎ ((i < j) ⊎ (j < i)) → (get_or keys i d).end ≤ (get_or keys j d).end
    go (inl same) = subst (λ n. (get_or keys i d).end ≤ (get_or keys n d).end) same (omega arith)
    go (inr (inl low)) = let apart = order.1 i j d low inside in omega arith
    go (inr (inr high)) = absurd (omega arith)

pub starts_rise : (keys : List Key) → IsInOrder keys → IsNonDecreasingBy start_of keys
starts_rise keys order i j d before inside = go (cases_order i j)
  where
    go : (i ≡ j) ⊎ ((i < j) ⊎ (j < i)) → start_of (get_or keys i d) ≤ start_of (get_or keys j d)
    go (inl same) = subst (λ n. start_of (get_or keys i d) ≤ start_of (get_or keys n d)) same (omega arith)
    go (inr (inl low)) = let apart = order.1 i j d low inside in omega arith
    go (inr (inr high)) = absurd (omega arith)

-- one more key, the newest
pub last_key-push : (keys : List Key) (key : Key) (sector : ℕ) → last_key (keys ++ key ∷ []) sector ≡ (if covers key sector then Some key else last_key keys sector)
last_key-push [] key sector = refl
last_key-push (k ∷ ks) key sector =
    ap (λ later. option_or later (if covers k sector then Some k else None)) (last_key-push ks key sector)
    ∙ by_cover key sector (λ b. option_or (if b then Some key else last_key ks sector) (if covers k sector then Some k else None) ≡ (if b then Some key else option_or (last_key ks sector) (if covers k sector then Some k else None))) (λ hit. refl) (λ miss. refl)

pub push_covers : (keys : List Key) (key : Key) (sector : ℕ) → Covers key sector → last_key (keys ++ key ∷ []) sector ≡ Some key
push_covers keys key sector hit = last_key-push keys key sector ∙ by_cover key sector (λ b. (if b then Some key else last_key keys sector) ≡ Some key) (λ at. refl) (λ miss. absurd (miss hit))

pub push_misses : (keys : List Key) (key : Key) (sector : ℕ) → ¬ (Covers key sector) → last_key (keys ++ key ∷ []) sector ≡ last_key keys sector
push_misses keys key sector miss = last_key-push keys key sector ∙ by_cover key sector (λ b. (if b then Some key else last_key keys sector) ≡ last_key keys sector) (λ hit. absurd (miss hit)) (λ out. refl)
