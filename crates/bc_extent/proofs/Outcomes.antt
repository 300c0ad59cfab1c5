-- What the calls of an extent map leave.
use Rattle.std.proofs.Common.{◌≡◌, ◌⊎◌, inl, inr, ℕ, ◌+◌, ◌-◌, ◌^◌, ◌<◌, ◌≤◌, ◌&&◌, Bool, true, false, List, [], ◌∷◌, ◌++◌, length, get_or, set, Option, Some, None, refl, sym, ap, ◌∙◌, subst, arith, if◌then◌else◌, length-set}
use Prim.Native.Nat.{min}
use Rattle.std.specs.Prelude.{nat_le, nat_lt, All, MatchOption, IfSome, IsNone, IsSomeAnd, ◌↔◌}
use Rattle.std.proofs.lemmas.Bool.{cases_lt, cases_eq, cases_order, le-leb, lt-leb, lt-ltb, le-ltb, and_from, and_left, and_right}
use Rattle.std.proofs.lemmas.List.{get_or-set_same, get_or-set_other, get_or_default}
use Rattle.std.proofs.lemmas.List.Elements.{All-nil, All-cons, All-contains, Contains-get_or}
use Rattle.std.proofs.lemmas.Option.{same_Some}
use Rattle.bc_key.specs.declared.key.Key.{Key}
use Rattle.bc_key.specs.Key.{start_of, Covers}
use Rattle.bc_extent.specs.LastKey.{last_key}
use Rattle.bc_extent.specs.Extents.{IsRange, IsInOrder, IsRest, Shows, overlaid, erased}
use Rattle.bc_extent.specs.Sides.{IsHeld}
use Rattle.bc_extent.proofs.LastKeys.{by_cover, last_key_found, last_key-push, none_covers}
use Rattle.bc_extent.proofs.Shown.{IsPart-refl, IsSomeRest, shows_from, shows_same, shows_itself, in_order_across, by_place, rest_of_old, rest_of_middle, look_covers}

-- ---- an insert

pub shows_inserted : (old : List Key) (key : Key) (new : List Key) → Shows (overlaid (start_of key) key.end (Some key) (last_key old)) new → Shows (last_key (old ++ key ∷ [])) new
shows_inserted old key new = shows_same (overlaid (start_of key) key.end (Some key) (last_key old)) (last_key (old ++ key ∷ [])) new (λ sector. sym (last_key-push old key sector))

-- a key of size 0 covers nothing
pub shows_empty : (old : List Key) (key : Key) → IsInOrder old → key.size ≤ 0 → Shows (last_key (old ++ key ∷ [])) old
shows_empty old key order none = shows_same (last_key old) (last_key (old ++ key ∷ [])) old
    (λ sector. by_cover key sector (λ b. last_key old sector ≡ (if b then Some key else last_key old sector)) (λ hit. let from = hit.0 in let to = hit.1 in absurd (omega arith)) (λ miss. refl) ∙ sym (last_key-push old key sector))
    (shows_itself old order)

-- a key that begins where all others have ended stands behind them as it is
module _ (old : List Key) (order : IsInOrder old) (key : Key) (range : IsRange key) (ended : All (λ x. x.end ≤ start_of key) old) where
  one_in_order : IsInOrder (key ∷ [])
  one_in_order = (All-cons IsRange key [] range (All-nil IsRange), λ i j d before inside. absurd (omega arith))

  pub order_behind : IsInOrder (old ++ key ∷ [])
  order_behind = in_order_across (start_of key) old (key ∷ []) order one_in_order ended (All-cons (λ y. start_of key ≤ start_of y) key [] (omega arith) (All-nil (λ y. start_of key ≤ start_of y)))

  pub shows_behind : Shows (last_key (old ++ key ∷ [])) (old ++ key ∷ [])
  shows_behind = shows_itself (old ++ key ∷ []) order_behind

-- ---- an erase

-- no key covers a sector from the last number on
nothing_last : (keys : List Key) (sector : ℕ) → 2 ^ 64 - 1 ≤ sector → last_key keys sector ≡ None
nothing_last keys sector high = go (last_key keys sector) refl
  where
    go : (found : Option Key) → last_key keys sector ≡ found → last_key keys sector ≡ None
    go None is = is
    go (Some key) is = let at = last_key_found keys sector key is in let to = at.1.1 in let fits = key.end_fits in absurd (omega arith)

-- by whether the sector lies in a range
pub by_range : (from to sector : ℕ) (P : Bool → Type 0) → (from ≤ sector → sector < to → P true) → ((sector < from) ⊎ (to ≤ sector) → P false) → P (nat_le from sector && nat_lt sector to)
by_range from to sector P inside outside = go (cases_lt sector from) (cases_lt sector to)
  where
    go : (sector < from) ⊎ (from ≤ sector) → (sector < to) ⊎ (to ≤ sector) → P (nat_le from sector && nat_lt sector to)
    go (inl low) high = subst P (sym (and_left (nat_le from sector) (nat_lt sector to) (lt-leb from sector low))) (outside (inl low))
    go (inr low) (inl high) = subst P (sym (and_from (nat_le from sector) (nat_lt sector to) (le-leb from sector low) (lt-ltb sector to high))) (inside low high)
    go (inr low) (inr high) = subst P (sym (and_right (nat_le from sector) (nat_lt sector to) (le-ltb sector to high))) (outside (inr high))

module _ (old : List Key) (first count end : ℕ) (capped : end ≡ min (first + count) (2 ^ 64 - 1)) where
  erased_is : (sector : ℕ) → overlaid first end None (last_key old) sector ≡ erased first count (last_key old) sector
  erased_is sector =
      by_range first end sector (λ b. (if b then None else last_key old sector) ≡ erased first count (last_key old) sector)
      (λ low high. by_range first (first + count) sector (λ b. None ≡ (if b then None else last_key old sector)) (λ from to. refl) (λ out. elim out [ inl below ↦ absurd (omega arith) | inr above ↦ absurd (omega arith) ]))
      (λ out. by_range first (first + count) sector (λ b. last_key old sector ≡ (if b then None else last_key old sector))
      (λ from to. elim out [ inl below ↦ absurd (omega arith) | inr above ↦ nothing_last old sector (omega arith) ])
      (λ other. refl))

  pub shows_erased : (new : List Key) → Shows (overlaid first end None (last_key old)) new → Shows (erased first count (last_key old)) new
  shows_erased new = shows_same (overlaid first end None (last_key old)) (erased first count (last_key old)) new erased_is

  -- where the range is empty nothing changes
  pub shows_kept : IsInOrder old → end ≤ first → Shows (erased first count (last_key old)) old
  shows_kept order none = shows_same (last_key old) (erased first count (last_key old)) old
      (λ sector. by_range first end sector (λ b. last_key old sector ≡ (if b then None else last_key old sector)) (λ low high. absurd (omega arith)) (λ out. refl) ∙ erased_is sector)
      (shows_itself old order)

  pub none_covers_erased : (new : List Key) → Shows (erased first count (last_key old)) new → (sector : ℕ) → first ≤ sector → sector < first + count → All (λ key. ¬ (Covers key sector)) new
  none_covers_erased new shown sector low high = none_covers new sector (
      by_range first (first + count) sector (λ b. MatchOption (if b then None else last_key old sector) (last_key new sector ≡ None) (λ whole. IsSomeAnd (last_key new sector) (IsRest (erased first count (last_key old)) whole)) → last_key new sector ≡ None)
      (λ from to is. is) (λ out. elim out [ inl below ↦ absurd (omega arith) | inr above ↦ absurd (omega arith) ]) (shown sector)
      )

-- ---- a key in the place of one with the same range

module _ (old : List Key) (order : IsInOrder old) (key new : Key) (place : ℕ) (inside : place < length old) (there : get_or old place key ≡ key) (same_end : new.end ≡ key.end) (same_size : new.size ≡ key.size) where
  range : IsRange key
  range = subst IsRange there (order.0 place key inside)

  some : start_of new < new.end
  some = let extent = range.0 in let size = range.1 in omega arith

  fits : (k : Key) → Some new ≡ Some k → IsRange k × (start_of k ≡ start_of new) × (k.end ≡ new.end)
  fits k is =
      let one : new ≡ k = same_Some new k is in
      subst (λ (x : Key). IsRange x × (start_of x ≡ start_of new) × (x.end ≡ new.end)) one ((let extent = range.0 in omega arith, let size = range.1 in omega arith), refl, refl)

  abbrev Look : ℕ → Option Key
  Look = overlaid (start_of new) new.end (Some new) (last_key old)

  -- another key of the list lies beside it
  beside : (k : ℕ) (d : Key) → k < length old → (k ≡ place → ⊥) → ((get_or old k d).end ≤ start_of new) ⊎ (new.end ≤ start_of (get_or old k d))
  beside k d within other = elim (cases_order k place) [
    | inl is ↦ absurd (other is)
    | inr apart ↦ elim apart [
      | inl before ↦
          let across = order.1 k place d before inside in
          let at : get_or old place d ≡ key = get_or_default old place d key inside ∙ there in
          let known = subst (λ (x : Key). (get_or old k d).end ≤ start_of x) at across in
          inl (omega arith)
      | inr behind ↦
          let across = order.1 place k d behind within in
          let at : get_or old place d ≡ key = get_or_default old place d key inside ∙ there in
          let known = subst (λ (x : Key). x.end ≤ start_of (get_or old k d)) at across in
          inr (omega arith)
    ]
  ]

  replaced_each : All (IsSomeRest Look) (set old place new)
  replaced_each = λ k d within. elim (cases_eq k place) [
    | inl is ↦
        let at : get_or (set old place new) k d ≡ new = ap (λ n. get_or (set old place new) n d) is ∙ get_or-set_same old place new d inside in
        subst (IsSomeRest Look) (sym at) (new, rest_of_middle old order (start_of new) new.end some (Some new) fits new refl)
    | inr other ↦
        let within_old : k < length old = omega (arith, length-set old place new) in
        let at : get_or (set old place new) k d ≡ get_or old k d = get_or-set_other old place k new d other in
        subst (IsSomeRest Look) (sym at) (get_or old k d, rest_of_old old order (start_of new) new.end some (Some new) fits (get_or old k d) (get_or old k d) (Contains-get_or old k d within_old) (IsPart-refl (get_or old k d)) (order.0 k d within_old) (beside k d within_old other) (inl refl) (inl refl))
  ]

  -- what covers a sector outside the range stays
  kept_beside : (sector : ℕ) (whole : Key) → (sector < start_of new) ⊎ (new.end ≤ sector) → last_key old sector ≡ Some whole → IsHeld (set old place new) sector
  kept_beside sector whole out is =
      let found = last_key_found old sector whole is in
      let here = found.0 in
      let other : here.0 ≡ place → ⊥ = λ same.
      let one : key ≡ whole = sym there ∙ get_or_default old place key whole inside ∙ ap (λ n. get_or old n whole) (sym same) ∙ here.2 in
      let at = subst (λ (k : Key). Covers k sector) (sym one) found.1 in
      let from = at.0 in
      let to = at.1 in
      elim out [ inl below ↦ omega arith | inr above ↦ omega arith ] in
      (whole, (here.0, omega (arith, length-set old place new, here.1), get_or-set_other old place here.0 new whole other ∙ here.2), found.1)

  replaced_all : (sector : ℕ) (whole : Key) → Look sector ≡ Some whole → IsHeld (set old place new) sector
  replaced_all sector whole is =
      let at = look_covers old order (start_of new) new.end some (Some new) fits sector whole is in
      by_place old order (start_of new) new.end some (Some new) fits sector (λ found. found ≡ Some whole → IsHeld (set old place new) sector)
      (λ low high same. (new, (place, omega (arith, length-set old place new), get_or-set_same old place new new inside), (low, high)))
      (λ low same. kept_beside sector whole (inl low) same)
      (λ high same. kept_beside sector whole (inr high) same)
      is

  pub shows_replaced : Shows (last_key (old ++ new ∷ [])) (set old place new)
  shows_replaced = shows_inserted old new (set old place new) (shows_from Look (set old place new) replaced_each replaced_all)

-- ---- a look-up

pub found_covers : (keys : List Key) (sector : ℕ) (found : Option Key) → found ≡ last_key keys sector → IfSome found (λ key. Covers key sector)
found_covers keys sector None is = tt
found_covers keys sector (Some key) is = (last_key_found keys sector key (sym is)).1

pub none_is : (keys : List Key) (sector : ℕ) (found : Option Key) → found ≡ last_key keys sector → IsNone found ↔ All (λ key. ¬ (Covers key sector)) keys
none_is keys sector None is = (λ none. none_covers keys sector (sym is), λ all. refl)
none_is keys sector (Some key) is = (
  λ wrong. absurd (cc),
  λ all. let found = last_key_found keys sector key (sym is) in absurd (All-contains (λ (k : Key). ¬ (Covers k sector)) keys key all found.0 found.1),
)
