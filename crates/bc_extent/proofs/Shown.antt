-- Which lists show a look-up.
use Rattle.std.proofs.Common.{◌≡◌, ◌⊎◌, inl, inr, ℕ, zero, ◌+◌, ◌-◌, ◌<◌, ◌≤◌, List, [], ◌++◌, length, get_or, Option, Some, None, refl, sym, ap, ◌∙◌, subst, arith, if◌then◌else◌, length-append}
use Rattle.std.specs.Prelude.{nat_le, nat_lt, All, AllPairs, Contains, MatchOption, IsSomeAnd, option_to_list}
use Rattle.std.proofs.lemmas.Bool.{cases_lt, le-leb, lt-leb, lt-ltb, le-ltb, and_from, and_left, and_right}
use Rattle.std.proofs.lemmas.List.{get_or_append_left, get_or-append_right}
use Rattle.std.proofs.lemmas.List.Elements.{All-append, All-contains, All-contains_itself, All-weaker, Contains-append_left, Contains-append_right, All-nil, All-cons}
use Rattle.bc_key.specs.declared.key.Key.{Key}
use Rattle.bc_key.specs.Key.{start_of, Covers}
use Rattle.bc_extent.specs.LastKey.{last_key}
use Rattle.bc_extent.specs.Extents.{IsRange, IsInOrder, IsPart, IsRest, Shows, overlaid}
use Rattle.bc_extent.specs.Sides.{IsHeld, IsBelow, IsAbove}
use Rattle.bc_extent.proofs.LastKeys.{last_key_found, last_key_at, none_covers}

pub IsPart-refl : (key : Key) → IsPart key key
IsPart-refl key = record {
  kind = record { inode = refl; dirty = refl; csum = refl; count = refl };
  from = omega arith;
  to = omega arith;
  devices = λ i inside. record { dev = refl; generation = refl };
  places = λ sector i hit inside. refl;
}

-- the key is what a look-up leaves of some key
abbrev pub IsSomeRest : (ℕ → Option Key) → Key → Type 0
IsSomeRest look key = (whole : Key) × IsRest look whole key

-- A list of rests in which each sector is held that has a key shows the look-up.
pub shows_from : (look : ℕ → Option Key) (keys : List Key) → All (IsSomeRest look) keys → ((sector : ℕ) (whole : Key) → look sector ≡ Some whole → IsHeld keys sector) → Shows look keys
shows_from look keys each all sector = go (look sector) refl (last_key keys sector) refl
  where
    go : (given : Option Key) → look sector ≡ given → (found : Option Key) → last_key keys sector ≡ found → MatchOption given (found ≡ None) (λ whole. IsSomeAnd found (IsRest look whole))
    go None none None is = refl
    go None none (Some key) is =
        let at = last_key_found keys sector key is in
        let rest = All-contains (IsSomeRest look) keys key each at.0 in
        let given = rest.1.inside sector at.1 in
        absurd (cc)
    go (Some whole) given None is =
        let held = all sector whole given in
        absurd (All-contains (λ (k : Key). ¬ (Covers k sector)) keys held.0 (none_covers keys sector is) held.1 held.2)
    go (Some whole) given (Some key) is =
        let at = last_key_found keys sector key is in
        let rest = All-contains (IsSomeRest look) keys key each at.0 in
        let same : rest.0 ≡ whole = let found = rest.1.inside sector at.1 in cc in
        subst (λ (w : Key). IsRest look w key) same rest.1

-- look-ups that agree are shown alike
pub shows_same : (look other : ℕ → Option Key) (keys : List Key) → ((sector : ℕ) → look sector ≡ other sector) → Shows look keys → Shows other keys
shows_same look other keys same shown = subst (λ (l : ℕ → Option Key). Shows l keys) (λ i sector. same sector i) shown

-- a list in order shows its own look-up
pub shows_itself : (keys : List Key) → IsInOrder keys → Shows (last_key keys) keys
shows_itself keys order = shows_from (last_key keys) keys (All-weaker (Contains keys) (IsSomeRest (last_key keys)) one keys (All-contains_itself keys)) (λ sector whole is. let at = last_key_found keys sector whole is in (whole, at.0, at.1))
  where
    one : (key : Key) → Contains keys key → IsSomeRest (last_key keys) key
    one key here = (
      key,
      record {
        cut = IsPart-refl key;
        inside = λ sector hit. last_key_at keys sector key order here hit;
        before = λ sector next is. let low = (last_key_found keys sector key is).1.0 in omega arith;
        behind = λ is. let high = (last_key_found keys key.end key is).1.1 in omega arith;
      },
    )

-- ---- keys of two lists, one behind the other

pub AllPairs-append : (R : Key → Key → Type 0) (xs ys : List Key) → AllPairs R xs → AllPairs R ys → All (λ x. All (R x) ys) xs → AllPairs R (xs ++ ys)
AllPairs-append R xs ys left right across i j d before inside = go (cases_lt i (length xs)) (cases_lt j (length xs))
  where
    both : length (xs ++ ys) ≡ length xs + length ys
    both = length-append xs ys

    go : (i < length xs) ⊎ (length xs ≤ i) → (j < length xs) ⊎ (length xs ≤ j) → R (get_or (xs ++ ys) i d) (get_or (xs ++ ys) j d)
    go (inl low) (inl high) =
        subst (λ (x : Key). R x (get_or (xs ++ ys) j d)) (sym (get_or_append_left xs ys d i low))
        (subst (λ (y : Key). R (get_or xs i d) y) (sym (get_or_append_left xs ys d j high)) (left i j d before high))
    go (inl low) (inr high) =
        subst (λ (x : Key). R x (get_or (xs ++ ys) j d)) (sym (get_or_append_left xs ys d i low))
        (subst (λ (y : Key). R (get_or xs i d) y) (sym (get_or-append_right xs ys (length xs) j d refl high)) (across i d low (j - length xs) d (omega (arith, both))))
    go (inr low) (inl high) = absurd (omega arith)
    go (inr low) (inr high) =
        subst (λ (x : Key). R x (get_or (xs ++ ys) j d)) (sym (get_or-append_right xs ys (length xs) i d refl low))
        (subst (λ (y : Key). R (get_or ys (i - length xs) d) y) (sym (get_or-append_right xs ys (length xs) j d refl high)) (right (i - length xs) (j - length xs) d (omega arith) (omega (arith, both))))

-- keys in order up to a sector, and behind them keys in order from that sector on
pub in_order_across : (at : ℕ) (xs ys : List Key) → IsInOrder xs → IsInOrder ys → All (λ x. x.end ≤ at) xs → All (λ y. at ≤ start_of y) ys → IsInOrder (xs ++ ys)
in_order_across at xs ys left right below above = (
  All-append IsRange xs ys left.0 right.0,
  AllPairs-append (λ a b. a.end ≤ start_of b) xs ys left.1 right.1 (λ i d low j e high. let x = below i d low in let y = above j e high in omega arith),
)

-- ---- a range that has another key now, or none

module _ (old : List Key) (order : IsInOrder old) (first end : ℕ) (some : first < end) (middle : Option Key) (fits : (key : Key) → middle ≡ Some key → IsRange key × (start_of key ≡ first) × (key.end ≡ end)) where
  abbrev pub look : ℕ → Option Key
  look = overlaid first end middle (last_key old)

  look_inside : (sector : ℕ) → first ≤ sector → sector < end → look sector ≡ middle
  look_inside sector from below = ap (λ b. if b then middle else last_key old sector) (and_from (nat_le first sector) (nat_lt sector end) (le-leb first sector from) (lt-ltb sector end below))

  look_below : (sector : ℕ) → sector < first → look sector ≡ last_key old sector
  look_below sector low = ap (λ b. if b then middle else last_key old sector) (and_left (nat_le first sector) (nat_lt sector end) (lt-leb first sector low))

  look_above : (sector : ℕ) → end ≤ sector → look sector ≡ last_key old sector
  look_above sector high = ap (λ b. if b then middle else last_key old sector) (and_right (nat_le first sector) (nat_lt sector end) (le-ltb sector end high))

  -- by the place of the sector
  pub by_place : (sector : ℕ) (P : Option Key → Type 0) → (first ≤ sector → sector < end → P middle) → (sector < first → P (last_key old sector)) → (end ≤ sector → P (last_key old sector)) → P (look sector)
  by_place sector P inside below above = go (cases_lt sector first) (cases_lt sector end)
    where
      go : (sector < first) ⊎ (first ≤ sector) → (sector < end) ⊎ (end ≤ sector) → P (look sector)
      go (inl low) high = subst P (sym (look_below sector low)) (below low)
      go (inr low) (inl high) = subst P (sym (look_inside sector low high)) (inside low high)
      go (inr low) (inr high) = subst P (sym (look_above sector high)) (above high)

  pub look_covers : (sector : ℕ) (key : Key) → look sector ≡ Some key → Covers key sector
  look_covers sector key = by_place sector (λ found. found ≡ Some key → Covers key sector)
      (λ low high is. let at = fits key is in let from = at.1 in let to = at.2 in (omega arith, omega arith))
      (λ low is. (last_key_found old sector key is).1)
      (λ high is. (last_key_found old sector key is).1)

  -- what is left of an old key on one side of the range
  pub rest_of_old : (whole part : Key) → Contains old whole → IsPart whole part → IsRange part → ((part.end ≤ first) ⊎ (end ≤ start_of part)) → ((start_of part ≡ start_of whole) ⊎ (start_of part ≡ end)) → ((part.end ≡ whole.end) ⊎ (part.end ≡ first)) → IsRest look whole part
  rest_of_old whole part here cut range aside from to = record {
    cut = cut;
    inside = λ sector hit.
        let low = cut.from in
        let high = cut.to in
        let at : Covers whole sector = (omega (arith, hit.0), omega (arith, hit.1)) in
        let is = last_key_at old sector whole order here at in
        elim aside [
          | inl below ↦ look_below sector (omega (arith, hit.1)) ∙ is
          | inr above ↦ look_above sector (omega (arith, hit.0)) ∙ is
        ];
    before = λ sector next is.
        let at = look_covers sector whole is in
        let low = at.0 in
        elim from [
          | inl same ↦ omega arith
          | inr same ↦ last_inside sector next same is
        ];
    behind = λ is.
        let at = look_covers part.end whole is in
        let high = at.1 in
        elim to [
          | inl same ↦ omega arith
          | inr same ↦ first_inside same is
        ];
  }
    where
      last_inside : (sector : ℕ) → sector + 1 ≡ start_of part → start_of part ≡ end → look sector ≡ Some whole → ⊥
      last_inside sector next at is =
          let own = fits whole (sym (look_inside sector (omega arith) (omega arith)) ∙ is) in
          let to = own.2 in
          let high = cut.to in
          let size = range.1 in
          let extent = range.0 in
          omega arith

      first_inside : part.end ≡ first → look part.end ≡ Some whole → ⊥
      first_inside at is =
          let own = fits whole (sym (look_inside part.end (omega arith) (omega arith)) ∙ is) in
          let from = own.1 in
          let low = cut.from in
          let size = range.1 in
          let extent = range.0 in
          omega arith

  pub rest_of_middle : (key : Key) → middle ≡ Some key → IsRest look key key
  rest_of_middle key is =
      let at = fits key is in
      let from = at.1 in
      let to = at.2 in
      record {
        cut = IsPart-refl key;
        inside = λ sector hit. look_inside sector (omega (arith, hit.0)) (omega (arith, hit.1)) ∙ is;
        before = λ sector next same. let low = (look_covers sector key same).0 in omega arith;
        behind = λ same. let high = (look_covers key.end key same).1 in omega arith;
      }

  module _ (left right : List Key) (l : IsBelow first old left) (r : IsAbove end old right) where
    abbrev pub new : List Key
    new = left ++ (option_to_list middle ++ right)

    middle_all : (P : Key → Type 0) → ((key : Key) → middle ≡ Some key → P key) → All P (option_to_list middle)
    middle_all P each = go middle refl
      where
        go : (found : Option Key) → middle ≡ found → All P (option_to_list found)
        go None is = All-nil P
        go (Some key) is = All-cons P key [] (each key is) (All-nil P)

    middle_order : IsInOrder (option_to_list middle)
    middle_order = (middle_all IsRange (λ key is. (fits key is).0), go middle)
      where
        go : (found : Option Key) → AllPairs (λ a b. a.end ≤ start_of b) (option_to_list found)
        go None i j d before inside = absurd (omega arith)
        go (Some key) i j d before inside = absurd (omega arith)

    pub overlaid_order : IsInOrder new
    overlaid_order = in_order_across first left (option_to_list middle ++ right) l.order
        (in_order_across end (option_to_list middle) right middle_order r.order (middle_all (λ key. key.end ≤ end) (λ key is. let to = (fits key is).2 in omega arith)) r.above)
        l.below
        (All-append (λ key. first ≤ start_of key) (option_to_list middle) right (middle_all (λ key. first ≤ start_of key) (λ key is. let from = (fits key is).1 in omega arith)) (All-weaker (λ (key : Key). end ≤ start_of key) (λ key. first ≤ start_of key) (λ key high. omega arith) right r.above))

    overlaid_each : All (IsSomeRest look) new
    overlaid_each = All-append (IsSomeRest look) left (option_to_list middle ++ right) lefts
        (All-append (IsSomeRest look) (option_to_list middle) right (middle_all (IsSomeRest look) (λ key is. (key, rest_of_middle key is))) rights)
      where
        lefts : All (IsSomeRest look) left
        lefts = λ k d inside.
            let is = l.each k d inside in
            (is.0, rest_of_old is.0 (get_or left k d) is.1 is.2 (l.order.0 k d inside) (inl (l.below k d inside)) (inl is.3) is.4)

        rights : All (IsSomeRest look) right
        rights = λ k d inside.
            let is = r.each k d inside in
            (is.0, rest_of_old is.0 (get_or right k d) is.1 is.2 (r.order.0 k d inside) (inr (r.above k d inside)) is.4 (inl is.3))

    held_left : (sector : ℕ) → IsHeld left sector → IsHeld new sector
    held_left sector is = (is.0, Contains-append_left left (option_to_list middle ++ right) is.0 is.1, is.2)

    held_right : (sector : ℕ) → IsHeld right sector → IsHeld new sector
    held_right sector is = (is.0, Contains-append_right left (option_to_list middle ++ right) is.0 (Contains-append_right (option_to_list middle) right is.0 is.1), is.2)

    held_middle : (key : Key) → middle ≡ Some key → Contains new key
    held_middle key is = Contains-append_right left (option_to_list middle ++ right) key (Contains-append_left (option_to_list middle) right key (subst (λ found. Contains (option_to_list found) key) (sym is) (zero, omega arith, refl)))

    overlaid_all : (sector : ℕ) (whole : Key) → look sector ≡ Some whole → IsHeld new sector
    overlaid_all sector whole is =
        let at = look_covers sector whole is in
        by_place sector (λ found. found ≡ Some whole → IsHeld new sector)
        (λ low high same. (whole, held_middle whole same, at))
        (λ low same. held_left sector (l.all sector whole low (last_key_found old sector whole same).0 at))
        (λ high same. held_right sector (r.all sector whole high (last_key_found old sector whole same).0 at))
        is

    pub overlaid_shows : Shows look new
    overlaid_shows = shows_from look new overlaid_each overlaid_all
