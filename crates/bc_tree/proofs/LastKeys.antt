-- The last keys that leaves give before and after a change of the tree.
use Rattle.std.proofs.Common.{◌≡◌, ◌≢◌, ◌⊎◌, inl, inr, ℕ, zero, suc, ◌+◌, ◌%◌, ◌^◌, ◌<◌, ◌≤◌, Bool, true, false, List, [], ◌∷◌, ◌++◌, take, drop, Option, Some, None, refl, sym, subst, ap, ◌∙◌, arith, if◌then◌else◌}
use Rattle.std.specs.Prelude.{All, Contains, IfSome, MatchOption, IsSomeAnd, nat_le, nat_lt, option_to_list, slice_get}
use Rattle.std.specs.Option.{option_or}
use Rattle.std.proofs.lemmas.Bool.{and_from, le-leb, lt-ltb}
use Rattle.std.proofs.lemmas.Bool.Decides.{eqb_tells}
use Rattle.std.proofs.lemmas.List.{drop-drop, take-append-drop}
use Rattle.std.proofs.lemmas.List.Elements.{All-contains, Contains-append_cases, Contains-append_left, Contains-append_right}
use Rattle.std.proofs.lemmas.Option.{get_or_from_slice_get, slice_get_within}
use Rattle.bc_extent.specs.Calls.{live, with_pointer}
use Rattle.bc_extent.specs.Extents.{IsPart}
use Rattle.bc_extent.specs.LastKey.{last_key}
use Rattle.bc_extent.proofs.LastKeys.{last_key_none}
use Rattle.bc_extent.proofs.Looks.{last_key-append, shows_live}
use Rattle.bc_extent.proofs.Shown.{IsPart-refl}
use Rattle.bc_key.specs.declared.key.Key.{Key}
use Rattle.bc_key.specs.declared.ptr.Ptr.{Ptr}
use Rattle.bc_node.specs.Leaf.{AreLast, AreWithin, Leaf}
use Rattle.bc_spine.specs.Exchange.{IsFor, IsMerged, IsSplit, coming, going}
use Rattle.bc_spine.specs.Leaves.{AreLeaves, HaveTwoNumbers, IsLeafAt, IsRow, Spans}
use Rattle.bc_spine.specs.Numbers.{IsLeastFree}
use Rattle.bc_spine.specs.declared.exchange.Exchange.{Exchange}
use Rattle.bc_spine.specs.declared.leaf.LeafRange.{LeafRange}
use Rattle.bc_spine.proofs.Exchanges.{one_there, two_there}
use Rattle.bc_spine.proofs.Lists.{AllPairs-across}
use Rattle.bc_spine.proofs.Rows.{one_spans}
use Rattle.bc_inner.specs.Inner.{Inner}
use Rattle.bc_tree.specs.LastKeys.{AreKept, GiveSame, LeafKeys, StandsInFor, StandsInForBoth, keys_next, with_keys, with_second}
use Rattle.bc_tree.specs.Next.{leaves_next}
use Rattle.bc_tree.specs.Parts.{bounded}
use Rattle.bc_tree.specs.Merge.{IsLeafMerge, IsMadeJoin}
use Rattle.bc_tree.specs.Plan.{IsComing, IsOfSpine}
use Rattle.bc_tree.specs.Rewrite.{IsRewrite}
use Rattle.bc_tree.specs.Split.{IsLeafSplit, IsMadeSplit}
use Rattle.bc_tree.specs.Spine.{Spine}
use Rattle.bc_tree.specs.declared.place.LeafPlace.{LeafPlace}
use Rattle.bc_tree.specs.declared.plan.Plan.{Plan}
use Rattle.bc_tree.proofs.Neighbours.{row_next}

-- ---- keys that give a sector the same

-- a part of a key, or none where there is none
abbrev PartIn : Option Key → Option Key → Type 0
PartIn given found = MatchOption given (found ≡ None) (λ whole. IsSomeAnd found (IsPart whole))

part_of_part : (whole part piece : Key) → IsPart whole part → IsPart part piece → IsPart whole piece
part_of_part whole part piece p q = record {
  kind = record { inode = q.kind.inode ∙ p.kind.inode; dirty = q.kind.dirty ∙ p.kind.dirty; csum = q.kind.csum ∙ p.kind.csum; count = q.kind.count ∙ p.kind.count };
  from = let a = p.from in let b = q.from in omega arith;
  to = let a = p.to in let b = q.to in omega arith;
  devices = λ i inside.
      let inner : i < part.count = (let same = p.kind.count in omega arith) in
      record { dev = (q.devices i inner).dev ∙ (p.devices i inside).dev; generation = (q.devices i inner).generation ∙ (p.devices i inside).generation };
  places = λ sector i hit inside.
      let inner : i < part.count = (let same = p.kind.count in omega arith) in
      let low = q.from in
      let high = q.to in
      q.places sector i hit inner ∙ p.places sector i (omega (arith, hit.0), omega (arith, hit.1)) inside;
}

part_twice : (a b c : Option Key) → PartIn a b → PartIn b c → PartIn a c
part_twice None b c one two = subst (λ (o : Option Key). PartIn o c) one two
part_twice (Some w) None c one two = absurd one
part_twice (Some w) (Some p) None one two = absurd two
part_twice (Some w) (Some p) (Some q) one two = part_of_part w p q one two

part_itself : (o : Option Key) → PartIn o o
part_itself None = refl
part_itself (Some key) = IsPart-refl key

give_itself : (keys : List Key) (sector : ℕ) → GiveSame keys keys sector
give_itself keys sector = part_itself (live (last_key keys) sector)

give_between : (old new before after : List Key) (sector : ℕ) → old ≡ before → new ≡ after → GiveSame before after sector → GiveSame old new sector
give_between old new before after sector a b is =
    subst (λ (ks : List Key). GiveSame ks new sector) (sym a) (subst (λ (ks : List Key). GiveSame before ks sector) (sym b) is)

with_pointer_twice : (o : Option Key) → with_pointer (with_pointer o) ≡ with_pointer o
with_pointer_twice None = refl
with_pointer_twice (Some key) = go (nat_lt 0 key.count) refl
  where
    go : (b : Bool) → nat_lt 0 key.count ≡ b → with_pointer (if b then Some key else None) ≡ (if b then Some key else None)
    go true is = ap (λ b. if b then Some key else None) is
    go false is = refl

-- the last keys of a list give what the list gives
last_give : (list keys : List Key) (sector : ℕ) → AreLast list keys → GiveSame list keys sector
last_give list keys sector is =
    subst (λ (o : Option Key). PartIn o (live (last_key keys) sector)) (with_pointer_twice (last_key list sector)) (shows_live (live (last_key list)) keys is.shown sector)

-- a leaf that comes gives each sector of its range what these keys give
coming_gives : (keys : List Key) (from end : ℕ) (to : Ptr) (seq : ℕ) (leaf : Leaf) (sector : ℕ) → IsComing keys from end to seq leaf → from ≤ sector → sector < end → GiveSame keys leaf.keys sector
coming_gives keys from end to seq leaf sector is low high =
    part_twice (live (last_key keys) sector) (live (last_key is.parts) sector) (live (last_key leaf.keys) sector)
    (subst (λ (o : Option Key). PartIn (with_pointer o) (live (last_key is.parts) sector)) inside (shows_live (bounded from end (last_key keys)) is.parts is.shows sector))
    (last_give is.parts leaf.keys sector is.is.last)
  where
    inside : bounded from end (last_key keys) sector ≡ last_key keys sector
    inside = ap (λ b. if b then last_key keys sector else None) (and_from (nat_le from sector) (nat_lt sector end) (le-leb from sector low) (lt-ltb sector end high))

-- keys of a range have none outside it
outside : (from end : ℕ) (keys : List Key) (sector : ℕ) → AreWithin from end keys → (sector < from) ⊎ (end ≤ sector) → last_key keys sector ≡ None
outside from end keys sector within out = last_key_none keys sector (λ k d inside hit.
    let at = within k d inside in
    elim out [ inl low ↦ omega (arith, at.0, hit.0, low) | inr high ↦ omega (arith, at.1, hit.1, high) ])

-- the last keys of two lists, the ranges of which lie one behind the other, give what each of these gives
first_gives : (middle end : ℕ) (left right keys : List Key) (sector : ℕ) → AreWithin middle end right → AreLast (left ++ right) keys → sector < middle → GiveSame left keys sector
first_gives middle end left right keys sector within is low =
    subst (λ (o : Option Key). PartIn (with_pointer o) (live (last_key keys) sector)) alone (last_give (left ++ right) keys sector is)
  where
    alone : last_key (left ++ right) sector ≡ last_key left sector
    alone = last_key-append left right sector ∙ ap (λ (o : Option Key). option_or o (last_key left sector)) (outside middle end right sector within (inl low))

or_none : (o : Option Key) → option_or o None ≡ o
or_none None = refl
or_none (Some key) = refl

second_gives : (from middle : ℕ) (left right keys : List Key) (sector : ℕ) → AreWithin from middle left → AreLast (left ++ right) keys → middle ≤ sector → GiveSame right keys sector
second_gives from middle left right keys sector within is high =
    subst (λ (o : Option Key). PartIn (with_pointer o) (live (last_key keys) sector)) alone (last_give (left ++ right) keys sector is)
  where
    alone : last_key (left ++ right) sector ≡ last_key right sector
    alone =
        last_key-append left right sector
        ∙ ap (λ (o : Option Key). option_or (last_key right sector) o) (outside from middle left sector within (inr high))
        ∙ or_none (last_key right sector)

-- ---- the keys of leaves by their numbers

one_is : (x y : LeafRange) → Contains (x ∷ []) y → y ≡ x
one_is x y (zero, inside, is) = sym is
one_is x y (suc i, inside, is) = absurd (omega (arith, inside))

two_are : (x y z : LeafRange) → Contains (x ∷ y ∷ []) z → (z ≡ x) ⊎ (z ≡ y)
two_are x y z (zero, inside, is) = inl (sym is)
two_are x y z (suc zero, inside, is) = inr (sym is)
two_are x y z (suc (suc i), inside, is) = absurd (omega (arith, inside))

own_keys : (keys : LeafKeys) (n : ℕ) (own : List Key) → with_keys keys n own n ≡ own
own_keys keys n own = elim (eqb_tells n n) [
  | inl same ↦ ap (λ b. if b then own else keys n) same.0
  | inr apart ↦ absurd (apart.1 refl)
]

other_keys : (keys : LeafKeys) (m n : ℕ) (own : List Key) → n ≢ m → with_keys keys m own n ≡ keys n
other_keys keys m n own other = elim (eqb_tells n m) [
  | inl same ↦ absurd (other same.1)
  | inr apart ↦ ap (λ b. if b then own else keys n) apart.0
]

first_keys : (keys : LeafKeys) (plan : Plan) → keys_next keys plan plan.leaves.first.number ≡ plan.first.keys
first_keys keys plan = own_keys (with_second keys plan.leaves.second plan.second) plan.leaves.first.number plan.first.keys

second_keys : (keys : LeafKeys) (plan : Plan) (range : LeafRange) (leaf : Leaf) → plan.leaves.second ≡ Some range → plan.second ≡ Some leaf → plan.leaves.first.number < range.number
    → keys_next keys plan range.number ≡ leaf.keys
second_keys keys plan range leaf is has other =
    other_keys (with_second keys plan.leaves.second plan.second) plan.leaves.first.number range.number plan.first.keys (λ same. omega (arith, same, other))
    ∙ ap (λ (r : Option LeafRange). with_second keys r plan.second range.number) is
    ∙ ap (λ (l : Option Leaf). with_second keys (Some range) l range.number) has
    ∙ own_keys keys range.number leaf.keys

kept_keys : (keys : LeafKeys) (plan : Plan) (n : ℕ) → n ≢ plan.leaves.first.number → ((range : LeafRange) → plan.leaves.second ≡ Some range → n ≢ range.number) → keys_next keys plan n ≡ keys n
kept_keys keys plan n first second =
    other_keys (with_second keys plan.leaves.second plan.second) plan.leaves.first.number n plan.first.keys first ∙ go plan.leaves.second plan.second refl
  where
    go : (range : Option LeafRange) (leaf : Option Leaf) → plan.leaves.second ≡ range → with_second keys range leaf n ≡ keys n
    go None leaf is = refl
    go (Some range) None is = refl
    go (Some range) (Some leaf) is = other_keys keys range.number n leaf.keys (second range is)

-- ---- all leaves, where some give way to others

module _ (xs ys : List LeafRange) (old_end new_end : ℕ) (plan : Plan) (old : AreLeaves xs old_end) (fits : IsFor xs plan.leaves) (are : ys ≡ leaves_next xs plan.leaves) (new : AreLeaves ys new_end) where
  abbrev front : List LeafRange
  front = take plan.leaves.place xs

  abbrev behind : List LeafRange
  behind = drop (plan.leaves.place + plan.leaves.gone) xs

  abbrev goes : List LeafRange
  goes = going xs plan.leaves

  all : front ++ (goes ++ behind) ≡ xs
  all =
      ap (λ (ys : List LeafRange). front ++ (goes ++ ys)) (sym (drop-drop plan.leaves.gone plan.leaves.place xs))
      ∙ ap (λ (ys : List LeafRange). front ++ ys) (take-append-drop plan.leaves.gone (drop plan.leaves.place xs))
      ∙ take-append-drop plan.leaves.place xs

  front_old : (x : LeafRange) → Contains front x → Contains xs x
  front_old x here = subst (λ (zs : List LeafRange). Contains zs x) all (Contains-append_left front (goes ++ behind) x here)

  behind_old : (x : LeafRange) → Contains behind x → Contains xs x
  behind_old x here = subst (λ (zs : List LeafRange). Contains zs x) all (Contains-append_right front (goes ++ behind) x (Contains-append_right goes behind x here))

  front_new : (x : LeafRange) → Contains front x → Contains ys x
  front_new x here = subst (λ (zs : List LeafRange). Contains zs x) (sym are) (Contains-append_left (front ++ coming plan.leaves) behind x (Contains-append_left front (coming plan.leaves) x here))

  behind_new : (x : LeafRange) → Contains behind x → Contains ys x
  behind_new x here = subst (λ (zs : List LeafRange). Contains zs x) (sym are) (Contains-append_right (front ++ coming plan.leaves) behind x here)

  -- what comes has other numbers
  apart : (x y : LeafRange) → Contains xs x → Contains (coming plan.leaves) y → x.number ≢ y.number
  apart x y here comes =
      All-contains (HaveTwoNumbers x) (coming plan.leaves) y
      (All-contains (λ z. All (HaveTwoNumbers z) (coming plan.leaves)) xs x (AllPairs-across HaveTwoNumbers xs (coming plan.leaves) fits.fits.numbers) here) comes

  second_comes : (range : LeafRange) → plan.leaves.second ≡ Some range → Contains (coming plan.leaves) range
  second_comes range is = subst (λ (o : Option LeafRange). Contains (plan.leaves.first ∷ option_to_list o) range) (sym is) (suc zero, omega arith, refl)

  stays : (keys : LeafKeys) (x : LeafRange) → Contains xs x → keys_next keys plan x.number ≡ keys x.number
  stays keys x here = kept_keys keys plan x.number (apart x plan.leaves.first here (zero, omega arith, refl)) (λ range is. apart x range here (second_comes range is))

  pub are_kept : AreKept xs plan ys
  are_kept keys stand sector o n before after =
      elim (Contains-append_cases (front ++ coming plan.leaves) behind n (subst (λ (zs : List LeafRange). Contains zs n) are after.held)) [
        | inl low ↦ elim (Contains-append_cases front (coming plan.leaves) n low) [
          | inl here ↦ stayed (front_old n here)
          | inr comes ↦ came comes
        ]
        | inr here ↦ stayed (behind_old n here)
      ]
    where
      stayed : Contains xs n → GiveSame (keys o.number) (keys_next keys plan n.number) sector
      stayed here =
          let same = one_spans 0 old_end xs old.row sector o n before.held here before.spans after.spans in
          give_between (keys o.number) (keys_next keys plan n.number) (keys n.number) (keys n.number) sector (ap (λ (x : LeafRange). keys x.number) same) (stays keys n here) (give_itself (keys n.number) sector)

      -- a leaf that stays isn't one that comes
      other : Contains ys o → Contains (coming plan.leaves) n → ⊥
      other here comes = apart o n before.held comes (ap (λ (x : LeafRange). x.number) (one_spans 0 new_end ys new.row sector o n here after.held before.spans after.spans))

      came : Contains (coming plan.leaves) n → GiveSame (keys o.number) (keys_next keys plan n.number) sector
      came comes = elim (Contains-append_cases front (goes ++ behind) o (subst (λ (zs : List LeafRange). Contains zs o) (sym all) before.held)) [
        | inl here ↦ absurd (other (front_new o here) comes)
        | inr rest ↦ elim (Contains-append_cases goes behind o rest) [
          | inl gone ↦ stand sector o n (record { held = gone; spans = before.spans }) (record { held = comes; spans = after.spans })
          | inr here ↦ absurd (other (behind_new o here) comes)
        ]
      ]

-- ---- the leaves of a plan

at_place : (xs : List LeafRange) (i sector : ℕ) (x : LeafRange) → slice_get xs i ≡ Some x → Spans x sector → IsLeafAt xs sector x
at_place xs i sector x there spans = record { held = (i, slice_get_within xs i x there, get_or_from_slice_get xs i x x there); spans = spans }

one_goes : (xs : List LeafRange) (e : Exchange) (at : ℕ) (x y : LeafRange) → e.place ≡ at → e.gone ≡ 1 → slice_get xs at ≡ Some x → Contains (going xs e) y → y ≡ x
one_goes xs e at x y place gone there goes =
    one_is x y (subst (λ (zs : List LeafRange). Contains zs y) (ap (λ n. take n (drop e.place xs)) gone ∙ ap (λ n. take 1 (drop n xs)) place ∙ one_there xs at x there) goes)

two_go : (xs : List LeafRange) (e : Exchange) (at : ℕ) (x y z : LeafRange) → e.place ≡ at → e.gone ≡ 2 → slice_get xs at ≡ Some x → slice_get xs (suc at) ≡ Some y → Contains (going xs e) z → (z ≡ x) ⊎ (z ≡ y)
two_go xs e at x y z place gone one two goes =
    two_are x y z (subst (λ (zs : List LeafRange). Contains zs z) (ap (λ n. take n (drop e.place xs)) gone ∙ ap (λ n. take 2 (drop n xs)) place ∙ two_there xs at x y one two) goes)

one_comes : (e : Exchange) (y : LeafRange) → option_to_list e.second ≡ [] → Contains (coming e) y → y ≡ e.first
one_comes e y alone comes = one_is e.first y (subst (λ (zs : List LeafRange). Contains (e.first ∷ zs) y) alone comes)

two_come : (e : Exchange) (other y : LeafRange) → e.second ≡ Some other → Contains (coming e) y → (y ≡ e.first) ⊎ (y ≡ other)
two_come e other y is comes = two_are e.first other y (subst (λ (o : Option LeafRange). Contains (e.first ∷ option_to_list o) y) is comes)

-- a leaf that moves
pub moved_stands : (s : Spine) (leaf : Leaf) (to : List Ptr) (seq parts : ℕ) (plan : Plan) → IsOfSpine s leaf → IsRewrite s parts leaf to seq plan → StandsInFor s.leaves leaf plan
moved_stands s leaf to seq parts plan of is keys has sector o n goes comes =
    let e = plan.leaves in
    let moved = is.moves.leaves_are in
    let there = is.stands.there in
    let range = of.range is.place.leaf is.place.range there is.stands.spans in
    let same : moved.leaf ≡ is.place.range = let one = moved.there in cc in
    let old_is = one_goes s.leaves e is.place.leaf is.place.range o moved.at moved.gone there goes.held in
    let new_is = one_comes e n moved.alone comes.held in
    let begins : n.from ≡ leaf.from = ap (λ (l : LeafRange). l.from) new_is ∙ moved.moved.begins ∙ ap (λ (l : LeafRange). l.from) same ∙ range.0 in
    let ends : n.end ≡ leaf.end = ap (λ (l : LeafRange). l.end) new_is ∙ moved.moved.ends ∙ ap (λ (l : LeafRange). l.end) same ∙ range.1 in
    give_between (keys o.number) (keys_next keys plan n.number) leaf.keys plan.first.keys sector
    (ap (λ (l : LeafRange). keys l.number) old_is ∙ has is.place.range (at_place s.leaves is.place.leaf leaf.from is.place.range there is.stands.spans))
    (ap (λ (l : LeafRange). keys_next keys plan l.number) new_is ∙ first_keys keys plan)
    (coming_gives leaf.keys leaf.from leaf.end is.ptr seq plan.first sector is.leaf_comes (omega (arith, comes.spans.0, begins)) (omega (arith, comes.spans.1, ends)))

-- a leaf that is split
split_leaves : (s : Spine) (place : LeafPlace) (node : Inner) (low high : Leaf) (to : List Ptr) (seq : ℕ) (plan : Plan) → IsMadeSplit s place node low high to seq plan → IsSplit s.leaves place.leaf low.end low.ptr high.ptr plan.leaves × (plan.second ≡ Some high)
split_leaves s place node low high to seq plan (inl is) = (is.1.leaves_are, is.1.second_is)
split_leaves s place node low high to seq plan (inr is) = (is.1.leaves_are, is.1.second_is)

second_number : (xs : List LeafRange) (e : Exchange) (place cut : ℕ) (low high : Ptr) (other : LeafRange) → IsSplit xs place cut low high e → e.second ≡ Some other → e.first.number < other.number
second_number xs e place cut low high other is has = go e.second has is.numbers.second
  where
    go : (o : Option LeafRange) → o ≡ Some other → IfSome o (λ l. IsLeastFree xs (suc e.first.number) l.number) → e.first.number < other.number
    go None given least = absurd (cc)
    go (Some l) given least = let same : l ≡ other = cc in omega (arith, least.from, ap (λ (x : LeafRange). x.number) same)

pub split_stands : (s : Spine) (leaf : Leaf) (to : List Ptr) (seq : ℕ) (plan : Plan) → IsOfSpine s leaf → IsLeafSplit s leaf to seq plan → StandsInFor s.leaves leaf plan
split_stands s leaf to seq plan of is keys has sector o n goes comes =
    let e = plan.leaves in
    let made = split_leaves s is.place is.stands.parent plan.first is.high (drop 2 to) ((seq + 2) % 2 ^ 64) plan is.moves in
    let split = made.0 in
    let there = is.stands.there in
    let range = of.range is.place.leaf is.place.range there is.stands.spans in
    let same : split.leaf ≡ is.place.range = let one = split.there in cc in
    let old_is = one_goes s.leaves e is.place.leaf is.place.range o split.at split.gone there goes.held in
    let old_keys = ap (λ (l : LeafRange). keys l.number) old_is ∙ has is.place.range (at_place s.leaves is.place.leaf leaf.from is.place.range there is.stands.spans) in
    let cut = is.halves.low_comes.is.ends in
    let other = split.second.0 in
    let high = split.second.2 in
    elim (two_come e other n split.second.1 comes.held) [
      | inl first ↦
          (let begins : n.from ≡ leaf.from = ap (λ (l : LeafRange). l.from) first ∙ split.first.begins ∙ ap (λ (l : LeafRange). l.from) same ∙ range.0 in
          let ends : n.end ≡ is.cut = ap (λ (l : LeafRange). l.end) first ∙ split.first.ends ∙ cut in
          give_between (keys o.number) (keys_next keys plan n.number) leaf.keys plan.first.keys sector old_keys
          (ap (λ (l : LeafRange). keys_next keys plan l.number) first ∙ first_keys keys plan)
          (coming_gives leaf.keys leaf.from is.cut is.halves.low_ptr seq plan.first sector is.halves.low_comes (omega (arith, comes.spans.0, begins)) (omega (arith, comes.spans.1, ends))))
      | inr second ↦
          (let begins : n.from ≡ is.cut = ap (λ (l : LeafRange). l.from) second ∙ high.begins ∙ cut in
          let ends : n.end ≡ leaf.end = ap (λ (l : LeafRange). l.end) second ∙ high.ends ∙ ap (λ (l : LeafRange). l.end) same ∙ range.1 in
          give_between (keys o.number) (keys_next keys plan n.number) leaf.keys is.high.keys sector old_keys
          (ap (λ (l : LeafRange). keys_next keys plan l.number) second
          ∙ second_keys keys plan other is.high split.second.1 made.1 (second_number s.leaves e is.place.leaf plan.first.end plan.first.ptr is.high.ptr other split split.second.1))
          (coming_gives leaf.keys is.cut leaf.end is.halves.high_ptr ((seq + 1) % 2 ^ 64) is.high sector is.halves.high_comes (omega (arith, comes.spans.0, begins)) (omega (arith, comes.spans.1, ends))))
    ]

-- two leaves that become one
join_leaves : (s : Spine) (place : LeafPlace) (node : Inner) (next : ℕ) (first : Leaf) (to : List Ptr) (seq : ℕ) (plan : Plan) → IsMadeJoin s place node next first to seq plan → IsMerged s.leaves place.leaf first.ptr plan.leaves
join_leaves s place node next first to seq plan (inl is) = is.1.leaves_are
join_leaves s place node next first to seq plan (inr is) = is.1.leaves_are

pub merge_stands : (s : Spine) (b : ℕ) (left right : Leaf) (to : List Ptr) (seq : ℕ) (plan : Plan) → IsRow 0 s.leaves b → IsOfSpine s left → IsOfSpine s right → left.end ≡ right.from
    → AreWithin left.from left.end left.keys → AreWithin right.from right.end right.keys → IsLeafMerge s left right to seq plan → StandsInForBoth s.leaves left right plan
merge_stands s b left right to seq plan row of of_right beside within within_right is keys has has_right sector o n goes comes =
    let e = plan.leaves in
    let merged = join_leaves s is.place is.stands.parent right.from plan.first (drop 1 to) ((seq + 1) % 2 ^ 64) plan is.moves in
    let there = is.stands.there in
    let range = of.range is.place.leaf is.place.range there is.stands.spans in
    let same : merged.left ≡ is.place.range = let one = merged.there.0 in cc in
    let next = row_next 0 b s.leaves is.place.leaf merged.left merged.right row merged.there.0 merged.there.1 in
    let meets : merged.right.from ≡ right.from = next.0 ∙ ap (λ (l : LeafRange). l.end) same ∙ range.1 ∙ beside in
    let spans : Spans merged.right right.from = (omega (arith, meets), omega (arith, meets, next.1)) in
    let new_is = one_comes e n merged.alone comes.held in
    let new_keys = ap (λ (l : LeafRange). keys_next keys plan l.number) new_is ∙ first_keys keys plan in
    let last = is.leaf_comes.last in
    elim (two_go s.leaves e is.place.leaf merged.left merged.right o merged.at merged.gone merged.there.0 merged.there.1 goes.held) [
      | inl low ↦
          (let low_is = low ∙ same in
          let ends : o.end ≡ right.from = ap (λ (l : LeafRange). l.end) low_is ∙ range.1 ∙ beside in
          give_between (keys o.number) (keys_next keys plan n.number) left.keys plan.first.keys sector
          (ap (λ (l : LeafRange). keys l.number) low_is ∙ has is.place.range (at_place s.leaves is.place.leaf left.from is.place.range there is.stands.spans)) new_keys
          (first_gives right.from right.end left.keys right.keys plan.first.keys sector within_right last (omega (arith, goes.spans.1, ends))))
      | inr high ↦
          (let begins : o.from ≡ right.from = ap (λ (l : LeafRange). l.from) high ∙ meets in
          give_between (keys o.number) (keys_next keys plan n.number) right.keys plan.first.keys sector
          (ap (λ (l : LeafRange). keys l.number) high ∙ has_right merged.right (at_place s.leaves (suc is.place.leaf) right.from merged.right merged.there.1 spans)) new_keys
          (second_gives left.from left.end left.keys right.keys plan.first.keys sector within last (omega (arith, goes.spans.0, begins, beside))))
    ]
