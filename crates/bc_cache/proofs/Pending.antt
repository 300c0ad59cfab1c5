-- What is pending stands for all that was added.
use Rattle.std.proofs.Common.{◌≡◌, inl, inr, ℕ, ◌+◌, ◌-◌, ◌<◌, ◌≤◌, Bool, true, false, List, ◌++◌, Option, Some, None, refl, sym, ap, subst, ◌∙◌, arith, if◌then◌else◌}
use Rattle.std.specs.Prelude.{Contains, IsSomeAnd, MatchOption, nat_lt}
use Rattle.std.specs.Option.{option_or}
use Rattle.std.proofs.lemmas.Bool.{cases_lt}
use Rattle.std.proofs.lemmas.List.Elements.{All-contains}
use Rattle.bc_extent.specs.Calls.{live, with_pointer}
use Rattle.bc_extent.specs.Extents.{IsRest}
use Rattle.bc_extent.specs.LastKey.{last_key}
use Rattle.bc_extent.proofs.LastKeys.{last_key_at, last_key_found, none_covers}
use Rattle.bc_extent.proofs.Looks.{last_key-append}
use Rattle.bc_extent.proofs.Shown.{shows_itself, shows_same}
use Rattle.bc_key.specs.Key.{Covers, start_of}
use Rattle.bc_key.specs.declared.key.Key.{Key}
use Rattle.bc_node.specs.Leaf.{AreLast, AreLastOfAll}

-- a key that has a pointer is the one that was looked up
key_is : (o : Option Key) (key : Key) → with_pointer o ≡ Some key → (o ≡ Some key) × (nat_lt 0 key.count ≡ true)
key_is None key is = absurd (cc)
key_is (Some found) key is = go (nat_lt 0 found.count) refl is
  where
    go : (b : Bool) → nat_lt 0 found.count ≡ b → (if b then Some found else None) ≡ Some key → (Some found ≡ Some key) × (nat_lt 0 key.count ≡ true)
    go true some e = let same : found ≡ key = cc in (e, ap (λ (k : Key). nat_lt 0 k.count) (sym same) ∙ some)
    go false some e = absurd (cc)

has_pointer : (key : Key) → nat_lt 0 key.count ≡ true → with_pointer (Some key) ≡ Some key
has_pointer key some = ap (λ b. if b then Some key else None) some

abbrev IsShown : (ℕ → Option Key) → List Key → ℕ → Type 0
IsShown look keys sector = MatchOption (look sector) (last_key keys sector ≡ None) (λ whole. IsSomeAnd (last_key keys sector) (IsRest look whole))

some_shown : (look : ℕ → Option Key) (keys : List Key) (sector : ℕ) (whole : Key) → IsShown look keys sector → look sector ≡ Some whole → (part : Key) × (last_key keys sector ≡ Some part) × IsRest look whole part
some_shown look keys sector whole shown is = go (last_key keys sector) refl (subst (λ given. MatchOption given (last_key keys sector ≡ None) (λ w. IsSomeAnd (last_key keys sector) (IsRest look w))) is shown)
  where
    go : (found : Option Key) → last_key keys sector ≡ found → IsSomeAnd found (IsRest look whole) → (part : Key) × (last_key keys sector ≡ Some part) × IsRest look whole part
    go None has rest = absurd rest
    go (Some part) has rest = (part, has, rest)

none_shown : (look : ℕ → Option Key) (keys : List Key) (sector : ℕ) → IsShown look keys sector → look sector ≡ None → last_key keys sector ≡ None
none_shown look keys sector shown is = subst (λ given. MatchOption given (last_key keys sector ≡ None) (λ w. IsSomeAnd (last_key keys sector) (IsRest look w))) is shown

shown_some : (look : ℕ → Option Key) (keys : List Key) (sector : ℕ) (whole part : Key) → look sector ≡ Some whole → last_key keys sector ≡ Some part → IsRest look whole part → IsShown look keys sector
shown_some look keys sector whole part is has rest =
    subst (λ given. MatchOption given (last_key keys sector ≡ None) (λ w. IsSomeAnd (last_key keys sector) (IsRest look w))) (sym is)
    (subst (λ found. IsSomeAnd found (IsRest look whole)) (sym has) rest)

shown_none : (look : ℕ → Option Key) (keys : List Key) (sector : ℕ) → look sector ≡ None → last_key keys sector ≡ None → IsShown look keys sector
shown_none look keys sector is has = subst (λ given. MatchOption given (last_key keys sector ≡ None) (λ w. IsSomeAnd (last_key keys sector) (IsRest look w))) (sym is) has

module _ (xs more pending keys : List Key) (last : AreLast (xs ++ more) keys) (added : AreLastOfAll more pending) where
  -- the look-up by what was added, and by what is pending
  abbrev look : ℕ → Option Key
  look = live (last_key (xs ++ more))

  abbrev other : ℕ → Option Key
  other = live (last_key (xs ++ pending))

  look_is : (t : ℕ) → look t ≡ with_pointer (option_or (last_key more t) (last_key xs t))
  look_is t = ap with_pointer (last_key-append xs more t)

  other_is : (t : ℕ) → other t ≡ with_pointer (option_or (last_key pending t) (last_key xs t))
  other_is t = ap with_pointer (last_key-append xs pending t)

  look_old : (t : ℕ) → last_key more t ≡ None → look t ≡ with_pointer (last_key xs t)
  look_old t none = look_is t ∙ ap (λ (o : Option Key). with_pointer (option_or o (last_key xs t))) none

  look_new : (t : ℕ) (key : Key) → last_key more t ≡ Some key → look t ≡ with_pointer (Some key)
  look_new t key some = look_is t ∙ ap (λ (o : Option Key). with_pointer (option_or o (last_key xs t))) some

  other_new : (t : ℕ) (key : Key) → last_key pending t ≡ Some key → other t ≡ with_pointer (Some key)
  other_new t key some = other_is t ∙ ap (λ (o : Option Key). with_pointer (option_or o (last_key xs t))) some

  -- where nothing was added, nothing is pending
  same : (t : ℕ) → last_key more t ≡ None → other t ≡ look t
  same t none = other_is t ∙ ap (λ (o : Option Key). with_pointer (option_or o (last_key xs t))) (none_shown (last_key more) pending t (added.shown t) none) ∙ sym (look_old t none)

  covered : (t : ℕ) (key : Key) → other t ≡ Some key → Covers key t
  covered t key is = (last_key_found (xs ++ pending) t key (key_is (last_key (xs ++ pending) t) key is).0).1

  -- an older key, at a sector for which nothing was added
  module _ (s : ℕ) (none : last_key more s ≡ None) (whole part : Key) (is : look s ≡ Some whole) (rest : IsRest look whole part) where
    hit : Covers whole s
    hit = (last_key_found xs s whole (key_is (last_key xs s) whole (sym (look_old s none) ∙ is)).0).1

    not_added : Contains more whole → ⊥
    not_added here = All-contains (λ (k : Key). ¬ (Covers k s)) more whole (none_covers more s none) here hit

    not_pending : Contains pending whole → ⊥
    not_pending here = All-contains (λ (k : Key). ¬ (Covers k s)) pending whole (none_covers pending s (none_shown (last_key more) pending s (added.shown s) none)) here hit

    stays : (t : ℕ) → look t ≡ Some whole → other t ≡ Some whole
    stays t gives = go (last_key more t) refl
      where
        go : (m : Option Key) → last_key more t ≡ m → other t ≡ Some whole
        go None absent = same t absent ∙ gives
        go (Some key) some =
            let at = key_is (Some key) whole (sym (look_new t key some) ∙ gives) in
            absurd (not_added (last_key_found more t whole (some ∙ at.0)).0)

    comes : (t : ℕ) → other t ≡ Some whole → look t ≡ Some whole
    comes t gives = go (last_key more t) refl
      where
        go : (m : Option Key) → last_key more t ≡ m → look t ≡ Some whole
        go None absent = sym (same t absent) ∙ gives
        go (Some key) some =
            let piece = some_shown (last_key more) pending t key (added.shown t) some in
            let at = key_is (Some piece.0) whole (sym (other_new t piece.0 piece.1) ∙ gives) in
            absurd (not_pending (last_key_found pending t whole (piece.1 ∙ at.0)).0)

    old_rest : IsRest other whole part
    old_rest = record {
      cut = rest.cut;
      inside = λ t covers. stays t (rest.inside t covers);
      before = λ t next gives. rest.before t next (comes t gives);
      behind = λ gives. rest.behind (comes part.end gives);
    }

  -- a key that was added
  module _ (s : ℕ) (whole piece part : Key) (some : last_key more s ≡ Some whole) (has : last_key pending s ≡ Some piece) (shown : IsRest (last_key more) whole piece) (pointer : nat_lt 0 whole.count ≡ true)
      (holds : last_key keys s ≡ Some part) (rest : IsRest look whole part) where
    gives : (t : ℕ) → last_key more t ≡ Some whole → look t ≡ Some whole
    gives t is = look_new t whole is ∙ has_pointer whole pointer

    comes_from : (t : ℕ) → look t ≡ Some whole → last_key more t ≡ Some whole
    comes_from t is = go (last_key more t) refl
      where
        go : (m : Option Key) → last_key more t ≡ m → last_key more t ≡ Some whole
        go None none =
            let old = (key_is (last_key xs t) whole (sym (look_old t none) ∙ is)).0 in
            absurd (All-contains (λ (k : Key). ¬ (Covers k t)) more whole (none_covers more t none) (last_key_found more s whole some).0 (last_key_found xs t whole old).1)
        go (Some key) found = found ∙ (key_is (Some key) whole (sym (look_new t key found) ∙ is)).0

    in_part : Covers part s
    in_part = (last_key_found keys s part holds).1

    in_piece : Covers piece s
    in_piece = (last_key_found pending s piece has).1

    begins : start_of piece ≤ start_of part
    begins = elim (cases_lt (start_of part) (start_of piece)) [
      | inl less ↦
          (let t = start_of piece - 1 in
          absurd (shown.before t (omega (arith, less)) (comes_from t (rest.inside t (omega (arith, less), omega (arith, in_piece.0, in_part.1, less))))))
      | inr most ↦ most
    ]

    ends : part.end ≤ piece.end
    ends = elim (cases_lt piece.end part.end) [
      | inl less ↦ absurd (shown.behind (comes_from piece.end (rest.inside piece.end (omega (arith, in_part.0, in_piece.1), less))))
      | inr most ↦ most
    ]

    within : (t : ℕ) → Covers part t → Covers piece t
    within t at = (omega (arith, begins, at.0), omega (arith, ends, at.1))

    piece_pointer : nat_lt 0 piece.count ≡ true
    piece_pointer = ap (λ n. nat_lt 0 n) shown.cut.kind.count ∙ pointer

    other_gives : (t : ℕ) → Covers piece t → other t ≡ Some piece
    other_gives t at = other_new t piece (last_key_at pending t piece added.order (last_key_found pending s piece has).0 at) ∙ has_pointer piece piece_pointer

    new_rest : IsRest other piece part
    new_rest = record {
      cut = record {
        kind = record {
          inode = rest.cut.kind.inode ∙ sym shown.cut.kind.inode;
          dirty = rest.cut.kind.dirty ∙ sym shown.cut.kind.dirty;
          csum = rest.cut.kind.csum ∙ sym shown.cut.kind.csum;
          count = rest.cut.kind.count ∙ sym shown.cut.kind.count;
        };
        from = begins;
        to = ends;
        devices = λ i inside.
            let inner : i < whole.count = (let same_count = shown.cut.kind.count in omega arith) in
            record { dev = (rest.cut.devices i inner).dev ∙ sym (shown.cut.devices i inner).dev; generation = (rest.cut.devices i inner).generation ∙ sym (shown.cut.devices i inner).generation };
        places = λ t i at inside.
            let inner : i < whole.count = (let same_count = shown.cut.kind.count in omega arith) in
            rest.cut.places t i at inner ∙ sym (shown.cut.places t i (within t at) inner);
      };
      inside = λ t at. other_gives t (within t at);
      before = λ t next is. rest.before t next (gives t (shown.inside t (covered t piece is)));
      behind = λ is. rest.behind (gives part.end (shown.inside part.end (covered part.end piece is)));
    }

  -- a part of a key without pointers has none
  bare : (whole piece : Key) (s : ℕ) → last_key pending s ≡ Some piece → piece.count ≡ whole.count → with_pointer (Some whole) ≡ None → other s ≡ None
  bare whole piece s has count none = other_new s piece has ∙ go (nat_lt 0 whole.count) (ap (λ n. nat_lt 0 n) count) none
    where
      go : (b : Bool) → nat_lt 0 piece.count ≡ b → (if b then Some whole else None) ≡ None → with_pointer (Some piece) ≡ None
      go true is e = absurd (cc)
      go false is e = ap (λ b. if b then Some piece else None) is

  pub pending_last : AreLast (xs ++ pending) keys
  pending_last = record { order = last.order; shown = point }
    where
      point : (s : ℕ) → IsShown other keys s
      point s = go (last_key more s) refl (look s) refl
        where
          go : (m : Option Key) → last_key more s ≡ m → (given : Option Key) → look s ≡ given → IsShown other keys s
          go None none None is = shown_none other keys s (same s none ∙ is) (none_shown look keys s (last.shown s) is)
          go None none (Some whole) is =
              let at = some_shown look keys s whole (last.shown s) is in
              shown_some other keys s whole at.0 (same s none ∙ is) at.1 (old_rest s none whole at.0 is at.2)
          go (Some whole) some None is =
              let piece = some_shown (last_key more) pending s whole (added.shown s) some in
              shown_none other keys s (bare whole piece.0 s piece.1 piece.2.cut.kind.count (sym (look_new s whole some) ∙ is)) (none_shown look keys s (last.shown s) is)
          go (Some whole) some (Some given) is =
              let piece = some_shown (last_key more) pending s whole (added.shown s) some in
              let found = key_is (Some whole) given (sym (look_new s whole some) ∙ is) in
              let same_key : whole ≡ given = (let e = found.0 in cc) in
              let pointer = ap (λ (k : Key). nat_lt 0 k.count) same_key ∙ found.1 in
              let at = some_shown look keys s whole (last.shown s) (is ∙ sym found.0) in
              shown_some other keys s piece.0 at.0 (other_gives s whole piece.0 at.0 some piece.1 piece.2 pointer at.1 at.2 s (last_key_found pending s piece.0 piece.1).1) at.1
              (new_rest s whole piece.0 at.0 some piece.1 piece.2 pointer at.1 at.2)

-- the last keys of a list are those of themselves
pub keys_last : (list keys : List Key) → AreLast list keys → AreLast keys keys
keys_last list keys last = record {
  order = last.order;
  shown = shows_same (last_key keys) (live (last_key keys)) keys (λ sector. go sector (last_key keys sector) refl) (shows_itself keys last.order);
}
  where
    go : (sector : ℕ) (found : Option Key) → last_key keys sector ≡ found → last_key keys sector ≡ with_pointer (last_key keys sector)
    go sector None is = is ∙ sym (ap with_pointer is)
    go sector (Some key) is = is ∙ sym (ap with_pointer is ∙ has_pointer key (pointer (live (last_key list) sector) refl))
      where
        pointer : (given : Option Key) → live (last_key list) sector ≡ given → nat_lt 0 key.count ≡ true
        pointer None none = let absent = none_shown (live (last_key list)) keys sector (last.shown sector) none in absurd (cc)
        pointer (Some whole) some =
            let at = some_shown (live (last_key list)) keys sector whole (last.shown sector) some in
            let same : at.0 ≡ key = (let e = at.1 in cc) in
            ap (λ (k : Key). nat_lt 0 k.count) (sym same) ∙ ap (λ n. nat_lt 0 n) at.2.cut.kind.count ∙ (key_is (last_key list sector) whole some).1
