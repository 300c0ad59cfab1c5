-- Look-ups after several calls.
use Rattle.std.proofs.Common.{◌≡◌, ℕ, ◌+◌, ◌&&◌, Bool, true, false, List, [], ◌∷◌, ◌++◌, Option, Some, None, refl, sym, ap, ◌∙◌, subst, arith, if◌then◌else◌}
use Rattle.std.specs.Prelude.{MatchOption, IsSomeAnd, nat_le, nat_lt}
use Rattle.std.specs.Option.{option_or}
use Rattle.std.proofs.lemmas.Option.{same_Some}
use Rattle.bc_key.specs.declared.key.Key.{Key}
use Rattle.bc_key.specs.Key.{start_of, IsExtent}
use Rattle.bc_extent.specs.LastKey.{covers, last_key}
use Rattle.bc_extent.specs.Extents.{IsInOrder, IsPart, IsRest, Shows, overlaid, erased}
use Rattle.bc_extent.specs.Inserts.{AreInserted}
use Rattle.bc_extent.specs.Calls.{Change, inserted, taken_out, AreChanged, changed, changed_by, last_key_over, with_pointer, live, GivesParts}
use Rattle.bc_extent.proofs.LastKeys.{last_key-push}
use Rattle.bc_extent.proofs.Shown.{shows_same}
use Rattle.bc_extent.proofs.Composed.{composed, erase_composed}

pub insert_composed : (look : ℕ → Option Key) (old new : List Key) (key : Key) → IsInOrder old → Shows look old → Shows (last_key (old ++ key ∷ [])) new → Shows (changed (inserted key) look) new
insert_composed look old new key order shown shows =
    composed look old order shown (start_of key) key.end (Some key) (λ k is. let same = same_Some key k is in (sym (ap start_of same), sym (ap (λ (x : Key). x.end) same))) new
    (shows_same (last_key (old ++ key ∷ [])) (overlaid (start_of key) key.end (Some key) (last_key old)) new (last_key-push old key) shows)

pub changes_composed : (look : ℕ → Option Key) (changes : List Change) (old new : List Key) → IsInOrder old → Shows look old → AreChanged changes old new → Shows (changed_by changes look) new × IsInOrder new
changes_composed look [] old new order shown is = (subst (Shows look) (sym is) shown, subst IsInOrder (sym is) order)
changes_composed look (inserted key ∷ changes) old new order shown run = changes_composed (changed (inserted key) look) changes run.0 new run.1.0 (insert_composed look old run.0 key order shown run.1.1) run.2
changes_composed look (taken_out first count ∷ changes) old new order shown run = changes_composed (erased first count look) changes run.0 new run.1.0 (erase_composed look old run.0 first count order shown run.1.1) run.2

-- ---- lists one after another

or_if : (found other : Option Key) (b : Bool) (key : Key) → option_or found (if b then Some key else other) ≡ option_or (option_or found (if b then Some key else None)) other
or_if (Some k) other b key = refl
or_if None other true key = refl
or_if None other false key = refl

or_assoc : (a b c : Option Key) → option_or (option_or a b) c ≡ option_or a (option_or b c)
or_assoc (Some k) b c = refl
or_assoc None b c = refl

or_nothing : (a : Option Key) → a ≡ option_or a None
or_nothing (Some k) = refl
or_nothing None = refl

pub inserts_composed : (look : ℕ → Option Key) (keys old new : List Key) → IsInOrder old → Shows look old → AreInserted keys old new → Shows (last_key_over keys look) new
inserts_composed look [] old new order shown is = subst (Shows look) (sym is) shown
inserts_composed look (key ∷ keys) old new order shown run =
    shows_same (last_key_over keys (changed (inserted key) look)) (last_key_over (key ∷ keys) look) new (λ sector. or_if (last_key keys sector) (look sector) (covers key sector) key)
    (inserts_composed (changed (inserted key) look) keys run.0 new run.1 (insert_composed look old run.0 key order shown run.2) run.3)

pub last_key-append : (one two : List Key) (sector : ℕ) → last_key (one ++ two) sector ≡ last_key_over two (last_key one) sector
last_key-append [] two sector = or_nothing (last_key two sector)
last_key-append (key ∷ keys) two sector =
    ap (λ later. option_or later (if covers key sector then Some key else None)) (last_key-append keys two sector)
    ∙ or_assoc (last_key two sector) (last_key keys sector) (if covers key sector then Some key else None)

-- ---- keys without pointers

pub shows_live : (look : ℕ → Option Key) (keys : List Key) → Shows look keys → GivesParts (live look) (live (last_key keys))
shows_live look keys shown sector = go (look sector) (last_key keys sector) (shown sector)
  where
    go : (given found : Option Key) → MatchOption given (found ≡ None) (λ whole. IsSomeAnd found (IsRest look whole)) → MatchOption (with_pointer given) (with_pointer found ≡ None) (λ whole. IsSomeAnd (with_pointer found) (IsPart whole))
    go None found is = ap with_pointer is
    go (Some whole) None rest = absurd rest
    go (Some whole) (Some part) rest =
        subst (λ n. MatchOption (with_pointer (Some whole)) ((if nat_lt 0 n then Some part else None) ≡ None) (λ w. IsSomeAnd (if nat_lt 0 n then Some part else None) (IsPart w))) (sym rest.cut.kind.count) (both (nat_lt 0 whole.count))
      where
        both : (b : Bool) → MatchOption (if b then Some whole else None) ((if b then Some part else None) ≡ None) (λ w. IsSomeAnd (if b then Some part else None) (IsPart w))
        both true = rest.cut
        both false = refl

pub live_erased : (look : ℕ → Option Key) (first count sector : ℕ) → live (erased first count look) sector ≡ erased first count (live look) sector
live_erased look first count sector = go (nat_le first sector && nat_lt sector (first + count))
  where
    go : (b : Bool) → with_pointer (if b then None else look sector) ≡ (if b then None else with_pointer (look sector))
    go true = refl
    go false = refl

pub live_bare : (look : ℕ → Option Key) (key : Key) (sector : ℕ) → IsExtent key → key.count ≡ 0 → live (changed (inserted key) look) sector ≡ erased (start_of key) key.size (live look) sector
live_bare look key sector extent none =
    let ends : start_of key + key.size ≡ key.end = omega arith in
    go (covers key sector) ∙ ap (λ end. if nat_le (start_of key) sector && nat_lt sector end then None else with_pointer (look sector)) (sym ends)
  where
    go : (b : Bool) → with_pointer (if b then Some key else look sector) ≡ (if b then None else with_pointer (look sector))
    go true = ap (λ n. if nat_lt 0 n then Some key else None) none
    go false = refl
