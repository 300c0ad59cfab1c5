-- What keys in memory say of a sector, in the machine's words.
use Rattle.std.proofs.Common.{◌≡◌, ℕ, suc, ◌<◌, ◌≤◌, Bool, true, false, List, [], ◌∷◌, Option, Some, None, refl, sym, ap, ◌∙◌, arith, if◌then◌else◌}
use Rattle.std.specs.Prelude.{IsSomeAnd, MatchOption, reverse}
use Rattle.std.specs.Option.{option_or}
use Rattle.std.proofs.lemmas.List.{reverse-append}
use Rattle.bc_extent.specs.Calls.{live, with_pointer}
use Rattle.bc_extent.specs.Extents.{IsInOrder, IsRest, Shows}
use Rattle.bc_extent.specs.LastKey.{covers, last_key}
use Rattle.bc_extent.proofs.LastKeys.{by_cover, last_key_found, last_key_none}
use Rattle.bc_facts.proofs.Place.{by_lt}
use Rattle.bc_facts.proofs.Stood.{all_in, in_all}
use Rattle.bc_key.specs.Key.{Covers, place_at, pointer_of, ptr_at, start_of}
use Rattle.bc_key.specs.declared.key.Key.{Key}
use Rattle.bc_leaves.specs.Keys.{last_said, ref_said}
use Rattle.bc_leaves.proofs.Said.{last_append, or_else, said_ref}
use Rattle.bc_meta.specs.Keys.{Ref, ref_by}
use Rattle.bc_remains.specs.Means.{ref_of}
use Rattle.bc_remains.proofs.Keys.{last_is}

-- ---- of a list, and of it turned round

abbrev pub said_by : Option Key → ℕ → Option (Option Ref)
said_by None s = None
said_by (Some k) s = Some (ref_by k s (pointer_of k))

pub said_is : (ks : List Key) (s : ℕ) → last_said (reverse ks) s ≡ said_by (last_key ks s) s
said_is [] s = refl
said_is (k ∷ ks) s = ap (λ (l : List Key). last_said l s) (reverse-append (k ∷ []) ks)
    ∙ last_append (reverse ks) (k ∷ []) s
    ∙ ap (λ o. or_else o (last_said (k ∷ []) s)) (said_is ks s) ∙ go (last_key ks s) (covers k s)
  where
    go : (o : Option Key) (b : Bool)
        → or_else (said_by o s) (if b then Some (ref_by k s (pointer_of k)) else None)
        ≡ said_by (option_or o (if b then Some k else None)) s
    go (Some x) b = refl
    go None true = refl
    go None false = refl

-- ---- of keys in order

or_none : (o : Option Key) → option_or o None ≡ o
or_none None = refl
or_none (Some k) = refl

rest_order : (k : Key) (ks : List Key) → IsInOrder (k ∷ ks) → IsInOrder ks
rest_order k ks order = (
  (λ j d lt. order.0 (suc j) d (omega (arith, lt))),
  (λ i j d lt inside. order.1 (suc i) (suc j) d (omega (arith, lt)) (omega (arith, inside))),
)

none_later : (k : Key) (ks : List Key) (s : ℕ) → IsInOrder (k ∷ ks) → Covers k s
    → last_key ks s ≡ None
none_later k ks s order at = last_key_none ks s (in_all (λ (y : Key). ¬ (Covers y s)) ks (λ y i c.
    let after = all_in (λ (y : Key). k.end ≤ start_of y) ks y
    (λ j d lt. order.1 0 (suc j) d (omega arith) (omega (arith, lt))) i in
    let low = at.1 in let high = c.0 in omega (arith, after, low, high)))

pub ordered_said : (ks : List Key) (s : ℕ) → IsInOrder ks
    → last_said ks s ≡ said_by (last_key ks s) s
ordered_said [] s order = refl
ordered_said (k ∷ ks) s order = by_cover k s
    (λ b. (if b then Some (ref_by k s (pointer_of k)) else last_said ks s)
    ≡ said_by (option_or (last_key ks s) (if b then Some k else None)) s)
    (λ at. sym (ap (λ o. said_by (option_or o (Some k)) s) (none_later k ks s order at)))
    (λ off. ordered_said ks s (rest_order k ks order)
    ∙ sym (ap (λ o. said_by o s) (or_none (last_key ks s))))

-- ---- of a part of a key

abbrev made : Bool → ℕ → ℕ → ℕ → Ref
made dirty dev place generation =
    record { dirty = dirty; dev = dev; place = place; generation = generation }

with_ptr : (k : Key) → 0 < k.count → pointer_of k ≡ Some (ptr_at k 0)
with_ptr k some = by_lt 0 k.count
    (λ b. (if b then Some (ptr_at k 0) else None) ≡ Some (ptr_at k 0)) (λ _. refl)
    (λ none. absurd (omega (arith, none, some)))

without_ptr : (k : Key) → k.count ≤ 0 → pointer_of k ≡ None
without_ptr k none = by_lt 0 k.count (λ b. (if b then Some (ptr_at k 0) else None) ≡ None)
    (λ some. absurd (omega (arith, none, some))) (λ _. refl)

part_says : (look : ℕ → Option Key) (whole part : Key) (s : ℕ) → IsRest look whole part
    → Covers part s → ref_by part s (pointer_of part) ≡ ref_by whole s (pointer_of whole)
part_says look whole part s rest at = by_lt 0 whole.count
    (λ b. ref_by part s (pointer_of part)
    ≡ ref_by whole s (if b then Some (ptr_at whole 0) else None))
    (λ some. (let count = rest.cut.kind.count in
    let device = rest.cut.devices 0 some in
    let own = ptr_at part 0 in
    let old = ptr_at whole 0 in
    ap (ref_by part s) (with_ptr part (omega (arith, count, some)))
    ∙ ap (λ d. Some (made d own.dev (place_at part 0 s) own.generation)) rest.cut.kind.dirty
    ∙ ap (λ n. Some (made whole.dirty n (place_at part 0 s) own.generation)) device.dev
    ∙ ap (λ n. Some (made whole.dirty old.dev n own.generation)) (rest.cut.places s 0 at some)
    ∙ ap (λ n. Some (made whole.dirty old.dev (place_at whole 0 s) n)) device.generation))
    (λ none. (let count = rest.cut.kind.count in
    ap (ref_by part s) (without_ptr part (omega (arith, count, none)))))

-- ---- of keys that show a look-up

pub shown_said : (list keys : List Key) (s : ℕ) → Shows (last_key list) keys
    → said_by (last_key keys s) s ≡ said_by (last_key list s) s
shown_said list keys s shown = go (last_key list s) (last_key keys s) refl (shown s)
  where
    go : (o q : Option Key) → last_key keys s ≡ q
        → MatchOption o (q ≡ None) (λ whole. IsSomeAnd q (IsRest (last_key list) whole))
        → said_by q s ≡ said_by o s
    go None q e m = ap (λ o. said_by o s) m
    go (Some whole) None e m = absurd m
    go (Some whole) (Some part) e m =
        ap Some (part_says (last_key list) whole part s m (last_key_found keys s part e).1)

pub shown_ref : (list keys : List Key) (s : ℕ) → Shows (live (last_key list)) keys
    → ref_of (last_key keys s) s ≡ ref_of (last_key list s) s
shown_ref list keys s shown = go (last_key list s) (last_key keys s) refl (shown s)
  where
    look : ℕ → Option Key
    look = live (last_key list)

    if_shown : (whole : Key) (q : Option Key) → last_key keys s ≡ q
        → IsSomeAnd q (IsRest look whole) → ref_of q s ≡ ref_by whole s (pointer_of whole)
    if_shown whole None e m = absurd m
    if_shown whole (Some part) e m = part_says look whole part s m (last_key_found keys s part e).1

    go : (o q : Option Key) → last_key keys s ≡ q
        → MatchOption (with_pointer o) (q ≡ None) (λ whole. IsSomeAnd q (IsRest look whole))
        → ref_of q s ≡ ref_of o s
    go None q e m = ap (λ o. ref_of o s) m
    go (Some whole) q e m = by_lt 0 whole.count
        (λ b. MatchOption (if b then Some whole else None) (q ≡ None)
        (λ w. IsSomeAnd q (IsRest look w)) → ref_of q s ≡ ref_by whole s (pointer_of whole))
        (λ some h. if_shown whole q e h)
        (λ none h. ap (λ o. ref_of o s) h ∙ sym (ap (ref_by whole s) (without_ptr whole none))) m

-- ---- both together

said_of : (o : Option Key) (s : ℕ) → ref_said (said_by o s) ≡ ref_of o s
said_of None s = refl
said_of (Some k) s = refl

pub keys_say : (list keys : List Key) (s : ℕ) → IsInOrder keys → Shows (live (last_key list)) keys
    → ref_said (last_said keys s) ≡ ref_said (last_said (reverse list) s)
keys_say list keys s order shown =
    ap ref_said (ordered_said keys s order) ∙ said_of (last_key keys s) s
    ∙ shown_ref list keys s shown ∙ last_is list s ∙ sym (said_ref (reverse list) s)

pub pending_say : (list keys : List Key) (s : ℕ) → IsInOrder keys → Shows (last_key list) keys
    → last_said keys s ≡ last_said (reverse list) s
pending_say list keys s order shown =
    ordered_said keys s order ∙ shown_said list keys s shown ∙ sym (said_is list s)
