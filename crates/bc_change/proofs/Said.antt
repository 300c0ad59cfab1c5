-- Leaves that give the same last keys say the same of a sector.
use Rattle.std.proofs.Common.{◌≡◌, ℕ, suc, ◌<◌, ◌≤◌, Bool, List, [], ◌∷◌, Option, Some, None, refl, sym, ap, ◌∙◌, arith, if◌then◌else◌}
use Rattle.std.specs.Prelude.{IsSomeAnd, MatchOption}
use Rattle.std.specs.Option.{option_or}
use Rattle.bc_extent.specs.Calls.{live, with_pointer}
use Rattle.bc_extent.specs.Extents.{IsInOrder, IsPart}
use Rattle.bc_extent.specs.LastKey.{last_key}
use Rattle.bc_extent.proofs.LastKeys.{by_cover, last_key_found, last_key_none}
use Rattle.bc_facts.proofs.Place.{by_lt}
use Rattle.bc_facts.proofs.Stood.{all_in, in_all}
use Rattle.bc_key.specs.Key.{Covers, place_at, pointer_of, ptr_at, start_of}
use Rattle.bc_key.specs.declared.key.Key.{Key}
use Rattle.bc_leaves.specs.Keys.{last_said, ref_said}
use Rattle.bc_meta.specs.Keys.{Ref, ref_by}
use Rattle.bc_tree.specs.LastKeys.{GiveSame}

-- ---- keys in order

abbrev said_by : Option Key → ℕ → Option (Option Ref)
said_by None s = None
said_by (Some k) s = Some (ref_by k s (pointer_of k))

or_none : (o : Option Key) → option_or o None ≡ o
or_none None = refl
or_none (Some k) = refl

rest_order : (k : Key) (ks : List Key) → IsInOrder (k ∷ ks) → IsInOrder ks
rest_order k ks order = (
  (λ j d lt. order.0 (suc j) d (omega (arith, lt))),
  (λ i j d lt inside. order.1 (suc i) (suc j) d (omega (arith, lt)) (omega (arith, inside))),
)

none_later : (k : Key) (ks : List Key) (s : ℕ) → IsInOrder (k ∷ ks) → Covers k s
    → last_key ks s ≡ None
none_later k ks s order at = last_key_none ks s (in_all (λ (y : Key). ¬ (Covers y s)) ks (λ y i c.
    let after = all_in (λ (y : Key). k.end ≤ start_of y) ks y
    (λ j d lt. order.1 0 (suc j) d (omega arith) (omega (arith, lt))) i in
    let low = at.1 in let high = c.0 in omega (arith, after, low, high)))

ordered_said : (ks : List Key) (s : ℕ) → IsInOrder ks → last_said ks s ≡ said_by (last_key ks s) s
ordered_said [] s order = refl
ordered_said (k ∷ ks) s order = by_cover k s
    (λ b. (if b then Some (ref_by k s (pointer_of k)) else last_said ks s)
    ≡ said_by (option_or (last_key ks s) (if b then Some k else None)) s)
    (λ at. sym (ap (λ o. said_by (option_or o (Some k)) s) (none_later k ks s order at)))
    (λ off. ordered_said ks s (rest_order k ks order)
    ∙ sym (ap (λ o. said_by o s) (or_none (last_key ks s))))

-- ---- a part of a key

abbrev ref_in : Option Key → ℕ → Option Ref
ref_in o s = ref_said (said_by o s)

abbrev made : Bool → ℕ → ℕ → ℕ → Ref
made dirty dev place generation =
    record { dirty = dirty; dev = dev; place = place; generation = generation }

with_ptr : (k : Key) → 0 < k.count → pointer_of k ≡ Some (ptr_at k 0)
with_ptr k some = by_lt 0 k.count
    (λ b. (if b then Some (ptr_at k 0) else None) ≡ Some (ptr_at k 0)) (λ _. refl)
    (λ none. absurd (omega (arith, none, some)))

without_ptr : (k : Key) → k.count ≤ 0 → pointer_of k ≡ None
without_ptr k none = by_lt 0 k.count (λ b. (if b then Some (ptr_at k 0) else None) ≡ None)
    (λ some. absurd (omega (arith, none, some))) (λ _. refl)

part_says : (whole part : Key) (s : ℕ) → IsPart whole part → Covers part s
    → ref_by part s (pointer_of part) ≡ ref_by whole s (pointer_of whole)
part_says whole part s cut at = by_lt 0 whole.count
    (λ b. ref_by part s (pointer_of part)
    ≡ ref_by whole s (if b then Some (ptr_at whole 0) else None))
    (λ some. (let count = cut.kind.count in
    let device = cut.devices 0 some in
    let own = ptr_at part 0 in
    let old = ptr_at whole 0 in
    ap (ref_by part s) (with_ptr part (omega (arith, count, some)))
    ∙ ap (λ d. Some (made d own.dev (place_at part 0 s) own.generation)) cut.kind.dirty
    ∙ ap (λ n. Some (made whole.dirty n (place_at part 0 s) own.generation)) device.dev
    ∙ ap (λ n. Some (made whole.dirty old.dev n own.generation)) (cut.places s 0 at some)
    ∙ ap (λ n. Some (made whole.dirty old.dev (place_at whole 0 s) n)) device.generation))
    (λ none. (let count = cut.kind.count in
    ap (ref_by part s) (without_ptr part (omega (arith, count, none)))))

-- a key without pointers says as much as none
live_ref : (o : Option Key) (s : ℕ) → ref_in (with_pointer o) s ≡ ref_in o s
live_ref None s = refl
live_ref (Some k) s = by_lt 0 k.count
    (λ b. ref_in (if b then Some k else None) s ≡ ref_by k s (pointer_of k)) (λ _. refl)
    (λ none. sym (ap (ref_by k s) (without_ptr k none)))

live_covers : (o : Option Key) (k : Key) → with_pointer o ≡ Some k → o ≡ Some k
live_covers None k e = absurd (cc)
live_covers (Some x) k e = by_lt 0 x.count
    (λ b. (if b then Some x else None) ≡ Some k → Some x ≡ Some k) (λ _ is. is)
    (λ _ is. absurd (cc)) e

-- ---- the leaves that come say the same

pub same_ref : (old new : List Key) (s : ℕ) → IsInOrder old → IsInOrder new → GiveSame old new s
    → ref_said (last_said new s) ≡ ref_said (last_said old s)
same_ref old new s old_order new_order same =
    ap ref_said (ordered_said new s new_order) ∙ sym (live_ref (last_key new s) s)
    ∙ go (live (last_key old) s) (live (last_key new) s) refl same
    ∙ live_ref (last_key old s) s ∙ sym (ap ref_said (ordered_said old s old_order))
  where
    go : (o q : Option Key) → live (last_key new) s ≡ q
        → MatchOption o (q ≡ None) (λ whole. IsSomeAnd q (IsPart whole)) → ref_in q s ≡ ref_in o s
    go None q e m = ap (λ x. ref_in x s) m
    go (Some whole) None e m = absurd m
    go (Some whole) (Some part) e m = part_says whole part s m
        (last_key_found new s part (live_covers (last_key new s) part e)).1
