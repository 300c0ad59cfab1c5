-- Whether a leaf's last key of a sector points somewhere.
use Rattle.std.proofs.Common.{◌≡◌, ◌≢◌, ℕ, suc, ◌+◌, ◌≤◌, true, List, [], ◌∷◌, Option, Some, None, refl, sym, ap, ◌∙◌, subst, arith, if◌then◌else◌}
use Rattle.std.specs.Prelude.{◌==◌, MatchBool, nat_lt, not}
use Rattle.std.specs.Option.{option_or}
use Rattle.std.proofs.lemmas.Bool.{lt-ltb}
use Rattle.bc_around.specs.Look.{AreFree, IsKeyed}
use Rattle.bc_extent.specs.Extents.{IsInOrder}
use Rattle.bc_extent.specs.LastKey.{last_key}
use Rattle.bc_extent.proofs.LastKeys.{by_cover, last_key_none}
use Rattle.bc_facts.proofs.Stood.{all_in, in_all}
use Rattle.bc_flush.specs.bc_machine.Frame.{by_test}
use Rattle.bc_flush.specs.bc_sight.Sight.{said_in}
use Rattle.bc_key.specs.Key.{Covers, place_by, pointer_of, ptr_at, start_of}
use Rattle.bc_key.specs.declared.key.Key.{Key}
use Rattle.bc_key.specs.declared.ptr.Ptr.{Ptr}
use Rattle.bc_leaves.specs.Keys.{last_said, ref_said}
use Rattle.bc_meta.specs.Keys.{Ref, ref_by}
use Rattle.bc_node.specs.Leaf.{Leaf}

-- ---- what keys in order say of a sector

abbrev said_of : Option Key → ℕ → Option (Option Ref)
said_of None s = None
said_of (Some k) s = Some (ref_by k s (pointer_of k))

or_none : (o : Option Key) → option_or o None ≡ o
or_none None = refl
or_none (Some k) = refl

rest_order : (k : Key) (ks : List Key) → IsInOrder (k ∷ ks) → IsInOrder ks
rest_order k ks order = (
  (λ j d lt. order.0 (suc j) d (omega (arith, lt))),
  (λ i j d lt inside. order.1 (suc i) (suc j) d (omega (arith, lt)) (omega (arith, inside))),
)

none_later : (k : Key) (ks : List Key) (s : ℕ) → IsInOrder (k ∷ ks) → Covers k s
    → last_key ks s ≡ None
none_later k ks s order at = last_key_none ks s (in_all (λ (y : Key). ¬ (Covers y s)) ks (λ y i c.
    let after = all_in (λ (y : Key). k.end ≤ start_of y) ks y
    (λ j d lt. order.1 0 (suc j) d (omega arith) (omega (arith, lt))) i in
    let low = at.1 in let high = c.0 in omega (arith, after, low, high)))

ordered_said : (ks : List Key) (s : ℕ) → IsInOrder ks → last_said ks s ≡ said_of (last_key ks s) s
ordered_said [] s order = refl
ordered_said (k ∷ ks) s order = by_cover k s
    (λ b. (if b then Some (ref_by k s (pointer_of k)) else last_said ks s)
    ≡ said_of (option_or (last_key ks s) (if b then Some k else None)) s)
    (λ at. sym (ap (λ o. said_of (option_or o (Some k)) s) (none_later k ks s order at)))
    (λ off. ordered_said ks s (rest_order k ks order)
    ∙ sym (ap (λ o. said_of o s) (or_none (last_key ks s))))

pub leaf_said : (leaf : Leaf) (s : ℕ) (o : Option Key) → IsInOrder leaf.keys → o ≡ last_key leaf.keys s
    → said_in leaf s ≡ ref_said (said_of o s)
leaf_said leaf s o order is = ap ref_said (ordered_said leaf.keys s order)
    ∙ ap (λ (k : Option Key). ref_said (said_of k s)) (sym is)

pub none_said : (leaf : Leaf) (s : ℕ) → IsInOrder leaf.keys → None ≡ last_key leaf.keys s
    → said_in leaf s ≡ None
none_said leaf s order is = leaf_said leaf s None order is

-- ---- by the key that has it

abbrev pub pointed : Key → ℕ → Ptr → Ref
pointed key s ptr = record {
  dirty = key.dirty;
  dev = ptr.dev;
  place = place_by ptr (start_of key) s;
  generation = ptr.generation;
}

points : (key : Key) → key.count ≢ 0 → pointer_of key ≡ Some (ptr_at key 0)
points key some = let test : nat_lt 0 key.count ≡ true = lt-ltb 0 key.count (omega (arith, some)) in
    rw test refl

pub points_not : (key : Key) → key.count ≡ 0 → pointer_of key ≡ None
points_not key none =
    ap (λ n. if nat_lt 0 n then Some (ptr_at key 0) else None) none

pub key_there : (key : Key) (s : ℕ) → key.count ≢ 0
    → ref_by key s (pointer_of key) ≡ Some (pointed key s (ptr_at key 0))
key_there key s some = ap (ref_by key s) (points key some)

pub key_said : (leaf : Leaf) (s : ℕ) (key : Key) → IsInOrder leaf.keys
    → Some key ≡ last_key leaf.keys s
    → MatchBool (not (key.count == 0)) (IsKeyed leaf s) (said_in leaf s ≡ None)
key_said leaf s key order is = by_test key.count 0
    (λ b. MatchBool (not b) (IsKeyed leaf s) (said_in leaf s ≡ None))
    (λ none. leaf_said leaf s (Some key) order is ∙ ap (ref_by key s) (points_not key none))
    (λ some. (
      pointed key s (ptr_at key 0),
      leaf_said leaf s (Some key) order is ∙ key_there key s some,
    ))

-- ---- of more sectors

pub none_free : (leaf : Leaf) (first : ℕ) → AreFree leaf first 0
none_free leaf first s low high = absurd (omega (arith, low, high))

pub more_free : (leaf : Leaf) (first done : ℕ) → AreFree leaf first done
    → said_in leaf (first + done) ≡ None → AreFree leaf first (done + 1)
more_free leaf first done before here s low high = by_test s (first + done)
    (λ b. said_in leaf s ≡ None)
    (λ same. subst (λ n. said_in leaf n ≡ None) (sym same) here)
    (λ other. before s low (omega (arith, other, high)))
