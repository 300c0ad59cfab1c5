-- Where the data of sectors are, by a leaf's last keys.
use Rattle.std.proofs.Common.{◌≡◌, ◌≢◌, inl, inr, ℕ, ◌+◌, ◌<◌, Bool, true, false, Some, None, refl, sym, ap, ◌∙◌, subst, arith}
use Rattle.std.specs.Prelude.{MatchBool, not}
use Rattle.std.proofs.lemmas.Bool.{cases_eq}
use Rattle.bc_around.proofs.Keyed.{key_there, leaf_said, none_said, pointed, points_not}
use Rattle.bc_bypass.specs.Backed.{AreBacked, HasDirty, IsDirtyIn}
use Rattle.bc_extent.specs.Extents.{IsInOrder}
use Rattle.bc_extent.specs.LastKey.{last_key}
use Rattle.bc_key.specs.Key.{ptr_at}
use Rattle.bc_key.specs.declared.key.Key.{Key}
use Rattle.bc_meta.specs.Keys.{Ref, ref_by}
use Rattle.bc_node.specs.Leaf.{Leaf}
use Rattle.bc_write_back.specs.bc_sight.Sight.{IsOnBacking, said_in}

pub none_backed : (leaf : Leaf) (s : ℕ) → IsInOrder leaf.keys → None ≡ last_key leaf.keys s
    → IsOnBacking leaf s
none_backed leaf s order is = inl (none_said leaf s order is)

pub empty_backed : (leaf : Leaf) (s : ℕ) (key : Key) → IsInOrder leaf.keys
    → Some key ≡ last_key leaf.keys s → key.count ≡ 0 → IsOnBacking leaf s
empty_backed leaf s key order is none = inl (leaf_said leaf s (Some key) order is
    ∙ ap (ref_by key s) (points_not key none))

said : (leaf : Leaf) (s : ℕ) (key : Key) → IsInOrder leaf.keys
    → Some key ≡ last_key leaf.keys s → key.count ≢ 0
    → said_in leaf s ≡ Some (pointed key s (ptr_at key 0))
said leaf s key order is some = leaf_said leaf s (Some key) order is ∙ key_there key s some

by_flag : (leaf : Leaf) (s : ℕ) (r : Ref) (b : Bool) → said_in leaf s ≡ Some r → r.dirty ≡ b
    → MatchBool (not b) (IsOnBacking leaf s) (IsDirtyIn leaf s)
by_flag leaf s r true is flag = (r, is, flag)
by_flag leaf s r false is flag = inr (r, is, flag)

pub key_backed : (leaf : Leaf) (s : ℕ) (key : Key) → IsInOrder leaf.keys
    → Some key ≡ last_key leaf.keys s → key.count ≢ 0
    → MatchBool (not key.dirty) (IsOnBacking leaf s) (IsDirtyIn leaf s)
key_backed leaf s key order is some = by_flag leaf s (pointed key s (ptr_at key 0)) key.dirty
    (said leaf s key order is some) refl

-- ---- of more sectors

pub none_yet : (leaf : Leaf) (first : ℕ) → AreBacked leaf first 0
none_yet leaf first s low high = absurd (omega (arith, low, high))

pub one_more : (leaf : Leaf) (first done : ℕ) → AreBacked leaf first done
    → IsOnBacking leaf (first + done) → AreBacked leaf first (done + 1)
one_more leaf first done before here s low high = elim (cases_eq s (first + done)) [
  | inl same ↦ subst (λ n. IsOnBacking leaf n) (sym same) here
  | inr other ↦ before s low (omega (arith, high, other))
]

pub one_dirty : (leaf : Leaf) (first done count : ℕ) → done < count
    → IsDirtyIn leaf (first + done) → HasDirty leaf first count
one_dirty leaf first done count lt dirty = record {
  sector = first + done;
  low = omega arith;
  high = omega (arith, lt);
  dirty = dirty;
}
