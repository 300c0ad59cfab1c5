-- A tree of three leaves, and the leaves that it finds.
use Rattle.std.proofs.Common.{◌≡◌, ℕ, ◌*◌, ◌%◌, ◌<◌, ◌≤◌, List, [], ◌∷◌, length, get_or, refl, sym, subst, ap, ◌∙◌, arith}
use Rattle.std.specs.Prelude.{All, Contains, Some, slice_get}
use Rattle.std.proofs.lemmas.List.Elements.{All-cons, All-nil}
use Rattle.std.proofs.lemmas.Option.{same_Some, slice_get-get_or, slice_get_within}
use Rattle.bc_disk.specs.declared.geometry.Geometry.{Geometry}
use Rattle.bc_inner.specs.Inner.{CoverRange, Inner, IsNewInner, children_set}
use Rattle.bc_key.specs.declared.key.Key.{Key}
use Rattle.bc_node.specs.Leaf.{Leaf}
use Rattle.bc_set.specs.SetBytes.{bytes_of}
use Rattle.bc_spine.proofs.Rows.{one_spans}
use Rattle.bc_spine.specs.Leaves.{AreLeaves, IsLeafAt, Spans}
use Rattle.bc_spine.specs.declared.leaf.LeafRange.{LeafRange}
use Rattle.bc_tree.proofs.Splices.{rise_covers}
use Rattle.bc_tree.specs.Children.{HasPointer}
use Rattle.bc_tree.specs.Plan.{IsOfSpine}
use Rattle.bc_tree.specs.Spine.{AreInner, IsProper, Rise, Spine, bottom}
use Rattle.bc_tree.specs.declared.change.NodeChange.TheVariants.{Set}
use Rattle.bc_tree.specs.declared.plan.Plan.{Plan}
use Rattle.bc_plan.specs.Parent.{TakesBy, TakesSet}

pub three_cover : (a b c : Key) → a.end ≡ 512 → b.end ≡ 1024 → c.end ≡ 2048 → CoverRange 0 2048 (a ∷ b ∷ c ∷ [])
three_cover a b c one two three = rise_covers 0 2048 (a ∷ b ∷ c ∷ []) rise (omega arith) three
  where
    rise : Rise 0 (a ∷ b ∷ c ∷ [])
    rise = (omega arith, omega arith, (omega arith, omega arith, (omega arith, omega arith, tt)))

pub one_cover : (a : Key) → a.end ≡ 1048576 → CoverRange 0 1048576 (a ∷ [])
one_cover a one = rise_covers 0 1048576 (a ∷ []) rise (omega arith) one
  where
    rise : Rise 0 (a ∷ [])
    rise = (omega arith, omega arith, tt)

-- the leaf that a tree finds for a sector is one of its own
pub found_leaf : (s : Spine) (range : LeafRange) (sector : ℕ) (leaf : Leaf) → AreLeaves s.leaves s.root.end → IsLeafAt s.leaves sector range → sector < s.root.end → leaf.from ≡ range.from → leaf.end ≡ range.end → IsOfSpine s leaf
found_leaf s range sector leaf all found inside from end = record {
  within = let low = found.spans.0 in omega arith;
  range = λ i other at spans.
      let low = found.spans.0 in
      let high = found.spans.1 in
      let within = slice_get_within s.leaves i other at in
      let held : Contains s.leaves other = (i, within, same_Some (get_or s.leaves i other) other (sym (slice_get-get_or s.leaves i other within) ∙ at)) in
      let same = one_spans 0 s.root.end s.leaves all.row leaf.from other range held found.held spans (omega arith, omega arith) in
      (ap (λ (r : LeafRange). r.from) same ∙ sym from, ap (λ (r : LeafRange). r.end) same ∙ sym end);
}

at_root : (s : Spine) → length s.below ≡ 0 → slice_get (bottom s.root s.below) 0 ≡ Some s.root
at_root s none = go s.below none
  where
    go : (below : List Inner) → length below ≡ 0 → slice_get (bottom s.root below) 0 ≡ Some s.root
    go [] none = refl
    go (node ∷ nodes) none = absurd (omega arith)

-- a set of the root, where the leaves are its children
pub takes : (s : Spine) (plan : Plan) (keys : List Key) → plan.bottom ≡ Set keys → length s.below ≡ 0 → plan.place ≡ 0 → TakesSet s plan s.root keys
takes s plan keys is none first = subst (λ change. TakesBy s plan.place change plan.top s.root keys) (sym is) (ap (slice_get (bottom s.root s.below)) first ∙ at_root s none, refl)
