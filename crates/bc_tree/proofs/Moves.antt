-- A leaf that comes in the place of another.
use Rattle.std.proofs.Common.{◌≡◌, ℕ, zero, suc, ◌<◌, ◌≤◌, List, [], ◌∷◌, length, Some, None, refl, sym, subst, ap, ◌∙◌, arith}
use Rattle.std.specs.Prelude.{All, IfErr, IfOk, IsErrAnd, Result, Ok, Err, option_to_list, slice_get}
use Rattle.std.proofs.lemmas.List.Elements.{All-cons, All-nil, All-tail}
use Rattle.std.proofs.lemmas.Option.{get_or_from_slice_get, slice_get_read, slice_get_within}
use Rattle.bc_disk.specs.declared.geometry.Geometry.{Geometry}
use Rattle.bc_inner.specs.Inner.{Inner}
use Rattle.bc_key.specs.Key.{pointer_of, ptr_at}
use Rattle.bc_key.specs.declared.key.Key.{Key}
use Rattle.bc_key.specs.declared.ptr.Ptr.{Ptr}
use Rattle.bc_spine.specs.Exchange.{IsFor, IsMoved as IsMovedLeaf}
use Rattle.bc_spine.specs.Leaves.{Spans}
use Rattle.bc_spine.specs.declared.exchange.Exchange.{Exchange}
use Rattle.bc_spine.specs.declared.leaf.LeafRange.{LeafRange}
use Rattle.bc_node.specs.Leaf.{Leaf}
use Rattle.bc_tree.specs.Plan.{CanExchange, IsComing, IsKeyOf, IsPlanOf, IsPlannedAbove}
use Rattle.bc_tree.specs.Rewrite.{IsMovePlan}
use Rattle.bc_tree.specs.Same.{IsSameButSpare, IsSameTree}
use Rattle.bc_tree.specs.Spine.{AreInRow, Covers, IsParentAt, IsPlaceAt, IsProper, IsSpine, NameLeaves, Spine, bottom}
use Rattle.bc_tree.specs.declared.place.LeafPlace.{LeafPlace}
use Rattle.bc_tree.specs.declared.plan.Plan.{Plan}
use Rattle.bc_tree.specs.declared.plan.PlanError.{PlanError}
use Rattle.bc_tree.proofs.Coming.{pointer_at}
use Rattle.bc_tree.proofs.Places.{all_before, bottom_covers, bottom_row}
use Rattle.bc_tree.proofs.Renames.{can_rename}
use Rattle.bc_tree.proofs.Same.{spine_same}

pub all_at : {X : Type 0} (P : X → Type 0) (xs : List X) (i : ℕ) (x : X) → All P xs → slice_get xs i ≡ Some x → P x
all_at P xs i x all there = subst P (get_or_from_slice_get xs i x x there) (all i x (slice_get_within xs i x there))

pub if_ok : {A E : Type 0} (answer : Result A E) (P Q : A → Type 0) → ((x : A) → P x → Q x) → IfOk answer P → IfOk answer Q
if_ok (Ok x) P Q so is = so x is
if_ok (Err e) P Q so is = tt

-- what is known of an error holds once it is passed on
pub passed_on : {T : Type 0} (r : Result T PlanError) (e : PlanError) (Q : PlanError → Type 0) → IsErrAnd r (λ x. x ≡ e) → Q e → IfErr r Q
passed_on (Ok x) e Q is holds = tt
passed_on (Err x) e Q is holds = subst Q (sym is) holds

bottom_proper : (g : Geometry) (root : Inner) (below : List Inner) → IsProper g root → All (IsProper g) below → All (IsProper g) (bottom root below)
bottom_proper g root [] one all = All-cons (IsProper g) root [] one (All-nil (IsProper g))
bottom_proper g root (node ∷ nodes) one all = all

-- the nodes above leaves
pub proper_at : (s : Spine) (place : ℕ) (node : Inner) → IsSpine s.geometry s.root s.below s.leaves → slice_get (bottom s.root s.below) place ≡ Some node → IsProper s.geometry node
proper_at s place node spine there = all_at (IsProper s.geometry) (bottom s.root s.below) place node (bottom_proper s.geometry s.root s.below spine.inner.root_is_proper spine.inner.proper) there

pub covers_at : (s : Spine) (place : ℕ) (node : Inner) → IsSpine s.geometry s.root s.below s.leaves → slice_get (bottom s.root s.below) place ≡ Some node → Covers node
covers_at s place node spine there = all_at Covers (bottom s.root s.below) place node (bottom_covers s.root s.below spine.cover.0 spine.cover.1) there

pub spine_kept : (s t : Spine) → IsSameTree s t → IsSpine s.geometry s.root s.below s.leaves → IsSpine t.geometry t.root t.below t.leaves
spine_kept s t same spine =
    subst (λ (g : Geometry). IsSpine g t.root t.below t.leaves) (sym same.geometry_is)
    (subst (λ (ls : List LeafRange). IsSpine s.geometry t.root t.below ls) (sym same.leaves_are) (spine_same s.geometry s.root t.root s.below t.below s.leaves same.root_is same.below_are spine))

pub parent_at : (s : Spine) (sector : ℕ) (place : LeafPlace) (is : IsPlaceAt s sector place) → IsParentAt s sector is.parent
parent_at s sector place is = record {
  held = (place.node, slice_get_within (bottom s.root s.below) place.node is.parent is.node, get_or_from_slice_get (bottom s.root s.below) place.node is.parent is.parent is.node);
  from = is.from;
  end = is.end;
}

-- one node above leaves covers a sector
row_unique : (a sector : ℕ) (nodes : List Inner) (i j : ℕ) (x y : Inner) → AreInRow a nodes → All Covers nodes → slice_get nodes i ≡ Some x → slice_get nodes j ≡ Some y → x.from ≤ sector → sector < x.end → y.from ≤ sector → sector < y.end → x ≡ y
row_unique a sector [] i j x y row covers one two xb xe yb ye = absurd (cc)
row_unique a sector (m ∷ nodes) zero zero x y row covers one two xb xe yb ye = cc
row_unique a sector (m ∷ nodes) zero (suc j) x y row covers one two xb xe yb ye =
    let same : m ≡ x = cc in
    let later = (all_before m.end sector nodes j y row.1 (All-tail Covers m nodes covers) two yb).1 in
    absurd (omega (arith, later, yb, xe, ap (λ (n : Inner). n.end) same))
row_unique a sector (m ∷ nodes) (suc i) zero x y row covers one two xb xe yb ye =
    let same : m ≡ y = cc in
    let later = (all_before m.end sector nodes i x row.1 (All-tail Covers m nodes covers) one xb).1 in
    absurd (omega (arith, later, xb, ye, ap (λ (n : Inner). n.end) same))
row_unique a sector (m ∷ nodes) (suc i) (suc j) x y row covers one two xb xe yb ye = row_unique m.end sector nodes i j x y row.1 (All-tail Covers m nodes covers) one two xb xe yb ye

pub same_parent : (s : Spine) (sector : ℕ) (p q : Inner) → IsSpine s.geometry s.root s.below s.leaves → IsParentAt s sector p → IsParentAt s sector q → p ≡ q
same_parent s sector p q spine one two =
    let nodes = bottom s.root s.below in
    row_unique s.root.from sector nodes one.held.0 two.held.0 p q (bottom_row s.root s.below spine.inner.root_of) (bottom_covers s.root s.below spine.cover.0 spine.cover.1)
    (slice_get_read nodes (length nodes) one.held.0 p refl one.held.1 (sym one.held.2)) (slice_get_read nodes (length nodes) two.held.0 q refl two.held.1 (sym two.held.2)) one.from one.end two.from two.end

pub one_named : (key : Key) (first : LeafRange) (second rest : List LeafRange) → second ≡ [] → first.end ≡ key.end → first.ptr ≡ ptr_at key 0 → NameLeaves (key ∷ []) (first ∷ second)
one_named key first second rest none end ptr = subst (λ (ls : List LeafRange). NameLeaves (key ∷ []) (first ∷ ls)) (sym none) (end, ptr, tt)

pub can_move : (s : Spine) (sector : ℕ) (place : LeafPlace) (parts end : ℕ) (ptr : Ptr) (key : Key) (e : Exchange) → IsSpine s.geometry s.root s.below s.leaves → IsPlaceAt s sector place → IsMovedLeaf s.leaves place.leaf parts ptr e → IsFor s.leaves e
    → end ≡ place.range.end → IsKeyOf end ptr key → CanExchange s e place 1 (key ∷ [])
can_move s sector place parts end ptr key e spine is moved fits end_is names =
    let same : moved.leaf ≡ place.range = let one = moved.there in let two = is.there in cc in
    let ends : key.end ≡ place.range.end = names.end ∙ end_is in
    record {
      fits = fits;
      spare = omega (arith, moved.gone, ap (λ (ls : List LeafRange). length ls) moved.alone);
      gone_are = moved.gone;
      before = moved.at ∙ is.before;
      names = one_named key e.first (option_to_list e.second) [] moved.alone (moved.moved.ends ∙ ap (λ (l : LeafRange). l.end) same ∙ sym ends) (moved.moved.stands ∙ sym names.ptr);
      node = is.parent;
      there = is.node;
      can = can_rename s.geometry is.parent place.child is.key key (proper_at s place.node is.parent spine is.node) (covers_at s place.node is.parent spine is.node) is.child (ends ∙ is.ends) names.one;
    }

-- the leaf of its first sector has its range
pub range_is : (s : Spine) (leaf_from leaf_end : ℕ) (place : LeafPlace) → ((i : ℕ) (range : LeafRange) → slice_get s.leaves i ≡ Some range → Spans range leaf_from → (range.from ≡ leaf_from) × (range.end ≡ leaf_end))
    → IsPlaceAt s leaf_from place → (place.range.from ≡ leaf_from) × (place.range.end ≡ leaf_end) × (leaf_from < leaf_end)
range_is s from end place ranges is =
    let both = ranges place.leaf place.range is.there is.spans in
    (both.0, both.1, omega (arith, both.1, is.spans.1))

-- ---- what was planned

pub key_of : (key : Key) (end : ℕ) (ptr : Ptr) → key.end ≡ end → pointer_of key ≡ Some ptr → key.count ≡ 1 → IsKeyOf end ptr key
key_of key end ptr ends points one = record { end = ends; ptr = pointer_at key ptr points; one = one }

pub above_kept : (s t : Spine) (place : LeafPlace) (gone : ℕ) (come : List Key) (to : List Ptr) (seq : ℕ) (plan : Plan) → IsSameButSpare s t → IsPlannedAbove t place gone come to seq plan → IsPlannedAbove s place gone come to seq plan
above_kept s t place gone come to seq plan only is =
    let there = subst (λ (v : Spine). IsPlannedAbove v place gone come to seq plan) only is in
    record { place_is = there.place_is; node = there.node; there = there.there; above = record { change_is = there.above.change_is; top_is = there.above.top_is }; beside_is = there.beside_is; moved = there.moved }

pub move_planned : (s t : Spine) (e : Exchange) (first : Leaf) (place : LeafPlace) (key : Key) (to : List Ptr) (seq parts : ℕ) (ptr : Ptr) → IsSameButSpare s t → IsMovedLeaf t.leaves place.leaf parts ptr e → ptr ≡ first.ptr
    → IsKeyOf first.end first.ptr key → (plan : Plan) → IsPlanOf t (record { leaves = e; first = first; second = None }) place 1 (key ∷ []) to seq plan → IsMovePlan s place parts first to seq plan
move_planned s t e first place key to seq parts ptr only moved at names plan is = record {
  leaves_are = subst (λ (x : Exchange). IsMovedLeaf s.leaves place.leaf parts first.ptr x) (sym is.leaves_are)
      (subst (λ (p : Ptr). IsMovedLeaf s.leaves place.leaf parts p e) at (subst (λ (v : Spine). IsMovedLeaf v.leaves place.leaf parts ptr e) only moved));
  first_is = is.first_is;
  alone = is.second_is;
  key = key;
  names = names;
  above = above_kept s t place 1 (key ∷ []) to seq plan only is.above;
}

-- the same leaf, of the same keys
pub coming_same : (keys other : List Key) (from begin end until : ℕ) (to : Ptr) (seq : ℕ) (leaf : Leaf) → keys ≡ other → from ≡ begin → end ≡ until → IsComing keys from end to seq leaf → IsComing other begin until to seq leaf
coming_same keys other from begin end until to seq leaf same begins ends is =
    subst (λ (ks : List Key). IsComing ks begin until to seq leaf) same (subst (λ n. IsComing keys n until to seq leaf) begins (subst (λ n. IsComing keys from n to seq leaf) ends is))
