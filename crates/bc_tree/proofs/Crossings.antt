-- Two neighbouring leaves that are children of two nodes.
use Rattle.std.proofs.Common.{◌≡◌, inl, inr, ℕ, zero, suc, ◌+◌, ◌-◌, ◌%◌, ◌<◌, ◌≤◌, true, false, List, [], ◌∷◌, ◌++◌, length, get_or, take, drop, Option, Some, None, refl, sym, subst, ap, ◌∙◌, append-nil, arith, length-append}
use Rattle.std.specs.Prelude.{All, option_to_list, slice_get}
use Rattle.std.proofs.lemmas.Bool.{cases_lt, le-ltb}
use Rattle.std.proofs.lemmas.List.{take-append-drop}
use Rattle.std.proofs.lemmas.List.Elements.{All-head, All-tail}
use Rattle.std.proofs.lemmas.Option.{get_or_from_slice_get, slice_get_within}
use Rattle.bc_inner.specs.Inner.{CoverRange, Inner}
use Rattle.bc_key.specs.Key.{ptr_at}
use Rattle.bc_key.specs.declared.key.Key.{Key}
use Rattle.bc_key.specs.declared.ptr.Ptr.{Ptr}
use Rattle.bc_node.specs.Leaf.{Leaf}
use Rattle.bc_spine.specs.Exchange.{IsFor, IsMerged}
use Rattle.bc_spine.specs.Leaves.{IsRow, Spans}
use Rattle.bc_spine.specs.declared.exchange.Exchange.{Exchange}
use Rattle.bc_spine.specs.declared.leaf.LeafRange.{LeafRange}
use Rattle.bc_tree.specs.Children.{children_after}
use Rattle.bc_tree.specs.Needs.{IsNeededForBoth, across_needs, can_merge, merge_needs}
use Rattle.bc_tree.specs.Across.{CanJoinAcross, CanJoinAt, HasNextAcross, IsAcrossOf, IsAcrossPlan, IsJoinedAcross, across_count, children_across}
use Rattle.bc_tree.specs.Merge.{CanJoinHere, HasNextLeaf, IsMadeJoin, IsMergePlan}
use Rattle.bc_tree.specs.Plan.{IsKeyOf, IsOfSpine, above_count, moves}
use Rattle.bc_tree.specs.Same.{IsSameButSpare}
use Rattle.bc_tree.specs.Spine.{AreInRow, Covers, IsParentAt, IsPlaceAt, IsRootOf, IsSpine, NameLeaves, NameNodes, Rise, Spine, bottom, children_in, last_end, row_end}
use Rattle.bc_tree.specs.declared.needs.Needs.{Needs}
use Rattle.bc_tree.specs.declared.place.LeafPlace.{LeafPlace}
use Rattle.bc_tree.specs.declared.plan.Plan.{Plan}
use Rattle.bc_tree.proofs.Crossed.{row_beside}
use Rattle.bc_tree.proofs.Acrossing.{across_total}
use Rattle.bc_tree.proofs.Choices.{merge_across}
use Rattle.bc_tree.proofs.Counts.{total}
use Rattle.bc_tree.proofs.Joins.{five_words, join_places, named_there, neighbour}
use Rattle.bc_tree.proofs.Neighbours.{row_next}
use Rattle.bc_tree.proofs.Moves.{all_at, covers_at, one_named, parent_at, range_is, same_parent}
use Rattle.bc_tree.proofs.Nexts.{take_front}
use Rattle.bc_tree.proofs.Coming.{high_names, same_there}
use Rattle.bc_tree.proofs.Places.{children_split, get_before, get_behind, some_there, spans_some}
use Rattle.bc_tree.proofs.Spines.{bottom_is, children_more, cover_ends, cover_rises, end_more, in_row, rise_at}
use Rattle.bc_tree.proofs.Splices.{AreInPlace, after_covers, end_append, end_drop, end_least, rise_append, rise_covers, rise_drop}

-- ---- the children of both cover the sectors of both

pub both_cover : (left right : Inner) → Covers left → Covers right → right.from ≡ left.end → CoverRange left.from right.end (left.children ++ right.children)
both_cover left right one other begins =
    let reach : last_end left.from left.children ≡ right.from = cover_ends left.from left.end left.children one ∙ sym begins in
    rise_covers left.from right.end (left.children ++ right.children)
    (rise_append left.from left.children right.children (cover_rises left.from left.end left.children one) (subst (λ n. Rise n right.children) (sym reach) (cover_rises right.from right.end right.children other)))
    (let some = other.reach in omega (arith, some.2, length-append left.children right.children))
    (end_append left.from left.children right.children ∙ ap (λ n. last_end n right.children) reach ∙ cover_ends right.from right.end right.children other)

-- a key comes in the place of the last of the one and of the first of the other, where that one ends
pub across_cover : (left right : Inner) (first key : Key) → Covers left → Covers right → right.from ≡ left.end → 0 < length left.children → slice_get right.children 0 ≡ Some first → key.end ≡ first.end
    → CoverRange left.from right.end (children_across left right key) × (left.end < key.end)
across_cover left right first key one other begins some there ends =
    let l = left.children in
    let r = right.children in
    let n = length l - 1 in
    let within = slice_get_within r 0 first there in
    let both = both_cover left right one other begins in
    let e : n + 2 ≡ length l + 0 + 1 = omega (arith, some) in
    let at : slice_get (l ++ r) (length l + 0) ≡ Some first = get_behind l r 0 ∙ there in
    let inside = slice_get_within (l ++ r) (length l + 0) first at in
    let reach : last_end left.from (take (n + 2) (l ++ r)) ≡ first.end =
    ap (λ k. last_end left.from (take k (l ++ r))) e ∙ end_more left.from (l ++ r) (length l + 0) first inside ∙ ap (λ (k : Key). k.end) (get_or_from_slice_get (l ++ r) (length l + 0) first first at) in
    let first_rise = rise_at right.from r 0 first (cover_rises right.from right.end r other) within in
    let same = get_or_from_slice_get r 0 first first there in
    let less : left.end < key.end = omega (arith, first_rise.0, begins, ends, ap (λ (k : Key). k.end) same) in
    let low : last_end left.from (take n (l ++ r)) ≤ left.end =
    omega (arith, end_least (last_end left.from (take n l)) (drop n l) (rise_drop n left.from l (cover_rises left.from left.end l one)), end_drop n left.from l, cover_ends left.from left.end l one, ap (last_end left.from) (take_front n l r (omega arith))) in (
      after_covers left.from right.end (l ++ r) n 2 (key ∷ []) both
          (record { rise = (omega (arith, low, less), ap (λ m. m % 256) (ends ∙ sym (ap (λ (k : Key). k.end) same)) ∙ first_rise.1, tt); end = ends ∙ sym reach; some = omega arith }),
      less,
    )

-- ---- the next node

next_node : (from end : ℕ) (nodes : List Inner) (place : ℕ) (node : Inner) → AreInRow from nodes → row_end from nodes ≡ end → slice_get nodes place ≡ Some node → node.end < end → (right : Inner) × (slice_get nodes (place + 1) ≡ Some right)
next_node from end [] place node row ends there less = absurd (cc)
next_node from end (m ∷ []) zero node row ends there less = let same : m ≡ node = cc in absurd (omega (arith, ends, less, ap (λ (n : Inner). n.end) same))
next_node from end (m ∷ (k ∷ nodes)) zero node row ends there less = (k, refl)
next_node from end (m ∷ nodes) (suc place) node row ends there less =
    let e : suc place + 1 ≡ suc (place + 1) = omega arith in
    let rest = next_node m.end end nodes place node row.1 ends there less in
    (rest.0, ap (λ n. slice_get (m ∷ nodes) n) e ∙ rest.1)

first_child : (node : Inner) → Covers node → (key : Key) × (slice_get node.children 0 ≡ Some key)
first_child node cover = let found = some_there node.children 0 (let some = cover.reach in omega (arith, some.2)) in (found.0, found.1)

-- the key of the first child of the next node, among all children
next_key : (nodes : List Inner) (place : ℕ) (left right : Inner) (key : Key) → slice_get nodes place ≡ Some left → slice_get nodes (place + 1) ≡ Some right → slice_get right.children 0 ≡ Some key
    → slice_get (children_in nodes) (length (children_in (take place nodes)) + length left.children) ≡ Some key
next_key nodes place left right key there behind child =
    let split = children_split nodes (place + 1) right behind in
    let within = slice_get_within nodes place left there in
    let front = children_in (take (place + 1) nodes) in
    let long : length front ≡ length (children_in (take place nodes)) + length left.children =
    ap (λ ks. length ks) (children_more nodes place left within) ∙ length-append (children_in (take place nodes)) (get_or nodes place left).children
    ∙ ap (λ (n : Inner). length (children_in (take place nodes)) + length n.children) (get_or_from_slice_get nodes place left left there) in
    let e : length (children_in (take place nodes)) + length left.children ≡ length front + 0 = omega (arith, long) in
    ap (slice_get (children_in nodes)) e ∙ ap (λ ks. slice_get ks (length front + 0)) split.1 ∙ get_behind front (right.children ++ split.0) 0 ∙ (get_before right.children split.0 0 key child).0

-- where two neighbouring leaves are children of two nodes
pub neighbour_across : (s : Spine) (left right : Leaf) (place : LeafPlace) (is : IsPlaceAt s left.from place) → IsSpine s.geometry s.root s.below s.leaves → IsRow 0 s.leaves s.root.end → IsOfSpine s left → IsOfSpine s right
    → left.end ≡ right.from → is.parent.end ≤ right.from → (other : Inner) × HasNextAcross s place is.parent other right.end × (right.from < right.end) × (left.from < right.from) × IsParentAt s right.from other
neighbour_across s left right place is spine row one two beside over =
    let node = is.parent in
    let range = range_is s left.from left.end place one.range is in
    let end_is : place.range.end ≡ right.from = range.1 ∙ beside in
    let cover = covers_at s place.node node spine is.node in
    let within = slice_get_within node.children place.child is.key is.child in
    let at_key = get_or_from_slice_get node.children place.child is.key is.key is.child in
    let most = (cover.within place.child is.key within).1 in
    let key_end : is.key.end ≡ node.end = omega (arith, is.ends, end_is, over, most, ap (λ (k : Key). k.end) at_key) in
    let high = high_below s.root s.below place.node node is.node (omega (arith, over, two.within)) spine.inner.root_of in
    let names = high.1 in
    let rows = in_row s.root.from s.root.children s.below names in
    let ends : row_end s.root.from s.below ≡ s.root.end = rows.1 ∙ cover_ends s.root.from s.root.end s.root.children spine.cover.0 in
    let found = next_node s.root.from s.root.end s.below place.node node rows.0 ends high.0 (omega (arith, over, two.within)) in
    let other = found.0 in
    let other_cover = all_at Covers s.below (place.node + 1) other spine.cover.1 found.1 in
    let child = first_child other other_cover in
    let at_bottom : slice_get (bottom s.root s.below) (place.node + 1) ≡ Some other = ap (λ ns. slice_get ns (place.node + 1)) (bottom_is s.root s.below (omega (arith, slice_get_within s.below place.node node high.0))) ∙ found.1 in
    let bottom_same = bottom_is s.root s.below (omega (arith, slice_get_within s.below place.node node high.0)) in
    let last : place.child + 1 ≡ length node.children = last_child node place.child is.key cover is.child key_end in
    let before : place.leaf ≡ length (children_in (take place.node s.below)) + place.child = is.before ∙ ap (λ ns. length (children_in (take place.node ns)) + place.child) bottom_same in
    let all_names = subst (λ ns. NameLeaves (children_in ns) s.leaves) bottom_same spine.names in
    let at : length (children_in (take place.node s.below)) + length node.children ≡ place.leaf + 1 = omega (arith, before, last) in
    let named = named_there (children_in s.below) s.leaves (place.leaf + 1) child.0 all_names (ap (slice_get (children_in s.below)) (sym at) ∙ next_key s.below place.node node other child.0 high.0 found.1 child.1) in
    let leaf = named.0 in
    let e : place.leaf + 1 ≡ suc place.leaf = omega arith in
    let follows = row_next 0 s.root.end s.leaves place.leaf place.range leaf row is.there (ap (slice_get s.leaves) (sym e) ∙ named.1) in
    let its = two.range (place.leaf + 1) leaf named.1 (omega (arith, follows.0, end_is), omega (arith, follows.0, follows.1, end_is)) in (
      other,
      record { there = high.0; behind = found.1; last = last; key = child.0; child = child.1; leaf = leaf; leaf_there = named.1; ends = named.2; end = its.1; before = before },
      omega (arith, its.1, its.0, follows.1),
      omega (arith, beside, range.2),
      record {
        held = (place.node + 1, slice_get_within (bottom s.root s.below) (place.node + 1) other at_bottom, get_or_from_slice_get (bottom s.root s.below) (place.node + 1) other other at_bottom);
        from = omega (arith, row_beside s.root.from s.below place.node node other rows.0 high.0 found.1, over);
        end = omega (arith, row_beside s.root.from s.below place.node node other rows.0 high.0 found.1, spans_some other other_cover, most, is.ends, end_is, ap (λ (k : Key). k.end) at_key);
      },
    )
  where
    high_below : (root : Inner) (below : List Inner) (i : ℕ) (n : Inner) → slice_get (bottom root below) i ≡ Some n → n.end < root.end → IsRootOf root below → (slice_get below i ≡ Some n) × NameNodes root.from root.children below
    high_below root [] zero n there less is_root = let same : root ≡ n = cc in absurd (omega (arith, less, ap (λ (x : Inner). x.end) same))
    high_below root [] (suc i) n there less is_root = absurd (cc)
    high_below root (m ∷ nodes) i n there less is_root = (there, is_root.1)

    last_child : (n : Inner) (i : ℕ) (k : Key) → Covers n → slice_get n.children i ≡ Some k → k.end ≡ n.end → i + 1 ≡ length n.children
    last_child n i k covers there ends =
        let inside = slice_get_within n.children i k there in
        elim (cases_lt (i + 1) (length n.children)) [
          | inl more ↦
              (let rise = covers.order i (i + 1) k (omega arith) more in
              let most = (covers.within (i + 1) k more).1 in
              absurd (omega (arith, rise, most, ends, ap (λ (x : Key). x.end) (get_or_from_slice_get n.children i k k there))))
          | inr few ↦ omega (arith, few, inside)
        ]

pub can_across : (s : Spine) (place : LeafPlace) (left right : Inner) (until : ℕ) (ptr : Ptr) (key : Key) (e : Exchange) → IsSpine s.geometry s.root s.below s.leaves → HasNextAcross s place left right until
    → IsMerged s.leaves place.leaf ptr e → IsFor s.leaves e → IsKeyOf until ptr key → CanJoinAt s e left right place key
can_across s place left right until ptr key e spine next merged fits name =
    let one = all_at Covers s.below place.node left spine.cover.1 next.there in
    let other = all_at Covers s.below (place.node + 1) right spine.cover.1 next.behind in
    let row = (in_row s.root.from s.root.children s.below (high_names s.geometry s.root s.below s.leaves place.node left spine next.there)).0 in
    let begins = row_beside s.root.from s.below place.node left right row next.there next.behind in
    let cover = across_cover left right next.key key one other begins (omega (arith, next.last)) next.child (name.end ∙ sym next.end ∙ next.ends) in
    let e_is : place.leaf + 1 ≡ suc place.leaf = omega arith in
    let same : merged.right ≡ next.leaf = let a = merged.there.1 in let b = ap (slice_get s.leaves) (sym e_is) ∙ next.leaf_there in cc in
    record {
      leaves_fit = fits;
      spare = omega (arith, merged.gone, ap (λ (ls : List LeafRange). length ls) merged.alone);
      gone_is = merged.gone;
      before = merged.at ∙ next.before ∙ ap (λ n. length (children_in (take place.node s.below)) + n) (let i : place.child ≡ length left.children - 1 = omega (arith, next.last) in i);
      names = one_named key e.first (option_to_list e.second) [] merged.alone (merged.merged.ends ∙ ap (λ (l : LeafRange). l.end) same ∙ next.end ∙ sym name.end) (merged.merged.stands ∙ sym name.ptr);
      can = record { there = next.there; behind = next.behind; some = (omega (arith, next.last), omega (arith, slice_get_within right.children 0 next.key next.child)); one = name.one; cover = cover.0; later = cover.1 };
    }

-- ---- how many places are needed

across_places : (s : Spine) (left right : Leaf) (place : LeafPlace) (k : ℕ) (is : IsPlaceAt s left.from place) (behind : Inner) → IsSpine s.geometry s.root s.below s.leaves → can_merge s.geometry left right ≡ true → IsParentAt s right.from behind → is.parent.end ≤ right.from
    → (n : Needs) × IsNeededForBoth s left right (Some n) × (k ≡ n.tree + n.moving) → k ≡ 1 + across_count s is.parent behind
across_places s left right place k is behind spine can beside over (n, (other, apart, (p, held, needed)), count) =
    let same = same_parent s left.from p is.parent spine held (parent_at s left.from place is) in
    let also = same_parent s right.from other behind spine apart beside in
    let both : Some n ≡ Some (across_needs s is.parent behind) =
    needed ∙ ap (λ (x : Inner). merge_needs s left right x other) same ∙ ap (λ (x : Inner). merge_needs s left right is.parent x) also ∙ sym (merge_across s left right is.parent behind can (le-ltb right.from is.parent.end over)) in
    let one : n ≡ across_needs s is.parent behind = cc in
    count ∙ ap total one ∙ across_total s is.parent behind spine.inner.root_is_proper

-- two neighbouring leaves can become one, by as many places as are needed
pub joins : (s : Spine) (left right : Leaf) (place : LeafPlace) (k : ℕ) (is : IsPlaceAt s left.from place) → IsSpine s.geometry s.root s.below s.leaves → IsRow 0 s.leaves s.root.end → IsOfSpine s left → IsOfSpine s right
    → left.end ≡ right.from → can_merge s.geometry left right ≡ true → (n : Needs) × IsNeededForBoth s left right (Some n) × (k ≡ n.tree + n.moving)
    → (1 ≤ k) × (left.from < right.from) × (right.from < right.end) × CanJoinHere s place is.parent right.from right.end (k - 1)
joins s left right place k is spine row one two beside can needed = elim (cases_lt right.from is.parent.end) [
  | inl less ↦
      (let next = neighbour s left right s.root.end place is spine row one two beside less in
      let places = join_places s left right place k is spine can (omega (arith, next.2)) less needed in
      (omega (arith, places), next.2, next.1, inl (less, next.0, omega (arith, places))))
  | inr over ↦
      (let next = neighbour_across s left right place is spine row one two beside over in
      let places = across_places s left right place k is next.0 spine can next.4 over needed in
      (omega (arith, places), next.3, next.2, inr (over, (next.0, next.1, omega (arith, places)))))
]

-- ---- whose children they are

-- of one node
pub inside_here : (s : Spine) (place : LeafPlace) (node other : Inner) (next until k end : ℕ) → slice_get (bottom s.root s.below) place.node ≡ Some node → slice_get (bottom s.root s.below) place.node ≡ Some other → end ≡ other.end → next < end
    → CanJoinHere s place node next until k → (next < other.end) × HasNextLeaf s place until × (k ≡ moves s other 5)
inside_here s place node other next until k end there also ends less can = go (subst (λ (n : Inner). CanJoinHere s place n next until k) (same_there s place.node node other there also) can)
  where
    go : CanJoinHere s place other next until k → (next < other.end) × HasNextLeaf s place until × (k ≡ moves s other 5)
    go (inl is) = is
    go (inr is) = absurd (omega (arith, is.0, less, ends))

-- of two
pub over_here : (s : Spine) (place : LeafPlace) (node other : Inner) (next until k end : ℕ) → slice_get (bottom s.root s.below) place.node ≡ Some node → slice_get (bottom s.root s.below) place.node ≡ Some other → end ≡ other.end → end ≤ next
    → CanJoinHere s place node next until k → (other.end ≤ next) × ((right : Inner) × HasNextAcross s place other right until × (k ≡ across_count s other right))
over_here s place node other next until k end there also ends most can = go (subst (λ (n : Inner). CanJoinHere s place n next until k) (same_there s place.node node other there also) can)
  where
    go : CanJoinHere s place other next until k → (other.end ≤ next) × ((right : Inner) × HasNextAcross s place other right until × (k ≡ across_count s other right))
    go (inl is) = absurd (omega (arith, is.0, most, ends))
    go (inr is) = is

-- ---- how many new nodes

pub inside_counted : (s : Spine) (place : LeafPlace) (node : Inner) (first : Leaf) (to : List Ptr) (seq k : ℕ) (plan : Plan) → slice_get (bottom s.root s.below) place.node ≡ Some node → k ≡ moves s node 5 → IsMergePlan s place first to seq plan → above_count plan ≡ k
inside_counted s place node first to seq k plan there places is =
    let same = same_there s place.node is.above.node node is.above.there there in
    is.above.moved ∙ ap (λ n. moves s is.above.node n) (five_words is.key is.names.one) ∙ ap (λ (n : Inner). moves s n 5) same ∙ sym places

pub over_counted : (s : Spine) (place : LeafPlace) (left right : Inner) (first : Leaf) (to : List Ptr) (seq k : ℕ) (plan : Plan) → slice_get s.below place.node ≡ Some left → slice_get s.below (place.node + 1) ≡ Some right → k ≡ across_count s left right
    → IsAcrossPlan s place first to seq plan → above_count plan ≡ k
over_counted s place left right first to seq k plan there behind places is =
    let above = is.above in
    let one : above.left ≡ left = let h = above.there in cc in
    let other : above.right ≡ right = let h = above.behind in cc in
    above.count ∙ ap (λ (n : Inner). across_count s n above.right) one ∙ ap (λ (n : Inner). across_count s left n) other ∙ sym places

-- ---- what was planned

pub across_kept : (s t : Spine) (place : LeafPlace) (left right : Inner) (until : ℕ) → IsSameButSpare s t → HasNextAcross s place left right until → HasNextAcross t place left right until
across_kept s t place left right until only next =
    subst (λ (v : Spine). HasNextAcross v place left right until) (sym only)
    (record { there = next.there; behind = next.behind; last = next.last; key = next.key; child = next.child; leaf = next.leaf; leaf_there = next.leaf_there; ends = next.ends; end = next.end; before = next.before })

pub across_planned : (s t : Spine) (e : Exchange) (first : Leaf) (place : LeafPlace) (key : Key) (to : List Ptr) (seq : ℕ) (ptr : Ptr) → IsSameButSpare s t → IsMerged t.leaves place.leaf ptr e → ptr ≡ first.ptr
    → IsKeyOf first.end first.ptr key → (plan : Plan) → IsAcrossOf t (record { leaves = e; first = first; second = None }) place key to seq plan → IsAcrossPlan s place first to seq plan
across_planned s t e first place key to seq ptr only merged at names plan is = record {
  leaves_are = subst (λ (x : Exchange). IsMerged s.leaves place.leaf first.ptr x) (sym is.leaves_are)
      (subst (λ (p : Ptr). IsMerged s.leaves place.leaf p e) at (subst (λ (v : Spine). IsMerged v.leaves place.leaf ptr e) only merged));
  first_is = is.first_is;
  alone = is.second_is;
  key = key;
  names = names;
  above = (let here = subst (λ (v : Spine). IsJoinedAcross v place key to seq plan) only is.above in
      record { place_is = here.place_is; left = here.left; right = here.right; there = here.there; behind = here.behind; above = here.above; count = here.count });
}

-- the plan brings one leaf, and nodes above it
pub join_first : (s : Spine) (place : LeafPlace) (node : Inner) (next : ℕ) (first : Leaf) (to : List Ptr) (seq : ℕ) (plan : Plan) → IsMadeJoin s place node next first to seq plan → (plan.first ≡ first) × (plan.second ≡ None)
join_first s place node next first to seq plan (inl is) = (is.1.first_is, is.1.alone)
join_first s place node next first to seq plan (inr is) = (is.1.first_is, is.1.alone)
