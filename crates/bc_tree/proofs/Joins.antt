-- One leaf that comes in the place of two below one node.
use Rattle.std.proofs.Common.{◌≡◌, inl, inr, ℕ, zero, suc, ◌+◌, ◌-◌, ◌%◌, ◌<◌, ◌≤◌, Bool, true, false, List, [], ◌∷◌, ◌++◌, length, get_or, take, drop, Option, Some, None, refl, sym, subst, ap, ◌∙◌, arith}
use Rattle.std.specs.Prelude.{All, IfSome, nat_lt, option_to_list, slice_get}
use Rattle.std.proofs.lemmas.Bool.{cases_lt, lt-ltb}
use Rattle.std.proofs.lemmas.List.{take_all}
use Rattle.std.proofs.lemmas.List.Elements.{All-append, All-cons, All-nil}
use Rattle.std.proofs.lemmas.Option.{get_or_from_slice_get, slice_get_within}
use Rattle.bc_extent.specs.Extents.{IsInOrder, IsRange}
use Rattle.bc_inner.specs.Inner.{Inner}
use Rattle.bc_key.specs.Key.{start_of}
use Rattle.bc_key.specs.declared.key.Key.{Key}
use Rattle.bc_key.specs.declared.ptr.Ptr.{Ptr}
use Rattle.bc_keys.proofs.KeyLists.{length-words_of}
use Rattle.bc_node.specs.Leaf.{AreProperKeys, Leaf}
use Rattle.bc_spine.proofs.Lists.{AllPairs-append}
use Rattle.bc_spine.specs.Exchange.{IsFor, IsMerged}
use Rattle.bc_spine.specs.Leaves.{IsRow, Spans}
use Rattle.bc_spine.specs.declared.exchange.Exchange.{Exchange}
use Rattle.bc_spine.specs.declared.leaf.LeafRange.{LeafRange}
use Rattle.bc_tree.specs.Children.{EndsBefore, HasPointer}
use Rattle.bc_tree.specs.Change.{set_words}
use Rattle.bc_tree.specs.Needs.{IsNeededForBoth, across_needs, can_merge, inside_needs, merge_needs}
use Rattle.bc_tree.specs.Parts.{LiesBetween}
use Rattle.bc_tree.specs.Merge.{HasNextLeaf, IsMergePlan}
use Rattle.bc_tree.specs.Plan.{CanExchange, IsKeyOf, IsOfSpine, IsPlanOf, moves}
use Rattle.bc_tree.specs.Same.{IsSameButSpare}
use Rattle.bc_tree.specs.Spine.{Covers, IsPlaceAt, IsSpine, NameLeaves, Spine, bottom, children_in, last_end}
use Rattle.bc_tree.specs.declared.needs.Needs.{Needs}
use Rattle.bc_tree.specs.declared.place.LeafPlace.{LeafPlace}
use Rattle.bc_tree.specs.declared.plan.Plan.{Plan}
use Rattle.bc_tree.proofs.Choices.{merge_across, merge_inside}
use Rattle.bc_tree.proofs.Coming.{same_there}
use Rattle.bc_tree.proofs.Counts.{fits_now, low_count, total}
use Rattle.bc_tree.proofs.Moves.{above_kept, covers_at, one_named, parent_at, proper_at, range_is, same_parent}
use Rattle.bc_tree.proofs.Places.{children_split, get_before, get_behind, some_there}
use Rattle.bc_tree.proofs.Neighbours.{row_next}
use Rattle.bc_tree.proofs.Proper.{words_cons}
use Rattle.bc_tree.proofs.Spines.{cover_ends, cover_rises, end_more, rise_at}
use Rattle.bc_tree.proofs.Splices.{can_replace}

-- a child that ends before its node does isn't the last one
more_there : (node : Inner) (i : ℕ) (key : Key) → Covers node → slice_get node.children i ≡ Some key → key.end < node.end → i + 1 < length node.children
more_there node i key cover there less =
    let within = slice_get_within node.children i key there in
    elim (cases_lt (i + 1) (length node.children)) [
      | inl more ↦ more
      | inr most ↦
          (let ends = sym (cover_ends node.from node.end node.children cover) ∙ ap (last_end node.from) (sym (take_all (i + 1) node.children most)) ∙ end_more node.from node.children i key within
          ∙ ap (λ (k : Key). k.end) (get_or_from_slice_get node.children i key key there) in
          absurd (omega (arith, less, ends)))
    ]

pub named_there : (keys : List Key) (leaves : List LeafRange) (i : ℕ) (key : Key) → NameLeaves keys leaves → slice_get keys i ≡ Some key → (leaf : LeafRange) × (slice_get leaves i ≡ Some leaf) × (leaf.end ≡ key.end)
named_there [] leaves i key names there = absurd (cc)
named_there (k ∷ keys) [] i key names there = absurd names
named_there (k ∷ keys) (l ∷ leaves) zero key names there = let same : k ≡ key = cc in (l, refl, names.0 ∙ ap (λ (x : Key). x.end) same)
named_there (k ∷ keys) (l ∷ leaves) (suc i) key names there = named_there keys leaves i key names.2 there

-- the leaf behind one whose parent goes on is named by the next child
next_is : (s : Spine) (sector b until : ℕ) (place : LeafPlace) (is : IsPlaceAt s sector place) → IsSpine s.geometry s.root s.below s.leaves → IsRow 0 s.leaves b → place.range.end < is.parent.end
    → ((i : ℕ) (range : LeafRange) → slice_get s.leaves i ≡ Some range → Spans range place.range.end → (range.from ≡ place.range.end) × (range.end ≡ until)) → HasNextLeaf s place until × (place.range.end < until)
next_is s sector b until place is spine row less right =
    let node = is.parent in
    let nodes = bottom s.root s.below in
    let more = more_there node place.child is.key (covers_at s place.node node spine is.node) is.child (omega (arith, less, is.ends)) in
    let next = some_there node.children (place.child + 1) more in
    let split = children_split nodes place.node node is.node in
    let front = children_in (take place.node nodes) in
    let here : slice_get (children_in nodes) (length front + (place.child + 1)) ≡ Some next.0 =
    ap (λ ks. slice_get ks (length front + (place.child + 1))) split.1 ∙ get_behind front (node.children ++ split.0) (place.child + 1) ∙ (get_before node.children split.0 (place.child + 1) next.0 next.1).0 in
    let at : length front + (place.child + 1) ≡ place.leaf + 1 = omega (arith, is.before) in
    let leaf = named_there (children_in nodes) s.leaves (place.leaf + 1) next.0 spine.names (ap (λ n. slice_get (children_in nodes) n) (sym at) ∙ here) in
    let one : place.leaf + 1 ≡ suc place.leaf = omega arith in
    let ends = row_next 0 b s.leaves place.leaf place.range leaf.0 row is.there (ap (λ n. slice_get s.leaves n) (sym one) ∙ leaf.1) in
    let end = (right (place.leaf + 1) leaf.0 leaf.1 (omega (arith, ends.0), omega (arith, ends.0, ends.1))).1 in
    (record { node = node; above = is.node; key = next.0; child = next.1; leaf = leaf.0; there = leaf.1; ends = leaf.2; end = end }, omega (arith, ends.0, ends.1, end))

pub can_join : (s : Spine) (sector : ℕ) (place : LeafPlace) (end : ℕ) (ptr : Ptr) (key : Key) (e : Exchange) (is : IsPlaceAt s sector place) → IsSpine s.geometry s.root s.below s.leaves → IsMerged s.leaves place.leaf ptr e
    → IsFor s.leaves e → HasNextLeaf s place end → IsKeyOf end ptr key → CanExchange s e place 2 (key ∷ [])
can_join s sector place end ptr key e is spine merged fits next name =
    let node = is.parent in
    let child = subst (λ (n : Inner). slice_get n.children (place.child + 1) ≡ Some next.key) (same_there s place.node next.node node next.above is.node) next.child in
    let at = place.child in
    let within : at + 1 < length node.children = slice_get_within node.children (at + 1) next.key child in
    let one : place.leaf + 1 ≡ suc place.leaf = omega arith in
    let same : merged.right ≡ next.leaf = let first = merged.there.1 in let two = ap (λ n. slice_get s.leaves n) (sym one) ∙ next.there in cc in
    let cover = covers_at s place.node node spine is.node in
    let rise = cover_rises node.from node.end node.children cover in
    let key_ends : key.end ≡ next.key.end = name.end ∙ sym next.end ∙ next.ends in
    let at_next : (get_or node.children (at + 1) key).end ≡ next.key.end = ap (λ (k : Key). k.end) (get_or_from_slice_get node.children (at + 1) next.key key child) in
    let high = rise_at node.from node.children (at + 1) key rise within in
    let low = rise_at node.from node.children at key rise (omega (arith, within)) in
    let more = end_more node.from node.children at key (omega (arith, within)) in
    let reach : last_end node.from (take (at + 2) node.children) ≡ next.key.end =
    ap (λ n. last_end node.from (take n node.children)) (let two : at + 2 ≡ at + 1 + 1 = omega arith in two) ∙ end_more node.from node.children (at + 1) key within ∙ at_next in
    record {
      fits = fits;
      spare = omega (arith, merged.gone, ap (λ (ls : List LeafRange). length ls) merged.alone);
      gone_are = merged.gone;
      before = merged.at ∙ is.before;
      names = one_named key e.first (option_to_list e.second) [] merged.alone (merged.merged.ends ∙ ap (λ (l : LeafRange). l.end) same ∙ next.ends ∙ sym key_ends) (merged.merged.stands ∙ sym name.ptr);
      node = node;
      there = is.node;
      can = can_replace s.geometry node at 2 0 (key ∷ []) [] key (proper_at s place.node node spine is.node) cover (omega arith) (omega (arith, within))
          (record {
            rise = (omega (arith, low.0, high.0, more, at_next, key_ends), ap (λ n. n % 256) (key_ends ∙ sym at_next) ∙ high.1, tt);
            end = key_ends ∙ sym reach;
            some = omega arith;
          })
          (All-cons HasPointer key [] (omega (arith, name.one)) (All-nil HasPointer))
          refl
          (behind at key (omega (arith, within)) (omega (arith, high.0, more, at_next, key_ends)))
          (omega (arith, words_cons key [], length-words_of key, name.one))
          (fits_now s.geometry node (proper_at s place.node node spine is.node));
    }
  where
    one_dropped : (xs : List Key) (i : ℕ) (d : Key) → i < length xs → take 1 (drop i xs) ≡ get_or xs i d ∷ []
    one_dropped [] i d inside = absurd (omega (arith, inside))
    one_dropped (x ∷ xs) zero d inside = refl
    one_dropped (x ∷ xs) (suc i) d inside = one_dropped xs i d (omega (arith, inside))

    behind : (i : ℕ) (key : Key) → i < length is.parent.children → (get_or is.parent.children i key).end < key.end → All (λ child. All (EndsBefore child) (key ∷ [])) (take (2 - 1) (drop i is.parent.children))
    behind i key inside less = subst (λ ks. All (λ child. All (EndsBefore child) (key ∷ [])) ks) (sym (one_dropped is.parent.children i key inside))
        (All-cons (λ child. All (EndsBefore child) (key ∷ [])) (get_or is.parent.children i key) [] (All-cons (EndsBefore (get_or is.parent.children i key)) key [] less (All-nil (EndsBefore (get_or is.parent.children i key)))) (All-nil (λ child. All (EndsBefore child) (key ∷ []))))

pub five_words : (key : Key) → key.count ≡ 1 → set_words 2 (key ∷ []) ≡ 5
five_words key one = omega (arith, words_cons key [], length-words_of key, one)

pub next_kept : (s t : Spine) (place : LeafPlace) (until : ℕ) → IsSameButSpare s t → HasNextLeaf s place until → HasNextLeaf t place until
next_kept s t place until only next =
    subst (λ (v : Spine). HasNextLeaf v place until) (sym only)
    (record { node = next.node; above = next.above; key = next.key; child = next.child; leaf = next.leaf; there = next.there; ends = next.ends; end = next.end })

pub join_planned : (s t : Spine) (e : Exchange) (first : Leaf) (place : LeafPlace) (key : Key) (to : List Ptr) (seq : ℕ) (ptr : Ptr) → IsSameButSpare s t → IsMerged t.leaves place.leaf ptr e → ptr ≡ first.ptr
    → IsKeyOf first.end first.ptr key → (plan : Plan) → IsPlanOf t (record { leaves = e; first = first; second = None }) place 2 (key ∷ []) to seq plan → IsMergePlan s place first to seq plan
join_planned s t e first place key to seq ptr only merged at names plan is = record {
  leaves_are = subst (λ (x : Exchange). IsMerged s.leaves place.leaf first.ptr x) (sym is.leaves_are)
      (subst (λ (p : Ptr). IsMerged s.leaves place.leaf p e) at (subst (λ (v : Spine). IsMerged v.leaves place.leaf ptr e) only merged));
  first_is = is.first_is;
  alone = is.second_is;
  key = key;
  names = names;
  above = above_kept s t place 2 (key ∷ []) to seq plan only is.above;
}

-- ---- how many places are needed

join_room : (s : Spine) (left right : Leaf) (p other : Inner) → can_merge s.geometry left right ≡ true → right.from < p.end → Some (inside_needs s p) ≡ merge_needs s left right p other
join_room s left right p other can less = merge_inside s left right p other can (lt-ltb right.from p.end less)

pub join_places : (s : Spine) (left right : Leaf) (place : LeafPlace) (k : ℕ) (is : IsPlaceAt s left.from place) → IsSpine s.geometry s.root s.below s.leaves → can_merge s.geometry left right ≡ true → left.from ≤ right.from → right.from < is.parent.end
    → (n : Needs) × IsNeededForBoth s left right (Some n) × (k ≡ n.tree + n.moving) → k ≡ 1 + moves s is.parent 5
join_places s left right place k is spine can behind less (n, (other, apart, (p, held, needed)), count) =
    let same = same_parent s left.from p is.parent spine held (parent_at s left.from place is) in
    let both : Some n ≡ Some (inside_needs s is.parent) = needed ∙ ap (λ (x : Inner). merge_needs s left right x other) same ∙ sym (join_room s left right is.parent other can less) in
    let one : n ≡ inside_needs s is.parent = cc in
    count ∙ ap total one ∙ total_is
  where
    total_is : total (inside_needs s is.parent) ≡ 1 + moves s is.parent 5
    total_is = omega (arith, low_count s is.parent 5 0 0 1 spine.inner.root_is_proper (fits_now s.geometry is.parent (proper_at s place.node is.parent spine is.node)))

-- the next leaf, by the leaves themselves
pub neighbour : (s : Spine) (left right : Leaf) (b : ℕ) (place : LeafPlace) (is : IsPlaceAt s left.from place) → IsSpine s.geometry s.root s.below s.leaves → IsRow 0 s.leaves b → IsOfSpine s left → IsOfSpine s right
    → left.end ≡ right.from → right.from < is.parent.end → HasNextLeaf s place right.end × (right.from < right.end) × (left.from < right.from)
neighbour s left right b place is spine row one two beside less =
    let range = range_is s left.from left.end place one.range is in
    let e : right.from ≡ place.range.end = sym beside ∙ sym range.1 in
    let ranges = subst (λ n. (i : ℕ) (r : LeafRange) → slice_get s.leaves i ≡ Some r → Spans r n → (r.from ≡ n) × (r.end ≡ right.end)) e two.range in
    let next = next_is s left.from b right.end place is spine row (omega (arith, less, e)) ranges in
    (next.0, omega (arith, next.1, e), omega (arith, beside, range.2))

-- ---- the keys of both

pub joined_order : (from middle end : ℕ) (xs ys : List Key) → AreProperKeys from middle xs → AreProperKeys middle end ys → IsInOrder (xs ++ ys)
joined_order from middle end xs ys one two = (
  All-append IsRange xs ys one.order.0 two.order.0,
  AllPairs-append (λ a b. a.end ≤ start_of b) xs ys one.order.1 two.order.1 (λ i d inside j e within. let high = (one.within i d inside).1 in let low = (two.within j e within).0 in omega arith),
)

pub joined_within : (from middle end : ℕ) (xs ys : List Key) → from ≤ middle → middle ≤ end → AreProperKeys from middle xs → AreProperKeys middle end ys → All (LiesBetween from end) (xs ++ ys)
joined_within from middle end xs ys low high one two =
    All-append (LiesBetween from end) xs ys (λ k d inside. let is = one.within k d inside in (is.0, omega (arith, is.1, high))) (λ k d inside. let is = two.within k d inside in (omega (arith, is.0, low), is.1))

-- where two leaves can become one, there is a need
pub some_needed : (s : Spine) (left right : Leaf) (k : ℕ) → can_merge s.geometry left right ≡ true → (n : Option Needs) × IsNeededForBoth s left right n × IfSome n (λ some. k ≡ some.tree + some.moving)
    → (n : Needs) × IsNeededForBoth s left right (Some n) × (k ≡ n.tree + n.moving)
some_needed s left right k can (Some n, needed, count) = (n, needed, count)
some_needed s left right k can (None, (other, apart, (p, held, none)), count) = go (nat_lt right.from p.end) refl
  where
    go : (b : Bool) → nat_lt right.from p.end ≡ b → (n : Needs) × IsNeededForBoth s left right (Some n) × (k ≡ n.tree + n.moving)
    go true inside = absurd (let some = merge_inside s left right p other can inside in let two : Some (inside_needs s p) ≡ None = some ∙ sym none in cc)
    go false across = absurd (let some = merge_across s left right p other can across in let two : Some (across_needs s p other) ≡ None = some ∙ sym none in cc)
