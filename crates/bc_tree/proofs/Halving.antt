-- A plan by which the node above a leaf gives way to two.
use Rattle.std.proofs.Common.{◌≡◌, ◌==◌, inl, inr, ℕ, zero, suc, ◌+◌, ◌-◌, ◌/◌, ◌%◌, ◌^◌, ◌<◌, ◌≤◌, Bool, true, false, List, [], ◌∷◌, length, take, drop, Option, Some, None, refl, sym, subst, ap, ◌∙◌, arith, if◌then◌else◌}
use Rattle.std.specs.Prelude.{◌&&◌, IfOk, IfSome, Result, Ok, Err, option_to_list, slice_get}
use Rattle.std.proofs.lemmas.Bool.{cases_Bool}
use Rattle.std.proofs.lemmas.Option.{get_or_from_slice_get, slice_get_within}
use Rattle.bc_disk.specs.declared.geometry.Geometry.{Geometry}
use Rattle.bc_inner.specs.Inner.{CoverRange, Inner}
use Rattle.bc_key.specs.declared.key.Key.{Key}
use Rattle.bc_key.specs.declared.ptr.Ptr.{Ptr}
use Rattle.bc_node.specs.Leaf.{Leaf}
use Rattle.bc_spine.specs.Exchange.{IsFor, IsSplit}
use Rattle.bc_spine.specs.declared.exchange.Exchange.{Exchange}
use Rattle.bc_spine.specs.declared.leaf.LeafRange.{LeafRange}
use Rattle.bc_tree.specs.Change.{CanChange, IsChangeOf, set_words}
use Rattle.bc_tree.specs.Children.{children_after}
use Rattle.bc_tree.specs.Group.{AreNeighbours, AreTwo, CanStand, IsFresh, beside_count}
use Rattle.bc_tree.specs.Needs.{IsNeeded, fits_node, halved_needs, has_room, needs, split_needs, takes_set, words}
use Rattle.bc_tree.specs.Next.{below_next, leaves_next, nodes_next, root_next}
use Rattle.bc_tree.specs.Halves.{CanHalve, CanHalveAt, IsAboveHalves, IsHalved, IsHalvedAbove, IsHalvingOf, IsRaised, IsRegrouped, halves_count}
use Rattle.bc_tree.specs.Plan.{CanTake, Fits, IsKeyOf, Names, above_count, moved_count, moves, top_count}
use Rattle.bc_tree.specs.Split.{AreSplitPlaces, IsHalvesPlan, IsMadeSplit, IsSplitPlan}
use Rattle.bc_tree.specs.Same.{IsSameButSpare, IsSameTree, SameNode}
use Rattle.bc_tree.specs.Spine.{IsPlaceAt, IsProper, IsRootOf, IsSpine, NameNodes, Spine, bottom, last_end}
use Rattle.bc_tree.specs.declared.beside.Beside.{Beside}
use Rattle.bc_tree.specs.declared.beside.Beside.TheVariants.{Comes, Under}
use Rattle.bc_tree.specs.declared.change.NodeChange.{NodeChange}
use Rattle.bc_tree.specs.declared.change.NodeChange.TheVariants.{Move, Set}
use Rattle.bc_tree.specs.declared.group.Group.{Group}
use Rattle.bc_tree.specs.declared.needs.Needs.{Needs}
use Rattle.bc_tree.specs.declared.place.LeafPlace.{LeafPlace}
use Rattle.bc_tree.specs.declared.plan.Plan.{Plan}
use Rattle.bc_tree.proofs.Besides.{beside_same}
use Rattle.bc_tree.proofs.Choices.{split_halves, test}
use Rattle.bc_tree.proofs.Coming.{can_take, nodes_next_same, root_next_same, same_there}
use Rattle.bc_tree.proofs.Counts.{high_level, low_level, total}
use Rattle.bc_tree.proofs.Halved.{cut_within, halves_beside, halves_long, halves_tree, now, pair_can}
use Rattle.bc_tree.proofs.Moves.{covers_at, parent_at, proper_at, same_parent}
use Rattle.bc_tree.proofs.Spines.{end_more}
use Rattle.bc_tree.proofs.Splices.{after_covers, rise_covers}
use Rattle.bc_tree.proofs.Splits.{six_words, split_places, two_long, two_named, two_words}
use Rattle.bc_tree.proofs.Same.{bottom_same, get_same, long_same, spine_same}
use Rattle.bc_tree.proofs.Twos.{pair_live, pair_rises, pair_words}

-- ---- there is room for it

halves_stand : (g : Geometry) (root : Inner) (below : List Inner) (leaves : List LeafRange) (e : Exchange) (place at : ℕ) (come : List Key) (to : List Ptr) (seq : ℕ) (node low high : Inner) (next_to : List Ptr) (next_seq : ℕ) (change : NodeChange)
    (top : Option NodeChange) (beside : Beside) (new : Inner) (count room : ℕ)
    → IsSpine g root below leaves → IsProper g node → CanHalve g root below node place at come → AreTwo node.from node.end (length (now node at come) / 2) (now node at come) to seq low high
    → IsAboveHalves g root below place low high next_to next_seq change top beside → SameNode root new → 4 ≤ new.spare → count ≡ length below → 2 ≤ room
    → CanStand count room place beside × IfSome top (CanTake new) × (count ≡ 0 → top ≡ None) × ((n : Inner) → CanTake n change)
halves_stand g root [] leaves e place at come to seq node low high next_to next_seq change top beside new count room spine proper can two (raised, beside_is) same spare count_is some = (
  subst (λ (b : Beside). CanStand count room place b) (sym beside_is) (count_is, some),
  subst (λ (t : Option NodeChange). IfSome t (CanTake new)) (sym raised.none) tt,
  λ none. raised.none,
  λ n. subst (λ (ch : NodeChange). CanTake n ch) (sym raised.bottom_is) tt,
)
halves_stand g root (m ∷ nodes) leaves e place at come to seq node low high next_to next_seq change top beside new count room spine proper can two (regrouped, beside_is) same spare count_is some =
    let below = m ∷ nodes in
    let within = slice_get_within below place node can.there in
    let side = halves_beside g root below place at come to seq node low high proper can two in
    let ups = regrouped.low_key ∷ regrouped.high_key ∷ [] in
    let can_root = pair_can g root below place node low high regrouped.low_key regrouped.high_key spine.inner.root_is_proper spine.cover.0 spine.inner.root_of.1 can.there side regrouped.names.0 regrouped.names.1 (can.fits (omega arith)) in (
      subst (λ (b : Beside). CanStand count room place b) (sym beside_is) (omega (arith, within, count_is), omega (arith, some)),
      subst (λ (t : Option NodeChange). IfSome t (CanTake new)) (sym regrouped.top_is) (can_take g root new place 1 ups next_to next_seq regrouped.change can_root regrouped.change_is same (omega (arith, spare))),
      λ none. absurd (omega (arith, none, count_is)),
      λ n. subst (λ (ch : NodeChange). CanTake n ch) (sym regrouped.bottom_is) tt,
    )

pub fits_halves : (s t : Spine) (e : Exchange) (first : Leaf) (second : Option Leaf) (place : LeafPlace) (come : List Key) (to : List Ptr) (seq : ℕ) (node : Inner) (change : NodeChange) (top : Option NodeChange) (beside : Beside)
    → IsSpine s.geometry s.root s.below s.leaves → CanHalveAt s e place come → slice_get (bottom s.root s.below) place.node ≡ Some node
    → IsHalved s.geometry s.root s.below node place.node place.child come to seq change top beside → IsSameTree s t → t.spare ≡ s.spare → 2 ≤ t.room → 4 ≤ t.root.spare
    → Fits t (record { leaves = e; first = first; second = second; place = place.node; bottom = change; beside = beside; top = top })
fits_halves s t e first second place come to seq node change top beside spine can there is same spare room root_room =
    let g = s.geometry in
    let at = place.child in
    let seq2 = (seq + 2) % 2 ^ 64 in
    let can_node = subst (λ (n : Inner). CanHalve g s.root s.below n place.node at come) (same_there s place.node can.node node can.can.there there) can.can in
    let proper = proper_at s place.node node spine there in
    let got = get_same place.node (bottom s.root s.below) (bottom t.root t.below) node (bottom_same s.root t.root s.below t.below same.root_is same.below_are) there in
    let made = halves_tree g s.root s.below s.leaves e place.node at come to seq node is.low is.high (drop 2 to) seq2 change top beside spine proper can_node is.two can.before can.gone_is can.names is.above in
    let stand = halves_stand g s.root s.below s.leaves e place.node at come to seq node is.low is.high (drop 2 to) seq2 change top beside t.root (length t.below) t.room spine proper can_node is.two is.above same.root_is root_room
    (long_same s.below t.below same.below_are) room in
    let roots = root_next_same s.root t.root s.below t.below change top same.root_is same.below_are in
    let nodes = beside_same (nodes_next s.below place.node change) (nodes_next t.below place.node change) place.node beside (nodes_next_same s.below t.below place.node change same.below_are) in
    let there_tree = spine_same g (root_next s.root s.below change top) (root_next t.root t.below change top) (below_next s.below place.node change beside) (below_next t.below place.node change beside) (leaves_next s.leaves e) roots nodes made.0 in
    record {
      leaves_fit = subst (λ (ls : List LeafRange). IsFor ls e) (sym same.leaves_are) can.leaves_fit;
      spare = omega (arith, can.spare, spare);
      node = got.0;
      there = got.1;
      takes = stand.3 got.0;
      root_takes = stand.1;
      alone = stand.2;
      stands = stand.0;
      tree = subst (λ (x : Geometry). IsSpine x (root_next t.root t.below change top) (below_next t.below place.node change beside) (leaves_next t.leaves e)) (sym same.geometry_is)
          (subst (λ (ls : List LeafRange). IsSpine g (root_next t.root t.below change top) (below_next t.below place.node change beside) (leaves_next ls e)) (sym same.leaves_are) there_tree);
      end = roots.node.end ∙ made.1 ∙ sym same.root_is.node.end;
    }

-- ---- how many new nodes that makes

count_of : (s : Spine) (a b : Bool) → (s.root.level == 1) ≡ a → has_room s.geometry s.root 6 ≡ b → halves_count s ≡ (if a then 3 else if b then 2 else 3)
count_of s a b one two = rw (one, two) refl

halved_is-by : (s : Spine) (below : List Inner) (place : ℕ) (low high : Inner) (to : List Ptr) (seq : ℕ) (change : NodeChange) (top : Option NodeChange) (beside : Beside) → IsRootOf s.root s.below → s.below ≡ below
    → IsAboveHalves s.geometry s.root below place low high to seq change top beside → moved_count change + top_count top + beside_count beside ≡ halves_count s
halved_is-by s [] place low high to seq change top beside root none (raised, beside_is) =
    ap (λ (ch : NodeChange). moved_count ch + top_count top + beside_count beside) raised.bottom_is
    ∙ ap (λ (t : Option NodeChange). 1 + top_count t + beside_count beside) raised.none
    ∙ ap (λ (b : Beside). 1 + 0 + beside_count b) beside_is
    ∙ sym (count_of s true (has_room s.geometry s.root 6) (low_level s.root s.below root none) refl)
halved_is-by s (m ∷ nodes) place low high to seq change top beside root some (regrouped, beside_is) =
    ap (λ (ch : NodeChange). moved_count ch + top_count top + beside_count beside) regrouped.bottom_is
    ∙ ap (λ (t : Option NodeChange). 1 + top_count t + beside_count beside) regrouped.top_is
    ∙ ap (λ (b : Beside). 1 + moved_count regrouped.change + beside_count b) beside_is
    ∙ go regrouped.change regrouped.change_is
  where
    ups : List Key
    ups = regrouped.low_key ∷ regrouped.high_key ∷ []

    six : set_words 1 (regrouped.low_key ∷ regrouped.high_key ∷ []) ≡ 6
    six = omega (arith, pair_words regrouped.low_key regrouped.high_key regrouped.names.0.one regrouped.names.1.one)

    go : (ch : NodeChange) → IsChangeOf s.geometry s.root place 1 (regrouped.low_key ∷ regrouped.high_key ∷ []) to seq ch → 1 + moved_count ch + 1 ≡ halves_count s
    go (Set keys) is = sym (count_of s false true (high_level s.root m nodes s.below root some) (ap (has_room s.geometry s.root) (sym (is.size ∙ six)) ∙ is.room))
    go (Move next) is = sym (count_of s false false (high_level s.root m nodes s.below root some) (ap (has_room s.geometry s.root) (sym six) ∙ is.0))

pub halved_is : (s : Spine) (node : Inner) (place at : ℕ) (come : List Key) (to : List Ptr) (seq : ℕ) (change : NodeChange) (top : Option NodeChange) (beside : Beside) → IsSpine s.geometry s.root s.below s.leaves
    → IsHalved s.geometry s.root s.below node place at come to seq change top beside → moved_count change + top_count top + beside_count beside ≡ halves_count s
halved_is s node place at come to seq change top beside spine is = halved_is-by s s.below place is.low is.high (drop 2 to) ((seq + 2) % 2 ^ 64) change top beside spine.inner.root_of refl is.above

-- ---- how many places are needed

-- a split by halves is needed exactly where the root has room for it
halved_total : (s : Spine) (n : Needs) → Some n ≡ halved_needs s → (total n ≡ 2 + halves_count s) × ((s.root.level == 1) ≡ false → fits_node s.geometry (words s.root.children + 3) ≡ true)
halved_total s n is = go (s.root.level == 1) (has_room s.geometry s.root 6) (fits_node s.geometry (words s.root.children + 3)) refl refl refl
  where
    by : (a b d : Bool) → (s.root.level == 1) ≡ a → has_room s.geometry s.root 6 ≡ b → fits_node s.geometry (words s.root.children + 3) ≡ d
        → halved_needs s ≡ (if a then Some (needs 5 0) else if b && d then Some (needs 4 0) else if d then Some (needs 4 1) else None)
    by a b d one two three = rw (one, two, three) refl

    go : (a b d : Bool) → (s.root.level == 1) ≡ a → has_room s.geometry s.root 6 ≡ b → fits_node s.geometry (words s.root.children + 3) ≡ d → (total n ≡ 2 + halves_count s) × ((s.root.level == 1) ≡ false → fits_node s.geometry (words s.root.children + 3) ≡ true)
    go true b d one two three =
        let same : Some n ≡ Some (needs 5 0) = is ∙ by true b d one two three in
        let at : n ≡ needs 5 0 = cc in
        (ap total at ∙ ap (λ k. 2 + k) (sym (count_of s true b one two)), λ high. let no : true ≡ false = sym one ∙ high in absurd (cc))
    go false true true one two three =
        let same : Some n ≡ Some (needs 4 0) = is ∙ by false true true one two three in
        let at : n ≡ needs 4 0 = cc in
        (ap total at ∙ ap (λ k. 2 + k) (sym (count_of s false true one two)), λ high. three)
    go false false true one two three =
        let same : Some n ≡ Some (needs 4 1) = is ∙ by false false true one two three in
        let at : n ≡ needs 4 1 = cc in
        (ap total at ∙ ap (λ k. 2 + k) (sym (count_of s false false one two)), λ high. three)
    go false true false one two three = absurd (let no : Some n ≡ None = is ∙ by false true false one two three in cc)
    go false false false one two three = absurd (let no : Some n ≡ None = is ∙ by false false false one two three in cc)

no_set : (s : Spine) (p : Inner) → fits_node s.geometry (words p.children + 3) ≡ false → takes_set s.geometry p 6 3 ≡ false
no_set s p full = elim (cases_Bool (has_room s.geometry p 6)) [ inl is ↦ rw (is, full) refl | inr is ↦ rw is refl ]

pub halve_places : (s : Spine) (sector : ℕ) (place : LeafPlace) (k : ℕ) (is : IsPlaceAt s sector place) → IsSpine s.geometry s.root s.below s.leaves → fits_node s.geometry (words is.parent.children + 3) ≡ false
    → (n : Needs) × IsNeeded (split_needs s) s sector (Some n) × (k ≡ n.tree + n.moving) → (k ≡ 2 + halves_count s) × (0 < length s.below → fits_node s.geometry (words s.root.children + 3) ≡ true)
halve_places s sector place k is spine full (n, (p, held, needed), count) =
    let same = same_parent s sector p is.parent spine held (parent_at s sector place is) in
    let found = halved_total s n (needed ∙ ap (split_needs s) same ∙ sym (split_halves s is.parent (no_set s is.parent full) full)) in
    (count ∙ found.0, λ some. found.1 (high_some s.root s.below spine.inner.root_of some))
  where
    high_some : (root : Inner) (below : List Inner) → IsRootOf root below → 0 < length below → (root.level == 1) ≡ false
    high_some root [] is_root some = absurd (omega (arith, some))
    high_some root (m ∷ nodes) is_root some = high_level root m nodes (m ∷ nodes) is_root refl

pub halves_some : (s : Spine) → 2 ≤ halves_count s
halves_some s = go (s.root.level == 1) (has_room s.geometry s.root 6)
  where
    go : (a b : Bool) → 2 ≤ (if a then 3 else if b then 2 else 3)
    go true b = omega arith
    go false true = omega arith
    go false false = omega arith

-- a split takes two places for the leaves, and those of the nodes above
pub made_places : (s : Spine) (sector : ℕ) (place : LeafPlace) (k : ℕ) (is : IsPlaceAt s sector place) → IsSpine s.geometry s.root s.below s.leaves → (n : Needs) × IsNeeded (split_needs s) s sector (Some n) × (k ≡ n.tree + n.moving)
    → (2 ≤ k) × AreSplitPlaces s is.parent (k - 2)
made_places s sector place k is spine needed = elim (cases_Bool (fits_node s.geometry (words is.parent.children + 3))) [
  | inl fits ↦ (let places = split_places s sector place k is spine fits needed in (omega (arith, places), inl (fits, omega (arith, places))))
  | inr full ↦ (let places = halve_places s sector place k is spine full needed in (omega (arith, places.0), inr (full, omega (arith, places.0), places.1)))
]

-- the two leaves that come
pub made_first : (s : Spine) (place : LeafPlace) (node : Inner) (low high : Leaf) (to : List Ptr) (seq : ℕ) (plan : Plan) → IsMadeSplit s place node low high to seq plan → plan.first ≡ low
made_first s place node low high to seq plan (inl is) = is.1.first_is
made_first s place node low high to seq plan (inr is) = is.1.first_is

pub made_second : (s : Spine) (place : LeafPlace) (node : Inner) (low high : Leaf) (to : List Ptr) (seq : ℕ) (plan : Plan) → IsMadeSplit s place node low high to seq plan → length (option_to_list plan.second) ≡ 1
made_second s place node low high to seq plan (inl is) = ap (λ (l : Option Leaf). length (option_to_list l)) is.1.second_is
made_second s place node low high to seq plan (inr is) = ap (λ (l : Option Leaf). length (option_to_list l)) is.1.second_is

-- ---- a leaf that is split

pub can_halve : (s : Spine) (sector : ℕ) (place : LeafPlace) (cut : ℕ) (p q : Ptr) (low high : Key) (e : Exchange) (is : IsPlaceAt s sector place) → IsSpine s.geometry s.root s.below s.leaves → IsSplit s.leaves place.leaf cut p q e
    → IsFor s.leaves e → 1 ≤ s.spare → place.range.from < cut → cut < place.range.end → cut % 256 ≡ 0 → IsKeyOf cut p low → IsKeyOf place.range.end q high
    → (0 < length s.below → fits_node s.geometry (words s.root.children + 3) ≡ true) → CanHalveAt s e place (low ∷ high ∷ [])
can_halve s sector place cut p q low high e is spine split fits spare above below multiple name_low name_high room =
    let node = is.parent in
    let at = place.child in
    let within = slice_get_within node.children at is.key is.child in
    let same : split.leaf ≡ place.range = let one = split.there in let two = is.there in cc in
    let other = split.second in
    let reach : last_end node.from (take (at + 1) node.children) ≡ place.range.end =
    end_more node.from node.children at is.key within ∙ ap (λ (k : Key). k.end) (get_or_from_slice_get node.children at is.key is.key is.child) ∙ sym is.ends in
    record {
      leaves_fit = fits;
      spare = omega (arith, spare, split.gone, two_long e.first other.0 e.second other.1);
      gone_is = split.gone;
      before = split.at ∙ is.before;
      names = two_named low high e.first other.0 e.second other.1 (split.first.ends ∙ sym name_low.end) (split.first.stands ∙ sym name_low.ptr)
          (other.2.ends ∙ ap (λ (l : LeafRange). l.end) same ∙ sym name_high.end) (other.2.stands ∙ sym name_high.ptr);
      node = node;
      can = record {
        there = is.node;
        within = within;
        size = two_words low high name_low.one name_high.one;
        live = pair_live low high name_low.one name_high.one;
        long = refl;
        cover = after_covers node.from node.end node.children at 1 (low ∷ high ∷ []) (covers_at s place.node node spine is.node)
            (record {
              rise = (omega (arith, is.begins, above, name_low.end), ap (λ n. n % 256) name_low.end ∙ multiple, (omega (arith, name_low.end, name_high.end, below), ap (λ n. n % 256) name_high.end ∙ is.multiples.1, tt));
              end = name_high.end ∙ sym reach;
              some = omega arith;
            });
        fits = room;
      };
    }

halved_kept : (s t : Spine) (place : LeafPlace) (come : List Key) (to : List Ptr) (seq : ℕ) (plan : Plan) → IsSameButSpare s t → IsHalvedAbove t place come to seq plan → IsHalvedAbove s place come to seq plan
halved_kept s t place come to seq plan only is =
    let there = subst (λ (v : Spine). IsHalvedAbove v place come to seq plan) only is in
    record { place_is = there.place_is; node = there.node; there = there.there; above = there.above; count = there.count }

pub halves_planned : (s t : Spine) (e : Exchange) (low high : Leaf) (place : LeafPlace) (low_key high_key : Key) (to : List Ptr) (seq cut : ℕ) (p q : Ptr) → IsSameButSpare s t → IsSplit t.leaves place.leaf cut p q e
    → cut ≡ low.end → p ≡ low.ptr → q ≡ high.ptr → IsKeyOf low.end low.ptr low_key → IsKeyOf high.end high.ptr high_key
    → (plan : Plan) → IsHalvingOf t (record { leaves = e; first = low; second = Some high }) place (low_key ∷ high_key ∷ []) to seq plan → IsHalvesPlan s place low high to seq plan
halves_planned s t e low high place low_key high_key to seq cut p q only split cut_is p_is q_is low_names high_names plan is = record {
  leaves_are = subst (λ (x : Exchange). IsSplit s.leaves place.leaf low.end low.ptr high.ptr x) (sym is.leaves_are)
      (subst (λ n. IsSplit s.leaves place.leaf n low.ptr high.ptr e) cut_is
      (subst (λ (x : Ptr). IsSplit s.leaves place.leaf cut x high.ptr e) p_is (subst (λ (x : Ptr). IsSplit s.leaves place.leaf cut p x e) q_is (subst (λ (v : Spine). IsSplit v.leaves place.leaf cut p q e) only split))));
  first_is = is.first_is;
  second_is = is.second_is;
  low_key = low_key;
  low_names = low_names;
  high_key = high_key;
  high_names = high_names;
  above = halved_kept s t place (low_key ∷ high_key ∷ []) to seq plan only is.above;
}

-- ---- by whether the node above has room

pub fits_at : (s : Spine) (place : ℕ) (g : Geometry) (node other : Inner) (r is : Bool) → slice_get (bottom s.root s.below) place ≡ Some node → slice_get (bottom s.root s.below) place ≡ Some other → g ≡ s.geometry
    → r ≡ fits_node g (words node.children + 3) → r ≡ is → fits_node s.geometry (words other.children + 3) ≡ is
fits_at s place g node other r is there also same told known =
    subst (λ (n : Inner). fits_node s.geometry (words n.children + 3) ≡ is) (same_there s place node other there also) (test (λ (x : Geometry). fits_node x (words node.children + 3)) g s.geometry r is same told known)

pub room_places : (s : Spine) (node : Inner) (k : ℕ) → fits_node s.geometry (words node.children + 3) ≡ true → AreSplitPlaces s node k → k ≡ moves s node 6
room_places s node k fits (inl is) = is.1
room_places s node k fits (inr is) = absurd (let no : true ≡ false = sym fits ∙ is.0 in cc)

pub full_places : (s : Spine) (node : Inner) (k : ℕ) → fits_node s.geometry (words node.children + 3) ≡ false → AreSplitPlaces s node k → (k ≡ halves_count s) × (0 < length s.below → fits_node s.geometry (words s.root.children + 3) ≡ true)
full_places s node k full (inl is) = absurd (let no : true ≡ false = sym is.0 ∙ full in cc)
full_places s node k full (inr is) = (is.1, is.2)

pub split_counted : (s : Spine) (place : LeafPlace) (node : Inner) (low high : Leaf) (to : List Ptr) (seq k : ℕ) (plan : Plan) → slice_get (bottom s.root s.below) place.node ≡ Some node → k ≡ moves s node 6 → IsSplitPlan s place low high to seq plan → above_count plan ≡ k
split_counted s place node low high to seq k plan there places is =
    let same = same_there s place.node is.above.node node is.above.there there in
    is.above.moved ∙ ap (λ n. moves s is.above.node n) (six_words is.low_key is.high_key is.low_names.one is.high_names.one) ∙ ap (λ (n : Inner). moves s n 6) same ∙ sym places

-- ---- the root above the two

pub raised_cover : (old low high : Inner) (a b : Key) (from end : ℕ) (keys : List Key) → from ≡ old.from → end ≡ old.end → keys ≡ a ∷ b ∷ [] → AreNeighbours old.from old.end low high → Names a low → Names b high → CoverRange from end keys
raised_cover old low high a b from end keys begins ends are is one other =
    subst (λ ks. CoverRange from end ks) (sym are)
    (subst (λ n. CoverRange n end (a ∷ b ∷ [])) (sym begins)
    (subst (λ n. CoverRange old.from n (a ∷ b ∷ [])) (sym ends) (rise_covers old.from old.end (a ∷ b ∷ []) (pair_rises old.from old.end low high a b is one other) (omega arith) (other.end ∙ is.ends))))

pub raised_is : (old low high : Inner) (a b : Key) (from end : ℕ) (keys : List Key) (ptr : Ptr) (to : List Ptr) (seq : ℕ) (root : Inner) → from ≡ old.from → end ≡ old.end → keys ≡ a ∷ b ∷ [] → Names a low → Names b high
    → slice_get to 0 ≡ Some ptr → IsFresh 2 from end keys ptr seq root → IsRaised old low high to seq (Move root) None
raised_is old low high a b from end keys ptr to seq root begins ends are one other place is = record {
  low_key = a;
  high_key = b;
  names = (one, other);
  ptr = ptr;
  first_place = place;
  root = root;
  root_is = subst (λ ks. IsFresh 2 old.from old.end ks ptr seq root) are (subst (λ n. IsFresh 2 n old.end keys ptr seq root) begins (subst (λ n. IsFresh 2 from n keys ptr seq root) ends is));
  bottom_is = refl;
  none = refl;
}

-- ---- the two nodes, and what is above them

low_below : (root : Inner) (below : List Inner) (place : ℕ) (node : Inner) → length below ≡ 0 → slice_get (bottom root below) place ≡ Some node → node ≡ root
low_below root [] zero node none there = cc
low_below root [] (suc place) node none there = absurd (cc)
low_below root (m ∷ nodes) place node none there = absurd (omega (arith, none))

high_below : (root : Inner) (below : List Inner) (place : ℕ) (node : Inner) → 0 < length below → IsRootOf root below → slice_get (bottom root below) place ≡ Some node → (slice_get below place ≡ Some node) × NameNodes root.from root.children below
high_below root [] place node some is there = absurd (omega (arith, some))
high_below root (m ∷ nodes) place node some is there = (there, is.1)

pub beside_root : (g : Geometry) (root : Inner) (below : List Inner) (leaves : List LeafRange) (place at : ℕ) (come : List Key) (to : List Ptr) (seq : ℕ) (node low high : Inner) → IsProper g node → CanHalve g root below node place at come
    → AreTwo node.from node.end (length (now node at come) / 2) (now node at come) to seq low high → length below ≡ 0 → AreNeighbours root.from root.end low high
beside_root g root below leaves place at come to seq node low high proper can two none =
    subst (λ (n : Inner). AreNeighbours n.from n.end low high) (low_below root below place node none can.there) (halves_beside g root below place at come to seq node low high proper can two)

pub root_can_halve : (g : Geometry) (root : Inner) (below : List Inner) (leaves : List LeafRange) (place at : ℕ) (come : List Key) (to : List Ptr) (seq : ℕ) (node low high : Inner) → IsSpine g root below leaves → IsProper g node → CanHalve g root below node place at come
    → AreTwo node.from node.end (length (now node at come) / 2) (now node at come) to seq low high → 0 < length below → (a b : Key) → Names a low → Names b high → CanChange g root place 1 (a ∷ b ∷ [])
root_can_halve g root below leaves place at come to seq node low high spine proper can two some a b one other =
    let there = high_below root below place node some spine.inner.root_of can.there in
    pair_can g root below place node low high a b spine.inner.root_is_proper spine.cover.0 there.1 there.0 (halves_beside g root below place at come to seq node low high proper can two) one other (can.fits some)

-- how many places there are for what is above them
pub halves_left : (s : Spine) → IsSpine s.geometry s.root s.below s.leaves → (length s.below ≡ 0 → 3 ≤ halves_count s) × (has_room s.geometry s.root 6 ≡ false → 3 ≤ halves_count s)
halves_left s spine = (
  (λ none. let is = count_of s true (has_room s.geometry s.root 6) (low_is s.below none spine.inner.root_of) refl in omega (arith, is)),
  (λ full. go (s.root.level == 1) (count_of s (s.root.level == 1) false refl full)),
)
  where
    low_is : (below : List Inner) → length below ≡ 0 → IsRootOf s.root below → (s.root.level == 1) ≡ true
    low_is [] none is = low_level s.root [] is refl
    low_is (m ∷ nodes) none is = absurd (omega (arith, none))

    go : (a : Bool) → halves_count s ≡ (if a then 3 else if false then 2 else 3) → 3 ≤ halves_count s
    go true is = omega (arith, is)
    go false is = omega (arith, is)

pub above_low : (g : Geometry) (root : Inner) (below : List Inner) (place : ℕ) (low high : Inner) (to : List Ptr) (seq : ℕ) (change : NodeChange) (top : Option NodeChange) (beside : Beside) → length below ≡ 0
    → IsRaised root low high to seq change top → beside ≡ Under low high → IsAboveHalves g root below place low high to seq change top beside
above_low g root [] place low high to seq change top beside none is also = (is, also)
above_low g root (m ∷ nodes) place low high to seq change top beside none is also = absurd (omega (arith, none))

pub above_high : (g : Geometry) (root : Inner) (below : List Inner) (place : ℕ) (low high : Inner) (to : List Ptr) (seq : ℕ) (change : NodeChange) (top : Option NodeChange) (beside : Beside) → 0 < length below
    → IsRegrouped g root place 1 low high to seq change top → beside ≡ Comes high → IsAboveHalves g root below place low high to seq change top beside
above_high g root [] place low high to seq change top beside some is also = absurd (omega (arith, some))
above_high g root (m ∷ nodes) place low high to seq change top beside some is also = (is, also)

-- ---- the two, by what the calls give

pub two_here : (node low high : Inner) (at from end len : ℕ) (all come : List Key) (to : List Ptr) (seq : ℕ) → from ≡ node.from → end ≡ node.end → all ≡ now node at come → len ≡ length all → AreTwo from end (len / 2) all to seq low high
    → AreTwo node.from node.end (length (now node at come) / 2) (now node at come) to seq low high
two_here node low high at from end len all come to seq begins ends are long is =
    subst (λ ks. AreTwo node.from node.end (length ks / 2) ks to seq low high) are
    (subst (λ n. AreTwo node.from node.end (n / 2) all to seq low high) long (subst (λ n. AreTwo n node.end (len / 2) all to seq low high) begins (subst (λ n. AreTwo from n (len / 2) all to seq low high) ends is)))

pub cover_here : (g : Geometry) (root : Inner) (below : List Inner) (node : Inner) (place at from end : ℕ) (all come : List Key) → from ≡ node.from → end ≡ node.end → all ≡ now node at come → CanHalve g root below node place at come → CoverRange from end all
cover_here g root below node place at from end all come begins ends are can =
    subst (λ ks. CoverRange from end ks) (sym are) (subst (λ n. CoverRange n end (now node at come)) (sym begins) (subst (λ n. CoverRange node.from n (now node at come)) (sym ends) can.cover))

pub cut_here : (g : Geometry) (root : Inner) (below : List Inner) (node : Inner) (place at len : ℕ) (all come : List Key) → all ≡ now node at come → len ≡ length all → CanHalve g root below node place at come → (0 < len / 2) × (len / 2 < length all)
cut_here g root below node place at len all come are long can =
    let cut = cut_within (length (now node at come)) (length node.children) (halves_long node.children come at can.within can.long) (let within = can.within in omega (arith, within)) in
    (omega (arith, cut.0, long, ap (λ (ks : List Key). length ks) are), omega (arith, cut.1, long, ap (λ (ks : List Key). length ks) are))

pub two_read : (node low high : Inner) (at from end len : ℕ) (children all items come : List Key) (to : List Ptr) (seq : ℕ) → from ≡ node.from → end ≡ node.end → children ≡ node.children → items ≡ children_after children at 1 come → all ≡ items → len ≡ length items
    → AreTwo from end (len / 2) all to seq low high → AreTwo node.from node.end (length (now node at come) / 2) (now node at come) to seq low high
two_read node low high at from end len children all items come to seq begins ends are made read long is =
    two_here node low high at from end len all come to seq begins ends (read ∙ made ∙ ap (λ ks. children_after ks at 1 come) are) (long ∙ ap (λ (ks : List Key). length ks) (sym read)) is

-- the node is the one that stands there
pub node_here : (s : Spine) (place at : ℕ) (come : List Key) (node other : Inner) → CanHalve s.geometry s.root s.below node place at come → slice_get (bottom s.root s.below) place ≡ Some other → CanHalve s.geometry s.root s.below other place at come
node_here s place at come node other can there = subst (λ (n : Inner). CanHalve s.geometry s.root s.below n place at come) (same_there s place node other can.there there) can

pub halved_low : {E : Type 0} (s : Spine) (place at : ℕ) (come : List Key) (to part : List Ptr) (seq : ℕ) (node low high : Inner) (answer : Result Group E) → slice_get (bottom s.root s.below) place ≡ Some node → part ≡ drop 2 to
    → AreTwo node.from node.end (length (now node at come) / 2) (now node at come) to seq low high → length s.below ≡ 0
    → IfOk answer (λ group. IsRaised s.root low high part ((seq + 2) % 2 ^ 64) group.bottom group.top) → IfOk answer (λ group. group.beside ≡ Under low high)
    → IfOk answer (λ group. (x : Inner) × (slice_get (bottom s.root s.below) place ≡ Some x) × IsHalved s.geometry s.root s.below x place at come to seq group.bottom group.top group.beside)
halved_low s place at come to part seq node low high (Ok group) there part_is two none is also = (
  node,
  there,
  record {
    low = low;
    high = high;
    two = two;
    above = above_low s.geometry s.root s.below place low high (drop 2 to) ((seq + 2) % 2 ^ 64) group.bottom group.top group.beside none
        (subst (λ (ps : List Ptr). IsRaised s.root low high ps ((seq + 2) % 2 ^ 64) group.bottom group.top) part_is is) also;
  },
)
halved_low s place at come to part seq node low high (Err e) there part_is two none is also = tt

pub halved_high : {E : Type 0} (s : Spine) (place at : ℕ) (come : List Key) (to part : List Ptr) (seq : ℕ) (node low high : Inner) (answer : Result Group E) → slice_get (bottom s.root s.below) place ≡ Some node → part ≡ drop 2 to
    → AreTwo node.from node.end (length (now node at come) / 2) (now node at come) to seq low high → 0 < length s.below
    → IfOk answer (λ group. IsRegrouped s.geometry s.root place 1 low high part ((seq + 2) % 2 ^ 64) group.bottom group.top) → IfOk answer (λ group. group.beside ≡ Comes high)
    → IfOk answer (λ group. (x : Inner) × (slice_get (bottom s.root s.below) place ≡ Some x) × IsHalved s.geometry s.root s.below x place at come to seq group.bottom group.top group.beside)
halved_high s place at come to part seq node low high (Ok group) there part_is two some is also = (
  node,
  there,
  record {
    low = low;
    high = high;
    two = two;
    above = above_high s.geometry s.root s.below place low high (drop 2 to) ((seq + 2) % 2 ^ 64) group.bottom group.top group.beside some
        (subst (λ (ps : List Ptr). IsRegrouped s.geometry s.root place 1 low high ps ((seq + 2) % 2 ^ 64) group.bottom group.top) part_is is) also;
  },
)
halved_high s place at come to part seq node low high (Err e) there part_is two some is also = tt
