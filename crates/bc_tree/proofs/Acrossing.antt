-- A plan by which two neighbouring leaves of two nodes become one.
use Rattle.std.proofs.Common.{◌≡◌, ◌==◌, inl, inr, ℕ, zero, suc, ◌+◌, ◌-◌, ◌*◌, ◌%◌, ◌^◌, ◌<◌, ◌≤◌, Bool, true, false, List, [], ◌∷◌, ◌++◌, length, take, drop, Option, Some, None, refl, sym, subst, ap, ◌∙◌, arith, if◌then◌else◌}
use Rattle.std.specs.Prelude.{◌&&◌, IfOk, IfSome, Result, Ok, Err, slice_get}
use Rattle.std.proofs.lemmas.Bool.{cases_Bool}
use Rattle.std.proofs.lemmas.Option.{slice_get_within}
use Rattle.bc_disk.specs.declared.geometry.Geometry.{Geometry}
use Rattle.bc_inner.specs.Inner.{Inner}
use Rattle.bc_key.specs.declared.key.Key.{Key}
use Rattle.bc_key.specs.declared.ptr.Ptr.{Ptr}
use Rattle.bc_keys.proofs.KeyLists.{length-words_of}
use Rattle.bc_node.specs.Leaf.{Leaf}
use Rattle.bc_spine.specs.Exchange.{IsFor, coming}
use Rattle.bc_spine.specs.declared.exchange.Exchange.{Exchange}
use Rattle.bc_spine.specs.declared.leaf.LeafRange.{LeafRange}
use Rattle.bc_tree.specs.Change.{CanChange, IsChangeOf, set_words}
use Rattle.bc_tree.specs.Group.{AreTwo, CanStand, IsFresh, beside_count}
use Rattle.bc_tree.specs.Needs.{across_needs, become_one, fits_node, has_room, needs, takes_set, with_root, words}
use Rattle.bc_tree.specs.Next.{below_next, leaves_next, node_next, nodes_next, root_next}
use Rattle.bc_tree.specs.Across.{CanJoinAcross, CanJoinAt, IsAcross, IsOneBelow, across_count, children_across}
use Rattle.bc_tree.specs.Halves.{IsRegrouped}
use Rattle.bc_tree.specs.Plan.{CanTake, Fits, Names, moved_count, top_count}
use Rattle.bc_tree.specs.Same.{IsSameTree, SameNode}
use Rattle.bc_tree.specs.Spine.{IsProper, IsSpine, NameLeaves, Spine, bottom, children_in}
use Rattle.bc_tree.specs.declared.beside.Beside.{Beside}
use Rattle.bc_tree.specs.declared.beside.Beside.TheVariants.{Goes, Moves}
use Rattle.bc_tree.specs.declared.change.NodeChange.{NodeChange}
use Rattle.bc_tree.specs.declared.change.NodeChange.TheVariants.{Move, Set}
use Rattle.bc_tree.specs.declared.group.Group.{Group}
use Rattle.bc_tree.specs.declared.needs.Needs.{Needs}
use Rattle.bc_tree.specs.declared.place.LeafPlace.{LeafPlace}
use Rattle.bc_tree.proofs.Crossed.{across_tree, one_can, one_children, one_covers, one_in_place, one_names, one_proper, two_can, two_covers, two_have, two_in_place, two_names, two_propers}
use Rattle.bc_tree.proofs.Besides.{beside_same, goes_is, moves_is}
use Rattle.bc_tree.proofs.Coming.{can_take, nodes_next_same, root_next_same}
use Rattle.bc_tree.proofs.Counts.{fits_now, total}
use Rattle.bc_tree.proofs.Groups.{spliced}
use Rattle.bc_tree.proofs.Moves.{all_at}
use Rattle.bc_tree.proofs.Proper.{words_cons}
use Rattle.bc_tree.proofs.Same.{bottom_same, get_same, long_same, spine_same}
use Rattle.bc_tree.proofs.Twos.{pair_words}

-- ---- the tree, and the room for it

pub record IsMadeAcross (g : Geometry) (root : Inner) (below : List Inner) (leaves : List LeafRange) (e : Exchange) (place : ℕ) (change : NodeChange) (top : Option NodeChange) (beside : Beside) : Type 0 where
  pub tree : IsSpine g (root_next root below change top) (below_next below place change beside) (leaves_next leaves e)
  pub end : (root_next root below change top).end ≡ root.end
  pub takes : (new : Inner) → SameNode root new → 4 ≤ new.spare → IfSome top (CanTake new)
  pub node_takes : (n : Inner) → CanTake n change
  pub stands : (count room : ℕ) → count ≡ length below → CanStand count room place beside
  pub some : 0 < length below

pub made_across : (g : Geometry) (root : Inner) (below : List Inner) (leaves : List LeafRange) (e : Exchange) (place : ℕ) (key : Key) (left right : Inner) (to : List Ptr) (seq : ℕ) (change : NodeChange) (top : Option NodeChange) (beside : Beside)
    → IsSpine g root below leaves → CanJoinAcross below left right place key → e.place ≡ length (children_in (take place below)) + (length left.children - 1) → e.gone ≡ 2 → NameLeaves (key ∷ []) (coming e)
    → IsAcross g root left right place key to seq change top beside → IsMadeAcross g root below leaves e place change top beside
made_across g root [] leaves e place key left right to seq change top beside spine can before gone more is = absurd (let there = can.there in cc)
made_across g root (m ∷ nodes) leaves e place key left right to seq change top beside spine can before gone more (inl (small, is)) =
    let below = m ∷ nodes in
    let above = is.above in
    let up = above.key in
    let seq2 = (seq + 1) % 2 ^ 64 in
    let can_root = one_can g root m nodes leaves place key left right spine can is.one up is.ptr seq is.one_is above.names in
    let made = across_tree g root m nodes leaves place key left right spine can e above.change (drop 1 to) seq2 (up ∷ []) (is.one ∷ []) can_root
    (one_in_place g root m nodes leaves place key left right spine can is.one up is.ptr seq is.one_is above.names) above.change_is
    (one_names g root m nodes leaves place key left right spine can is.one up is.ptr seq is.one_is above.names) (one_proper g root m nodes leaves place key left right spine can is.one up is.ptr seq is.one_is above.names small)
    (one_covers g root m nodes leaves place key left right spine can is.one up is.ptr seq is.one_is above.names) (omega arith) (one_children g root m nodes leaves place key left right spine can is.one up is.ptr seq is.one_is above.names) before gone more in
    record {
      tree = subst (λ (b : Beside). IsSpine g (root_next root below change top) (below_next below place change b) (leaves_next leaves e)) (sym is.beside_is)
          (subst (λ (t : Option NodeChange). IsSpine g (root_next root below change t) (below_next below place change Goes) (leaves_next leaves e)) (sym above.top_is)
          (subst (λ (ch : NodeChange). IsSpine g (node_next root above.change) (below_next below place ch Goes) (leaves_next leaves e)) (sym above.bottom_is)
          (subst (λ ns. IsSpine g (node_next root above.change) ns (leaves_next leaves e)) (sym (goes_is below place left (Move is.one) can.there)) made.0)));
      end = subst (λ (t : Option NodeChange). (root_next root below change t).end ≡ root.end) (sym above.top_is) made.1;
      takes = λ new same spare. subst (λ (t : Option NodeChange). IfSome t (CanTake new)) (sym above.top_is) (can_take g root new place 2 (up ∷ []) (drop 1 to) seq2 above.change can_root above.change_is same (omega (arith, spare)));
      node_takes = λ n. subst (λ (ch : NodeChange). CanTake n ch) (sym above.bottom_is) tt;
      stands = λ count room is_count. subst (λ (b : Beside). CanStand count room place b) (sym is.beside_is) (omega (arith, is_count, slice_get_within below (place + 1) right can.behind));
      some = omega arith;
    }
made_across g root (m ∷ nodes) leaves e place key left right to seq change top beside spine can before gone more (inr (large, is)) =
    let below = m ∷ nodes in
    let above = is.above in
    let ka = above.low_key in
    let kb = above.high_key in
    let seq2 = (seq + 2) % 2 ^ 64 in
    let can_root = two_can g root m nodes leaves place key left right spine can is.low is.high ka kb to seq is.two above.names.0 above.names.1 large in
    let made = across_tree g root m nodes leaves place key left right spine can e above.change (drop 2 to) seq2 (ka ∷ kb ∷ []) (is.low ∷ is.high ∷ []) can_root
    (two_in_place g root m nodes leaves place key left right spine can is.low is.high ka kb to seq is.two above.names.0 above.names.1 large) above.change_is
    (two_names g root m nodes leaves place key left right spine can is.low is.high ka kb to seq is.two above.names.0 above.names.1 large) (two_propers g root m nodes leaves place key left right spine can is.low is.high ka kb to seq is.two above.names.0 above.names.1 large)
    (two_covers g root m nodes leaves place key left right spine can is.low is.high ka kb to seq is.two above.names.0 above.names.1 large) (omega arith)
    (two_have g root m nodes leaves place key left right spine can is.low is.high ka kb to seq is.two above.names.0 above.names.1 large) before gone more in
    record {
      tree = subst (λ (b : Beside). IsSpine g (root_next root below change top) (below_next below place change b) (leaves_next leaves e)) (sym is.beside_is)
          (subst (λ (t : Option NodeChange). IsSpine g (root_next root below change t) (below_next below place change (Moves is.high)) (leaves_next leaves e)) (sym above.top_is)
          (subst (λ (ch : NodeChange). IsSpine g (node_next root above.change) (below_next below place ch (Moves is.high)) (leaves_next leaves e)) (sym above.bottom_is)
          (subst (λ ns. IsSpine g (node_next root above.change) ns (leaves_next leaves e)) (sym (moves_is below place left right is.high (Move is.low) can.there can.behind)) made.0)));
      end = subst (λ (t : Option NodeChange). (root_next root below change t).end ≡ root.end) (sym above.top_is) made.1;
      takes = λ new same spare. subst (λ (t : Option NodeChange). IfSome t (CanTake new)) (sym above.top_is) (can_take g root new place 2 (ka ∷ kb ∷ []) (drop 2 to) seq2 above.change can_root above.change_is same (omega (arith, spare)));
      node_takes = λ n. subst (λ (ch : NodeChange). CanTake n ch) (sym above.bottom_is) tt;
      stands = λ count room is_count. subst (λ (b : Beside). CanStand count room place b) (sym is.beside_is) (omega (arith, is_count, slice_get_within below (place + 1) right can.behind));
      some = omega arith;
    }

high_there : (root : Inner) (below : List Inner) (place : ℕ) (node : Inner) → slice_get below place ≡ Some node → slice_get (bottom root below) place ≡ Some node
high_there root [] place node there = absurd (cc)
high_there root (m ∷ nodes) place node there = there

pub fits_across : (s t : Spine) (e : Exchange) (first : Leaf) (second : Option Leaf) (left right : Inner) (place : LeafPlace) (key : Key) (to : List Ptr) (seq : ℕ) (change : NodeChange) (top : Option NodeChange) (beside : Beside)
    → IsSpine s.geometry s.root s.below s.leaves → CanJoinAt s e left right place key → IsAcross s.geometry s.root left right place.node key to seq change top beside → IsSameTree s t → t.spare ≡ s.spare → 4 ≤ t.root.spare
    → Fits t (record { leaves = e; first = first; second = second; place = place.node; bottom = change; beside = beside; top = top })
fits_across s t e first second left right place key to seq change top beside spine can is same spare root_room =
    let g = s.geometry in
    let got = get_same place.node (bottom s.root s.below) (bottom t.root t.below) left (bottom_same s.root t.root s.below t.below same.root_is same.below_are) (high_there s.root s.below place.node left can.can.there) in
    let made = made_across g s.root s.below s.leaves e place.node key left right to seq change top beside spine can.can can.before can.gone_is can.names is in
    let roots = root_next_same s.root t.root s.below t.below change top same.root_is same.below_are in
    let nodes = beside_same (nodes_next s.below place.node change) (nodes_next t.below place.node change) place.node beside (nodes_next_same s.below t.below place.node change same.below_are) in
    let there_tree = spine_same g (root_next s.root s.below change top) (root_next t.root t.below change top) (below_next s.below place.node change beside) (below_next t.below place.node change beside) (leaves_next s.leaves e) roots nodes made.tree in
    let long = long_same s.below t.below same.below_are in
    record {
      leaves_fit = subst (λ (ls : List LeafRange). IsFor ls e) (sym same.leaves_are) can.leaves_fit;
      spare = omega (arith, can.spare, spare);
      node = got.0;
      there = got.1;
      takes = made.node_takes got.0;
      root_takes = made.takes t.root same.root_is root_room;
      alone = λ none. absurd (omega (arith, none, long, made.some));
      stands = made.stands (length t.below) t.room long;
      tree = subst (λ (x : Geometry). IsSpine x (root_next t.root t.below change top) (below_next t.below place.node change beside) (leaves_next t.leaves e)) (sym same.geometry_is)
          (subst (λ (ls : List LeafRange). IsSpine g (root_next t.root t.below change top) (below_next t.below place.node change beside) (leaves_next ls e)) (sym same.leaves_are) there_tree);
      end = roots.node.end ∙ made.end ∙ sym same.root_is.node.end;
    }

-- ---- how many new nodes that makes

across_of : (s : Spine) (left right : Inner) (a b d : Bool) → become_one s.geometry left right ≡ a → has_room s.geometry s.root 5 ≡ b → has_room s.geometry s.root 8 ≡ d → across_count s left right ≡ (if a then (if b then 1 else 2) else (if d then 2 else 3))
across_of s left right a b d one two three = rw (one, two, three) refl

pub across_counted : (s : Spine) (left right : Inner) (place : ℕ) (key : Key) (to : List Ptr) (seq : ℕ) (change : NodeChange) (top : Option NodeChange) (beside : Beside) → IsAcross s.geometry s.root left right place key to seq change top beside
    → moved_count change + top_count top + beside_count beside ≡ across_count s left right
across_counted s left right place key to seq change top beside (inl (small, is)) =
    ap (λ (ch : NodeChange). moved_count ch + top_count top + beside_count beside) is.above.bottom_is
    ∙ ap (λ (t : Option NodeChange). 1 + top_count t + beside_count beside) is.above.top_is
    ∙ ap (λ (b : Beside). 1 + moved_count is.above.change + beside_count b) is.beside_is
    ∙ go is.above.change is.above.change_is
  where
    five : set_words 2 (is.above.key ∷ []) ≡ 5
    five = omega (arith, words_cons is.above.key [], length-words_of is.above.key, is.above.names.one)

    go : (ch : NodeChange) → IsChangeOf s.geometry s.root place 2 (is.above.key ∷ []) (drop 1 to) ((seq + 1) % 2 ^ 64) ch → 1 + moved_count ch + 0 ≡ across_count s left right
    go (Set keys) set = sym (across_of s left right true true (has_room s.geometry s.root 8) small (ap (has_room s.geometry s.root) (sym (set.size ∙ five)) ∙ set.room) refl)
    go (Move next) move = sym (across_of s left right true false (has_room s.geometry s.root 8) small (ap (has_room s.geometry s.root) (sym five) ∙ move.0) refl)
across_counted s left right place key to seq change top beside (inr (large, is)) =
    ap (λ (ch : NodeChange). moved_count ch + top_count top + beside_count beside) is.above.bottom_is
    ∙ ap (λ (t : Option NodeChange). 1 + top_count t + beside_count beside) is.above.top_is
    ∙ ap (λ (b : Beside). 1 + moved_count is.above.change + beside_count b) is.beside_is
    ∙ go is.above.change is.above.change_is
  where
    eight : set_words 2 (is.above.low_key ∷ is.above.high_key ∷ []) ≡ 8
    eight = omega (arith, pair_words is.above.low_key is.above.high_key is.above.names.0.one is.above.names.1.one)

    go : (ch : NodeChange) → IsChangeOf s.geometry s.root place 2 (is.above.low_key ∷ is.above.high_key ∷ []) (drop 2 to) ((seq + 2) % 2 ^ 64) ch → 1 + moved_count ch + 1 ≡ across_count s left right
    go (Set keys) set = sym (across_of s left right false (has_room s.geometry s.root 5) true large refl (ap (has_room s.geometry s.root) (sym (set.size ∙ eight)) ∙ set.room))
    go (Move next) move = sym (across_of s left right false (has_room s.geometry s.root 5) false large refl (ap (has_room s.geometry s.root) (sym eight) ∙ move.0))

-- as many as are needed
pub across_total : (s : Spine) (left right : Inner) → IsProper s.geometry s.root → total (across_needs s left right) ≡ 1 + across_count s left right
across_total s left right proper = go (become_one s.geometry left right) (has_room s.geometry s.root 5) (has_room s.geometry s.root 8) refl refl refl
  where
    fits : fits_node s.geometry (words s.root.children + 0) ≡ true
    fits = fits_now s.geometry s.root proper

    by : (a b d : Bool) → become_one s.geometry left right ≡ a → has_room s.geometry s.root 5 ≡ b → has_room s.geometry s.root 8 ≡ d
        → across_needs s left right ≡ (if a then (if b then needs 0 2 else needs 0 3) else (if d then needs 0 3 else needs 0 4))
    by true true d one two three = rw (one, two, fits) refl
    by true false d one two three = rw (one, two) refl
    by false b true one two three = rw (one, three, fits) refl
    by false b false one two three = rw (one, three) refl

    go : (a b d : Bool) → become_one s.geometry left right ≡ a → has_room s.geometry s.root 5 ≡ b → has_room s.geometry s.root 8 ≡ d → total (across_needs s left right) ≡ 1 + across_count s left right
    go true true d one two three = ap total (by true true d one two three) ∙ ap (λ k. 1 + k) (sym (across_of s left right true true d one two three))
    go true false d one two three = ap total (by true false d one two three) ∙ ap (λ k. 1 + k) (sym (across_of s left right true false d one two three))
    go false b true one two three = ap total (by false b true one two three) ∙ ap (λ k. 1 + k) (sym (across_of s left right false b true one two three))
    go false b false one two three = ap total (by false b false one two three) ∙ ap (λ k. 1 + k) (sym (across_of s left right false b false one two three))

pub eight_words : (low high : Key) → low.count ≡ 1 → high.count ≡ 1 → set_words 2 (low ∷ high ∷ []) ≡ 8
eight_words low high one other = omega (arith, pair_words low high one other)

-- ---- what the root can take

-- one key, that names one node, can come in the place of both
pub one_may : (g : Geometry) (root : Inner) (below : List Inner) (leaves : List LeafRange) (place : ℕ) (key : Key) (left right one : Inner) (up : Key) (ptr : Ptr) (seq : ℕ) → IsSpine g root below leaves → CanJoinAcross below left right place key
    → IsFresh 1 left.from right.end (children_across left right key) ptr seq one → Names up one → CanChange g root place 2 (up ∷ [])
one_may g root [] leaves place key left right one up ptr seq spine can is name = absurd (let there = can.there in cc)
one_may g root (m ∷ nodes) leaves place key left right one up ptr seq spine can is name = one_can g root m nodes leaves place key left right spine can one up ptr seq is name

-- so can two, that name two
pub two_may : (g : Geometry) (root : Inner) (below : List Inner) (leaves : List LeafRange) (place : ℕ) (key : Key) (left right low high : Inner) (ka kb : Key) (to : List Ptr) (seq : ℕ) → IsSpine g root below leaves → CanJoinAcross below left right place key
    → AreTwo left.from right.end (length left.children) (children_across left right key) to seq low high → become_one g left right ≡ false → Names ka low → Names kb high → CanChange g root place 2 (ka ∷ kb ∷ [])
two_may g root [] leaves place key left right low high ka kb to seq spine can two large one other = absurd (let there = can.there in cc)
two_may g root (m ∷ nodes) leaves place key left right low high ka kb to seq spine can two large one other = two_can g root m nodes leaves place key left right spine can low high ka kb to seq two one other large

-- ---- the two nodes, by what the calls give

pub across_at : (s : Spine) (place : ℕ) (key : Key) (a b left right : Inner) → CanJoinAcross s.below a b place key → slice_get s.below place ≡ Some left → slice_get s.below (place + 1) ≡ Some right → CanJoinAcross s.below left right place key
across_at s place key a b left right can there behind =
    let one : a ≡ left = let h = can.there in cc in
    let other : b ≡ right = let h = can.behind in cc in
    subst (λ (n : Inner). CanJoinAcross s.below n right place key) one (subst (λ (n : Inner). CanJoinAcross s.below a n place key) other can)

pub count_at : (s : Spine) (place k : ℕ) (key : Key) (a b left right : Inner) → CanJoinAcross s.below a b place key → slice_get s.below place ≡ Some left → slice_get s.below (place + 1) ≡ Some right → k ≡ across_count s a b → k ≡ across_count s left right
count_at s place k key a b left right can there behind is =
    let one : a ≡ left = let h = can.there in cc in
    let other : b ≡ right = let h = can.behind in cc in
    is ∙ ap (λ (n : Inner). across_count s n b) one ∙ ap (λ (n : Inner). across_count s left n) other

pub is_at : (s : Spine) (place : ℕ) (key : Key) (a b left right : Inner) (to : List Ptr) (seq : ℕ) (change : NodeChange) (top : Option NodeChange) (beside : Beside) → CanJoinAcross s.below a b place key → slice_get s.below place ≡ Some left → slice_get s.below (place + 1) ≡ Some right
    → IsAcross s.geometry s.root a b place key to seq change top beside → IsAcross s.geometry s.root left right place key to seq change top beside
is_at s place key a b left right to seq change top beside can there behind is =
    let one : a ≡ left = let h = can.there in cc in
    let other : b ≡ right = let h = can.behind in cc in
    subst (λ (n : Inner). IsAcross s.geometry s.root n right place key to seq change top beside) one (subst (λ (n : Inner). IsAcross s.geometry s.root a n place key to seq change top beside) other is)

pub propers_at : (s : Spine) (place : ℕ) (node : Inner) → IsSpine s.geometry s.root s.below s.leaves → slice_get s.below place ≡ Some node → IsProper s.geometry node
propers_at s place node spine there = all_at (IsProper s.geometry) s.below place node spine.inner.proper there

-- there are some places, and one more where the root moves
pub across_least : (s : Spine) (left right : Inner) → 1 ≤ across_count s left right
across_least s left right = go (become_one s.geometry left right) (has_room s.geometry s.root 5) (has_room s.geometry s.root 8)
  where
    go : (a b d : Bool) → 1 ≤ (if a then (if b then 1 else 2) else (if d then 2 else 3))
    go true true d = omega arith
    go true false d = omega arith
    go false b true = omega arith
    go false b false = omega arith

pub one_left : (s : Spine) (left right : Inner) → become_one s.geometry left right ≡ true → has_room s.geometry s.root 5 ≡ false → 2 ≤ across_count s left right
one_left s left right small full = let is = across_of s left right true false (has_room s.geometry s.root 8) small full refl in omega (arith, is)

pub two_least : (s : Spine) (left right : Inner) → become_one s.geometry left right ≡ false → 2 ≤ across_count s left right
two_least s left right large = go (has_room s.geometry s.root 8) refl
  where
    go : (d : Bool) → has_room s.geometry s.root 8 ≡ d → 2 ≤ across_count s left right
    go true room = let is = across_of s left right false (has_room s.geometry s.root 5) true large refl room in omega (arith, is)
    go false room = let is = across_of s left right false (has_room s.geometry s.root 5) false large refl room in omega (arith, is)

pub two_left : (s : Spine) (left right : Inner) → become_one s.geometry left right ≡ false → has_room s.geometry s.root 8 ≡ false → 3 ≤ across_count s left right
two_left s left right large full = let is = across_of s left right false (has_room s.geometry s.root 5) false large refl full in omega (arith, is)

-- ---- what becomes of the nodes above

pub one_joined : {E : Type 0} (s : Spine) (place : ℕ) (key : Key) (left right one : Inner) (ptr : Ptr) (to part : List Ptr) (seq : ℕ) (answer : Result Group E) → CanJoinAcross s.below left right place key → become_one s.geometry left right ≡ true → slice_get to 0 ≡ Some ptr → part ≡ drop 1 to
    → IsFresh 1 left.from right.end (children_across left right key) ptr seq one → IfOk answer (λ group. IsOneBelow s.geometry s.root place one part ((seq + 1) % 2 ^ 64) group.bottom group.top) → IfOk answer (λ group. group.beside ≡ Goes)
    → IfOk answer (λ group. (l : Inner) × (r : Inner) × CanJoinAcross s.below l r place key × IsAcross s.geometry s.root l r place key to seq group.bottom group.top group.beside)
one_joined s place key left right one ptr to part seq (Ok group) can small first part_is fresh is also = (
  left,
  right,
  can,
  inl (
    small,
    record {
      one = one;
      ptr = ptr;
      first_place = first;
      one_is = fresh;
      above = subst (λ (ps : List Ptr). IsOneBelow s.geometry s.root place one ps ((seq + 1) % 2 ^ 64) group.bottom group.top) part_is is;
      beside_is = also;
    },
  ),
)
one_joined s place key left right one ptr to part seq (Err e) can small first part_is fresh is also = tt

pub two_joined : {E : Type 0} (s : Spine) (place : ℕ) (key : Key) (left right low high : Inner) (to part : List Ptr) (seq : ℕ) (answer : Result Group E) → CanJoinAcross s.below left right place key → become_one s.geometry left right ≡ false → part ≡ drop 2 to
    → AreTwo left.from right.end (length left.children) (children_across left right key) to seq low high → IfOk answer (λ group. IsRegrouped s.geometry s.root place 2 low high part ((seq + 2) % 2 ^ 64) group.bottom group.top) → IfOk answer (λ group. group.beside ≡ Moves high)
    → IfOk answer (λ group. (l : Inner) × (r : Inner) × CanJoinAcross s.below l r place key × IsAcross s.geometry s.root l r place key to seq group.bottom group.top group.beside)
two_joined s place key left right low high to part seq (Ok group) can large part_is two is also = (
  left,
  right,
  can,
  inr (
    large,
    record {
      low = low;
      high = high;
      two = two;
      above = subst (λ (ps : List Ptr). IsRegrouped s.geometry s.root place 2 low high ps ((seq + 2) % 2 ^ 64) group.bottom group.top) part_is is;
      beside_is = also;
    },
  ),
)
two_joined s place key left right low high to part seq (Err e) can large part_is two is also = tt
