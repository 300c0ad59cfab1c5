-- Two neighbouring nodes above leaves, of which the last child of the one and the first of the other give way to one.
use Rattle.std.proofs.Common.{◌≡◌, ◌==◌, inl, inr, ℕ, zero, suc, ◌+◌, ◌-◌, ◌*◌, ◌%◌, ◌^◌, ◌<◌, ◌≤◌, Bool, true, false, List, [], ◌∷◌, ◌++◌, length, get_or, take, drop, Option, Some, None, refl, sym, subst, ap, ◌∙◌, append-nil, arith, length-append}
use Rattle.std.specs.Prelude.{◌||◌, All, slice_get}
use Rattle.std.proofs.lemmas.Bool.{cases_lt, leb-true}
use Rattle.std.proofs.lemmas.Bool.Decides.{eqb_tells}
use Rattle.std.proofs.lemmas.List.{append_assoc, length-take-le, length-drop, take-append-drop, take_all}
use Rattle.std.proofs.lemmas.List.Elements.{All-append, All-cons, All-nil}
use Rattle.std.proofs.lemmas.Option.{get_or_from_slice_get, slice_get_within}
use Rattle.bc_disk.specs.declared.geometry.Geometry.{Geometry}
use Rattle.bc_inner.specs.Inner.{CoverRange, Inner}
use Rattle.bc_key.specs.declared.key.Key.{Key}
use Rattle.bc_key.specs.declared.ptr.Ptr.{Ptr}
use Rattle.bc_keys.proofs.KeyLists.{length-words_of}
use Rattle.bc_spine.specs.Exchange.{coming}
use Rattle.bc_spine.specs.declared.exchange.Exchange.{Exchange}
use Rattle.bc_spine.specs.declared.leaf.LeafRange.{LeafRange}
use Rattle.bc_tree.specs.Change.{CanChange, IsChangeOf}
use Rattle.bc_tree.specs.Children.{EndsBefore, HasPointer, children_after}
use Rattle.bc_tree.specs.Group.{AreNeighbours, AreTwo, IsFresh}
use Rattle.bc_tree.specs.Needs.{become_one, fits_half, fits_node, words}
use Rattle.bc_tree.specs.Next.{below_next, leaves_next, node_next, root_next}
use Rattle.bc_tree.specs.Across.{CanJoinAcross, IsAcross, IsOneAcross, IsOneBelow, IsTwoAcross, children_across}
use Rattle.bc_tree.specs.Halves.{IsRegrouped}
use Rattle.bc_tree.specs.Plan.{Names}
use Rattle.bc_tree.specs.Spine.{AreInRow, Covers, IsProper, IsSpine, NameLeaves, NameNodes, Rise, children_in, last_end}
use Rattle.bc_tree.specs.declared.beside.Beside.{Beside}
use Rattle.bc_tree.specs.declared.beside.Beside.TheVariants.{Goes, Moves}
use Rattle.bc_tree.specs.declared.change.NodeChange.{NodeChange}
use Rattle.bc_tree.specs.declared.change.NodeChange.TheVariants.{Move, Set}
use Rattle.bc_tree.proofs.Besides.{goes_is, moves_is}
use Rattle.bc_tree.proofs.Counts.{fits_now}
use Rattle.bc_tree.proofs.Groups.{groups_tree, spliced}
use Rattle.bc_tree.proofs.Halved.{node_from}
use Rattle.bc_tree.proofs.Moves.{all_at}
use Rattle.bc_tree.proofs.Nexts.{after_live, drop_all_of, drop_behind, succeeds, take_all_of, take_front}
use Rattle.bc_tree.proofs.Places.{spans_some}
use Rattle.bc_tree.proofs.Proper.{words_append, words_cons}
use Rattle.bc_tree.proofs.Spines.{cover_ends, cover_rises, end_more, end_push, in_row}
use Rattle.bc_tree.proofs.Splices.{AreInPlace, can_replace, live_words}
use Rattle.bc_tree.proofs.Trees.{named_at}
use Rattle.bc_tree.proofs.Twos.{fresh_covers, pair_live, pair_rises, pair_words, rise_cut, two_beside, two_children, two_cover, two_named, two_proper}

-- ---- two nodes, one behind the other

pub two_taken : (nodes : List Inner) (place : ℕ) (left right : Inner) → slice_get nodes place ≡ Some left → slice_get nodes (place + 1) ≡ Some right → take 2 (drop place nodes) ≡ left ∷ right ∷ []
two_taken [] place left right there behind = absurd (cc)
two_taken (m ∷ []) zero left right there behind = absurd (cc)
two_taken (m ∷ (k ∷ nodes)) zero left right there behind =
    let one : m ≡ left = cc in
    let other : k ≡ right = cc in
    ap (λ (n : Inner). n ∷ k ∷ []) one ∙ ap (λ (n : Inner). left ∷ n ∷ []) other
two_taken (m ∷ nodes) (suc place) left right there behind =
    let e : suc place + 1 ≡ suc (place + 1) = omega arith in
    two_taken nodes place left right there (ap (λ n. slice_get (m ∷ nodes) n) (sym e) ∙ behind)

pub row_beside : (from : ℕ) (nodes : List Inner) (place : ℕ) (left right : Inner) → AreInRow from nodes → slice_get nodes place ≡ Some left → slice_get nodes (place + 1) ≡ Some right → right.from ≡ left.end
row_beside from [] place left right row there behind = absurd (cc)
row_beside from (m ∷ []) zero left right row there behind = absurd (cc)
row_beside from (m ∷ (k ∷ nodes)) zero left right row there behind =
    let one : m ≡ left = cc in
    let other : k ≡ right = cc in
    ap (λ (n : Inner). n.from) (sym other) ∙ row.1.0 ∙ ap (λ (n : Inner). n.end) one
row_beside from (m ∷ nodes) (suc place) left right row there behind =
    let e : suc place + 1 ≡ suc (place + 1) = omega arith in
    row_beside m.end nodes place left right row.1 there (ap (λ n. slice_get (m ∷ nodes) n) (sym e) ∙ behind)

-- ---- their children

-- without what goes and comes
pub across_is : (left right : Inner) (key : Key) → 0 < length left.children
    → children_across left right key ≡ (take (length left.children - 1) left.children ++ key ∷ []) ++ drop 1 right.children
across_is left right key some =
    let l = left.children in
    let r = right.children in
    let n = length l - 1 in
    let e : n + 2 ≡ length l + 1 = omega (arith, some) in
    ap (λ ks. (ks ++ key ∷ []) ++ drop (n + 2) (l ++ r)) (take_front n l r (omega arith))
    ∙ ap (λ k. (take n l ++ key ∷ []) ++ drop k (l ++ r)) e ∙ ap (λ ks. (take n l ++ key ∷ []) ++ ks) (drop_behind l r 1)

front_long : (left : Inner) (key : Key) → 0 < length left.children → length (take (length left.children - 1) left.children ++ key ∷ []) ≡ length left.children
front_long left key some = omega (arith, some, length-append (take (length left.children - 1) left.children) (key ∷ []), length-take-le (length left.children - 1) left.children (omega arith))

pub across_front : (left right : Inner) (key : Key) → 0 < length left.children → take (length left.children) (children_across left right key) ≡ take (length left.children - 1) left.children ++ key ∷ []
across_front left right key some =
    let front = take (length left.children - 1) left.children ++ key ∷ [] in
    let long = front_long left key some in
    ap (take (length left.children)) (across_is left right key some) ∙ take_front (length left.children) front (drop 1 right.children) (omega (arith, long)) ∙ take_all (length left.children) front (omega (arith, long))

pub across_rest : (left right : Inner) (key : Key) → 0 < length left.children → drop (length left.children) (children_across left right key) ≡ drop 1 right.children
across_rest left right key some =
    let front = take (length left.children - 1) left.children ++ key ∷ [] in
    let e : length left.children ≡ length front + 0 = omega (arith, front_long left key some) in
    ap (drop (length left.children)) (across_is left right key some) ∙ ap (λ n. drop n (front ++ drop 1 right.children)) e ∙ drop_behind front (drop 1 right.children) 0

-- the first takes no more words than before
pub front_words : (left : Inner) (key : Key) → 0 < length left.children → key.count ≡ 1 → All HasPointer left.children → words (take (length left.children - 1) left.children ++ key ∷ []) ≤ words left.children
front_words left key some one live =
    let n = length left.children - 1 in
    omega (
      arith,
      words_append (take n left.children) (key ∷ []),
      words_cons key [],
      length-words_of key,
      one,
      words_append (take n left.children) (drop n left.children),
      ap words (take-append-drop n left.children),
      live_words (drop n left.children) (drop_all_of HasPointer n left.children live),
      length-drop n left.children,
      some,
    )

pub rest_words : (right : Inner) → words (drop 1 right.children) ≤ words right.children
rest_words right = omega (arith, words_append (take 1 right.children) (drop 1 right.children), ap words (take-append-drop 1 right.children))

pub across_words : (left right : Inner) (key : Key) → 0 < length left.children → words (children_across left right key) ≡ words (take (length left.children - 1) left.children ++ key ∷ []) + words (drop 1 right.children)
across_words left right key some = ap words (across_is left right key some) ∙ words_append (take (length left.children - 1) left.children ++ key ∷ []) (drop 1 right.children)

pub across_live : (left right : Inner) (key : Key) → key.count ≡ 1 → All HasPointer left.children → All HasPointer right.children → All HasPointer (children_across left right key)
across_live left right key one live other =
    after_live (left.children ++ right.children) (key ∷ []) (length left.children - 1) 2 (All-append HasPointer left.children right.children live other) (All-cons HasPointer key [] (omega (arith, one)) (All-nil HasPointer))

pub across_long : (left right : Inner) (key : Key) → 0 < length left.children → 0 < length right.children → length (children_across left right key) + 1 ≡ length left.children + length right.children
across_long left right key some other =
    omega (arith, some, other, ap (λ (ks : List Key). length ks) (across_is left right key some), length-append (take (length left.children - 1) left.children ++ key ∷ []) (drop 1 right.children), front_long left key some, length-drop 1 right.children)

-- one node is small enough for them
pub one_fits : (g : Geometry) (left right : Inner) (key : Key) → IsProper g left → IsProper g right → 0 < length left.children → key.count ≡ 1 → become_one g left right ≡ true → 32 + 8 * words (children_across left right key) ≤ 512 * g.node_sectors
one_fits g left right key proper other some one is = go (length right.children == 1) (fits_half g (words left.children + words right.children)) refl refl is
  where
    none_left : (ks : List Key) → length ks ≡ 1 → drop 1 ks ≡ []
    none_left [] is = refl
    none_left (k ∷ []) is = refl
    none_left (k ∷ (l ∷ ks)) is = absurd (omega (arith, is))

    alone : (length right.children == 1) ≡ true → length right.children ≡ 1
    alone e = elim (eqb_tells (length right.children) 1) [ inl t ↦ t.1 | inr t ↦ absurd (let no : true ≡ false = sym e ∙ t.0 in cc) ]

    go : (a b : Bool) → (length right.children == 1) ≡ a → fits_half g (words left.children + words right.children) ≡ b → (a || b) ≡ true → 32 + 8 * words (children_across left right key) ≤ 512 * g.node_sectors
    go true b e f small =
        let none : words (drop 1 right.children) ≡ 0 = ap words (none_left right.children (alone e)) in
        omega (arith, none, across_words left right key some, front_words left key some one proper.live, proper.fits)
    go false b e f small =
        let half = leb-true _ _ (f ∙ small) in
        omega (arith, half, across_words left right key some, front_words left key some one proper.live, rest_words right)

-- else the second keeps some
pub some_stay : (g : Geometry) (left right : Inner) → 0 < length right.children → become_one g left right ≡ false → 1 < length right.children
some_stay g left right some is = elim (eqb_tells (length right.children) 1) [
  | inl t ↦ absurd (let no : true ≡ false = rw t.0 at is in cc)
  | inr t ↦ elim (cases_lt 1 (length right.children)) [ inl more ↦ more | inr few ↦ absurd (t.1 (omega (arith, some, few))) ]
]

-- ---- their keys in the root

-- what comes in the place of both ends behind the first
module _ (root : Inner) (below : List Inner) (place : ℕ) (left right : Inner) (names : NameNodes root.from root.children below) (there : slice_get below place ≡ Some left) (behind : slice_get below (place + 1) ≡ Some right) where
  first : (key : Key) × (slice_get root.children place ≡ Some key) × (left.end ≡ key.end) × (left.level ≡ 1)
  first = named_at root.from root.children below place left names there

  next : (key : Key) × (slice_get root.children (place + 1) ≡ Some key) × (right.end ≡ key.end) × (right.level ≡ 1)
  next = named_at root.from root.children below (place + 1) right names behind

  pub both_within : place + 2 ≤ length root.children
  both_within = omega (arith, slice_get_within root.children (place + 1) next.0 next.1)

  pub both_reach : last_end root.from (take (place + 2) root.children) ≡ right.end
  both_reach =
      let e : place + 2 ≡ place + 1 + 1 = omega arith in
      ap (λ n. last_end root.from (take n root.children)) e ∙ end_more root.from root.children (place + 1) next.0 (slice_get_within root.children (place + 1) next.0 next.1)
      ∙ ap (λ (k : Key). k.end) (get_or_from_slice_get root.children (place + 1) next.0 next.0 next.1) ∙ sym next.2

  pub both_in_place : (ups : List Key) → Rise left.from ups → last_end left.from ups ≡ right.end → 0 < length ups → AreInPlace root.from root.children place 2 ups
  both_in_place ups rise ends some =
      let from = node_from root.from root.children below place left names there in
      record { rise = subst (λ n. Rise n ups) from rise; end = subst (λ n. last_end n ups ≡ right.end) from ends ∙ sym both_reach; some = some }

  pub both_behind : (ups : List Key) → All (λ up. left.end < up.end) ups → All (λ child. All (EndsBefore child) ups) (take (2 - 1) (drop place root.children))
  both_behind ups after =
      subst (λ ks. All (λ child. All (EndsBefore child) ups) ks) (sym (key_taken root.children place first.0 first.1))
      (All-cons (λ (child : Key). All (EndsBefore child) ups) first.0 [] (λ k d inside. let up = after k d inside in omega (arith, up, first.2)) (All-nil (λ (child : Key). All (EndsBefore child) ups)))
    where
      key_taken : (ks : List Key) (i : ℕ) (k : Key) → slice_get ks i ≡ Some k → take 1 (drop i ks) ≡ k ∷ []
      key_taken [] i k here = absurd (cc)
      key_taken (m ∷ ks) zero k here = let same : m ≡ k = cc in ap (λ (x : Key). x ∷ []) same
      key_taken (m ∷ ks) (suc i) k here = key_taken ks i k here

  pub both_can : (g : Geometry) (ups before : List Key) (last : Key) → IsProper g root → Covers root → Rise left.from ups → last_end left.from ups ≡ right.end → ups ≡ before ++ last ∷ [] → All HasPointer ups → All (λ up. left.end < up.end) ups
      → words ups ≤ 6 → 0 < length ups → CanChange g root place 2 ups
  both_can g ups before last proper cover rise ends are live after few some =
      can_replace g root place 2 0 ups before last proper cover (omega arith) both_within (both_in_place ups rise ends some) live are (both_behind ups after) (omega (arith, few)) (fits_now g root proper)

-- ---- the tree after it

module _ (g : Geometry) (root : Inner) (m : Inner) (nodes : List Inner) (leaves : List LeafRange) (place : ℕ) (key : Key) (left right : Inner) (spine : IsSpine g root (m ∷ nodes) leaves) (can : CanJoinAcross (m ∷ nodes) left right place key) where
  left_proper : IsProper g left
  left_proper = all_at (IsProper g) (m ∷ nodes) place left spine.inner.proper can.there

  right_proper : IsProper g right
  right_proper = all_at (IsProper g) (m ∷ nodes) (place + 1) right spine.inner.proper can.behind

  all_live : All HasPointer (children_across left right key)
  all_live = across_live left right key can.one left_proper.live right_proper.live

  right_begins : right.from ≡ left.end
  right_begins = row_beside root.from (m ∷ nodes) place left right (in_row root.from root.children (m ∷ nodes) spine.inner.root_of.1).0 can.there can.behind

  left_some : left.from < left.end
  left_some = spans_some left (all_at Covers (m ∷ nodes) place left spine.cover.1 can.there)

  right_some : right.from < right.end
  right_some = spans_some right (all_at Covers (m ∷ nodes) (place + 1) right spine.cover.1 can.behind)

  end_cut : right.end % 256 ≡ 0
  end_cut = ap (λ n. n % 256) (sym (cover_ends left.from right.end (children_across left right key) can.cover)) ∙ rise_cut left.from (children_across left right key) (cover_rises left.from right.end (children_across left right key) can.cover)
      (omega (arith, across_long left right key can.some.0 can.some.1, can.some.0, can.some.1))

  group : children_in (take 2 (drop place (m ∷ nodes))) ≡ left.children ++ right.children
  group = ap children_in (two_taken (m ∷ nodes) place left right can.there can.behind) ∙ ap (λ ks. left.children ++ ks) (append-nil right.children)

  -- by what comes below the root, and the keys that name it
  pub across_tree : (e : Exchange) (change : NodeChange) (to : List Ptr) (seq : ℕ) (ups : List Key) (new : List Inner) → CanChange g root place 2 ups → AreInPlace root.from root.children place 2 ups → IsChangeOf g root place 2 ups to seq change
      → NameNodes left.from ups new → All (IsProper g) new → All Covers new → 0 < length new → children_in new ≡ children_across left right key
      → e.place ≡ length (children_in (take place (m ∷ nodes))) + (length left.children - 1) → e.gone ≡ 2 → NameLeaves (key ∷ []) (coming e)
      → IsSpine g (node_next root change) (spliced (m ∷ nodes) place 2 new) (leaves_next leaves e) × ((node_next root change).end ≡ root.end)
  across_tree e change to seq ups new can_root in_place is names propers covers some are before gone more =
      let next = succeeds g root place 2 ups to seq change is in (
        groups_tree g root (node_next root change) m nodes leaves e place 2 (length left.children - 1) 2 (key ∷ []) ups new spine can_root next in_place
            (subst (λ n. NameNodes n ups new) (node_from root.from root.children (m ∷ nodes) place left spine.inner.root_of.1 can.there) names) propers covers some
            (let both = can.some in omega (arith, both.0, both.1, ap (λ (ks : List Key). length ks) group, length-append left.children right.children))
            (are ∙ ap (λ ks. children_after ks (length left.children - 1) 2 (key ∷ [])) (sym group)) before gone more,
        next.end,
      )

  -- one node
  module _ (one : Inner) (up : Key) (ptr : Ptr) (seq : ℕ) (is : IsFresh 1 left.from right.end (children_across left right key) ptr seq one) (name : Names up one) where
    pub one_rises : Rise left.from (up ∷ [])
    one_rises = (omega (arith, left_some, right_begins, right_some, name.end, is.ends), ap (λ n. n % 256) (name.end ∙ is.ends) ∙ end_cut, tt)

    pub one_can : CanChange g root place 2 (up ∷ [])
    one_can = both_can root (m ∷ nodes) place left right spine.inner.root_of.1 can.there can.behind g (up ∷ []) [] up spine.inner.root_is_proper spine.cover.0 one_rises (name.end ∙ is.ends) refl
        (All-cons HasPointer up [] (omega (arith, name.one)) (All-nil HasPointer)) (All-cons (λ (k : Key). left.end < k.end) up [] (omega (arith, right_begins, right_some, name.end, is.ends)) (All-nil (λ (k : Key). left.end < k.end)))
        (omega (arith, words_cons up [], length-words_of up, name.one)) (omega arith)

    pub one_in_place : AreInPlace root.from root.children place 2 (up ∷ [])
    one_in_place = both_in_place root (m ∷ nodes) place left right spine.inner.root_of.1 can.there can.behind (up ∷ []) one_rises (name.end ∙ is.ends) (omega arith)

    pub one_names : NameNodes left.from (up ∷ []) (one ∷ [])
    one_names = (is.level_is, is.begins, sym name.end, sym name.ptr, tt)

    pub one_covers : All Covers (one ∷ [])
    one_covers = All-cons Covers one [] (fresh_covers 1 left.from right.end (children_across left right key) ptr seq one is can.cover) (All-nil Covers)

    pub one_proper : become_one g left right ≡ true → All (IsProper g) (one ∷ [])
    one_proper small = All-cons (IsProper g) one [] (record {
      live = subst (All HasPointer) (sym is.children_are) all_live;
      fits = omega (arith, one_fits g left right key left_proper right_proper can.some.0 can.one small, ap words is.children_are);
    }) (All-nil (IsProper g))

    pub one_children : children_in (one ∷ []) ≡ children_across left right key
    one_children = append-nil one.children ∙ is.children_are

  -- two nodes
  module _ (low high : Inner) (ka kb : Key) (to : List Ptr) (seq : ℕ) (two : AreTwo left.from right.end (length left.children) (children_across left right key) to seq low high) (one : Names ka low) (other : Names kb high)
      (large : become_one g left right ≡ false) where
    cut : length left.children < length (children_across left right key)
    cut = omega (arith, across_long left right key can.some.0 can.some.1, some_stay g left right can.some.1 large)

    side : AreNeighbours left.from right.end low high
    side = two_beside left.from right.end (length left.children) (children_across left right key) to seq low high can.cover can.some.0 cut two

    -- the first ends where the leaf does that comes, behind where it ended before
    low_later : left.end < low.end
    low_later = omega (arith, can.later, two.low_is.ends, ap (last_end left.from) (across_front left right key can.some.0), end_push left.from (take (length left.children - 1) left.children) key)

    pub two_rises : Rise left.from (ka ∷ kb ∷ [])
    two_rises = pair_rises left.from right.end low high ka kb side one other

    two_end : last_end left.from (ka ∷ kb ∷ []) ≡ right.end
    two_end = other.end ∙ side.ends

    pub two_can : CanChange g root place 2 (ka ∷ kb ∷ [])
    two_can = both_can root (m ∷ nodes) place left right spine.inner.root_of.1 can.there can.behind g (ka ∷ kb ∷ []) (ka ∷ []) kb spine.inner.root_is_proper spine.cover.0 two_rises two_end refl (pair_live ka kb one.one other.one)
        (All-cons (λ (k : Key). left.end < k.end) ka (kb ∷ []) (omega (arith, low_later, one.end)) (All-cons (λ (k : Key). left.end < k.end) kb [] (omega (arith, low_later, side.rises, other.end)) (All-nil (λ (k : Key). left.end < k.end))))
        (omega (arith, pair_words ka kb one.one other.one)) (omega arith)

    pub two_in_place : AreInPlace root.from root.children place 2 (ka ∷ kb ∷ [])
    two_in_place = both_in_place root (m ∷ nodes) place left right spine.inner.root_of.1 can.there can.behind (ka ∷ kb ∷ []) two_rises two_end (omega arith)

    pub two_names : NameNodes left.from (ka ∷ kb ∷ []) (low ∷ high ∷ [])
    two_names = two_named left.from right.end (length left.children) (children_across left right key) to seq low high can.cover can.some.0 cut two ka kb one other

    pub two_covers : All Covers (low ∷ high ∷ [])
    two_covers = two_cover left.from right.end (length left.children) (children_across left right key) to seq low high can.cover can.some.0 cut two

    pub two_propers : All (IsProper g) (low ∷ high ∷ [])
    two_propers =
        two_proper left.from right.end (length left.children) (children_across left right key) to seq low high can.cover can.some.0 cut two g all_live
        (omega (arith, ap words (across_front left right key can.some.0), front_words left key can.some.0 can.one left_proper.live, left_proper.fits))
        (omega (arith, ap words (across_rest left right key can.some.0), rest_words right, right_proper.fits))

    pub two_have : children_in (low ∷ high ∷ []) ≡ children_across left right key
    two_have = two_children left.from right.end (length left.children) (children_across left right key) to seq low high can.cover can.some.0 cut two
