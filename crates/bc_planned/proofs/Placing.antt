-- The new nodes of a change of one leaf, each at its place.
use Rattle.std.proofs.Common.{◌≡◌, inl, inr, ℕ, suc, ◌+◌, ◌<◌, List, [], ◌∷◌, length, Option, None, Some, drop, refl, sym, ap, ◌∙◌, subst, arith}
use Rattle.std.specs.Prelude.{◌%◌, ◌^◌, option_to_list, slice_get}
use Rattle.bc_disk.specs.declared.geometry.Geometry.{Geometry}
use Rattle.bc_inner.specs.Inner.{Inner}
use Rattle.bc_key.specs.declared.key.Key.{Key}
use Rattle.bc_key.specs.declared.ptr.Ptr.{Ptr}
use Rattle.bc_node.specs.Leaf.{IsFull, Leaf}
use Rattle.bc_plan.specs.Write.{behind_of, lowest_of}
use Rattle.bc_plan.specs.declared.write.NewNode.{NewNode}
use Rattle.bc_plan.specs.declared.write.NewNode.TheVariants.{Behind, First, Lowest, Parent, Root, Second}
use Rattle.bc_planned.proofs.Shapes.{counts_on, none_some, nodes_moved, nodes_raised, nodes_regrouped, nodes_split, one, tail}
use Rattle.bc_planned.specs.Laws.{AreEnough, LawMoves, LawSplits}
use Rattle.bc_planned.specs.Nodes.{nodes_of, top_is_moved, when}
use Rattle.bc_planned.specs.Placed.{AreAt, ComesAt, StandsAt}
use Rattle.bc_spine.specs.Exchange.{Takes}
use Rattle.bc_spine.specs.declared.leaf.LeafRange.{LeafRange}
use Rattle.bc_tree.specs.Change.{IsChangeOf, IsMoved}
use Rattle.bc_tree.specs.Group.{AreTwo, IsFresh, beside_count}
use Rattle.bc_tree.specs.Halves.{IsAboveHalves, IsRaised}
use Rattle.bc_tree.specs.Plan.{IsComing, IsOfSpine, IsTopChange, moved_count, top_count}
use Rattle.bc_tree.specs.Rewrite.{IsRewrite}
use Rattle.bc_tree.specs.Spine.{IsPlaceAt, Spine}
use Rattle.bc_tree.specs.Split.{AreHalves, IsHalvesPlan, IsLeafSplit, IsSplitPlan}
use Rattle.bc_tree.specs.declared.beside.Beside.TheVariants.{Comes, Under}
use Rattle.bc_tree.specs.declared.change.NodeChange.{NodeChange}
use Rattle.bc_tree.specs.declared.change.NodeChange.TheVariants.{Move, Set}
use Rattle.bc_tree.specs.declared.place.LeafPlace.{LeafPlace}
use Rattle.bc_tree.specs.declared.plan.Plan.{Plan}

-- ---- inner nodes

moved_at : (node next : Inner) (children : List Key) (ptr to : Ptr) (seq n : ℕ)
    → IsMoved node children ptr seq next → ptr ≡ to → seq ≡ n → StandsAt to n next
moved_at node next children ptr to seq n is same number =
    record { ptr = is.ptr ∙ same; number = is.number ∙ number; none = is.none }

fresh_at : (level from end : ℕ) (children : List Key) (ptr to : Ptr) (seq n : ℕ) (next : Inner)
    → IsFresh level from end children ptr seq next → ptr ≡ to → seq ≡ n → StandsAt to n next
fresh_at level from end children ptr to seq n next is same number =
    record { ptr = is.ptr ∙ same; number = is.number ∙ number; none = is.none }

set_top : (g : Geometry) (root : Inner) (below : List Inner) (place : ℕ) (ks : List Key)
    (ts : List Ptr) (seq : ℕ) (t : Option NodeChange)
    → IsTopChange g root below place (Set ks) ts seq t → t ≡ None
set_top g root [] place ks ts seq t is = is
set_top g root (m ∷ ms) place ks ts seq t is = is

module _ (g : Geometry) (p : Plan) where
  none_at : (n : ℕ) (ts : List Ptr) → 0 ≡ length ts → AreAt g p n [] ts
  none_at n [] e = tt
  none_at n (x ∷ xs) e = absurd (omega (arith, e))

  -- the node above leaves moves, and the root doesn't
  parent_at : (n seq : ℕ) (node next : Inner) (children : List Key) (ts : List Ptr) (ptr : Ptr)
      → p.bottom ≡ Move next → slice_get ts 0 ≡ Some ptr → IsMoved node children ptr seq next
      → seq ≡ n → 1 ≡ length ts → AreAt g p n (Parent ∷ []) ts
  parent_at n seq node next children [] ptr eb at is same e = absurd (omega (arith, e))
  parent_at n seq node next children (x ∷ []) ptr eb at is same e =
      ((next, eb, moved_at node next children ptr x seq n is (sym (one at)) same), tt)
  parent_at n seq node next children (x ∷ y ∷ ys) ptr eb at is same e = absurd (omega (arith, e))

  both_at : (n seq next_seq : ℕ) (node next root up : Inner) (children others : List Key)
      (ts : List Ptr) (ptr other : Ptr)
      → p.bottom ≡ Move next → p.top ≡ Some (Move up) → slice_get ts 0 ≡ Some ptr
      → slice_get (drop 1 ts) 0 ≡ Some other → IsMoved node children ptr seq next
      → IsMoved root others other next_seq up → seq ≡ n → next_seq ≡ n + 1 → 2 ≡ length ts
      → AreAt g p n (Parent ∷ Root ∷ []) ts
  both_at n seq next_seq node next root up children others [] ptr other eb et at also is up_is same
      more e = absurd (omega (arith, e))
  both_at n seq next_seq node next root up children others (x ∷ []) ptr other eb et at also is up_is
      same more e = absurd (omega (arith, e))
  both_at n seq next_seq node next root up children others (x ∷ y ∷ []) ptr other eb et at also is
      up_is same more e = (
        (next, eb, moved_at node next children ptr x seq n is (sym (one at)) same),
        ((up, et, moved_at root up others other y next_seq (n + 1) up_is (sym (one also)) more), tt),
      )
  both_at n seq next_seq node next root up children others (x ∷ y ∷ z ∷ zs) ptr other eb et at also
      is up_is same more e = absurd (omega (arith, e))

  root_at : (root node next : Inner) (place : ℕ) (key : Key) (children : List Key) (c : NodeChange)
      (ts : List Ptr) (n seq : ℕ) (ptr : Ptr) → p.bottom ≡ Move next → p.top ≡ Some c → seq ≡ n
      → n + length ts < 2 ^ 64 → slice_get ts 0 ≡ Some ptr → IsMoved node children ptr seq next
      → IsChangeOf g root place 1 (key ∷ []) (drop 1 ts) ((seq + 1) % 2 ^ 64) c
      → 1 + moved_count c ≡ length ts → AreAt g p n (tail (Move next) (Some c)) ts
  root_at root node next place key children (Set ks) ts n seq ptr eb et same few at is change count =
      parent_at n seq node next children ts ptr eb at is same count
  root_at root node next place key children (Move up) ts n seq ptr eb et same few at is
      (full, (other, also, up_is)) count =
      both_at n seq ((seq + 1) % 2 ^ 64) node next root up children _ ts ptr other eb et at also is
      up_is same (counts_on seq 1 n same (omega (arith, few, count))) count

  -- what becomes of the node above leaves, and of the root
  above_at : (root node : Inner) (below : List Inner) (place at gone : ℕ) (come : List Key)
      (b : NodeChange) (t : Option NodeChange) (ts : List Ptr) (n seq : ℕ)
      → p.bottom ≡ b → p.top ≡ t → seq ≡ n → n + length ts < 2 ^ 64
      → IsChangeOf g node at gone come ts seq b → IsTopChange g root below place b ts seq t
      → moved_count b + top_count t ≡ length ts → AreAt g p n (tail b t) ts
  above_at root node below place at gone come (Set ks) t ts n seq eb et same few change top count =
      let none = set_top g root below place ks ts seq t top in
      let no : top_count t ≡ 0 = ap top_count none in
      subst (λ (x : Option NodeChange). AreAt g p n (tail (Set ks) x) ts) (sym none)
      (none_at n ts (omega (arith, count, no)))
  above_at root node [] place at gone come (Move next) t ts n seq eb et same few
      (full, (ptr, here, is)) top count =
      let no : top_count t ≡ 0 = ap top_count top in
      subst (λ (x : Option NodeChange). AreAt g p n (tail (Move next) x) ts) (sym top)
      (parent_at n seq node next _ ts ptr eb here is same (omega (arith, count, no)))
  above_at root node (m ∷ ms) place at gone come (Move next) t ts n seq eb et same few
      (full, (ptr, here, is)) (c, key, t_is, names, changed) count =
      let as_many : top_count t ≡ moved_count c = ap top_count t_is in
      subst (λ (x : Option NodeChange). AreAt g p n (tail (Move next) x) ts) (sym t_is)
      (root_at root node next place key _ c ts n seq ptr eb (et ∙ t_is) same few here is changed
      (omega (arith, count, as_many)))

-- ---- leaves

module _ (g : Geometry) where
  comes_at : (keys : List Key) (from end : ℕ) (ptr to : Ptr) (seq n : ℕ) (leaf : Leaf)
      (ranges : Option LeafRange) (range : LeafRange) → IsComing keys from end ptr seq leaf
      → ¬ (IsFull g leaf) → ptr ≡ to → seq ≡ n → ranges ≡ Some range
      → Takes leaf.from leaf.end leaf.ptr range → ComesAt g ranges to n leaf
  comes_at keys from end ptr to seq n leaf ranges range is fits same number its takes = record {
    ptr = is.is.stands ∙ same;
    number = is.is.number ∙ number;
    none = is.is.none;
    fresh = is.is.fresh;
    fits = fits;
    list = is.parts;
    last = is.is.last;
    added = is.is.added;
    range = range;
    its_range = its;
    from = takes.begins;
    end = takes.ends;
    stands = takes.stands;
  }

-- the leaf that goes is of the sectors of the one in hand
module _ (spine : Spine) (leaf : Leaf) (of : IsOfSpine spine leaf) (place : LeafPlace)
    (stands : IsPlaceAt spine leaf.from place) (old : LeafRange)
    (there : slice_get spine.leaves place.leaf ≡ Some old) where
  same_old : place.range ≡ old
  same_old = one (sym stands.there ∙ there)

  old_from : old.from ≡ leaf.from
  old_from = ap (λ (l : LeafRange). l.from) (sym same_old)
      ∙ (of.range place.leaf place.range stands.there stands.spans).0

  old_end : old.end ≡ leaf.end
  old_end = ap (λ (l : LeafRange). l.end) (sym same_old)
      ∙ (of.range place.leaf place.range stands.there stands.spans).1

-- ---- a leaf that moves

moves_at : (spine : Spine) (parts : ℕ) (leaf : Leaf) (to : List Ptr) (seq : ℕ) (p : Plan)
    → IsOfSpine spine leaf → (is : IsRewrite spine parts leaf to seq p) → AreEnough to seq p
    → slice_get to 0 ≡ Some is.ptr → AreAt spine.geometry p seq (First ∷ tail p.bottom p.top) to
moves_at spine parts leaf [] seq p of is enough at = absurd (none_some at)
moves_at spine parts leaf (x ∷ xs) seq p of is enough at =
    let m = is.moves in
    let few = enough.numbered in
    let alone : length (option_to_list p.second) ≡ 0 =
    ap (λ (o : Option Leaf). length (option_to_list o)) m.alone in
    let stays : beside_count p.beside ≡ 0 = ap beside_count m.above.beside_is in
    let many : 1 + length (option_to_list p.second)
    + (moved_count p.bottom + top_count p.top + beside_count p.beside) ≡ suc (length xs) =
    enough.many in
    let gone = m.leaves_are in
    let old = old_from spine leaf of is.place is.stands gone.leaf gone.there in
    let end = old_end spine leaf of is.place is.stands gone.leaf gone.there in (
      comes_at spine.geometry leaf.keys leaf.from leaf.end is.ptr x seq seq p.first _ p.leaves.first
          is.leaf_comes is.leaf_fits (sym (one at)) refl refl (record {
            begins = gone.moved.begins ∙ old ∙ sym is.leaf_comes.is.begins;
            ends = gone.moved.ends ∙ end ∙ sym is.leaf_comes.is.ends;
            stands = gone.moved.stands;
          }),
      above_at spine.geometry p spine.root m.above.node spine.below is.place.node is.place.child 1 _
          p.bottom p.top xs (seq + 1) ((seq + 1) % 2 ^ 64) refl refl
          (counts_on seq 1 seq refl (omega (arith, few))) (omega (arith, few))
          m.above.above.change_is m.above.above.top_is (omega (arith, many, alone, stays)),
    )

pub law_moves : LawMoves
law_moves spine parts leaf to seq p of is enough =
    subst (λ ns. AreAt spine.geometry p seq ns to)
    (sym (nodes_moved p is.moves.alone is.moves.above.beside_is))
    (moves_at spine parts leaf to seq p of is enough is.first_place)

-- ---- a leaf that is split

module _ (spine : Spine) (leaf : Leaf) (of : IsOfSpine spine leaf) (seq : ℕ) (p : Plan) (x y : Ptr)
    (xs : List Ptr) (is : IsLeafSplit spine leaf (x ∷ y ∷ xs) seq p)
    (enough : AreEnough (x ∷ y ∷ xs) seq p) where
  abbrev g : Geometry
  g = spine.geometry

  h : AreHalves g leaf is.cut (x ∷ y ∷ xs) seq p.first is.high
  h = is.halves

  less : seq + suc (suc (length xs)) < 2 ^ 64
  less = enough.numbered

  numbered : (seq + 2) % 2 ^ 64 ≡ seq + 2
  numbered = counts_on seq 2 seq refl (let few = less in omega (arith, few))

  leaves_at : (gone : LeafRange) → slice_get spine.leaves is.place.leaf ≡ Some gone
      → Takes gone.from p.first.end p.first.ptr p.leaves.first
      → (other : LeafRange) → p.leaves.second ≡ Some other
      → Takes p.first.end gone.end is.high.ptr other
      → ComesAt g (Some p.leaves.first) x seq p.first × ComesAt g p.leaves.second y (seq + 1) is.high
  leaves_at gone there low other second high =
      let old = old_from spine leaf of is.place is.stands gone there in
      let end = old_end spine leaf of is.place is.stands gone there in (
        comes_at g leaf.keys leaf.from is.cut h.low_ptr x seq seq p.first _ p.leaves.first
            h.low_comes h.low_fits (sym (one h.places.0)) refl refl (record {
              begins = low.begins ∙ old ∙ sym h.low_comes.is.begins;
              ends = low.ends;
              stands = low.stands;
            }),
        comes_at g leaf.keys is.cut leaf.end h.high_ptr y ((seq + 1) % 2 ^ 64) (seq + 1) is.high _
            other h.high_comes h.high_fits (sym (one h.places.1))
            (counts_on seq 1 seq refl (let few = less in omega (arith, few))) second (record {
              begins = high.begins ∙ h.low_comes.is.ends ∙ sym h.high_comes.is.begins;
              ends = high.ends ∙ end ∙ sym h.high_comes.is.ends;
              stands = high.stands;
            }),
      )

  two_at : ComesAt g (Some p.leaves.first) x seq p.first
      × ComesAt g p.leaves.second y (seq + 1) is.high → p.second ≡ Some is.high
      → (ns : List NewNode) → AreAt g p (seq + 1 + 1) ns xs
      → AreAt g p seq (First ∷ Second ∷ ns) (x ∷ y ∷ xs)
  two_at come second ns rest = (come.0, ((is.high, second, come.1), rest))

  many : p.second ≡ Some is.high
      → moved_count p.bottom + top_count p.top + beside_count p.beside ≡ length xs
  many second =
      let both : length (option_to_list p.second) ≡ 1 =
      ap (λ (o : Option Leaf). length (option_to_list o)) second in
      let all : 1 + length (option_to_list p.second)
      + (moved_count p.bottom + top_count p.top + beside_count p.beside) ≡ suc (suc (length xs)) =
      enough.many in
      omega (arith, both, all)

  from_two : (seq + 2) % 2 ^ 64 ≡ seq + 1 + 1
  from_two = numbered ∙ omega arith

  split_at : IsSplitPlan spine is.place p.first is.high xs ((seq + 2) % 2 ^ 64) p
      → AreAt g p seq (nodes_of p) (x ∷ y ∷ xs)
  split_at m =
      let gone = m.leaves_are in
      let come = leaves_at gone.leaf gone.there gone.first gone.second.0 gone.second.1
      gone.second.2 in
      let stays : beside_count p.beside ≡ 0 = ap beside_count m.above.beside_is in
      let count = many m.second_is in
      subst (λ ns. AreAt g p seq ns (x ∷ y ∷ xs))
      (sym (nodes_split p is.high m.second_is m.above.beside_is))
      (two_at come m.second_is (tail p.bottom p.top) (above_at g p spine.root m.above.node
      spine.below is.place.node is.place.child 1 _ p.bottom p.top xs (seq + 1 + 1)
      ((seq + 2) % 2 ^ 64) refl refl from_two (let few = less in omega (arith, few))
      m.above.above.change_is m.above.above.top_is (omega (arith, count, stays))))

  -- ---- with two nodes in the place of the one above

  module _ (second : p.second ≡ Some is.high)
      (come : ComesAt g (Some p.leaves.first) x seq p.first
      × ComesAt g p.leaves.second y (seq + 1) is.high) (low high : Inner) (from end cut : ℕ)
      (all : List Key) where
    raised_at : (ts : List Ptr) → ts ≡ xs
        → AreTwo from end cut all ts ((seq + 2) % 2 ^ 64) low high
        → IsRaised spine.root low high (drop 2 ts) (((seq + 2) % 2 ^ 64 + 2) % 2 ^ 64) p.bottom p.top
        → p.beside ≡ Under low high → 3 ≡ length ts
        → AreAt g p (seq + 1 + 1) (Lowest ∷ Behind ∷ Parent ∷ []) ts
    raised_at [] are two r under e = absurd (omega (arith, e))
    raised_at (a ∷ []) are two r under e = absurd (omega (arith, e))
    raised_at (a ∷ b ∷ []) are two r under e = absurd (omega (arith, e))
    raised_at (a ∷ b ∷ c ∷ d ∷ ds) are two r under e = absurd (omega (arith, e))
    raised_at (a ∷ b ∷ c ∷ []) are two r under e =
        let long : 3 ≡ length xs = ap length are in
        let few = less in
        let start = from_two in (
          (
            low,
            ap lowest_of under,
            fresh_at _ _ _ _ two.low_ptr a _ (seq + 1 + 1) low two.low_is
                (sym (one two.places.0)) start,
          ),
          (
            (
              high,
              ap behind_of under,
              fresh_at _ _ _ _ two.high_ptr b _ (seq + 1 + 1 + 1) high
                  two.high_is (sym (one two.places.1))
                  (counts_on ((seq + 2) % 2 ^ 64) 1 (seq + 1 + 1) start (omega (arith, few, long))),
            ),
            (
              (
                r.root,
                r.bottom_is,
                fresh_at _ _ _ _ r.ptr c _ (seq + 1 + 1 + 1 + 1) r.root r.root_is
                    (sym (one r.first_place))
                    (counts_on ((seq + 2) % 2 ^ 64) 2 (seq + 1 + 1) start (omega (arith, few, long))
                    ∙ omega arith),
              ),
              tt,
            ),
          ),
        )

    regrouped_at : (place : ℕ) (keys : List Key) (c : NodeChange) (ts : List Ptr) → ts ≡ xs
        → AreTwo from end cut all ts ((seq + 2) % 2 ^ 64) low high
        → IsChangeOf g spine.root place 1 keys (drop 2 ts) (((seq + 2) % 2 ^ 64 + 2) % 2 ^ 64) c
        → p.bottom ≡ Move low → p.top ≡ Some c → p.beside ≡ Comes high
        → 2 + moved_count c ≡ length ts
        → AreAt g p (seq + 1 + 1) (Parent ∷ Behind ∷ when (top_is_moved (Some c)) Root) ts
    regrouped_at place keys (Set ks) [] are two change moves top comes e =
        absurd (omega (arith, e))
    regrouped_at place keys (Set ks) (a ∷ []) are two change moves top comes e =
        absurd (omega (arith, e))
    regrouped_at place keys (Set ks) (a ∷ b ∷ c ∷ cs) are two change moves top comes e =
        absurd (omega (arith, e))
    regrouped_at place keys (Set ks) (a ∷ b ∷ []) are two change moves top comes e =
        let long : 2 ≡ length xs = ap length are in
        let few = less in
        let start = from_two in (
          (
            low,
            moves,
            fresh_at _ _ _ _ two.low_ptr a _ (seq + 1 + 1) low two.low_is
                (sym (one two.places.0)) start,
          ),
          (
            (
              high,
              ap behind_of comes,
              fresh_at _ _ _ _ two.high_ptr b _ (seq + 1 + 1 + 1) high
                  two.high_is (sym (one two.places.1))
                  (counts_on ((seq + 2) % 2 ^ 64) 1 (seq + 1 + 1) start (omega (arith, few, long))),
            ),
            tt,
          ),
        )
    regrouped_at place keys (Move up) [] are two change moves top comes e =
        absurd (omega (arith, e))
    regrouped_at place keys (Move up) (a ∷ []) are two change moves top comes e =
        absurd (omega (arith, e))
    regrouped_at place keys (Move up) (a ∷ b ∷ []) are two change moves top comes e =
        absurd (omega (arith, e))
    regrouped_at place keys (Move up) (a ∷ b ∷ c ∷ d ∷ ds) are two change moves top comes e =
        absurd (omega (arith, e))
    regrouped_at place keys (Move up) (a ∷ b ∷ c ∷ []) are two (full, (ptr, at, up_is)) moves top comes
        e =
        let long : 3 ≡ length xs = ap length are in
        let few = less in
        let start = from_two in (
          (
            low,
            moves,
            fresh_at _ _ _ _ two.low_ptr a _ (seq + 1 + 1) low two.low_is
                (sym (one two.places.0)) start,
          ),
          (
            (
              high,
              ap behind_of comes,
              fresh_at _ _ _ _ two.high_ptr b _ (seq + 1 + 1 + 1) high
                  two.high_is (sym (one two.places.1))
                  (counts_on ((seq + 2) % 2 ^ 64) 1 (seq + 1 + 1) start (omega (arith, few, long))),
            ),
            (
              (
                up,
                top,
                moved_at spine.root up _ ptr c _ (seq + 1 + 1 + 1 + 1) up_is (sym (one at))
                    (counts_on ((seq + 2) % 2 ^ 64) 2 (seq + 1 + 1) start (omega (arith, few, long))
                    ∙ omega arith),
              ),
              tt,
            ),
          ),
        )

    halves_at : (below : List Inner) (place : ℕ)
        → AreTwo from end cut all xs ((seq + 2) % 2 ^ 64) low high
        → IsAboveHalves g spine.root below place low high (drop 2 xs)
        (((seq + 2) % 2 ^ 64 + 2) % 2 ^ 64) p.bottom p.top p.beside
        → AreAt g p seq (nodes_of p) (x ∷ y ∷ xs)
    halves_at [] place two (r, under) =
        let bottom : moved_count p.bottom ≡ 1 = ap moved_count r.bottom_is in
        let top : top_count p.top ≡ 0 = ap top_count r.none in
        let side : beside_count p.beside ≡ 2 = ap beside_count under in
        let count = many second in
        subst (λ ns. AreAt g p seq ns (x ∷ y ∷ xs))
        (sym (nodes_raised p is.high low high r.root second under r.bottom_is r.none))
        (two_at come second (Lowest ∷ Behind ∷ Parent ∷ [])
        (raised_at xs refl two r under (omega (arith, count, bottom, top, side))))
    halves_at (m ∷ ms) place two (r, comes) =
        let bottom : moved_count p.bottom ≡ 1 = ap moved_count r.bottom_is in
        let top : top_count p.top ≡ moved_count r.change = ap top_count r.top_is in
        let side : beside_count p.beside ≡ 1 = ap beside_count comes in
        let count = many second in
        subst (λ ns. AreAt g p seq ns (x ∷ y ∷ xs))
        (sym (nodes_regrouped p is.high low high second comes r.bottom_is
        ∙ ap (λ (t : Option NodeChange).
        First ∷ Second ∷ Parent ∷ Behind ∷ when (top_is_moved t) Root) r.top_is))
        (two_at come second (Parent ∷ Behind ∷ when (top_is_moved (Some r.change)) Root)
        (regrouped_at place _ r.change xs refl two r.change_is r.bottom_is r.top_is comes
        (omega (arith, count, bottom, top, side))))

  halved_at : IsHalvesPlan spine is.place p.first is.high xs ((seq + 2) % 2 ^ 64) p
      → AreAt g p seq (nodes_of p) (x ∷ y ∷ xs)
  halved_at m =
      let gone = m.leaves_are in
      let come = leaves_at gone.leaf gone.there gone.first gone.second.0 gone.second.1
      gone.second.2 in
      let v = m.above.above in
      halves_at m.second_is come v.low v.high _ _ _ _ spine.below is.place.node v.two v.above

pub law_splits : LawSplits
law_splits spine leaf [] seq p of is enough = absurd (none_some is.halves.places.0)
law_splits spine leaf (x ∷ []) seq p of is enough = absurd (none_some is.halves.places.1)
law_splits spine leaf (x ∷ y ∷ xs) seq p of is enough = elim is.moves [
  | inl plain ↦ split_at spine leaf of seq p x y xs is enough plain.1
  | inr halves ↦ halved_at spine leaf of seq p x y xs is enough halves.1
]
