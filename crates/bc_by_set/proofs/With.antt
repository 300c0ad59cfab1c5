-- The tree in memory behind the set: of one node more sectors are taken, and nothing else of it has
-- changed.
use Rattle.std.proofs.Common.{◌≡◌, ℕ, zero, suc, ◌+◌, List, [], ◌∷◌, ◌++◌, drop, take, Option, Some, None, refl, sym, ap, ◌∙◌, subst}
use Rattle.std.specs.Prelude.{Ok, map, slice_get}
use Rattle.bc_by_root.specs.bc_install.Ended.{AreEach, AreEndsOf, MakesSo, ByNodeSet, buckets_of, ends_gone}
use Rattle.bc_by_root.specs.bc_install.bc_change.Goes.{IsChangeBy, beside_gone, gives_way, numbers, old_nodes, top_gives_way}
use Rattle.bc_by_root.specs.bc_install.bc_change.Ready.{HasBoth, IsTree}
use Rattle.bc_by_root.specs.bc_install.bc_machine.Containers.{inner_slot}
use Rattle.bc_disk.specs.declared.disk.Failed.{Failed}
use Rattle.bc_disk.specs.declared.geometry.Geometry.{Geometry}
use Rattle.bc_events.specs.declared.event.Change.{Change}
use Rattle.bc_inner.specs.Inner.{Inner}
use Rattle.bc_key.specs.declared.key.Key.{Key}
use Rattle.bc_key.specs.declared.ptr.Ptr.{Ptr}
use Rattle.bc_by_root.specs.bc_install.bc_parent_set.Takes.{IsTaker, TakesAlone}
use Rattle.bc_plan.specs.Parent.{HasMoreIn}
use Rattle.bc_spine.specs.Exchange.{going}
use Rattle.bc_spine.specs.Leaves.{AreLeaves, IsRow}
use Rattle.bc_spine.specs.declared.leaf.LeafRange.{LeafRange}
use Rattle.bc_tree.proofs.Appends.{more_shape}
use Rattle.bc_tree.proofs.Same.{shape_set, spine_shape}
use Rattle.bc_tree.specs.Plan.{Fits}
use Rattle.bc_tree.specs.Same.{SameShape, SameShapes}
use Rattle.bc_tree.specs.Spine.{IsSpine, Spine, bottom}
use Rattle.bc_tree.specs.declared.beside.Beside.{Beside}
use Rattle.bc_tree.specs.declared.beside.Beside.TheVariants.{Comes, Goes, Moves, Stays, Under}
use Rattle.bc_tree.specs.declared.change.NodeChange.{NodeChange}
use Rattle.bc_tree.specs.declared.change.NodeChange.TheVariants.{Move, Set}
use Rattle.bc_tree.specs.declared.plan.Plan.{Plan}
use Rattle.bc_whole.specs.State.{Opening}

-- ---- nodes of the same shape

get_shape : (n : ℕ) (xs ys : List Inner) (x : Inner) → SameShapes xs ys
    → slice_get xs n ≡ Some x → (y : Inner) × (slice_get ys n ≡ Some y) × SameShape x y
get_shape n [] ys x same there = absurd (cc)
get_shape n (a ∷ xs) [] x same there = absurd same
get_shape zero (a ∷ xs) (b ∷ ys) x same there =
    let is : a ≡ x = cc in (b, refl, subst (λ (m : Inner). SameShape m b) is same.0)
get_shape (suc n) (a ∷ xs) (b ∷ ys) x same there = get_shape n xs ys x same.1 there

take_shapes : (n : ℕ) (xs ys : List Inner) → SameShapes xs ys → SameShapes (take n xs) (take n ys)
take_shapes zero xs ys same = tt
take_shapes (suc n) [] [] same = tt
take_shapes (suc n) [] (y ∷ ys) same = absurd same
take_shapes (suc n) (x ∷ xs) [] same = absurd same
take_shapes (suc n) (x ∷ xs) (y ∷ ys) same = (same.0, take_shapes n xs ys same.1)

drop_shapes : (n : ℕ) (xs ys : List Inner) → SameShapes xs ys → SameShapes (drop n xs) (drop n ys)
drop_shapes zero xs ys same = same
drop_shapes (suc n) [] [] same = tt
drop_shapes (suc n) [] (y ∷ ys) same = absurd same
drop_shapes (suc n) (x ∷ xs) [] same = absurd same
drop_shapes (suc n) (x ∷ xs) (y ∷ ys) same = drop_shapes n xs ys same.1

both_shapes : (xs ys us vs : List Inner) → SameShapes xs ys → SameShapes us vs
    → SameShapes (xs ++ us) (ys ++ vs)
both_shapes [] [] us vs one two = two
both_shapes [] (y ∷ ys) us vs one two = absurd one
both_shapes (x ∷ xs) [] us vs one two = absurd one
both_shapes (x ∷ xs) (y ∷ ys) us vs one two = (one.0, both_shapes xs ys us vs one.1 two)

bottom_shapes : (r s : Inner) (xs ys : List Inner) → SameShape r s → SameShapes xs ys
    → SameShapes (bottom r xs) (bottom s ys)
bottom_shapes r s [] [] root same = (root, tt)
bottom_shapes r s [] (y ∷ ys) root same = absurd same
bottom_shapes r s (x ∷ xs) [] root same = absurd same
bottom_shapes r s (x ∷ xs) (y ∷ ys) root same = same

way_shapes : (change : NodeChange) (xs ys : List Inner) → SameShapes xs ys
    → SameShapes (gives_way change xs) (gives_way change ys)
way_shapes (Set keys) xs ys same = tt
way_shapes (Move next) xs ys same = same

top_shapes : (top : Option NodeChange) (r s : Inner) → SameShape r s
    → SameShapes (top_gives_way top r) (top_gives_way top s)
top_shapes None r s same = tt
top_shapes (Some change) r s same = way_shapes change (r ∷ []) (s ∷ []) (same, tt)

beside_shapes : (beside : Beside) (xs ys : List Inner) → SameShapes xs ys
    → SameShapes (beside_gone beside xs) (beside_gone beside ys)
beside_shapes Stays xs ys same = tt
beside_shapes (Comes node) xs ys same = tt
beside_shapes (Moves node) xs ys same = take_shapes 1 xs ys same
beside_shapes Goes xs ys same = take_shapes 1 xs ys same
beside_shapes (Under low high) xs ys same = tt

same_slots : (w : Opening) (xs ys : List Inner) → SameShapes xs ys
    → map (inner_slot w) ys ≡ map (inner_slot w) xs
same_slots w [] [] same = refl
same_slots w [] (y ∷ ys) same = absurd same
same_slots w (x ∷ xs) [] same = absurd same
same_slots w (x ∷ xs) (y ∷ ys) same =
    ap (λ (p : Ptr). w.flow.books.bucket p.offset ∷ map (inner_slot w) ys) same.0.ptr
    ∙ ap (λ ns. inner_slot w x ∷ ns) (same_slots w xs ys same.1)

takes_shapes : (xs ys : List Inner) (place : ℕ) (b : NodeChange) (top : Option NodeChange)
    (at : ℕ) (keys : List Key) → SameShapes xs ys → TakesAlone xs place b top at keys
    → TakesAlone ys place b top at keys
takes_shapes [] [] place b top at keys same h = h
takes_shapes [] (y ∷ ys) place b top at keys same h = absurd same
takes_shapes (x ∷ xs) [] place b top at keys same h = absurd same
takes_shapes (x ∷ xs) (y ∷ ys) place (Set set) None at keys same h = h
takes_shapes (x ∷ xs) (y ∷ ys) place (Set set) (Some change) at keys same h = absurd h
takes_shapes (x ∷ xs) (y ∷ ys) place (Move next) None at keys same h = absurd h
takes_shapes (x ∷ xs) (y ∷ ys) place (Move next) (Some (Set set)) at keys same h = h
takes_shapes (x ∷ xs) (y ∷ ys) place (Move next) (Some (Move up)) at keys same h = absurd h

-- ---- the tree

module _ (s t : Spine) (taker : Inner) (put : List Key) (well : Unit {0})
    (more : HasMoreIn {E = Failed} (Ok well) taker put s t) where
  shape : SameShape taker more.next
  shape = more_shape {E = Failed} (Ok well) s.geometry put taker more.next more.more

  shapes : SameShapes (s.root ∷ s.below) (t.root ∷ t.below)
  shapes = subst (λ (ns : List Inner). SameShapes (s.root ∷ s.below) ns) (sym more.nodes)
      (shape_set (s.root ∷ s.below) more.at taker more.next more.there shape)

  pub leaves_now : t.leaves ≡ s.leaves
  leaves_now = ap (λ (x : Spine). x.leaves) more.only

  geometry_now : t.geometry ≡ s.geometry
  geometry_now = ap (λ (x : Spine). x.geometry) more.only

  pub tree_now : IsTree s → IsTree t
  tree_now tree = record {
    spine_is = subst (λ (g : Geometry). IsSpine g t.root t.below t.leaves) (sym geometry_now)
        (subst (λ (ls : List LeafRange). IsSpine s.geometry t.root t.below ls) (sym leaves_now)
        (spine_shape s.geometry s.root t.root s.below t.below s.leaves shapes.0 shapes.1
        tree.spine_is));
    leaves = subst (λ (ls : List LeafRange). AreLeaves ls t.root.end) (sym leaves_now)
        (subst (λ n. AreLeaves s.leaves n) (sym shapes.0.end) tree.leaves);
  }

  module _ (plan : Plan) where
    -- the node that takes the set, as it is now
    pub taker_now : (at : ℕ) (keys : List Key) → IsTaker s plan at taker keys
        → (next : Inner) × IsTaker t plan at next keys × SameShape taker next
    taker_now at keys takes =
        let one = get_shape at (s.root ∷ s.below) (t.root ∷ t.below) taker shapes takes.there in (
          one.0,
          record {
            there = one.1;
            takes = takes_shapes s.below t.below plan.place plan.bottom plan.top at keys shapes.1
                takes.takes;
          },
          one.2,
        )

    old_shapes : SameShapes (old_nodes s plan) (old_nodes t plan)
    old_shapes = both_shapes
        (gives_way plan.bottom (take 1 (drop plan.place (bottom s.root s.below))))
        (gives_way plan.bottom (take 1 (drop plan.place (bottom t.root t.below))))
        (top_gives_way plan.top s.root ++ beside_gone plan.beside (drop (plan.place + 1) s.below))
        (top_gives_way plan.top t.root ++ beside_gone plan.beside (drop (plan.place + 1) t.below))
        (way_shapes plan.bottom (take 1 (drop plan.place (bottom s.root s.below)))
        (take 1 (drop plan.place (bottom t.root t.below)))
        (take_shapes 1 (drop plan.place (bottom s.root s.below))
        (drop plan.place (bottom t.root t.below))
        (drop_shapes plan.place (bottom s.root s.below) (bottom t.root t.below)
        (bottom_shapes s.root t.root s.below t.below shapes.0 shapes.1))))
        (both_shapes (top_gives_way plan.top s.root) (top_gives_way plan.top t.root)
        (beside_gone plan.beside (drop (plan.place + 1) s.below))
        (beside_gone plan.beside (drop (plan.place + 1) t.below))
        (top_shapes plan.top s.root t.root shapes.0)
        (beside_shapes plan.beside (drop (plan.place + 1) s.below)
        (drop (plan.place + 1) t.below)
        (drop_shapes (plan.place + 1) s.below t.below shapes.1)))

    old_now : (w : Opening)
        → map (inner_slot w) (old_nodes t plan) ≡ map (inner_slot w) (old_nodes s plan)
    old_now w = same_slots w (old_nodes s plan) (old_nodes t plan) old_shapes

    going_now : going t.leaves plan.leaves ≡ going s.leaves plan.leaves
    going_now = ap (λ (ls : List LeafRange). going ls plan.leaves) leaves_now

    -- the change is the same one, and so are its ends
    pub change_now : (w : Opening) (c : Change) → IsChangeBy w s plan c → IsChangeBy w t plan c
    change_now w c h = record {
      row = subst (λ (ls : List LeafRange). IsRow c.low ls c.high) (sym going_now) h.row;
      gone = h.gone ∙ ap (λ (ls : List LeafRange). numbers ls) (sym going_now);
      come = h.come;
      old = h.old ∙ sym (old_now w);
      new = h.new;
      few = h.few;
    }

    ends_now : (w : Opening) → ends_gone w t plan ≡ ends_gone w s plan
    ends_now w = ap (λ (ls : List LeafRange).
        buckets_of w ls ++ map (inner_slot w) (old_nodes t plan)) going_now
        ∙ ap (λ (ns : List ℕ). buckets_of w (going s.leaves plan.leaves) ++ ns) (old_now w)

    pub all_ends_now : (w : Opening) (come gone : List ℕ) → AreEndsOf w s plan come gone
        → AreEndsOf w t plan come gone
    all_ends_now w come gone h = record {
      comes = h.comes;
      goes = subst (λ (ns : List ℕ). AreEach ns gone) (sym (ends_now w)) h.goes;
    }

    pub makes_now : (at slot : ℕ) (next : Inner) (keys : List Key) → IsTree s → Fits t plan
        → HasBoth plan → IsTaker t plan at next keys
        → MakesSo t plan (ByNodeSet at next keys slot)
    makes_now at slot next keys tree fits both takes = record {
      tree = tree_now tree;
      fits = fits;
      both = both;
      by = takes;
    }
