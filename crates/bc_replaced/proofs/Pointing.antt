-- Each child of a plan's new nodes lies in the bucket into which its key points.
use Rattle.std.proofs.Common.{◌≡◌, inl, inr, ℕ, ◌<◌, List, [], ◌∷◌, refl, sym, subst}
use Rattle.std.specs.Prelude.{Contains}
use Rattle.bc_children.proofs.Children.{law_inside, law_tree}
use Rattle.bc_children.specs.Children.{by_core, by_device}
use Rattle.bc_disk.specs.declared.geometry.Geometry.{Geometry}
use Rattle.bc_facts.proofs.Stood.{contains_in, in_contains}
use Rattle.bc_facts.specs.Layout.{IsLayoutOf}
use Rattle.bc_key.specs.declared.ptr.Ptr.{Ptr}
use Rattle.bc_leaf_plan.specs.Way.{IsPlanBy, places}
use Rattle.bc_leaf_plan.specs.declared.way.Way.{Way}
use Rattle.bc_leaf_plan.specs.declared.way.Way.TheVariants.{Rewrite, Split}
use Rattle.bc_meta.specs.Facts.{In}
use Rattle.bc_new_nodes.specs.Asked.{ChildrenPoint}
use Rattle.bc_new_nodes.specs.bc_held.Held.{LiesAt}
use Rattle.bc_new_nodes.specs.bc_held.declared.held.HeldBucket.{HeldBucket}
use Rattle.bc_new_nodes.specs.bc_machine.Containers.{IsSpineOf}
use Rattle.bc_new_nodes.specs.bc_machine.World.{IsCourseOf, IsOrigin, Origin, World, replay}
use Rattle.bc_node.specs.Leaf.{Leaf}
use Rattle.bc_plan.specs.declared.write.NewNode.TheVariants.{Behind, First, Lowest, Parent, Root, Second}
use Rattle.bc_planned.proofs.Naming.{law_new_moved, law_new_split}
use Rattle.bc_planned.specs.Laws.{Agree}
use Rattle.bc_planned.specs.Placed.{NameEach}
use Rattle.bc_tree.specs.Spine.{IsSpine, Spine}
use Rattle.bc_tree.specs.declared.plan.Plan.{Plan}

in_places : (bs : List HeldBucket) (ptr : Ptr) → In ptr (places bs)
    → (b : HeldBucket) × In b bs × (b.to ≡ ptr)
in_places [] ptr m = absurd m
in_places (b ∷ bs) ptr (inl here) = (b, inl refl, sym here)
in_places (b ∷ bs) ptr (inr later) =
    let rest = in_places bs ptr later in (rest.0, inr rest.1, rest.2)

module _ (x : World) (o : Origin) (is : IsOrigin x o) (course : IsCourseOf o x.log) (g : Geometry)
    (divided : IsLayoutOf g o.opening.machine.layout) (some : 0 < g.bucket) where
  of_bucket : (b : HeldBucket) → LiesAt b o → Agree (by_core o) (by_device g) b.to
  of_bucket b at = law_inside x o is course g b.to divided some at.inside

  of_places : (bs : List HeldBucket) → ((b : HeldBucket) → Contains bs b → LiesAt b o)
      → (ptr : Ptr) → Contains (places bs) ptr → Agree (by_core o) (by_device g) ptr
  of_places bs lie ptr m =
      let one = in_places bs ptr (contains_in (places bs) ptr m) in
      subst (Agree (by_core o) (by_device g)) one.2
      (of_bucket one.0 (lie one.0 (in_contains bs one.0 one.1)))

  named : (way : Way) (count : ℕ) (s : Spine) (leaf : Leaf) (bs : List HeldBucket) (seq : ℕ)
      (p : Plan) → IsSpine s.geometry s.root s.below s.leaves
      → IsSpineOf o.opening.machine (replay o x.log).machine.whole.parts s
      → ((b : HeldBucket) → Contains bs b → LiesAt b o)
      → IsPlanBy way count s leaf (places bs) seq p → NameEach (Agree (by_core o) (by_device g)) p
  named Rewrite count s leaf bs seq p tree stands lie planned =
      law_new_moved (by_core o) (by_device g) s count leaf (places bs) seq p tree
      (law_tree x o is course g s divided some stands) (of_places bs lie) planned
  named Split count s leaf bs seq p tree stands lie planned =
      law_new_split (by_core o) (by_device g) s leaf (places bs) seq p tree
      (law_tree x o is course g s divided some stands) (of_places bs lie) planned

  point : (p : Plan) → NameEach (Agree (by_core o) (by_device g)) p
      → ChildrenPoint g p o (replay o x.log)
  point p each First n none = absurd none
  point p each Second n none = absurd none
  point p each Parent n its = each.parent n its
  point p each Root n its = each.root n its
  point p each Behind n its = each.behind n its
  point p each Lowest n its = each.lowest n its

  -- of the plan for a leaf
  pub points : (way : Way) (count : ℕ) (s : Spine) (leaf : Leaf) (bs : List HeldBucket) (seq : ℕ)
      (p : Plan) → IsSpine s.geometry s.root s.below s.leaves
      → IsSpineOf o.opening.machine (replay o x.log).machine.whole.parts s
      → ((b : HeldBucket) → Contains bs b → LiesAt b o)
      → IsPlanBy way count s leaf (places bs) seq p → ChildrenPoint g p o (replay o x.log)
  points way count s leaf bs seq p tree stands lie planned =
      point p (named way count s leaf bs seq p tree stands lie planned)
