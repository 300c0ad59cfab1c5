-- What memory has for the buckets of a change's ends is what the core has.
use Rattle.std.proofs.Common.{◌≡◌, ℕ, ◌^◌, ◌<◌, List, ◌++◌, sym, ap, ◌∙◌, subst}
use Rattle.bc_change.proofs.Sites.{leaf_goes}
use Rattle.bc_change.proofs.of_bc_nodes_known.Law.{law_nodes}
use Rattle.bc_change.specs.Goes.{new_nodes, old_nodes}
use Rattle.bc_change.specs.Ready.{HoldsNew}
use Rattle.bc_change.specs.bc_machine.Containers.{IsSpineOf}
use Rattle.bc_change.specs.bc_machine.World.{IsCourseOf, IsOrigin, Origin, World, replay}
use Rattle.bc_disk.specs.declared.geometry.Geometry.{Geometry}
use Rattle.bc_facts.proofs.Stood.{in_contains}
use Rattle.bc_facts.specs.Layout.{IsLayoutOf}
use Rattle.bc_install.proofs.Numbered.{new_slots, of_held, of_node, old_slots, same_map}
use Rattle.bc_install.specs.Ended.{AreEach, buckets_of, ends_come, ends_gone}
use Rattle.bc_install.specs.Ends.{LawEnds, all_come, all_gone, leaf_buckets}
use Rattle.bc_install.specs.Numbered.{bucket_by, node_buckets}
use Rattle.bc_shares.specs.Shares.{books_of}
use Rattle.bc_spine.specs.Exchange.{coming, going}
use Rattle.bc_spine.specs.declared.leaf.LeafRange.{LeafRange}
use Rattle.bc_tree.specs.Spine.{Spine}
use Rattle.bc_tree.specs.declared.plan.Plan.{Plan}
use Rattle.bc_whole.specs.State as whole

module _ (x : World) (o : Origin) (is : IsOrigin x o) (course : IsCourseOf o x.log) (g : Geometry)
    (sp : Spine) (plan : Plan) (i : ℕ) (divided : IsLayoutOf g o.opening.machine.layout)
    (some : 0 < g.bucket) (few : g.nbuckets < 2 ^ 32)
    (stands : IsSpineOf o.opening.machine (replay o x.log).machine.whole.parts sp)
    (holds : HoldsNew o.opening.machine (books_of (replay o x.log).machine) i plan) where
  abbrev w : whole.Opening
  w = o.opening.machine

  come_leaves : leaf_buckets g (coming plan.leaves) ≡ buckets_of w (coming plan.leaves)
  come_leaves = same_map (λ (l : LeafRange). bucket_by g l.ptr)
      (λ (l : LeafRange). w.flow.books.bucket l.ptr.offset) (coming plan.leaves)
      (λ l m. of_held x o is course g divided some few i l.ptr
      (holds.leaves l (in_contains (coming plan.leaves) l m)))

  gone_leaves : leaf_buckets g (going sp.leaves plan.leaves)
      ≡ buckets_of w (going sp.leaves plan.leaves)
  gone_leaves = same_map (λ (l : LeafRange). bucket_by g l.ptr)
      (λ (l : LeafRange). w.flow.books.bucket l.ptr.offset) (going sp.leaves plan.leaves)
      (λ l m. let there = stands.leaves l (in_contains sp.leaves l (leaf_goes sp plan l m)) in
      of_node x o is course g divided some few l.ptr
      (ap (books_of (replay o x.log).machine).node (sym there.bucket)
      ∙ (law_nodes x o is course).leaves l.number there.role))

  pub come_is : all_come g plan ≡ ends_come w plan
  come_is = ap (λ (ns : List ℕ). ns ++ node_buckets g (new_nodes plan)) come_leaves
      ∙ ap (λ (ns : List ℕ). buckets_of w (coming plan.leaves) ++ ns)
      (new_slots x o is course g divided some few sp plan stands i holds)

  pub gone_is : all_gone g sp plan ≡ ends_gone w sp plan
  gone_is = ap (λ (ns : List ℕ). ns ++ node_buckets g (old_nodes sp plan)) gone_leaves
      ∙ ap (λ (ns : List ℕ). buckets_of w (going sp.leaves plan.leaves) ++ ns)
      (old_slots x o is course g divided some few sp plan stands)

pub law_ends : LawEnds
law_ends x o is course g sp plan come gone i divided some few stands holds in_ = record {
  comes = subst (λ (ns : List ℕ). AreEach ns come)
      (come_is x o is course g sp plan i divided some few stands holds) in_.comes;
  goes = subst (λ (ns : List ℕ). AreEach ns gone)
      (gone_is x o is course g sp plan i divided some few stands holds) in_.goes;
}
