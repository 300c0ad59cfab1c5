-- The new nodes of a plan that stand at the places of held buckets can be written there.
use Rattle.std.proofs.Common.{◌≡◌, ℕ, suc, ◌+◌, ◌≤◌, List, [], ◌∷◌, Option, Some, refl, sym, ◌∙◌, subst, arith}
use Rattle.std.specs.Prelude.{Contains, IfSome}
use Rattle.bc_alloc.specs.declared.purpose.Purpose.TheVariants as list
use Rattle.bc_disk.specs.declared.geometry.Geometry.{Geometry}
use Rattle.bc_inner.specs.Inner.{Inner}
use Rattle.bc_key.specs.declared.ptr.Ptr.{Ptr}
use Rattle.bc_new_nodes.specs.Asked.{AreNodesFor, ComesIn, IsNodeFor}
use Rattle.bc_new_nodes.specs.bc_held.declared.held.HeldBucket.{HeldBucket}
use Rattle.bc_new_nodes.specs.bc_new_node.Kind.{HasProperKeys}
use Rattle.bc_leaf_plan.specs.Leaf.{IsProperPending}
use Rattle.bc_node.specs.Leaf.{AreProperKeys, Leaf}
use Rattle.bc_plan.specs.Write.{IsUnwritten, IsUnwrittenInner, inner_set, leaf_set}
use Rattle.bc_plan.specs.declared.write.NewNode.{NewNode}
use Rattle.bc_plan.specs.declared.write.NewNode.TheVariants.{Behind, First, Lowest, Parent, Root, Second}
use Rattle.bc_planned.specs.Nodes.{range_of}
use Rattle.bc_planned.specs.Placed.{AreAt, ComesAt, IsAt, StandsAt}
use Rattle.bc_leaf_plan.specs.Way.{places}
use Rattle.bc_spine.specs.declared.leaf.LeafRange.{LeafRange}
use Rattle.bc_tree.specs.declared.plan.Plan.{Plan}

some_one : {A : Type 0} {a b : A} → Some a ≡ Some b → a ≡ b
some_one is = cc

in_here : {X : Type 0} (x : X) (xs : List X) → Contains (x ∷ xs) x
in_here x xs = (0, omega arith, refl)

in_more : {X : Type 0} (x : X) (xs : List X) (y : X) → Contains xs y → Contains (x ∷ xs) y
in_more x xs y (i, less, is) = (suc i, omega (arith, less), is)

-- what is pending of a leaf that comes is in order, whichever it is
second_pending : (o : Option Leaf) (leaf : Leaf) → o ≡ Some leaf
    → IfSome o (λ (l : Leaf). AreProperKeys l.from l.end l.pending)
    → AreProperKeys leaf.from leaf.end leaf.pending
second_pending o leaf is proper = subst (λ (x : Option Leaf).
    IfSome x (λ (l : Leaf). AreProperKeys l.from l.end l.pending)) is proper

pub proper_node : (p : Plan) → IsProperPending p → (node : NewNode) → HasProperKeys p node
proper_node p is First leaf its =
    subst (λ (x : Leaf). AreProperKeys x.from x.end x.pending) its is.first
proper_node p is Second leaf its = second_pending p.second leaf its is.second
proper_node p is Parent leaf none = absurd none
proper_node p is Root leaf none = absurd none
proper_node p is Behind leaf none = absurd none
proper_node p is Lowest leaf none = absurd none

module _ (g : Geometry) (sectors : ℕ) (p : Plan) where
  unwritten : (o : Option LeafRange) (to : Ptr) (seq : ℕ) (leaf : Leaf) → ComesAt g o to seq leaf
      → to.offset + g.node_sectors ≤ sectors → IsUnwritten g sectors leaf
  unwritten o to seq leaf at room = record {
    none = at.none;
    fresh = at.fresh;
    free = at.fits;
    room = subst (λ (x : Ptr). x.offset + g.node_sectors ≤ sectors) (sym at.ptr) room;
  }

  unwritten_inner : (to : Ptr) (seq : ℕ) (n : Inner) → StandsAt to seq n
      → to.offset + g.node_sectors ≤ sectors → IsUnwrittenInner g sectors n
  unwritten_inner to seq n at room = record {
    none = at.none;
    room = subst (λ (x : Ptr). x.offset + g.node_sectors ≤ sectors) (sym at.ptr) room;
  }

  comes_in : (node : NewNode) (to : Ptr) (seq : ℕ) (leaf : Leaf)
      → ComesAt g (range_of p node) to seq leaf → ComesIn p node leaf
  comes_in node to seq leaf at = record {
    range = at.range;
    its_range = at.its_range;
    range_is = record { from = at.from; end = at.end; ptr = at.stands };
    pending = record { list = at.list; last = at.last; added = at.added };
  }

  node_for : (seq : ℕ) (node : NewNode) (b : HeldBucket) → IsAt g p seq node b.to
      → b.to.offset + g.node_sectors ≤ sectors → b.purpose ≡ list.Tree → HasProperKeys p node
      → IsNodeFor g sectors p seq node b
  node_for seq First b at room tree proper = record {
    can = unwritten (Some p.leaves.first) b.to seq p.first at room;
    first = leaf_set p.first;
    first_is = refl;
    place = at.ptr;
    number = at.number;
    proper = proper;
    purpose = tree;
    leaf = λ leaf is. subst (ComesIn p First) is (comes_in First b.to seq p.first at);
  }
  node_for seq Second b (l, second, at) room tree proper = record {
    can = (l, second, unwritten p.leaves.second b.to seq l at room);
    first = leaf_set l;
    first_is = (l, second, refl);
    place = at.ptr;
    number = at.number;
    proper = proper;
    purpose = tree;
    leaf = λ leaf is. subst (ComesIn p Second) (some_one (sym second ∙ is))
        (comes_in Second b.to seq l at);
  }
  node_for seq Parent b (n, is, at) room tree proper = record {
    can = (n, is, unwritten_inner b.to seq n at room);
    first = inner_set n;
    first_is = (n, is, refl);
    place = at.ptr;
    number = at.number;
    proper = proper;
    purpose = tree;
    leaf = λ leaf none. absurd none;
  }
  node_for seq Root b (n, is, at) room tree proper = record {
    can = (n, is, unwritten_inner b.to seq n at room);
    first = inner_set n;
    first_is = (n, is, refl);
    place = at.ptr;
    number = at.number;
    proper = proper;
    purpose = tree;
    leaf = λ leaf none. absurd none;
  }
  node_for seq Behind b (n, is, at) room tree proper = record {
    can = (n, is, unwritten_inner b.to seq n at room);
    first = inner_set n;
    first_is = (n, is, refl);
    place = at.ptr;
    number = at.number;
    proper = proper;
    purpose = tree;
    leaf = λ leaf none. absurd none;
  }
  node_for seq Lowest b (n, is, at) room tree proper = record {
    can = (n, is, unwritten_inner b.to seq n at room);
    first = inner_set n;
    first_is = (n, is, refl);
    place = at.ptr;
    number = at.number;
    proper = proper;
    purpose = tree;
    leaf = λ leaf none. absurd none;
  }

  pub nodes_for : (proper : (node : NewNode) → HasProperKeys p node) (seq : ℕ) (ns : List NewNode)
      (bs : List HeldBucket) → AreAt g p seq ns (places bs)
      → ((b : HeldBucket) → Contains bs b → b.to.offset + g.node_sectors ≤ sectors)
      → ((b : HeldBucket) → Contains bs b → b.purpose ≡ list.Tree)
      → AreNodesFor g sectors p seq ns bs
  nodes_for proper seq [] [] at room tree = tt
  nodes_for proper seq [] (b ∷ bs) at room tree = absurd at
  nodes_for proper seq (n ∷ ns) [] at room tree = absurd at
  nodes_for proper seq (n ∷ ns) (b ∷ bs) (one, more) room tree = (
    node_for seq n b one (room b (in_here b bs)) (tree b (in_here b bs)) (proper n),
    nodes_for proper (seq + 1) ns bs more (λ x m. room x (in_more b bs x m))
        (λ x m. tree x (in_more b bs x m)),
  )
