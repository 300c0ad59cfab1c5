-- That a plan for a leaf in hand may be made.
use Rattle.std.proofs.Common.{◌≡◌, inl, inr, ℕ, ◌+◌, ◌-◌, ◌≤◌, ◌<◌, ◌^◌, List, length, Option, Some, refl, sym, ap, ◌∙◌, subst, arith}
use Rattle.std.specs.Prelude.{◌%◌, Contains, option_to_list, slice_get}
use Rattle.bc_alloc.specs.declared.purpose.Purpose.TheVariants as list
use Rattle.bc_by_root.specs.Given.{IsToGo}
use Rattle.bc_by_root.specs.bc_install.bc_change.Ready.{HasBoth, IsTree}
use Rattle.bc_disk.specs.declared.geometry.Geometry.{Geometry}
use Rattle.bc_key.specs.declared.ptr.Ptr.{Ptr}
use Rattle.bc_new_nodes.specs.Asked.{AreNodesFor}
use Rattle.bc_new_nodes.specs.bc_hand.declared.hand.Hand.{Hand}
use Rattle.bc_new_nodes.specs.bc_held.declared.held.HeldBucket.{HeldBucket}
use Rattle.bc_node.specs.Leaf.{Leaf}
use Rattle.bc_planned.proofs.Placing.{law_moves, law_splits}
use Rattle.bc_planned.specs.Laws.{AreEnough}
use Rattle.bc_planned.specs.Nodes.{nodes_of}
use Rattle.bc_planned.specs.Placed.{AreAt}
use Rattle.bc_leaf_plan.proofs.Lists.{places_many}
use Rattle.bc_replaced.proofs.Fresh.{nodes_for, proper_node}
use Rattle.bc_leaf_plan.proofs.Rows.{at_in, of_spine, one_goes, same_range, some_one}
use Rattle.bc_replaced.specs.Given.{MayMake}
use Rattle.bc_leaf_plan.specs.Leaf.{HasLeafToGo, HasPlan, IsPlanned, with_spine}
use Rattle.bc_leaf_plan.specs.Way.{IsPlanBy, places}
use Rattle.bc_leaf_plan.specs.declared.way.Way.{Way}
use Rattle.bc_leaf_plan.specs.declared.way.Way.TheVariants.{Rewrite, Split}
use Rattle.bc_spine.specs.Exchange.{going}
use Rattle.bc_spine.specs.declared.exchange.Exchange.{Exchange}
use Rattle.bc_spine.specs.declared.leaf.LeafRange.{LeafRange}
use Rattle.bc_tree.specs.LastKeys.{LeafKeys, StandIn}
use Rattle.bc_tree.specs.Plan.{IsOfSpine}
use Rattle.bc_tree.specs.Same.{IsSameTree}
use Rattle.bc_tree.specs.Spine.{IsPlaceAt, Spine}
use Rattle.bc_tree.specs.declared.place.LeafPlace.{LeafPlace}
use Rattle.bc_tree.specs.declared.plan.Plan.{Plan}

-- ---- plans

-- where two ranges come, so do two leaves
both_come : (way : Way) (count : ℕ) (s : Spine) (leaf : Leaf) (to : List Ptr) (seq : ℕ) (p : Plan)
    → IsPlanBy way count s leaf to seq p → HasBoth p
both_come Rewrite count s leaf to seq p is =
    ap (λ (ls : List LeafRange). length ls) is.moves.leaves_are.alone
    ∙ sym (ap (λ (o : Option Leaf). length (option_to_list o)) is.moves.alone)
both_come Split count s leaf to seq p is = elim is.moves [
  | inl (fits, m) ↦ (ap (λ (o : Option LeafRange). length (option_to_list o)) m.leaves_are.second.1
      ∙ sym (ap (λ (o : Option Leaf). length (option_to_list o)) m.second_is))
  | inr (full, m) ↦ (ap (λ (o : Option LeafRange). length (option_to_list o)) m.leaves_are.second.1
      ∙ sym (ap (λ (o : Option Leaf). length (option_to_list o)) m.second_is))
]

stand_at : (way : Way) (count : ℕ) (s : Spine) (leaf : Leaf) (to : List Ptr) (seq : ℕ) (p : Plan)
    → IsOfSpine s leaf → IsPlanBy way count s leaf to seq p → AreEnough to seq p
    → AreAt s.geometry p seq (nodes_of p) to
stand_at Rewrite count s leaf to seq p of is enough = law_moves s count leaf to seq p of is enough
stand_at Split count s leaf to seq p of is enough = law_splits s leaf to seq p of is enough

-- the one leaf that goes
module _ (s : Spine) (leaf : Leaf) (range : LeafRange)
    (same : (other : LeafRange) → Contains s.leaves other → (other.from ≤ leaf.from)
    × (leaf.from < other.end) → other ≡ range) where
  goes_by : (e : Exchange) (place : LeafPlace) (is : IsPlaceAt s leaf.from place) (old : LeafRange)
      → e.place ≡ place.leaf → e.gone ≡ 1 → slice_get s.leaves place.leaf ≡ Some old
      → (l : LeafRange) → Contains (going s.leaves e) l → l ≡ range
  goes_by e place is old at one there l m =
      one_goes s.leaves e place.leaf old l at one there m
      ∙ some_one (sym there ∙ is.there)
      ∙ same place.range (at_in s.leaves place.leaf place.range is.there) is.spans

  goes : (way : Way) (count : ℕ) (to : List Ptr) (seq : ℕ) (p : Plan)
      → IsPlanBy way count s leaf to seq p → (l : LeafRange) → Contains (going s.leaves p.leaves) l
      → l ≡ range
  goes Rewrite count to seq p is l m =
      let gone = is.moves.leaves_are in
      goes_by p.leaves is.place is.stands gone.leaf gone.at gone.gone gone.there l m
  goes Split count to seq p is l m = elim is.moves [
    | inl (fits, plain) ↦ (let gone = plain.leaves_are in
        goes_by p.leaves is.place is.stands gone.leaf gone.at gone.gone gone.there l m)
    | inr (full, halves) ↦ (let gone = halves.leaves_are in
        goes_by p.leaves is.place is.stands gone.leaf gone.at gone.gone gone.there l m)
  ]

-- ---- with what is in hand

module _ {C B : Type 0} (h : Hand C B) (parts slot : ℕ) (way : Way)
    (at : HasLeafToGo h parts way slot) (tree : IsTree at.spine.spine) (within sectors : ℕ)
    (inside : within ≤ sectors) (bs : List HeldBucket)
    (purposes : (b : HeldBucket) → Contains bs b → b.purpose ≡ list.Tree)
    (numbered : at.spine.next_seq + length bs < 2 ^ 64) where
  abbrev leaf : Leaf
  leaf = at.cached.leaf

  abbrev s : Spine
  s = at.spine.spine

  -- all leaves that go have the keys of the one that does
  abbrev keys : LeafKeys
  keys n = leaf.keys

  of : IsOfSpine s leaf
  of = of_spine s tree.leaves leaf at.range at.in_tree at.from at.end

  same : (other : LeafRange) → Contains s.leaves other → (other.from ≤ leaf.from)
      × (leaf.from < other.end) → other ≡ at.range
  same = same_range s tree.leaves leaf at.range at.in_tree at.from at.end

  module _ (t : Spine) (p : Plan)
      (is : IsPlanned way (parts - 6) within at.spine leaf bs t p) where
    enough : AreEnough (places bs) at.spine.next_seq p
    enough = record {
      many = is.many ∙ sym (places_many bs);
      numbered = (let few = numbered in let many = places_many bs in omega (arith, few, many));
    }

    nodes_on : AreNodesFor s.geometry sectors p at.spine.next_seq (nodes_of p) bs
    nodes_on = nodes_for s.geometry sectors p (proper_node p is.proper) at.spine.next_seq
        (nodes_of p) bs
        (stand_at way (parts - 6) s leaf (places bs) at.spine.next_seq p of is.planned enough)
        (λ b m. let ends = is.within b m in omega (arith, ends, inside)) purposes

    to_go : (range : LeafRange) → range ≡ at.range → IsToGo at.leaves parts keys range
    to_go range one = record {
      slot = slot;
      cached = at.cached;
      there = at.there;
      number_is = at.number_is ∙ ap (λ (l : LeafRange). l.number) (sym one);
      held = at.held;
      its_part = at.its_part
          ∙ ap (λ (l : LeafRange). 6 + l.number % (parts - 6)) (sym one);
      keys_are = refl;
    }

    may_at : IsSameTree s t
        → MayMake (with_spine h (record at.spine { spine = t })) parts sectors p bs
    may_at room = record {
      write = record {
        spine = record at.spine { spine = t };
        in_hand = refl;
        rest = at.rest;
        fits = is.fits;
        both = both_come way (parts - 6) s leaf (places bs) at.spine.next_seq p is.planned;
        nodes = subst (λ (g : Geometry).
            AreNodesFor g sectors p at.spine.next_seq (nodes_of p) bs) (sym room.geometry_is)
            nodes_on;
        numbered = numbered;
      };
      up = is.up;
      leaves = at.leaves;
      are_leaves = at.are_leaves;
      keys = keys;
      gone = λ range m. to_go range (goes s leaf at.range same way (parts - 6) (places bs)
          at.spine.next_seq p is.planned range
          (subst (λ (ls : List LeafRange). Contains (going ls p.leaves) range) room.leaves_are m));
      same = subst (λ (ls : List LeafRange). StandIn ls keys p) (sym room.leaves_are)
          (is.kept keys (λ range low. refl));
    }

  pub may_make : (k : Hand C B) (p : Plan)
      → HasPlan way (parts - 6) within h at.spine leaf bs k p → MayMake k parts sectors p bs
  may_make k p plan = subst (λ (x : Hand C B). MayMake x parts sectors p bs)
      (sym plan.roomed.hand) (may_at plan.roomed.spine p plan.is plan.roomed.tree)
