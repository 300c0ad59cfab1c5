-- A leaf in a slot of the part in hand that may give way.
use Rattle.std.proofs.Common.{◌≡◌, ℕ, ◌+◌, ◌-◌, ◌≤◌, true, false, Some, ap, ◌∙◌, arith}
use Rattle.std.specs.Prelude.{◌%◌, Contains, slice_get}
use Rattle.bc_cache.specs.declared.slots.Cached.{Cached}
use Rattle.bc_new_nodes.specs.bc_hand.declared.hand.Hand.{Hand}
use Rattle.bc_new_nodes.specs.bc_hand.declared.hand.LeafHand.{LeafHand}
use Rattle.bc_new_nodes.specs.bc_machine.declared.part.SpinePart.{SpinePart}
use Rattle.bc_spine.specs.declared.leaf.LeafRange.{LeafRange}
use Rattle.bc_leaf_plan.specs.Leaf.{HasLeafToGo}
use Rattle.bc_leaf_plan.specs.Way.{IsLongFor}
use Rattle.bc_leaf_plan.specs.declared.way.Way.{Way}

-- the tree has a leaf of its number and its sectors
abbrev pub IsOne : SpinePart → Cached → Type 0
IsOne p cached = (range : LeafRange) × Contains p.spine.leaves range
    × (cached.number ≡ range.number) × (cached.leaf.from ≡ range.from)
    × (cached.leaf.end ≡ range.end)

its_place : (part n count all : ℕ) → 6 ≤ part → part - 6 ≡ n % count → all ≡ count
    → part ≡ 6 + n % all
its_place part n count all low is same =
    let at = ap (λ k. n % k) same in omega (arith, low, is, at)

module _ {C B : Type 0} (h : Hand C B) (slot count : ℕ) (way : Way) (p : SpinePart)
    (is_spine : h.spine ≡ Some p) (rest : p.changing ≡ false) (l : LeafHand)
    (are_leaves : h.leaves ≡ Some l) (geometry : l.cache.geometry ≡ p.spine.geometry)
    (cached : Cached) (there : slice_get l.cache.slots slot ≡ Some (Some cached))
    (held : cached.held ≡ true) (low : 6 ≤ l.part) (its : l.part - 6 ≡ cached.number % count)
    (one : IsOne p cached) (long : IsLongFor way cached.leaf) where
  pub may_go_now : (parts : ℕ) → parts - 6 ≡ count → HasLeafToGo h parts way slot
  may_go_now parts many = record {
    spine = p;
    is_spine = is_spine;
    rest = rest;
    leaves = l;
    are_leaves = are_leaves;
    geometry = geometry;
    cached = cached;
    there = there;
    held = held;
    range = one.0;
    in_tree = one.1;
    number_is = one.2;
    its_part = its_place l.part cached.number count (parts - 6) low its many
        ∙ ap (λ n. 6 + n % (parts - 6)) one.2;
    from = one.3;
    end = one.4;
    long = long;
  }
