-- The leaf that is found in hand.
use Rattle.std.specs.Prelude.{MatchBool, slice_get}
use Rattle.std.proofs.Common.{◌≡◌, ℕ, Bool, true, false, Option, Some, sym, ap, ◌∙◌, subst}
use Rattle.bc_around.specs.Look.{AreFree, HasFreeLeaf, HasKey, HasKeyedLeaf}
use Rattle.bc_cache.specs.Fetch.{IsLeafIn}
use Rattle.bc_cache.specs.Slots.{HasLeaf as SlotHas, IsSlotOf, Misses}
use Rattle.bc_cache.specs.declared.slots.Cached.{Cached}
use Rattle.bc_flush.specs.bc_hand.declared.hand.Hand.{Hand}
use Rattle.bc_flush.specs.bc_hand.declared.hand.LeafHand.{LeafHand}
use Rattle.bc_flush.specs.bc_sight.Sight.{HasLeaf}
use Rattle.bc_node.specs.Leaf.{Leaf}

one_hand : (a b : LeafHand) (o : Option LeafHand) → o ≡ Some a → o ≡ Some b → a ≡ b
one_hand a b o p q = cc

one_cached : (a b : Cached) (o : Option (Option Cached)) → o ≡ Some (Some a) → o ≡ Some (Some b)
    → a ≡ b
one_cached a b o p q = cc

module _ {C B : Type 0} (h : Hand C B) (number first count slot : ℕ) (cached : Cached)
    (leaves : LeafHand) (is : h.leaves ≡ Some leaves)
    (has : HasLeaf h number first count slot cached) where
  in_slot : slice_get leaves.cache.slots slot ≡ Some (Some cached)
  in_slot = subst (λ (l : LeafHand). slice_get l.cache.slots slot ≡ Some (Some cached))
      (one_hand has.hand leaves h.leaves has.is is) has.at

  has_it : SlotHas leaves.cache.slots slot number
  has_it = record { cached = cached; there = in_slot; number_is = has.number_is }

  pub is_there : Misses leaves.cache.slots number → ⊥
  is_there misses = misses slot has_it

  -- the leaf that was found is the one in hand
  module _ (at : ℕ) (leaf : Leaf) (of : IsSlotOf leaves.cache.slots number at)
      (in_ : IsLeafIn leaves.cache.slots at leaf) where
    there : slice_get leaves.cache.slots at ≡ Some (Some cached)
    there = subst (λ n. slice_get leaves.cache.slots n ≡ Some (Some cached)) (of.only slot has_it)
        in_slot

    abbrev this : HasLeaf h number first count at cached
    this = record {
      hand = leaves;
      is = is;
      at = there;
      number_is = has.number_is;
      from = has.from;
      end = has.end;
    }

    same_leaf : leaf ≡ cached.leaf
    same_leaf = sym (ap (λ (c : Cached). c.leaf)
        (one_cached cached in_.0 (slice_get leaves.cache.slots at) there in_.1) ∙ in_.2)

    pub found_here : (b : Bool) → MatchBool b (AreFree leaf first count) (HasKey leaf first count)
        → MatchBool b (HasFreeLeaf h number first count) (HasKeyedLeaf h number first count)
    found_here true free = record {
      slot = at;
      cached = cached;
      leaf = this;
      free = subst (λ (l : Leaf). AreFree l first count) same_leaf free;
    }
    found_here false key = record {
      slot = at;
      cached = cached;
      leaf = this;
      key = subst (λ (l : Leaf). HasKey l first count) same_leaf key;
    }
