-- The slot that was found for a leaf is the one that has it.
use Rattle.std.proofs.Common.{◌≡◌, ℕ, List, Option, Some, sym, ap, ◌∙◌, subst}
use Rattle.std.specs.Prelude.{◌<◌, length, slice_get}
use Rattle.std.proofs.lemmas.Option.{slice_get_within}
use Rattle.bc_append.proofs.Held.{one_cached, one_some}
use Rattle.bc_append.specs.Append.{HasLeafIn}
use Rattle.bc_append.specs.bc_hand.declared.hand.Hand.{Hand}
use Rattle.bc_append.specs.bc_hand.declared.hand.LeafHand.{LeafHand}
use Rattle.bc_cache.specs.Slots.{HasLeaf, IsSlotOf}
use Rattle.bc_cache.specs.declared.slots.Cached.{Cached}

pub within : (slots : List (Option Cached)) (number slot : ℕ) → IsSlotOf slots number slot
    → slot < length slots
within slots number slot only = slice_get_within slots slot (Some only.has.cached) only.has.there

module _ {C B : Type 0} (h : Hand C B) (l : LeafHand) (is : h.leaves ≡ Some l) (number slot : ℕ)
    (at : HasLeafIn h slot number) where
  pub same_hand : at.leaves ≡ l
  same_hand = one_some h.leaves at.leaves l at.is is

  abbrev pub has_it : HasLeaf l.cache.slots slot number
  has_it = record {
    cached = at.cached;
    there = ap (λ (y : LeafHand). slice_get y.cache.slots slot) (sym same_hand) ∙ at.there;
    number_is = at.number_is;
  }

  module _ (k : ℕ) (only : IsSlotOf l.cache.slots number k) where
    pub same_slot : slot ≡ k
    same_slot = only.only slot has_it

    pub only_there : IsSlotOf at.leaves.cache.slots number slot
    only_there = subst (λ (y : LeafHand). IsSlotOf y.cache.slots number slot) (sym same_hand)
        (subst (λ i. IsSlotOf l.cache.slots number i) (sym same_slot) only)

    pub its : (c : Cached) → slice_get l.cache.slots k ≡ Some (Some c) → at.cached ≡ c
    its c there = one_cached (slice_get l.cache.slots k) at.cached c
        (ap (λ i. slice_get l.cache.slots i) (sym same_slot) ∙ has_it.there) there
