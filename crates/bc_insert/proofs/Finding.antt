-- The slot that was found, and what is in hand for it and behind it.
use Rattle.std.proofs.Common.{◌≡◌, ℕ, List, Some, sym, ap, ◌∙◌, subst}
use Rattle.bc_cache.specs.Slots.{IsSlotOf}
use Rattle.bc_cache.specs.declared.slots.Cached.{Cached}
use Rattle.bc_place.specs.bc_hand.declared.hand.Hand.{Hand}
use Rattle.bc_place.specs.bc_hand.declared.hand.LeafHand.{LeafHand}
use Rattle.bc_key.specs.declared.key.Key.{Key}
use Rattle.bc_fill.specs.declared.fill.Placed.{Placed}
use Rattle.bc_place.specs.bc_machine.declared.part.BucketsPart.{BucketsPart}
use Rattle.bc_place.specs.Next.{HasNamed}
use Rattle.bc_insert.specs.Insert.{CanPutIn, HasPutIn}
use Rattle.bc_insert.specs.Write.{HasPutWrite}

module _ {C B : Type 0} (h : Hand C B) (leaf found : ℕ)
    (is : (leaves : LeafHand) → h.leaves ≡ Some leaves → IsSlotOf leaves.cache.slots leaf found)
    (n slot : ℕ) (cached : Cached) (keys : List Key) (can : CanPutIn h n slot leaf cached keys)
  where
    pub same_slot : slot ≡ found
    same_slot = (is can.leaves can.is).only slot (record {
      cached = cached;
      there = can.can.there;
      number_is = can.can.number_is;
    })

    pub only_slot : IsSlotOf can.leaves.cache.slots leaf slot
    only_slot = subst (λ s. IsSlotOf can.leaves.cache.slots leaf s) (sym same_slot)
        (is can.leaves can.is)

    pub can_there : CanPutIn h n found leaf cached keys
    can_there = subst (λ s. CanPutIn h n s leaf cached keys) same_slot can

    pub put_here : (new : Hand C B) → HasPutIn h new found cached keys
        → HasPutIn h new slot cached keys
    put_here new put = subst (λ s. HasPutIn h new s cached keys) (sym same_slot) put

-- ---- the buckets in hand

pub still_buckets : {C B : Type 0} (h new : Hand C B) (slot : ℕ) (cached : Cached)
    (keys : List Key) (part : BucketsPart) → h.buckets ≡ Some part → HasPutIn h new slot cached keys
    → new.buckets ≡ Some part
still_buckets h new slot cached keys part at put = ap (λ (x : Hand _ _). x.buckets) put.is ∙ at

pub put_write : {C B : Type 0} (h between new : Hand C B) (slot : ℕ) (cached : Cached)
    (keys : List Key) (ps : List Placed) → HasPutIn h between slot cached keys
    → (part : BucketsPart) → h.buckets ≡ Some part
    → ((part : BucketsPart) → between.buckets ≡ Some part → (next : BucketsPart)
    × HasNamed part ps next × (new ≡ record between { buckets = Some next }))
    → HasPutWrite h new slot cached keys ps
put_write h between new slot cached keys ps put part at named =
    let all = named part (still_buckets h between slot cached keys part at put) in record {
      between = between;
      put = put;
      part = part;
      was = at;
      next = all.0;
      named = all.1;
      is = all.2;
    }
