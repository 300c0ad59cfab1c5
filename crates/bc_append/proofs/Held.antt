-- The leaf in hand is in the hand's part, and one that nobody holds has no part in a change.
use Rattle.std.proofs.Common.{◌≡◌, inl, inr, ℕ, zero, suc, true, false, List, [], ◌∷◌, Option, Some, None, refl, sym, ap, ◌∙◌, subst}
use Rattle.std.specs.Prelude.{slice_get, slice_set}
use Rattle.bc_cache.specs.Lending.{leaf_set}
use Rattle.bc_cache.specs.Slots.{IsSlotOf, NodeCache}
use Rattle.bc_cache.specs.declared.slots.Cached.{Cached}
use Rattle.bc_leaves.specs.Parts.{Coming, Draft, Free, Leaving, NoNode, Role}
use Rattle.bc_leaves.specs.Parts as parts
use Rattle.bc_node.specs.Leaf.{Leaf}
use Rattle.bc_parts.specs.Seat.{Holds}
use Rattle.bc_place.specs.bc_hand.Seats.{numbers, with_leaves, with_part}
use Rattle.bc_place.specs.bc_hand.declared.hand.Hand.{Hand}
use Rattle.bc_place.specs.bc_hand.declared.hand.LeafHand.{LeafHand}
use Rattle.bc_place.specs.bc_machine.Containers.{AreLeavesOf, IsInTree}
use Rattle.bc_whole.specs.State as whole

-- ---- parts in hand

behind : {A : Type 0} (n : ℕ) (o : Option A) (ks : List ℕ) (k : ℕ) → Holds ks k
    → Holds (with_part n o ks) k
behind n None ks k h = h
behind n (Some a) ks k h = inr h

here_leaves : (o : Option LeafHand) (l : LeafHand) (ks : List ℕ) → o ≡ Some l
    → Holds (with_leaves o ks) l.part
here_leaves None l ks is = absurd (cc)
here_leaves (Some x) l ks is = let e : x ≡ l = cc in inl (ap (λ (y : LeafHand). y.part) (sym e))

pub holds_leaves : {C B : Type 0} (h : Hand C B) (l : LeafHand) → h.leaves ≡ Some l
    → Holds (numbers h) l.part
holds_leaves h l is = behind 5 h.backing _ l.part (behind 4 h.cache _ l.part
    (behind 3 h.journal _ l.part (behind 2 h.buckets _ l.part (behind 1 h.flight _ l.part
    (here_leaves h.leaves l (with_part 0 h.spine []) is)))))

-- ---- slots

pub one_cached : (o : Option (Option Cached)) (a b : Cached) → o ≡ Some (Some a)
    → o ≡ Some (Some b) → a ≡ b
one_cached o a b x y = cc

pub one_some : {A : Type 0} (o : Option A) (a b : A) → o ≡ Some a → o ≡ Some b → a ≡ b
one_some o a b x y = cc

-- the slot has the leaf that was lent last
pub set_leaf : (slots : List (Option Cached)) (slot : ℕ) (cached : Cached) (leaf : Leaf)
    → slice_get slots slot ≡ Some (Some cached)
    → leaf_set slots slot leaf ≡ slice_set slots slot (Some (record cached { leaf = leaf }))
set_leaf [] zero cached leaf e = absurd (cc)
set_leaf [] (suc slot) cached leaf e = absurd (cc)
set_leaf (None ∷ slots) zero cached leaf e = absurd (cc)
set_leaf (Some c ∷ slots) zero cached leaf e =
    ap (λ (x : Cached). Some (record x { leaf = leaf }) ∷ slots) (one c cached e)
  where
    one : (a b : Cached) → Some (Some a) ≡ Some (Some b) → a ≡ b
    one a b is = cc
set_leaf (kept ∷ slots) (suc slot) cached leaf e =
    ap (λ (l : List (Option Cached)). kept ∷ l) (set_leaf slots slot cached leaf e)

-- ---- a leaf that no change moves

pub free_role : (a : parts.State) (count part : ℕ) (w : whole.Opening) (cache : NodeCache)
    (slot : ℕ) (cached : Cached) → AreLeavesOf w a count part cache
    → slice_get cache.slots slot ≡ Some (Some cached) → IsSlotOf cache.slots cached.number slot
    → cached.held ≡ false → (a.leaves cached.number).role ≡ Free
free_role a count part w cache slot cached h there only free =
    go (a.leaves cached.number).role refl (h.leaves slot cached there).at.role
  where
    unheld : (i : ℕ) (c : Cached) → slice_get cache.slots i ≡ Some (Some c)
        → c.number ≡ cached.number → c.held ≡ true → ⊥
    unheld i c at same held =
        let e = only.only i (record { cached = c; there = at; number_is = same }) in
        let one = one_cached (slice_get cache.slots slot) c cached
        (subst (λ m. slice_get cache.slots m ≡ Some (Some c)) e at) there in
        let both : true ≡ false = sym held ∙ ap (λ (x : Cached). x.held) one ∙ free in cc

    go : (r : Role) → (a.leaves cached.number).role ≡ r
        → IsInTree (a.leaves cached.number).role → (a.leaves cached.number).role ≡ Free
    go NoNode e tree = absurd (subst IsInTree e tree)
    go Draft e tree = absurd (subst IsInTree e tree)
    go Coming e tree = absurd (subst IsInTree e tree)
    go Free e tree = e
    go Leaving e tree =
        let one = h.leaving cached.number (h.rest slot cached there) e in
        absurd (unheld one.0 one.1 one.2 one.3 one.4)
