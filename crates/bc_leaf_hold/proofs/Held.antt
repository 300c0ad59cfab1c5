-- The leaves in a part, once one of them is held or let go.
use Rattle.std.proofs.Common.{◌≡◌, ◌≢◌, inl, inr, ℕ, zero, suc, Bool, true, List, [], ◌∷◌, Option, Some, refl, sym, ap, ◌∙◌, subst}
use Rattle.std.specs.Prelude.{◌%◌, slice_get, slice_set}
use Rattle.std.proofs.lemmas.Bool.{cases_eq}
use Rattle.std.proofs.lemmas.Option.{slice_get_within}
use Rattle.bc_cache.proofs.Changed.{set_same}
use Rattle.bc_cache.specs.Fetch.{IsSetHeld}
use Rattle.bc_cache.specs.Slots.{NodeCache}
use Rattle.bc_cache.specs.declared.slots.Cached.{Cached}
use Rattle.bc_disk.specs.declared.geometry.Geometry.{Geometry}
use Rattle.bc_facts.specs.Layout.{IsLayoutOf}
use Rattle.bc_hand.specs.bc_machine.Containers.{AreLeavesOf, IsHeldIn, IsLeafFor, Rests}
use Rattle.bc_leaves.specs.Parts.{Free, Leaving, NoNode, Role}
use Rattle.bc_leaves.specs.Parts as parts
use Rattle.bc_node.specs.Leaf.{Leaf}
use Rattle.bc_shares.specs.Shares.{leaf_share}
use Rattle.bc_whole.specs.State.{Opening}

set_other : {X : Type 0} (xs : List X) (i j : ℕ) (x : X) → j ≢ i
    → slice_get (slice_set xs i x) j ≡ slice_get xs j
set_other [] i j x other = refl
set_other (y ∷ ys) zero zero x other = absurd (other refl)
set_other (y ∷ ys) zero (suc j) x other = refl
set_other (y ∷ ys) (suc i) zero x other = refl
set_other (y ∷ ys) (suc i) (suc j) x other = set_other ys i j x (λ e. other (ap suc e))

same_at : (a b : Cached) (o : Option (Option Cached)) → o ≡ Some (Some a) → o ≡ Some (Some b)
    → a ≡ b
same_at a b o p q = cc

not_resting : (role : Role) → Rests role → role ≡ Leaving → ⊥
not_resting role (inl none) leaving = cc
not_resting role (inr free) leaving = cc

-- the same leaf, of the same number
record SameLeaf (c d : Cached) : Type 0 where
  number : c.number ≡ d.number
  leaf : c.leaf ≡ d.leaf

module _ (slot : ℕ) (held : Bool) (a b : NodeCache) (is : IsSetHeld slot held a b) where
  abbrev now : Cached
  now = record is.cached { held = held }

  at_slot : slice_get b.slots slot ≡ Some (Some now)
  at_slot = ap (λ (x : NodeCache). slice_get x.slots slot) is.after
      ∙ set_same a.slots slot (Some now) (slice_get_within a.slots slot (Some is.cached) is.there)

  at_other : (i : ℕ) → i ≢ slot → slice_get b.slots i ≡ slice_get a.slots i
  at_other i other = ap (λ (x : NodeCache). slice_get x.slots i) is.after
      ∙ set_other a.slots slot i (Some now) other

  was : (i : ℕ) (c : Cached) → slice_get b.slots i ≡ Some (Some c)
      → (d : Cached) × (slice_get a.slots i ≡ Some (Some d)) × SameLeaf c d
  was i c there = elim (cases_eq i slot) [
    | inl same ↦ (
        let one = same_at c now (slice_get b.slots slot)
        (subst (λ j. slice_get b.slots j ≡ Some (Some c)) same there) at_slot in (
          is.cached,
          ap (λ j. slice_get a.slots j) same ∙ is.there,
          record {
            number = ap (λ (x : Cached). x.number) one;
            leaf = ap (λ (x : Cached). x.leaf) one;
          },
        ))
    | inr other ↦ (c, sym (at_other i other) ∙ there, record { number = refl; leaf = refl })
  ]

  stays : (i : ℕ) (c : Cached) → slice_get a.slots i ≡ Some (Some c)
      → (d : Cached) × (slice_get b.slots i ≡ Some (Some d)) × SameLeaf d c
      × (held ≡ true → c.held ≡ true → d.held ≡ true)
  stays i c there = elim (cases_eq i slot) [
    | inl same ↦ (
        let one = same_at is.cached c (slice_get a.slots slot) is.there
        (subst (λ j. slice_get a.slots j ≡ Some (Some c)) same there) in (
          now,
          ap (λ j. slice_get b.slots j) same ∙ at_slot,
          record {
            number = ap (λ (x : Cached). x.number) one;
            leaf = ap (λ (x : Cached). x.leaf) one;
          },
          λ on its. on,
        ))
    | inr other ↦ (
      c,
      at_other i other ∙ there,
      record { number = refl; leaf = refl },
      λ on its. its,
    )
  ]

  module _ (w : Opening) (st : parts.State) (count part : ℕ)
      (old : AreLeavesOf w st count part a) where
    leaves_by : ((k : ℕ) → k % count ≡ part → (st.leaves k).role ≡ Leaving → IsHeldIn b.slots k)
        → AreLeavesOf w st count part b
    leaves_by leaving = record {
      layout = subst (λ (g : Geometry). IsLayoutOf g w.layout)
          (sym (ap (λ (x : NodeCache). x.geometry) is.after)) old.layout;
      rest = λ i c there. let d = was i c there in
          ap (λ n. n % count) d.2.number ∙ old.rest i d.0 d.1;
      leaves = λ i c there. let d = was i c there in
          subst (λ n. IsLeafFor w (leaf_share st n) c.leaf) (sym d.2.number)
          (subst (λ (l : Leaf). IsLeafFor w (leaf_share st d.0.number) l) (sym d.2.leaf)
          (old.leaves i d.0 d.1));
      others = λ k its tree misses. old.others k its tree (λ i has.
          let d = stays i has.cached has.there in misses i
          (record { cached = d.0; there = d.1; number_is = d.2.number ∙ has.number_is }));
      leaving = leaving;
    }

    -- a hold leaves all holds
    pub leaves_held : held ≡ true → AreLeavesOf w st count part b
    leaves_held on = leaves_by (λ k its leaving. let h = old.leaving k its leaving in
        let d = stays h.0 h.1 h.2 in (h.0, d.0, d.1, d.2.number ∙ h.3, d.3 on h.4))

    -- and where no change is under way, none is needed
    pub leaves_free : ((k : ℕ) → Rests (st.leaves k).role) → AreLeavesOf w st count part b
    leaves_free rest = leaves_by (λ k its leaving.
        absurd (not_resting (st.leaves k).role (rest k) leaving))
