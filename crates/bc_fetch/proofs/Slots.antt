-- A part with leaves goes on to stand for its share when a slot is used, emptied, or filled.
use Rattle.std.proofs.Common.{◌≡◌, ◌≢◌, ◌⊎◌, inl, inr, ℕ, zero, suc, ◌%◌, List, [], ◌∷◌, true, false, Option, Some, None, refl, sym, ap, subst, ◌∙◌, arith}
use Rattle.std.specs.Prelude.{slice_get, slice_set, is_some, MatchOption}
use Rattle.std.proofs.lemmas.Option.{slice_get_within}
use Rattle.std.proofs.lemmas.Bool.{cases_eq}
use Rattle.std.proofs.lemmas.List.{length-set}
use Rattle.bc_cache.proofs.Changed.{set_same}
use Rattle.bc_cache.specs.Fetch.{IsUsed}
use Rattle.bc_cache.specs.Slots.{CanGo, HasLeaf, IsOldest, Misses, NodeCache, NoneCanGo, coming, used_with, with_slot}
use Rattle.bc_cache.specs.declared.slots.Cached.{Cached}
use Rattle.bc_disk.specs.Device.{next_count}
use Rattle.bc_leaves.specs.Parts.{Pending}
use Rattle.bc_leaves.specs.Parts as parts
use Rattle.bc_sight.specs.bc_machine.Containers.{AreEntriesOf, AreLeavesOf, IsHeldIn, IsInTree, IsLeafFor}
use Rattle.bc_node.specs.Leaf.{Leaf}
use Rattle.bc_node.specs.declared.pending.Entries.{Entries}
use Rattle.bc_shares.specs.Shares.{leaf_share}
use Rattle.bc_whole.specs.State.{Opening}
use Rattle.bc_fetch.specs.Fetch.{HasTaken, IsPutInto}

-- ---- a list with an item set

set_other : {X : Type 0} (xs : List X) (i j : ℕ) (x : X) → j ≢ i
    → slice_get (slice_set xs i x) j ≡ slice_get xs j
set_other [] i j x other = refl
set_other (y ∷ ys) zero zero x other = absurd (other refl)
set_other (y ∷ ys) zero (suc j) x other = refl
set_other (y ∷ ys) (suc i) zero x other = refl
set_other (y ∷ ys) (suc i) (suc j) x other = set_other ys i j x (λ e. other (ap suc e))

some_is : {X : Type 0} (a b : X) (o : Option X) → o ≡ Some a → o ≡ Some b → a ≡ b
some_is a b o p q = cc

-- the item there, by which place it has
pub at_set : {X : Type 0} (xs : List X) (i : ℕ) (x : X) (j : ℕ) (y : X)
    → slice_get (slice_set xs i x) j ≡ Some y
    → ((j ≡ i) × (x ≡ y)) ⊎ ((j ≢ i) × (slice_get xs j ≡ Some y))
at_set xs i x j y at = go (cases_eq j i)
  where
    go : (j ≡ i) ⊎ (j ≢ i) → ((j ≡ i) × (x ≡ y)) ⊎ ((j ≢ i) × (slice_get xs j ≡ Some y))
    go (inl e) = inl (
      e,
      (let lt = slice_get_within (slice_set xs i x) j y at in
          let same = length-set xs i x in
          some_is x y (slice_get (slice_set xs i x) i) (set_same xs i x (omega arith))
          (subst (λ n. slice_get (slice_set xs i x) n ≡ Some y) e at)),
    )
    go (inr ne) = inr (ne, sym (set_other xs i j x ne) ∙ at)

-- an item elsewhere stays
pub other_stays : {X : Type 0} (xs : List X) (i : ℕ) (x : X) (j : ℕ) (y : X) → j ≢ i
    → slice_get xs j ≡ Some y → slice_get (slice_set xs i x) j ≡ Some y
other_stays xs i x j y ne at = set_other xs i j x ne ∙ at

-- ---- a slot

module _ (w : Opening) (st : parts.State) (count part : ℕ) (cache : NodeCache)
    (h : AreLeavesOf w st count part cache) where
  -- the number in a slot is that of another leaf, or of this one
  number_there : (slot k : ℕ) → ((j : ℕ) → HasLeaf cache.slots j k → j ≡ slot) → Misses cache.slots k
      → HasLeaf cache.slots slot k → ⊥
  number_there slot k only misses has = misses slot has

  -- it is used once more
  used_stands : (slot : ℕ) (cached : Cached) (n : ℕ)
      → slice_get cache.slots slot ≡ Some (Some cached)
      → AreLeavesOf w st count part (used_with cache slot (Some (record cached { used = n })))
  used_stands slot cached n there = record {
    layout = h.layout;
    rest = λ i c at. elim (at_set cache.slots slot (Some (record cached { used = n })) i (Some c) at) [
      | inl e ↦ subst (λ (x : Cached). x.number % count ≡ part) (some_is _ c _ refl e.1)
          (h.rest slot cached there)
      | inr other ↦ h.rest i c other.1
    ];
    leaves = λ i c at. elim (at_set cache.slots slot (Some (record cached { used = n })) i (Some c) at) [
      | inl e ↦ subst (λ (x : Cached). IsLeafFor w (leaf_share st x.number) x.leaf)
          (some_is _ c _ refl e.1) (h.leaves slot cached there)
      | inr other ↦ h.leaves i c other.1
    ];
    others = λ k its live misses. h.others k its live (λ j has. go k misses j has (cases_eq j slot));
    leaving = λ k its leaves. let one = h.leaving k its leaves in
        stays_held k one.0 one.1 one.2 one.3 one.4 (cases_eq one.0 slot);
  }
    where
      stays_held : (k i : ℕ) (c : Cached) → slice_get cache.slots i ≡ Some (Some c) → c.number ≡ k
          → c.held ≡ true → (i ≡ slot) ⊎ (i ≢ slot)
          → IsHeldIn (slice_set cache.slots slot (Some (record cached { used = n }))) k
      stays_held k i c at is held (inl e) =
          let here = subst (λ m. slice_get cache.slots m ≡ Some (Some c)) e at in
          let same : cached ≡ c = cc in (
            slot,
            record cached { used = n },
            set_same cache.slots slot (Some (record cached { used = n }))
                (slice_get_within cache.slots slot (Some cached) there),
            ap (λ (x : Cached). x.number) same ∙ is,
            ap (λ (x : Cached). x.held) same ∙ held,
          )
      stays_held k i c at is held (inr ne) =
          (i, c, other_stays cache.slots slot (Some (record cached { used = n })) i (Some c) ne at, is, held)

      go : (k : ℕ) → Misses (slice_set cache.slots slot (Some (record cached { used = n }))) k
          → (j : ℕ) → HasLeaf cache.slots j k → (j ≡ slot) ⊎ (j ≢ slot) → ⊥
      go k misses j has (inl e) = misses slot (record {
        cached = record cached { used = n };
        there = set_same cache.slots slot (Some (record cached { used = n }))
            (slice_get_within cache.slots slot (Some cached) there);
        number_is = ap (λ (x : Cached). x.number) (some_is cached has.cached
            (some_leaf (slice_get cache.slots slot)) (ap some_leaf there)
            (ap some_leaf (subst (λ m. slice_get cache.slots m ≡ Some (Some has.cached)) e has.there)))
            ∙ has.number_is;
      })
        where
          some_leaf : Option (Option Cached) → Option Cached
          some_leaf None = None
          some_leaf (Some o) = o
      go k misses j has (inr ne) = misses j (record {
        cached = has.cached;
        there = other_stays cache.slots slot (Some (record cached { used = n })) j (Some has.cached)
            ne has.there;
        number_is = has.number_is;
      })

  -- its leaf goes
  emptied_stands : (slot : ℕ) (kept : Option Cached) → slice_get cache.slots slot ≡ Some kept
      → CanGo kept → AreLeavesOf w st count part (with_slot cache slot None)
  emptied_stands slot kept there can = record {
    layout = h.layout;
    rest = λ i c at. elim (at_set cache.slots slot None i (Some c) at) [
      | inl e ↦ absurd (let none = e.1 in cc)
      | inr other ↦ h.rest i c other.1
    ];
    leaves = λ i c at. elim (at_set cache.slots slot None i (Some c) at) [
      | inl e ↦ absurd (let none = e.1 in cc)
      | inr other ↦ h.leaves i c other.1
    ];
    others = λ k its live misses. by_kept k its live misses kept there can;
    leaving = λ k its leaves. let one = h.leaving k its leaves in (
      one.0,
      one.1,
      other_stays cache.slots slot None one.0 (Some one.1)
          (λ e. not_it one.1 one.4 kept can
          (sym there ∙ subst (λ m. slice_get cache.slots m ≡ Some (Some one.1)) e one.2)) one.2,
      one.3,
      one.4,
    );
  }
    where
      -- what is held doesn't go
      not_it : (c : Cached) → c.held ≡ true → (kept : Option Cached) → CanGo kept
          → Some kept ≡ Some (Some c) → ⊥
      not_it c held None can is = absurd (cc)
      not_it c held (Some d) can is = let free = can.0 in absurd (cc)

      -- no slot had the leaf, where the one that goes is another
      missed : (k : ℕ) → Misses (slice_set cache.slots slot None) k
          → ((c : Cached) → slice_get cache.slots slot ≡ Some (Some c) → c.number ≡ k → ⊥)
          → Misses cache.slots k
      missed k misses other j has = go (cases_eq j slot)
        where
          go : (j ≡ slot) ⊎ (j ≢ slot) → ⊥
          go (inl e) = other has.cached
              (subst (λ m. slice_get cache.slots m ≡ Some (Some has.cached)) e has.there) has.number_is
          go (inr ne) = misses j (record {
            cached = has.cached;
            there = other_stays cache.slots slot None j (Some has.cached) ne has.there;
            number_is = has.number_is;
          })

      nothing : (o : Option Entries) (xs : List Pending) → o ≡ None → AreEntriesOf o xs → xs ≡ []
      nothing None xs is are = are
      nothing (Some e) xs is are = absurd (cc)

      by_kept : (k : ℕ) → k % count ≡ part → IsInTree (st.leaves k).role
          → Misses (slice_set cache.slots slot None) k → (kept : Option Cached)
          → slice_get cache.slots slot ≡ Some kept → CanGo kept → (st.leaves k).pending ≡ []
      by_kept k its live misses None there can = h.others k its live
          (missed k misses (λ c at same. absurd (let one = some_is None (Some c) (slice_get cache.slots slot) there at in cc)))
      by_kept k its live misses (Some cached) there can = go (cases_eq cached.number k)
        where
          go : (cached.number ≡ k) ⊎ (cached.number ≢ k) → (st.leaves k).pending ≡ []
          go (inl e) = subst (λ n. (st.leaves n).pending ≡ []) e
              (nothing cached.leaf.entries (st.leaves cached.number).pending can.2
              (h.leaves slot cached there).entries)
          go (inr ne) = h.others k its live (missed k misses (λ c at same. ne
              (ap number_of (some_is (Some cached) (Some c) (slice_get cache.slots slot) there at) ∙ same)))
            where
              number_of : Option Cached → ℕ
              number_of None = 0
              number_of (Some c) = c.number

  -- a leaf comes into an empty one
  filled_stands : (slot number : ℕ) (leaf : Leaf) (n : ℕ)
      → slice_get cache.slots slot ≡ Some None → number % count ≡ part
      → IsLeafFor w (leaf_share st number) leaf
      → AreLeavesOf w st count part (used_with cache slot (Some (coming number leaf n)))
  filled_stands slot number leaf n empty its is = record {
    layout = h.layout;
    rest = λ i c at. elim (at_set cache.slots slot (Some (coming number leaf n)) i (Some c) at) [
      | inl e ↦ subst (λ (x : Cached). x.number % count ≡ part) (some_is _ c _ refl e.1) its
      | inr other ↦ h.rest i c other.1
    ];
    leaves = λ i c at. elim (at_set cache.slots slot (Some (coming number leaf n)) i (Some c) at) [
      | inl e ↦ subst (λ (x : Cached). IsLeafFor w (leaf_share st x.number) x.leaf)
          (some_is _ c _ refl e.1) is
      | inr other ↦ h.leaves i c other.1
    ];
    others = λ k same live misses. h.others k same live (λ j has. misses j (record {
      cached = has.cached;
      there = other_stays cache.slots slot (Some (coming number leaf n)) j (Some has.cached)
          (λ e. absurd (let one = some_is None (Some has.cached) (slice_get cache.slots slot) empty
          (subst (λ m. slice_get cache.slots m ≡ Some (Some has.cached)) e has.there) in cc)) has.there;
      number_is = has.number_is;
    }));
    leaving = λ k same leaves. let one = h.leaving k same leaves in (
      one.0,
      one.1,
      other_stays cache.slots slot (Some (coming number leaf n)) one.0 (Some one.1)
          (λ e. absurd (let other = some_is None (Some one.1) (slice_get cache.slots slot) empty
          (subst (λ m. slice_get cache.slots m ≡ Some (Some one.1)) e one.2) in cc)) one.2,
      one.3,
      one.4,
    );
  }

-- ---- the steps on slots

pub use_stands : (w : Opening) (st : parts.State) (count part slot : ℕ) (old new : NodeCache)
    → AreLeavesOf w st count part old → IsUsed slot old new → AreLeavesOf w st count part new
use_stands w st count part slot old new h is =
    subst (AreLeavesOf w st count part) (sym is.after)
    (used_stands w st count part old h slot is.cached (next_count old.uses) is.there)

pub put_stands : (w : Opening) (st : parts.State) (count part slot number : ℕ) (leaf : Leaf)
    (old new : NodeCache) → AreLeavesOf w st count part old → IsPutInto slot number leaf old new
    → number % count ≡ part → IsLeafFor w (leaf_share st number) leaf
    → AreLeavesOf w st count part new
put_stands w st count part slot number leaf old new h is its leaf_is =
    subst (AreLeavesOf w st count part) (sym is.after)
    (filled_stands w st count part (with_slot old slot None)
    (emptied_stands w st count part old h slot is.oldest.kept is.oldest.there is.oldest.can_go)
    slot number leaf (next_count old.uses)
    (set_same old.slots slot None (slice_get_within old.slots slot is.oldest.kept is.oldest.there))
    its leaf_is)

-- ---- a leaf comes into a slot

pub misses_emptied : (cache : NodeCache) (slot number : ℕ) → Misses cache.slots number
    → Misses (with_slot cache slot None).slots number
misses_emptied cache slot number misses j has =
    elim (at_set cache.slots slot None j (Some has.cached) has.there) [
      | inl e ↦ (let none = e.1 in cc)
      | inr other ↦ misses j (record {
        cached = has.cached;
        there = other.1;
        number_is = has.number_is;
      })
    ]

pub put_into : (slot number : ℕ) (leaf : Leaf) (old mid new : NodeCache) → IsOldest old.slots slot
    → mid ≡ with_slot old slot None → slice_get mid.slots slot ≡ Some None
    → new ≡ used_with mid slot (Some (coming number leaf (next_count mid.uses)))
    → IsPutInto slot number leaf old new
put_into slot number leaf old mid new oldest emptied free put = record {
  oldest = oldest;
  after = put ∙ ap (λ (c : NodeCache).
      used_with c slot (Some (coming number leaf (next_count c.uses)))) emptied;
  has = subst (λ (c : NodeCache). HasLeaf c.slots slot number) (sym put) (record {
    cached = coming number leaf (next_count mid.uses);
    there = set_same mid.slots slot (Some (coming number leaf (next_count mid.uses)))
        (slice_get_within mid.slots slot None free);
    number_is = refl;
  });
}

-- a slot that is used has its leaf still
pub used_has : (slot number : ℕ) (old new : NodeCache) → HasLeaf old.slots slot number
    → IsUsed slot old new → HasLeaf new.slots slot number
used_has slot number old new has is = subst (λ (c : NodeCache). HasLeaf c.slots slot number)
    (sym is.after) (record {
      cached = record is.cached { used = next_count old.uses };
      there = set_same old.slots slot (Some (record is.cached { used = next_count old.uses }))
          (slice_get_within old.slots slot (Some is.cached) is.there);
      number_is = ap (λ (c : Cached). c.number) (one_cached has.cached is.cached
          (slice_get old.slots slot) has.there is.there) ∙ has.number_is;
    })
  where
    one_cached : (a b : Cached) (o : Option (Option Cached)) → o ≡ Some (Some a) → o ≡ Some (Some b)
        → b ≡ a
    one_cached a b o p q = cc

-- ---- which slot is taken

pub used_taken : (slot number : ℕ) (old new : NodeCache) → HasLeaf old.slots slot number
    → IsUsed slot old new → HasTaken slot number old new
used_taken slot number old new has is = record {
  others = λ i other. ap (λ (c : NodeCache). slice_get c.slots i) is.after
      ∙ set_other old.slots slot i (Some (record is.cached { used = next_count old.uses })) other;
  how = inl (has, is);
}

pub put_taken : (slot number : ℕ) (leaf : Leaf) (old new : NodeCache) → Misses old.slots number
    → IsPutInto slot number leaf old new → HasTaken slot number old new
put_taken slot number leaf old new misses put = record {
  others = λ i other. ap (λ (c : NodeCache). slice_get c.slots i) put.after
      ∙ set_other (slice_set old.slots slot None) slot i
      (Some (coming number leaf (next_count old.uses))) other
      ∙ set_other old.slots slot i None other;
  how = inr (misses, (leaf, put));
}

-- ---- whether a leaf can go

pub none_go : (o : Option ℕ) (slots : List (Option Cached))
    → MatchOption o (NoneCanGo slots) (IsOldest slots) → is_some o ≡ false → NoneCanGo slots
none_go None slots is none = is
none_go (Some slot) slots is none = absurd (cc)

pub one_goes : (o : Option ℕ) (slots : List (Option Cached))
    → MatchOption o (NoneCanGo slots) (IsOldest slots) → is_some o ≡ true → NoneCanGo slots → ⊥
one_goes None slots is some none = absurd (cc)
one_goes (Some slot) slots is some none = none slot is.kept is.there is.can_go
