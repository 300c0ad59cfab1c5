-- A part of leaves in memory, once keys came into one of its leaves.
use Rattle.std.proofs.Common.{◌≡◌, ◌≢◌, ◌⊎◌, inl, inr, ℕ, zero, suc, ◌%◌, List, [], ◌∷◌, Option, Some, refl, sym, ap, ◌∙◌, subst, arith}
use Rattle.std.specs.Prelude.{reverse, slice_get, slice_set}
use Rattle.std.proofs.lemmas.Bool.{cases_eq}
use Rattle.std.proofs.lemmas.List.{length-set}
use Rattle.std.proofs.lemmas.Option.{slice_get_within}
use Rattle.bc_cache.specs.Slots.{Misses, NodeCache}
use Rattle.bc_cache.specs.declared.slots.Cached.{Cached}
use Rattle.bc_cache.proofs.Changed.{set_same}
use Rattle.bc_key.specs.declared.key.Key.{Key}
use Rattle.bc_leaves.specs.Parts.{Free, Leaf, Leaving, Role, next_number}
use Rattle.bc_leaves.specs.Parts as parts
use Rattle.bc_begun.specs.bc_machine.Containers.{AreLeavesOf, IsHeldIn, IsInTree, IsLeafFor}
use Rattle.bc_meta.specs.Records.{Node}
use Rattle.bc_node.specs.Leaf as node
use Rattle.bc_shares.specs.Shares.{LeafShare, leaf_share, node_share}
use Rattle.bc_whole.specs.State.{Opening}
use Rattle.bc_keyed.specs.Came.{HaveCome, with_keys}
use Rattle.bc_keyed.specs.Parts.{CameInto, LawLeaves}
use Rattle.bc_keyed.proofs.Leaf.{law_leaf}

-- ---- slots

set_other : {X : Type 0} (xs : List X) (i j : ℕ) (x : X) → j ≢ i
    → slice_get (slice_set xs i x) j ≡ slice_get xs j
set_other [] i j x other = refl
set_other (y ∷ ys) zero zero x other = absurd (other refl)
set_other (y ∷ ys) zero (suc j) x other = refl
set_other (y ∷ ys) (suc i) zero x other = refl
set_other (y ∷ ys) (suc i) (suc j) x other = set_other ys i j x (λ e. other (ap suc e))

some_is : {X : Type 0} (a b : X) (o : Option X) → o ≡ Some a → o ≡ Some b → a ≡ b
some_is a b o p q = cc

both_some : (a b : Cached) (o : Option (Option Cached)) → o ≡ Some (Some a) → o ≡ Some (Some b)
    → a ≡ b
both_some a b o p q = cc

at_set : {X : Type 0} (xs : List X) (i : ℕ) (x : X) (j : ℕ) (y : X)
    → slice_get (slice_set xs i x) j ≡ Some y
    → ((j ≡ i) × (x ≡ y)) ⊎ ((j ≢ i) × (slice_get xs j ≡ Some y))
at_set xs i x j y at = go (cases_eq j i)
  where
    go : (j ≡ i) ⊎ (j ≢ i) → ((j ≡ i) × (x ≡ y)) ⊎ ((j ≢ i) × (slice_get xs j ≡ Some y))
    go (inl e) = inl (
      e,
      (let lt = slice_get_within (slice_set xs i x) j y at in
          let same = length-set xs i x in
          some_is x y (slice_get (slice_set xs i x) i) (set_same xs i x (omega arith))
          (subst (λ n. slice_get (slice_set xs i x) n ≡ Some y) e at)),
    )
    go (inr ne) = inr (ne, sym (set_other xs i j x ne) ∙ at)

-- ---- shares

abbrev shared : Leaf → Node → LeafShare
shared leaf n = record { leaf = leaf; node = node_share n }

module _ (w : Opening) (a b : parts.State) (count part : ℕ) (cache : NodeCache) (slot : ℕ)
    (cached : Cached) (keys : List Key) (new : node.Leaf)
    (come : HaveCome cached.number (reverse keys) a b) (h : AreLeavesOf w a count part cache)
    (at : CameInto a cache slot cached keys new) where
  abbrev kept : Cached
  kept = record cached { leaf = new }

  share_there : leaf_share b cached.number ≡ record (leaf_share a cached.number) {
    leaf = with_keys (next_number a.records) (reverse keys) (a.leaves cached.number);
  }
  share_there = ap (λ (l : Leaf). shared l (b.records.nodes l.bucket)) come.there
      ∙ ap (λ (f : ℕ → Node). shared (with_keys (next_number a.records) (reverse keys)
      (a.leaves cached.number)) (f (a.leaves cached.number).bucket)) come.nodes

  share_other : (k : ℕ) → k ≢ cached.number → leaf_share b k ≡ leaf_share a k
  share_other k ne = ap (λ (l : Leaf). shared l (b.records.nodes l.bucket)) (come.others k ne)
      ∙ ap (λ (f : ℕ → Node). shared (a.leaves k) (f (a.leaves k).bucket)) come.nodes

  -- another slot has another leaf
  other_leaf : (i : ℕ) (c : Cached) → i ≢ slot → slice_get cache.slots i ≡ Some (Some c)
      → c.number ≢ cached.number
  other_leaf i c ne there same = ne (at.only i c there same)

  stands_here : IsLeafFor w (leaf_share b cached.number) new
  stands_here = subst (λ (x : LeafShare). IsLeafFor w x new) (sym share_there)
      (law_leaf w (leaf_share a cached.number) (next_number a.records) keys cached.leaf new
      (h.leaves slot cached at.there) at.up at.added)

  leaves : (i : ℕ) (c : Cached)
      → slice_get (slice_set cache.slots slot (Some kept)) i ≡ Some (Some c)
      → IsLeafFor w (leaf_share b c.number) c.leaf
  leaves i c there = elim (at_set cache.slots slot (Some kept) i (Some c) there) [
    | inl here ↦ subst (λ (x : Cached). IsLeafFor w (leaf_share b x.number) x.leaf)
        (one kept c here.1) stands_here
    | inr other ↦ subst (λ (x : LeafShare). IsLeafFor w x c.leaf)
        (sym (share_other c.number (other_leaf i c other.0 other.1))) (h.leaves i c other.1)
  ]
    where
      one : (x y : Cached) → Some x ≡ Some y → x ≡ y
      one x y e = cc

  rest : (i : ℕ) (c : Cached)
      → slice_get (slice_set cache.slots slot (Some kept)) i ≡ Some (Some c)
      → c.number % count ≡ part
  rest i c there = elim (at_set cache.slots slot (Some kept) i (Some c) there) [
    | inl here ↦ subst (λ (x : Cached). x.number % count ≡ part) (one kept c here.1)
        (h.rest slot cached at.there)
    | inr other ↦ h.rest i c other.1
  ]
    where
      one : (x y : Cached) → Some x ≡ Some y → x ≡ y
      one x y e = cc

  -- a leaf that no slot has isn't that one
  missed : (k : ℕ) → Misses (slice_set cache.slots slot (Some kept)) k → k ≢ cached.number
  missed k misses same = misses slot (record {
    cached = kept;
    there = set_same cache.slots slot (Some kept)
        (slice_get_within cache.slots slot (Some cached) at.there);
    number_is = sym same;
  })

  missed_before : (k : ℕ) → Misses (slice_set cache.slots slot (Some kept)) k
      → Misses cache.slots k
  missed_before k misses j has = go (cases_eq j slot)
    where
      go : (j ≡ slot) ⊎ (j ≢ slot) → ⊥
      go (inl e) = missed k misses (sym has.number_is ∙ ap (λ (c : Cached). c.number)
          (both_some has.cached cached (slice_get cache.slots slot)
          (subst (λ m. slice_get cache.slots m ≡ Some (Some has.cached)) e has.there) at.there))
      go (inr ne) = misses j (record {
        cached = has.cached;
        there = set_other cache.slots slot j (Some kept) ne ∙ has.there;
        number_is = has.number_is;
      })

  others : (k : ℕ) → k % count ≡ part → IsInTree (b.leaves k).role
      → Misses (slice_set cache.slots slot (Some kept)) k → (b.leaves k).pending ≡ []
  others k its live misses =
      let same = come.others k (missed k misses) in
      ap (λ (l : Leaf). l.pending) same
      ∙ h.others k its (subst (λ (l : Leaf). IsInTree l.role) same live)
      (missed_before k misses)

  -- a leaf that a change replaces isn't that one either
  not_leaving : (k : ℕ) → (b.leaves k).role ≡ Leaving → k ≢ cached.number
  not_leaving k leaving same =
      let role : (b.leaves cached.number).role ≡ Free =
      ap (λ (l : Leaf). l.role) come.there ∙ at.free in
      let both : Free ≡ Leaving = sym role
      ∙ subst (λ n. (b.leaves n).role ≡ Leaving) same leaving in
      absurd (cc)

  leaving : (k : ℕ) → k % count ≡ part → (b.leaves k).role ≡ Leaving
      → IsHeldIn (slice_set cache.slots slot (Some kept)) k
  leaving k its role =
      let ne = not_leaving k role in
      let one = h.leaving k its (sym (ap (λ (l : Leaf). l.role) (come.others k ne)) ∙ role) in
      let apart : one.0 ≢ slot = (λ e. ne (sym one.3 ∙ ap (λ (c : Cached). c.number)
      (both_some one.1 cached (slice_get cache.slots slot)
      (subst (λ m. slice_get cache.slots m ≡ Some (Some one.1)) e one.2) at.there))) in (
        one.0,
        one.1,
        set_other cache.slots slot one.0 (Some kept) apart ∙ one.2,
        one.3,
        one.4,
      )

  pub part_stands : AreLeavesOf w b count part
      (record cache { slots = slice_set cache.slots slot (Some kept) })
  part_stands = record {
    layout = h.layout;
    rest = rest;
    leaves = leaves;
    others = others;
    leaving = leaving;
  }

pub law_leaves : LawLeaves
law_leaves w a b count part cache slot cached keys new come h at =
    part_stands w a b count part cache slot cached keys new come h at
