-- A part in memory tells what its leaves wait for.
use Rattle.std.proofs.Common.{◌≡◌, ◌≢◌, ◌⊎◌, inl, inr, ℕ, zero, suc, ◌%◌, ◌<◌, ◌≤◌, List, [], ◌∷◌, Option, Some, None, refl, sym, ap, ◌∙◌, subst, arith}
use Rattle.std.specs.Prelude.{IfSome, slice_get}
use Rattle.std.proofs.lemmas.Bool.{cases_eq}
use Rattle.bc_cache.specs.Slots.{HasLeaf, Misses, NodeCache}
use Rattle.bc_cache.specs.declared.slots.Cached.{Cached}
use Rattle.bc_leaves.specs.Parts.{AllFrom, Coming, Draft, Free, Leaving, NoNode, Pending, Role}
use Rattle.bc_leaves.specs.Parts as parts
use Rattle.bc_append.specs.bc_machine.Containers.{AreEntriesOf, AreLeavesOf, IsInTree}
use Rattle.bc_append.specs.bc_machine.World.{AreLeaves, IsCourseOf, IsOrigin, Origin, World, replay}
use Rattle.bc_node.specs.declared.pending.Entries.{Entries}
use Rattle.bc_append.proofs.of_bc_nodes_known.Law.{law_bare}
use Rattle.bc_append.specs.bc_nodes_known.Nodes.{AreBare}
use Rattle.bc_turn.specs.Laws.{LawAll, LawTold, WaitsFrom}

-- ---- a slot has the leaf, or none has

abbrev Slots : Type 0
Slots = List (Option Cached)

some_is : (a b : Cached) → Some (Some a) ≡ Some (Some b) → a ≡ b
some_is a b e = cc

abbrev Found : Slots → ℕ → Type 0
Found slots k = (i : ℕ) × HasLeaf slots i k

one_more : (slots : Slots) (o : Option Cached) (k : ℕ) → Found slots k → Found (o ∷ slots) k
one_more slots o k (i, has) =
    (suc i, record { cached = has.cached; there = has.there; number_is = has.number_is })

behind : (slots : Slots) (o : Option Cached) (k : ℕ)
    → ((c : Cached) → o ≡ Some c → c.number ≡ k → ⊥) → Misses slots k → Misses (o ∷ slots) k
behind slots o k other misses zero has = other has.cached (unsome o has.cached has.there)
    has.number_is
  where
    unsome : (a : Option Cached) (c : Cached) → Some a ≡ Some (Some c) → a ≡ Some c
    unsome a c e = cc
behind slots o k other misses (suc i) has =
    misses i (record { cached = has.cached; there = has.there; number_is = has.number_is })

search_slots : (slots : Slots) (k : ℕ) → Found slots k ⊎ Misses slots k
search_slots [] k = inr (λ i has. absurd (nothing i has.cached has.there))
  where
    none : Slots
    none = []

    nothing : (i : ℕ) (c : Cached) → slice_get none i ≡ Some (Some c) → ⊥
    nothing zero c e = cc
    nothing (suc i) c e = cc
search_slots (None ∷ slots) k = elim (search_slots slots k) [
  | inl found ↦ inl (one_more slots None k found)
  | inr misses ↦ inr (behind slots None k (λ c e. absurd (cc)) misses)
]
search_slots (Some c ∷ slots) k = elim (cases_eq c.number k) [
  | inl same ↦ inl (zero, record { cached = c; there = refl; number_is = same })
  | inr other ↦ elim (search_slots slots k) [
    | inl found ↦ inl (one_more slots (Some c) k found)
    | inr misses ↦ inr (behind slots (Some c) k
        (λ d e is. other (ap (λ (x : Cached). x.number) (some_is c d (ap Some e)) ∙ is)) misses)
  ]
]

-- ---- what a leaf waits for

-- of those that the entries hold, of which the first isn't below
from_entries : (low : ℕ) (o : Option Entries) (xs : List Pending) → IfSome o (λ e. low ≤ e.first)
    → AreEntriesOf o xs → AllFrom low xs
from_entries low None xs tt none = subst (AllFrom low) (sym none) (λ x i. absurd i)
from_entries low (Some e) xs least are = λ x i. (let up = are.1 x i in omega (arith, least, up))

module _ (x : World) (part low : ℕ) (cache : NodeCache) (leaves : AreLeaves part cache x)
    (waits : WaitsFrom x.begun.leaf_parts part low cache) (o : Origin) (is : IsOrigin x o)
    (course : IsCourseOf o x.log) where
  abbrev leaf : ℕ → parts.Leaf
  leaf k = (replay o x.log).machine.whole.parts.leaves k

  its : AreLeavesOf o.opening.machine (replay o x.log).machine.whole.parts x.begun.leaf_parts part
      cache
  its = leaves o is course

  in_tree : (k : ℕ) → k % x.begun.leaf_parts ≡ part → IsInTree (leaf k).role
      → AllFrom low (leaf k).pending
  in_tree k own tree = elim (search_slots cache.slots k) [
    | inl found ↦ (
        let has = found.1 in
        let at = its.leaves found.0 has.cached has.there in
        from_entries low has.cached.leaf.entries (leaf k).pending
        (waits found.0 has.cached has.there
        (subst (λ n. n % x.begun.leaf_parts ≡ part) (sym has.number_is) own))
        (subst (λ n. AreEntriesOf has.cached.leaf.entries (leaf n).pending) has.number_is
        at.entries))
    | inr misses ↦ subst (AllFrom low) (sym (its.others k own tree misses)) (λ y i. absurd i)
  ]

  bare : AreBare (replay o x.log).machine.whole.parts
  bare = law_bare x o is course

  by_role : (k : ℕ) → k % x.begun.leaf_parts ≡ part → (r : Role) → (leaf k).role ≡ r
      → (leaf k).role ≢ NoNode → AllFrom low (leaf k).pending
  by_role k own NoNode at some = absurd (some at)
  by_role k own Draft at some = subst (AllFrom low) (sym (bare.drafts k at)) (λ y i. absurd i)
  by_role k own Free at some = in_tree k own (subst IsInTree (sym at) tt)
  by_role k own Leaving at some = in_tree k own (subst IsInTree (sym at) tt)
  by_role k own Coming at some = subst (AllFrom low) (sym (bare.coming k at)) (λ y i. absurd i)

pub law_told : LawTold
law_told x part low cache leaves waits come o is course = record {
  needs = λ k own some. by_role x part low cache leaves waits o is course k own
      ((replay o x.log).machine.whole.parts.leaves k).role refl some;
  next = come o is course;
}

pub law_all : LawAll
law_all x count low some each o is course = record {
  needs = λ k there. (each (k % count) (rest_below k count some) o is course).needs k refl there;
  next = (each (0 % count) (rest_below 0 count some) o is course).next;
}
  where
    rest_below : (k n : ℕ) → 0 < n → k % n < n
    rest_below k n some = omega (arith, some)
