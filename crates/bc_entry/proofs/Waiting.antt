-- What no leaf waits for as a run begins.
use Rattle.std.proofs.Common.{◌≡◌, ◌≢◌, ◌⊎◌, inl, inr, ℕ, zero, suc, ◌+◌, ◌%◌, ◌<◌, ◌≤◌, List, [], ◌∷◌, length, Option, Some, None, refl, sym, ap, ◌∙◌, subst, arith}
use Rattle.std.specs.Prelude.{IfSome, slice_get}
use Rattle.std.proofs.lemmas.Bool.{cases_eq}
use Rattle.bc_cache.specs.Slots.{HasLeaf, Misses, NodeCache}
use Rattle.bc_cache.specs.declared.slots.Cached.{Cached}
use Rattle.bc_events.specs.Run.{Opening, start}
use Rattle.bc_events.specs.declared.event.Event.{Event}
use Rattle.bc_journal.specs.Journal.{Journal}
use Rattle.bc_journal.specs.declared.place.Numbers.{Numbers}
use Rattle.bc_leaves.specs.Parts.{AllFrom, Coming, Draft, Free, IsLive, Leaving, NoNode, Pending, Role}
use Rattle.bc_leaves.specs.Parts as parts
use Rattle.bc_sealing.specs.bc_machine.Containers.{AreEntriesOf, AreLeavesOf, IsInTree, IsJournalOf}
use Rattle.bc_sealing.specs.bc_machine.World.{AreLeafParts, IsOrigin, Origin, World, replay}
use Rattle.bc_node.specs.declared.pending.Entries.{Entries}
use Rattle.bc_shares.specs.Shares.{journal_share}
use Rattle.bc_needs.specs.Needs.{NeedsFrom, NeedsNone}
use Rattle.bc_entry.specs.Laws.{AllWaitFrom, LawNeeds}

-- ---- a slot has the leaf, or none has

abbrev Slots : Type 0
Slots = List (Option Cached)

behind_none : (slots : Slots) (k : ℕ) → Misses slots k → Misses (None ∷ slots) k
behind_none slots k misses zero has = let there = has.there in absurd (cc)
behind_none slots k misses (suc i) has =
    misses i (record { cached = has.cached; there = has.there; number_is = has.number_is })

behind_other : (slots : Slots) (c : Cached) (k : ℕ) → c.number ≢ k → Misses slots k
    → Misses (Some c ∷ slots) k
behind_other slots c k other misses zero has =
    other (ap (λ (d : Cached). d.number) (one c has.cached has.there) ∙ has.number_is)
  where
    one : (a b : Cached) → Some (Some a) ≡ Some (Some b) → a ≡ b
    one a b e = cc
behind_other slots c k other misses (suc i) has =
    misses i (record { cached = has.cached; there = has.there; number_is = has.number_is })

abbrev Found : Slots → ℕ → Type 0
Found slots k = (i : ℕ) × HasLeaf slots i k

one_more : (slots : Slots) (o : Option Cached) (k : ℕ) → Found slots k → Found (o ∷ slots) k
one_more slots o k (i, has) =
    (suc i, record { cached = has.cached; there = has.there; number_is = has.number_is })

search_slots : (slots : Slots) (k : ℕ) → Found slots k ⊎ Misses slots k
search_slots [] k = inr (λ i has. (let there = has.there in absurd (nothing i has.cached there)))
  where
    none : Slots
    none = []

    nothing : (i : ℕ) (c : Cached) → slice_get none i ≡ Some (Some c) → ⊥
    nothing zero c e = cc
    nothing (suc i) c e = cc
search_slots (None ∷ slots) k = elim (search_slots slots k) [
  | inl found ↦ inl (one_more slots None k found)
  | inr misses ↦ inr (behind_none slots k misses)
]
search_slots (Some c ∷ slots) k = elim (cases_eq c.number k) [
  | inl same ↦ inl (zero, record { cached = c; there = refl; number_is = same })
  | inr other ↦ elim (search_slots slots k) [
    | inl found ↦ inl (one_more slots (Some c) k found)
    | inr misses ↦ inr (behind_other slots c k other misses)
  ]
]

-- ---- what a leaf of the tree waits for

-- of those that the entries hold, of which the first isn't below
from_entries : (low : ℕ) (o : Option Entries) (xs : List Pending) → IfSome o (λ e. low ≤ e.first)
    → AreEntriesOf o xs → AllFrom low xs
from_entries low None xs tt none = subst (AllFrom low) (sym none) (λ x i. absurd i)
from_entries low (Some e) xs least are = λ x i. (let up = are.1 x i in omega (arith, least, up))

part_at : (w : Opening) (st : parts.State) (count i n : ℕ) (cs : List NodeCache)
    → AreLeafParts w st count i cs → n < length cs
    → (c : NodeCache) × (slice_get cs n ≡ Some c) × AreLeavesOf w.machine st count (i + n) c
part_at w st count i n [] are low = absurd (omega (arith, low))
part_at w st count i zero (c ∷ cs) are low = (
  c,
  refl,
  subst (λ k. AreLeavesOf w.machine st count k c) (omega arith) are.0,
)
part_at w st count i (suc n) (c ∷ cs) are low =
    let rest = part_at w st count (suc i) n cs are.1 (omega (arith, low)) in
    (rest.0, rest.1, subst (λ k. AreLeavesOf w.machine st count k rest.0) (omega arith) rest.2)

module _ (x : World) (o : Origin) (is : IsOrigin x o) (low : ℕ) (wait : AllWaitFrom low x.begun)
  where
    abbrev leaf : ℕ → parts.Leaf
    leaf k = o.parts.leaves k

    -- of the leaves in memory
    in_tree : (k : ℕ) → IsInTree (leaf k).role → AllFrom low (leaf k).pending
    in_tree k live =
        let some = wait.some in
        let each = wait.each in
        let count = x.begun.leaf_parts in
        let inside : k % count < length x.begun.leaves = rest_below k count (length x.begun.leaves)
        each some in
        let at = part_at o.opening o.parts count 0 (k % count) x.begun.leaves is.begun.leaves inside in
        elim (search_slots at.0.slots k) [
          | inl found ↦ (
              let has = found.1 in
              let of = at.2.leaves found.0 has.cached has.there in
              from_entries low has.cached.leaf.entries (leaf k).pending
              (wait.from (k % count) at.0 at.1 found.0 has.cached has.there)
              (subst (λ n. AreEntriesOf has.cached.leaf.entries (leaf n).pending) has.number_is
              of.entries))
          | inr misses ↦ subst (AllFrom low) (sym (at.2.others k (omega arith) live misses))
              (λ y i. absurd i)
        ]
      where
        rest_below : (k count n : ℕ) → count ≡ n → 0 < n → k % count < n
        rest_below k count n same some = omega (arith, same, some)

    free : (k : ℕ) → (leaf k).role ≡ Free → AllFrom low (leaf k).pending
    free k at = in_tree k (subst IsInTree (sym at) tt)

    -- a leaf that comes would be one of a change
    live : (k : ℕ) → IsLive (leaf k).role → AllFrom low (leaf k).pending
    live k on = free k (is.sound.whole.fits.quiet.calm is.calm k on)

    by_role : (k : ℕ) (r : Role) → (leaf k).role ≡ r → (leaf k).role ≢ NoNode
        → AllFrom low (leaf k).pending
    by_role k NoNode at some = absurd (some at)
    by_role k Draft at some = subst (AllFrom low)
        (sym (is.sound.whole.fits.leaves.drafts k at).none) (λ y i. absurd i)
    by_role k Free at some = free k at
    by_role k Leaving at some = live k (subst IsLive (sym at) tt)
    by_role k Coming at some = live k (subst IsLive (sym at) tt)

    pub needs : NeedsNone low (replay o [])
    needs k some = by_role k (leaf k).role refl some

pub law_needs : LawNeeds
law_needs x low j first wait has next o is course = subst (λ (log : List Event).
    NeedsFrom low (replay o log)) (sym first) (record {
      needs = needs x o is low wait;
      next =
          let stands = subst (λ (k : Option Journal). IfSome k (IsJournalOf o.opening.machine
          (journal_share (start o.opening o.parts o.next_seq).machine))) has is.begun.journal in
          let seq = ap (λ (n : Numbers). n.seq) stands.durable in
          omega (arith, next, seq);
    })
