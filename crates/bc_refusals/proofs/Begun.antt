-- The parts of a run that begins have room.
use Rattle.std.proofs.Common.{◌≡◌, ◌≢◌, inl, inr, ℕ, zero, suc, ◌%◌, ◌<◌, true, List, [], ◌∷◌, Option, Some, None, length, get_or, refl, sym, ap, ◌∙◌, arith}
use Rattle.std.specs.Prelude.{slice_get}
use Rattle.bc_cache.specs.Slots.{NodeCache}
use Rattle.bc_cache.specs.declared.slots.Cached.{Cached}
use Rattle.bc_session.specs.bc_chosen.Parts.{choices_of}
use Rattle.bc_session.specs.bc_chosen.Waiting.{all_waiting}
use Rattle.bc_disk.specs.Disk.{DiskFacts}
use Rattle.bc_disk.specs.declared.geometry.Geometry.{Geometry}
use Rattle.bc_image.specs.Tree.{Node}
use Rattle.bc_leaves.specs.Parts as parts
use Rattle.bc_meta.specs.Facts.{In}
use Rattle.bc_opening.specs.Read.{leaf_of}
use Rattle.bc_pending.specs.declared.numbered.Numbered.{Numbered}
use Rattle.bc_session.proofs.of_bc_slots.Filled.{filled_at}
use Rattle.bc_session.proofs.of_bc_slots.Leaves.{four_more, no_other}
use Rattle.bc_session.proofs.of_bc_slots.Passed.{found, once}
use Rattle.bc_session.proofs.of_bc_slots.Steps.{in_part}
use Rattle.bc_session.specs.bc_slots.Parts.{IsLeafPart, IsOpened}
use Rattle.bc_session.specs.bc_slots.Places.{has_keys, is_in, numbers_in}
use Rattle.bc_spine.specs.declared.leaf.LeafRange.{LeafRange}
use Rattle.bc_refusals.specs.Room.{LawBegun}

-- ---- keys that wait

some_keys : (keys : List Numbered) → all_waiting keys ≢ [] → has_keys keys ≡ true
some_keys [] some = absurd (some refl)
some_keys (key ∷ keys) some = refl

-- a leaf for which keys wait got some of the journal
got_some : (g : Geometry) (slot : Option Node) (keys : List Numbered)
    → (leaf_of g slot (all_waiting keys)).pending ≢ [] → has_keys keys ≡ true
got_some g None keys some = absurd (some refl)
got_some g (Some n) keys some = some_keys keys some

-- and is one of the leaves
below : (lists : List (List Numbered)) (k : ℕ) → has_keys (get_or lists k []) ≡ true
    → k < length lists
below [] k some = absurd (cc)
below (keys ∷ lists) zero some = omega arith
below (keys ∷ lists) (suc k) some = let less = below lists k some in omega (arith, less)

there_in : (xs : List ℕ) (i x : ℕ) → slice_get xs i ≡ Some x → In x xs
there_in [] i x there = absurd (cc)
there_in (y ∷ ys) zero x there = inl (let same : x ≡ y = cc in same)
there_in (y ∷ ys) (suc i) x there = inr (there_in ys i x there)

-- ---- a part

module _ (g : Geometry) (leaves : List LeafRange) (pending : List (List Numbered)) (count : ℕ)
    (d : DiskFacts) (part : ℕ) (cache : NodeCache)
    (is : IsLeafPart g leaves pending count d part cache) where
  abbrev numbers : List ℕ
  numbers = numbers_in pending count part

  -- in the slot is the leaf whose number stands at that place
  number_at : (i : ℕ) (c : Cached) → slice_get cache.slots i ≡ Some (Some c)
      → slice_get numbers i ≡ Some c.number
  number_at i c there =
      let h = filled_at (IsOpened g leaves pending d) numbers 4 i c cache.slots is.slots there in
      h.1 ∙ ap (λ (n : ℕ). Some n) (sym h.2.number_is)

  one_slot : (i j : ℕ) (a b : Cached) → slice_get cache.slots i ≡ Some (Some a)
      → slice_get cache.slots j ≡ Some (Some b) → a.number ≡ b.number → i ≡ j
  one_slot i j a b here there same = once (is_in pending count part) 0 (length pending) i j a.number
      (number_at i a here) (number_at j b there ∙ ap (λ (n : ℕ). Some n) (sym same))

  in_numbers : (k : ℕ) → has_keys (get_or pending k []) ≡ true → k % count ≡ part → In k numbers
  in_numbers k keys its =
      let low = below pending k keys in
      let h = found (is_in pending count part) 0 (length pending) k (omega arith)
      (omega (arith, low))
      (in_part pending count part k keys its) in
      there_in numbers h.0 k h.1

pub law_begun : (d : DiskFacts) → LawBegun d
law_begun d p v layout x w st count part g cache opening is = record {
  once = one_slot g x.tree.leaves x.pending count d part cache is;
  unheld = λ i c there.
      (no_other d g x.tree.leaves x.pending count part i c cache is there).1.free;
  waiting = numbers_in x.pending count part;
  each = λ k its some. in_numbers g x.tree.leaves x.pending count d part cache is k
      (got_some v.geometry ((choices_of v.geometry v.reading x).leaf k) (get_or x.pending k [])
      (λ none. some (ap (λ (l : parts.Leaf). l.pending) (opening.parts.leaves k) ∙ none))) its;
  more = (let long = four_more d g x.tree.leaves x.pending count part cache is in
      omega (arith, long));
}
