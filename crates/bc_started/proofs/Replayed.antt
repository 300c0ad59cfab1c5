-- Leaves that keys of the entries wait for, wait for none that is older than each entry with keys.
use Rattle.std.proofs.Common.{◌≡◌, ◌≢◌, inl, inr, ℕ, zero, suc, ◌<◌, ◌≤◌, List, [], ◌∷◌, ◌++◌, length, Option, Some, None, refl, sym, ap, ◌∙◌, subst, arith}
use Rattle.std.specs.Prelude.{All, IfSome, map, slice_get, slice_index_or}
use Rattle.std.proofs.lemmas.List.Elements.{All-head, All-tail}
use Rattle.bc_cached.specs.bc_begun.Begin.{Beginning, parts_of}
use Rattle.bc_cache.specs.Slots.{NodeCache}
use Rattle.bc_disk.specs.Disk.{DiskFacts}
use Rattle.bc_disk.specs.declared.geometry.Geometry.{Geometry}
use Rattle.bc_entries.specs.Journal.{Journal as Read}
use Rattle.bc_entry.specs.Laws.{AllWaitFrom, WaitFrom}
use Rattle.bc_jset.specs.Entries.{FoundEntry}
use Rattle.bc_key.specs.declared.key.Key.{Key}
use Rattle.bc_entry.specs.bc_machine.World.{leaves_among, opening}
use Rattle.bc_entry.specs.bc_machine.declared.part.CorePart.{CorePart}
use Rattle.bc_entry.specs.bc_machine.declared.part.CorePart.TheVariants as part
use Rattle.bc_node.specs.declared.pending.Entries.{Entries}
use Rattle.bc_pending.specs.Entries.{keys_in, keys_of}
use Rattle.bc_pending.specs.Pieces.{ArePieces, numbered}
use Rattle.bc_pending.specs.declared.numbered.Numbered.{Numbered}
use Rattle.bc_reload.specs.Added.{noted_all}
use Rattle.bc_cached.specs.bc_slots.Parts.{IsLeafPart}
use Rattle.bc_cached.proofs.of_bc_slots.Leaves.{no_other}
use Rattle.bc_spine.specs.declared.leaf.LeafRange.{LeafRange}
use Rattle.bc_tree.specs.Spine.{Spine}
use Rattle.bc_started.specs.Start.{AreReplayed}

-- ---- keys of entries from one on

abbrev AllFrom : ℕ → List Numbered → Type 0
AllFrom low [] = Unit {0}
AllFrom low (n ∷ ns) = (low ≤ n.entry) × AllFrom low ns

both_from : (low : ℕ) (xs ys : List Numbered) → AllFrom low xs → AllFrom low ys
    → AllFrom low (xs ++ ys)
both_from low [] ys first then = then
both_from low (x ∷ xs) ys first then = (first.0, both_from low xs ys first.1 then)

keys_from : (low entry : ℕ) (keys : List Key) → (keys ≢ [] → low ≤ entry)
    → AllFrom low (map (numbered entry) keys)
keys_from low entry [] up = tt
keys_from low entry (key ∷ keys) up =
    let here : low ≤ entry = up (λ none. cc) in
    (here, keys_from low entry keys (λ some. here))

abbrev IsNeeded : ℕ → FoundEntry → Type 0
IsNeeded low f = f.item.keys ≢ [] → low ≤ f.item.seq

all_from : (low : ℕ) (es : List FoundEntry) → All (IsNeeded low) es → AllFrom low (keys_in es)
all_from low [] up = tt
all_from low (e ∷ es) up = both_from low (keys_of e) (keys_in es)
    (keys_from low e.item.seq e.item.keys (All-head (IsNeeded low) e es up))
    (all_from low es (All-tail (IsNeeded low) e es up))

pieces_from : (low : ℕ) (leaf : LeafRange) (keys pieces : List Numbered)
    → ArePieces leaf keys pieces → AllFrom low keys → AllFrom low pieces
pieces_from low leaf [] pieces none up = subst (AllFrom low) (sym none) tt
pieces_from low leaf (key ∷ keys) pieces are up = elim are [
  | inl out ↦ pieces_from low leaf keys pieces out.1 up.1
  | inr more ↦ subst (AllFrom low) (sym more.3) (
    (let same = more.2.entry in let here = up.0 in omega (arith, same, here)),
    pieces_from low leaf keys more.1 more.4 up.1,
  )
]

-- what a leaf notes of them
later_noted : (low : ℕ) (more : List Numbered) (e : Entries) → low ≤ e.first
    → IfSome (noted_all more (Some e)) (λ x. low ≤ x.first)
later_noted low [] e up = up
later_noted low (n ∷ ns) e up = later_noted low ns (record { first = e.first; last = n.entry }) up

first_noted : (low : ℕ) (more : List Numbered) → AllFrom low more
    → IfSome (noted_all more None) (λ x. low ≤ x.first)
first_noted low [] up = tt
first_noted low (n ∷ ns) up = later_noted low ns (record { first = n.entry; last = n.entry }) up.0

-- ---- the parts

index_of : {A : Type 0} (xs : List A) (k : ℕ) (x : A) → slice_get xs k ≡ Some x
    → (k < length xs) × (slice_index_or xs k x ≡ x)
index_of [] zero x e = absurd (cc)
index_of [] (suc k) x e = absurd (cc)
index_of (y ∷ xs) zero x e = (omega arith, one y x e)
  where
    one : {A : Type 0} (a b : A) → Some a ≡ Some b → a ≡ b
    one a b e = cc
index_of (y ∷ xs) (suc k) x e = let rest = index_of xs k x e in
    let low = rest.0 in (omega (arith, low), rest.1)

module _ {C : Type 0} (facts : C → DiskFacts) (g : Geometry) (read : Read)
    (leaves : List LeafRange) (caches : List NodeCache)
    (h : AreReplayed facts g read leaves caches) (low : ℕ)
    (up : All (IsNeeded low) read.entries) where
  part_from : (part : ℕ) (cache : NodeCache)
      → IsLeafPart g leaves h.pending h.count (facts h.was) part cache → WaitFrom low cache
  part_from part cache is i c there =
      let o = (no_other (facts h.was) g leaves h.pending h.count part i c cache is there).1 in
      let at = index_of leaves c.number o.range o.there in
      let more = slice_index_or h.pending c.number [] in
      let from : AllFrom low more = pieces_from low (slice_index_or leaves c.number o.range)
      (keys_in read.entries) more (h.keys.pieces c.number o.range at.0)
      (all_from low read.entries up) in
      subst (λ (e : Option Entries). IfSome e (λ x. low ≤ x.first))
      (sym (o.leaf.added.entries ∙ ap (noted_all more) o.leaf.held.2.pending.entries))
      (first_noted low more from)

  pub parts_from : (i : ℕ) (cache : NodeCache) → slice_get caches i ≡ Some cache
      → WaitFrom low cache
  parts_from i cache there =
      let at = index_of caches i cache there in
      let inside : i < h.count = subst (λ n. i < n) h.are.each at.0 in
      part_from i cache (subst (λ (c : NodeCache).
      IsLeafPart g leaves h.pending h.count (facts h.was) i c) at.1 (h.are.part i cache inside))

-- ---- as a run begins

module _ {C B : Type 0} (cache_facts : C → DiskFacts) (backing_facts : B → DiskFacts)
    (g : Geometry) (read : Read) (tree : Spine) (k : Beginning C B)
    (h : AreReplayed cache_facts g read tree.leaves k.leaves) where
  abbrev as_parts : List NodeCache → List (CorePart C B)
  as_parts cs = map part.Leaves cs

  all_leaves : (cs : List NodeCache)
      → leaves_among cache_facts backing_facts (as_parts cs) ≡ cs
  all_leaves [] = refl
  all_leaves (c ∷ cs) = ap (λ (l : List NodeCache). c ∷ l) (all_leaves cs)

  count_leaves : (cs : List NodeCache) → length (as_parts cs) ≡ length cs
  count_leaves [] = refl
  count_leaves (c ∷ cs) = let rest = count_leaves cs in omega (arith, rest)

  pub all_wait : (low : ℕ) → All (IsNeeded low) read.entries
      → AllWaitFrom low (opening cache_facts backing_facts (parts_of tree k)).begun
  all_wait low up =
      let same = all_leaves k.leaves in
      let long = ap (λ (l : List NodeCache). length l) same in
      let parts = count_leaves k.leaves in
      let each = h.are.each in
      let some = h.some in
      record {
        some = omega (arith, long, each, some);
        each = omega (arith, long, parts);
        from = λ i cache there. parts_from cache_facts g read tree.leaves k.leaves h low up i cache
            (subst (λ (l : List NodeCache). slice_get l i ≡ Some cache) same there);
      }
