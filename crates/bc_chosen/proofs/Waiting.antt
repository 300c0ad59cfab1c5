-- Pieces of keys, the newest first, are the keys of the entries, cut.
use Rattle.std.proofs.Common.{subst, ◌≡◌, inl, inr, ℕ, ◌+◌, ◌<◌, ◌≤◌, Bool, true, List, [], ◌∷◌, ◌++◌, Option, Some, None, refl, sym, ap, ◌∙◌, arith, append_assoc, if◌then◌else◌, nat_lt}
use Rattle.std.specs.Prelude.{All, map, reverse, slice_index_or}
use Rattle.std.proofs.lemmas.List.{append-nil, map-append, reverse-append}
use Rattle.std.proofs.lemmas.List.Elements.{All-head, All-tail}
use Rattle.bc_disk.specs.declared.geometry.Geometry.{Geometry}
use Rattle.bc_extent.proofs.LastKeys.{by_cover}
use Rattle.bc_facts.specs.Seen.{seen_entries, seen_entry}
use Rattle.bc_facts.proofs.Place.{by_lt}
use Rattle.bc_jset.specs.Entries.{FoundEntry}
use Rattle.bc_jset.proofs.Entries.{stand_in_journal}
use Rattle.bc_key.specs.Key.{Covers, IsExtent, place_at, pointer_of, ptr_at}
use Rattle.bc_key.specs.declared.key.Key.{Key}
use Rattle.bc_leaves.specs.Keys.{Speaks}
use Rattle.bc_leaves.specs.Parts.{Pending}
use Rattle.bc_meta.specs.Entries.{Entry}
use Rattle.bc_meta.specs.Keys.{Ref, ref_by}
use Rattle.bc_opening.specs.Cut.{AreCut, AreCutFrom, IsCutTo}
use Rattle.bc_pending.specs.Entries.{keys_in, keys_of}
use Rattle.bc_pending.specs.Pieces.{ArePieces, HasSectors, IsPiece, numbered}
use Rattle.bc_pending.specs.declared.numbered.Numbered.{Numbered}
use Rattle.bc_spine.specs.declared.leaf.LeafRange.{LeafRange}
use Rattle.bc_chosen.specs.Waiting.{LawWaiting, all_waiting, waiting}

abbrev HaveExtents : List FoundEntry → Type 0
HaveExtents es = All (λ (x : FoundEntry). All IsExtent x.item.keys) es

-- ---- the sectors of a key

says_covers : (key : Key) (s : ℕ) → Speaks key s → Covers key s
says_covers key s = by_cover key s (λ b. b ≡ true → Covers key s) (λ c _. c) (λ _ e. absurd (cc))

covers_says : (key : Key) (s : ℕ) → Covers key s → Speaks key s
covers_says key s c = by_cover key s (λ b. b ≡ true) (λ _. refl) (λ out. absurd (out c))

abbrev ref : Bool → ℕ → ℕ → ℕ → Option Ref
ref dirty dev place generation = Some (record { dirty = dirty; dev = dev; place = place; generation = generation })

same_ref : (a b : Bool) (c d e f h i : ℕ) → a ≡ b → c ≡ d → e ≡ f → h ≡ i → ref a c e h ≡ ref b d f i
same_ref a b c d e f h i same_a same_c same_e same_h =
    ap (λ x. ref x c e h) same_a ∙ ap (λ x. ref b x e h) same_c ∙ ap (λ x. ref b d x h) same_e ∙ ap (λ x. ref b d f x) same_h

module _ (leaf : LeafRange) where
  piece_says : (whole piece : Numbered) (s : ℕ) → IsPiece leaf whole piece → Speaks piece.key s → ref_by piece.key s (pointer_of piece.key) ≡ ref_by whole.key s (pointer_of whole.key)
  piece_says whole piece s is says =
      ap (λ n. ref_by piece.key s (if nat_lt 0 n then Some (ptr_at piece.key 0) else None)) is.cut.kind.count
      ∙ by_lt 0 whole.key.count (λ b. ref_by piece.key s (if b then Some (ptr_at piece.key 0) else None) ≡ ref_by whole.key s (if b then Some (ptr_at whole.key 0) else None))
      (λ some. (let d = is.cut.devices 0 some in
      same_ref piece.key.dirty whole.key.dirty (ptr_at piece.key 0).dev (ptr_at whole.key 0).dev (place_at piece.key 0 s) (place_at whole.key 0 s) (ptr_at piece.key 0).generation (ptr_at whole.key 0).generation
      is.cut.kind.dirty d.dev (is.cut.places s 0 (says_covers piece.key s says) some) d.generation))
      (λ _. refl)

  piece_cut : (whole piece : Numbered) → IsPiece leaf whole piece → IsCutTo leaf.from leaf.end whole.key piece.key
  piece_cut whole piece is = record { sectors = λ s. (there s, back s); says = λ s says. piece_says whole piece s is says }
    where
      there : (s : ℕ) → Speaks piece.key s → (leaf.from ≤ s) × (s < leaf.end) × Speaks whole.key s
      there s says =
          let c = says_covers piece.key s says in
          let low = c.0 in
          let high = c.1 in
          let begins = is.begins in
          let ends = is.ends in
          (omega (arith, low, begins), omega (arith, high, ends), covers_says whole.key s (omega (arith, low, begins), omega (arith, high, ends)))

      back : (s : ℕ) → (leaf.from ≤ s) × (s < leaf.end) × Speaks whole.key s → Speaks piece.key s
      back s (low, high, says) =
          let c = says_covers whole.key s says in
          let from = c.0 in
          let to = c.1 in
          let begins = is.begins in
          let ends = is.ends in
          covers_says piece.key s (omega (arith, low, from, begins), omega (arith, high, to, ends))

  -- a key without sectors in the range says nothing there
  none_there : (key : Key) → IsExtent key → ¬ (HasSectors leaf key) → (s : ℕ) → leaf.from ≤ s → s < leaf.end → Speaks key s → ⊥
  none_there key extent none s low high says =
      let c = says_covers key s says in
      let from = c.0 in
      let to = c.1 in
      none (extent, omega (arith, low, high, from, to))

  -- ---- lists, one behind the other

  cut_join : (n : ℕ) (xs ys : List Key) (ps qs : List Pending) → AreCut leaf.from leaf.end n xs ps → AreCut leaf.from leaf.end n ys qs → AreCut leaf.from leaf.end n (xs ++ ys) (ps ++ qs)
  cut_join n [] ys ps qs are more = subst (λ (l : List Pending). AreCut leaf.from leaf.end n ys (l ++ qs)) (sym are) more
  cut_join n (k ∷ xs) ys ps qs (inl out) more = inl (out.0, cut_join n xs ys ps qs out.1 more)
  cut_join n (k ∷ xs) ys ps qs (inr c) more = inr (c.0, c.1 ++ qs, ap (λ (l : List Pending). l ++ qs) c.2, c.3, c.4, cut_join n xs ys c.1 qs c.5 more)

  from_join : (es fs : List Entry) (ps qs : List Pending) → AreCutFrom leaf.from leaf.end es ps → AreCutFrom leaf.from leaf.end fs qs → AreCutFrom leaf.from leaf.end (es ++ fs) (ps ++ qs)
  from_join [] fs ps qs are more = subst (λ (l : List Pending). AreCutFrom leaf.from leaf.end fs (l ++ qs)) (sym are) more
  from_join (e ∷ es) fs ps qs c more =
      (c.0, c.1 ++ qs, ap (λ (l : List Pending). l ++ qs) c.2 ∙ append_assoc c.0 c.1 qs, c.3, from_join es fs c.1 qs c.4 more)

  split : (xs ys ps : List Numbered) → ArePieces leaf (xs ++ ys) ps → (here rest : List Numbered) × (ps ≡ here ++ rest) × ArePieces leaf xs here × ArePieces leaf ys rest
  split [] ys ps are = ([], ps, refl, refl, are)
  split (x ∷ xs) ys ps (inl out) = let k = split xs ys ps out.1 in (k.0, k.1, k.2, inl (out.0, k.3), k.4)
  split (x ∷ xs) ys ps (inr c) =
      let k = split xs ys c.1 c.4 in
      (c.0 ∷ k.0, k.1, c.3 ∙ ap (λ (l : List Numbered). c.0 ∷ l) k.2, inr (c.0, k.0, c.2, refl, k.3), k.4)

  -- ---- of an entry, and of all

  turned : (piece : Numbered) (rest : List Numbered) → all_waiting rest ++ waiting piece ∷ [] ≡ all_waiting (piece ∷ rest)
  turned piece rest = sym (reverse-append (waiting piece ∷ []) (map waiting rest))

  keys_cut : (n : ℕ) (keys : List Key) (pieces : List Numbered) → All IsExtent keys → ArePieces leaf (map (numbered n) keys) pieces → AreCut leaf.from leaf.end n (reverse keys) (all_waiting pieces)
  keys_cut n [] pieces extents are = ap all_waiting are
  keys_cut n (k ∷ keys) pieces extents (inl out) =
      let later = keys_cut n keys pieces (All-tail IsExtent k keys extents) out.1 in
      let none = none_there k (All-head IsExtent k keys extents) out.0 in
      subst (λ (l : List Key). AreCut leaf.from leaf.end n l (all_waiting pieces)) (sym (reverse-append (k ∷ []) keys))
      (subst (λ (l : List Pending). AreCut leaf.from leaf.end n (reverse keys ++ k ∷ []) l) (append-nil (all_waiting pieces))
      (cut_join n (reverse keys) (k ∷ []) (all_waiting pieces) [] later (inl (none, refl))))
  keys_cut n (k ∷ keys) pieces extents (inr c) =
      let later = keys_cut n keys c.1 (All-tail IsExtent k keys extents) c.4 in
      subst (λ (l : List Key). AreCut leaf.from leaf.end n l (all_waiting pieces)) (sym (reverse-append (k ∷ []) keys))
      (subst (λ (l : List Pending). AreCut leaf.from leaf.end n (reverse keys ++ k ∷ []) l) (turned c.0 c.1 ∙ ap all_waiting (sym c.3))
      (cut_join n (reverse keys) (k ∷ []) (all_waiting c.1) (waiting c.0 ∷ []) later
      (inr (waiting c.0, [], refl, c.2.entry, piece_cut (numbered n k) c.0 c.2, refl))))

  module _ (g : Geometry) where
    entries_cut : (es : List FoundEntry) (pieces : List Numbered) → HaveExtents es → ArePieces leaf (keys_in es) pieces → AreCutFrom leaf.from leaf.end (seen_entries g es) (all_waiting pieces)
    entries_cut [] pieces extents are = ap all_waiting are
    entries_cut (e ∷ es) pieces extents are =
        let k = split (keys_of e) (keys_in es) pieces are in
        let later = entries_cut es k.1 (All-tail (λ (x : FoundEntry). All IsExtent x.item.keys) e es extents) k.4 in
        let own = keys_cut e.item.seq e.item.keys k.0 (All-head (λ (x : FoundEntry). All IsExtent x.item.keys) e es extents) k.3 in
        let both : all_waiting k.1 ++ all_waiting k.0 ≡ all_waiting pieces =
        sym (ap all_waiting k.2 ∙ ap (λ (l : List Pending). reverse l) (map-append waiting k.0 k.1) ∙ reverse-append (map waiting k.0) (map waiting k.1)) in
        subst (λ (l : List Entry). AreCutFrom leaf.from leaf.end l (all_waiting pieces)) (sym (reverse-append (seen_entry g e.item ∷ []) (map (λ (x : FoundEntry). seen_entry g x.item) es)))
        (subst (λ (l : List Pending). AreCutFrom leaf.from leaf.end (seen_entries g es ++ seen_entry g e.item ∷ []) l) both
        (from_join (seen_entries g es) (seen_entry g e.item ∷ []) (all_waiting k.1) (all_waiting k.0) later
        (all_waiting k.0, [], sym (append-nil (all_waiting k.0)), own, refl)))

pub law_waiting : LawWaiting
law_waiting g image entries leaves lists are pending i d inside =
    entries_cut (slice_index_or leaves i d) g entries (slice_index_or lists i [])
    (λ k x low. (stand_in_journal g image entries are k x low).4.extents)
    (pending.pieces i d inside)
