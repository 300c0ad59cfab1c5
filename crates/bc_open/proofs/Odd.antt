-- A pair whose newest entry is one behind which none can come.
use Rattle.std.proofs.Common.{◌≡◌, inl, inr, ℕ, zero, suc, ◌+◌, ◌-◌, List, [], ◌∷◌, ◌++◌, length, Some, refl, sym, ap, ◌∙◌, subst, arith, length-append}
use Rattle.std.specs.Prelude.{slice_get}
use Rattle.bc_enter.specs.Next.{IsOdd}
use Rattle.bc_image.specs.Pair.{Pair}
use Rattle.bc_model.specs.Sector.{Image}
use Rattle.bc_disk.specs.declared.geometry.Geometry.{Geometry}
use Rattle.bc_jset.specs.Entries.{AreEntries, FoundEntry}
use Rattle.bc_jset.proofs.Entries.{newest_is_last}
use Rattle.bc_image.proofs.Unique.{some_same}
use Rattle.bc_recover.specs.Read.{IsReadOf}
use Rattle.bc_regrow.proofs.Told.{level_is}
use Rattle.bc_replay.specs.declared.held.Survey.{Survey}

last_of : (xs : List FoundEntry) (n : FoundEntry) (k : ℕ) → k ≡ length xs
    → slice_get (xs ++ n ∷ []) k ≡ Some n
last_of [] n zero is = refl
last_of [] n (suc k) is = absurd (omega (arith, is))
last_of (x ∷ xs) n zero is = absurd (omega (arith, is))
last_of (x ∷ xs) n (suc k) is = last_of xs n k (omega (arith, is))

last_at : (xs : List FoundEntry) (older : List FoundEntry) (newest : FoundEntry)
    → xs ≡ older ++ newest ∷ [] → slice_get xs (length xs - 1) ≡ Some newest
last_at xs older newest parts =
    let long = ap (λ (ys : List FoundEntry). length ys) parts in
    let both = length-append older (newest ∷ []) in
    let size : length xs - 1 ≡ length older = omega (arith, long, both) in
    ap (λ (ys : List FoundEntry). slice_get ys (length xs - 1)) parts
    ∙ last_of older newest (length xs - 1) size

newest_in : (g : Geometry) (image : Image) (es : List FoundEntry) (entries : AreEntries g image es)
    → (newest : FoundEntry) → slice_get es (length es - 1) ≡ Some newest → entries.newest ≡ newest
newest_in g image es entries newest at =
    let last = newest_is_last g image es entries in
    some_same entries.newest newest
    (sym (last_at es last.0 entries.newest last.1) ∙ at)

-- it still needs an entry of number 0
pub needs_first : (s : Survey) (p : Pair) (h : IsReadOf s p) → IsOdd s.journal
    → h.view.reading.newest.item.last_seq ≡ 0
needs_first s p h odd =
    let at = last_at s.journal.entries odd.older odd.newest odd.parts in
    let r = h.view.reading in
    let there = last_at r.entries odd.older odd.newest (h.entries ∙ odd.parts) in
    let same : r.newest ≡ odd.newest = sym h.is_view.reading.newest
    ∙ newest_in h.view.geometry p.cache r.entries h.is_view.reading.entries odd.newest there in
    elim odd.odd [
      | inl never ↦ absurd (never (level_is s p h odd.newest at))
      | inr is ↦ ap (λ (e : FoundEntry). e.item.last_seq) same ∙ is
    ]
