-- Which sectors have pointers that lie too far behind, by the rows of an index.
use Rattle.std.proofs.Common.{◌≡◌, ◌≢◌, ◌⊎◌, inl, inr, ℕ, zero, suc, ◌<◌, ◌≤◌, Bool, true, List, [], ◌∷◌, length, get_or, Option, Some, None, sym, subst, ap, ◌∙◌, arith}
use Rattle.std.specs.Prelude.{All, Contains, MatchOption, slice_get, nat_eq, not}
use Rattle.std.specs.Bool.{MatchBool}
use Rattle.std.proofs.lemmas.Bool.Decides.{eqb_tells}
use Rattle.std.proofs.lemmas.Bool.{cases_lt, cases_eq}
use Rattle.std.proofs.lemmas.List.{get_or_default}
use Rattle.std.proofs.lemmas.List.Elements.{All-contains}
use Rattle.bc_disk.specs.Gens.{Gens}
use Rattle.bc_disk.specs.declared.geometry.Geometry.{Geometry}
use Rattle.bc_entries.specs.Journal.{Journal}
use Rattle.bc_extent.specs.LastKey.{last_key}
use Rattle.bc_extent.specs.Extents.{IsPart}
use Rattle.bc_extent.proofs.LastKeys.{last_key_found}
use Rattle.bc_image.specs.Pair.{Pair}
use Rattle.bc_image.specs.Pointers.{LiesInData}
use Rattle.bc_image.specs.Reading.{Reading, keys_of}
use Rattle.bc_image.specs.Shown.{age_of, generation_of}
use Rattle.bc_image.specs.Sound.{IsDataKey, IsWithinWindow}
use Rattle.bc_key.specs.Generation.{behind}
use Rattle.bc_key.specs.Key.{ptr_at, pointer_of, start_of, Covers}
use Rattle.bc_key.specs.declared.key.Key.{Key}
use Rattle.bc_key.specs.declared.ptr.Ptr.{Ptr}
use Rattle.bc_node.specs.Leaf.{AreLastOfAll}
use Rattle.bc_record.specs.Places.{bucket_at}
use Rattle.bc_node.proofs.KeyLists.{key_here}
use Rattle.bc_replay.specs.Survey.{HasSurvey}
use Rattle.bc_replay.specs.declared.uses.Use.{Use}
use Rattle.bc_replay.proofs.Names.{pointer_some}
use Rattle.bc_replay.proofs.Judge.{pointer_is}
use Rattle.bc_replay.proofs.Used.{same_bucket, row_of, row_at}
use Rattle.bc_super.specs.Super.{data_sectors}
use Rattle.bc_super.specs.declared.backing.BackingSuper.{BackingSuper}
use Rattle.bc_super.specs.declared.cache.CacheSuper.{CacheSuper}
use Rattle.bc_walk.specs.declared.visit.Visit.{Visit}
use Rattle.bc_check.specs.Window.{IsAgedKey, IsAged, IsLeastAged, NoneAged, IsFirstAged}

-- ---- one key

pub not_aged : (g : Geometry) (gens : Gens) (key : Key) (ptr : Ptr) → pointer_of key ≡ Some ptr → ¬ ((96 < age_of g gens ptr) ⊎ ((key.dirty ≡ true) × (age_of g gens ptr ≢ 0))) → ¬ (IsAgedKey g gens key)
not_aged g gens key ptr is not (other, at, aged) =
    let same : other ≡ ptr = sym (pointer_is key other at).1 ∙ (pointer_is key ptr is).1 in
    not (subst (λ (p : Ptr). (96 < age_of g gens p) ⊎ ((key.dirty ≡ true) × (age_of g gens p ≢ 0))) same aged)

pub aged_if_some : (g : Geometry) (gens : Gens) (key : Key) (ptr : Ptr) (age : ℕ) → pointer_of key ≡ Some ptr → age ≡ age_of g gens ptr → age ≤ 96 → key.dirty ≡ true → MatchBool (not (nat_eq age 0)) (IsAgedKey g gens key) (¬ (IsAgedKey g gens key))
aged_if_some g gens key ptr age at is most dirty = elim (eqb_tells age 0) [
  | inl same ↦ subst (λ (b : Bool). MatchBool (not b) (IsAgedKey g gens key) (¬ (IsAgedKey g gens key))) (sym same.0)
      (not_aged g gens key ptr at (λ aged. elim aged [ inl far ↦ absurd (omega (arith, far, most, is)) | inr some ↦ some.1 (sym is ∙ same.1) ]))
  | inr other ↦ subst (λ (b : Bool). MatchBool (not b) (IsAgedKey g gens key) (¬ (IsAgedKey g gens key))) (sym other.0) (ptr, at, inr (dirty, λ none. other.1 (is ∙ none)))
]

module _ (g : Geometry) (gens : Gens) where
  -- a key and another one with a pointer as old
  aged_as : (a b : Key) → a.count ≡ b.count → a.dirty ≡ b.dirty → (0 < a.count → age_of g gens (ptr_at a 0) ≡ age_of g gens (ptr_at b 0)) → IsAgedKey g gens a → IsAgedKey g gens b
  aged_as a b count dirty ages (ptr, is, aged) =
      let p = pointer_is a ptr is in
      let age : age_of g gens ptr ≡ age_of g gens (ptr_at b 0) = ap (age_of g gens) (sym p.1) ∙ ages p.0 in (
        ptr_at b 0,
        pointer_some b (subst (λ n. 0 < n) count p.0),
        elim aged [
          | inl far ↦ inl (subst (λ n. 96 < n) age far)
          | inr some ↦ inr (sym dirty ∙ some.0, subst (λ n. n ≢ 0) age some.1)
        ],
      )

  module _ (whole row : Key) (part : IsPart whole row) (some : 0 < row.size) (extent : row.size ≤ row.end) (lies : (i : ℕ) → i < whole.count → LiesInData g (ptr_at whole i) whole.size) where
    same_age : 0 < whole.count → age_of g gens (ptr_at whole 0) ≡ age_of g gens (ptr_at row 0)
    same_age more =
        ap (λ n. behind (generation_of gens n) (ptr_at whole 0).generation) (sym (same_bucket g gens whole row part some extent lies more)) ∙ ap (λ n. behind (generation_of gens (bucket_at g (ptr_at row 0).offset)) n) (sym (part.devices 0 more).generation)

    aged_row : IsAgedKey g gens whole → IsAgedKey g gens row
    aged_row aged = aged_as whole row (sym part.kind.count) (sym part.kind.dirty) same_age aged

    aged_whole : IsAgedKey g gens row → IsAgedKey g gens whole
    aged_whole aged = aged_as row whole part.kind.count part.kind.dirty (λ more. sym (same_age (subst (λ n. 0 < n) part.kind.count more))) aged

-- ---- all of them

module _ (g : Geometry) (r : Reading) (size : ℕ) (index : List Key) (last : AreLastOfAll (keys_of r) index) (good : All (IsDataKey g size) (keys_of r)) where
  lies_of : (sector : ℕ) (whole : Key) → last_key (keys_of r) sector ≡ Some whole → (i : ℕ) → i < whole.count → LiesInData g (ptr_at whole i) whole.size
  lies_of sector whole is = (All-contains (IsDataKey g size) (keys_of r) whole good (last_key_found (keys_of r) sector whole is).0).ptrs

  -- a row for a sector whose key is aged
  record AgedRow (sector : ℕ) : Type 0 where
    row : Key
    has : Contains index row
    covers : Covers row sector
    aged : IsAgedKey g r.gens row

  aged_at : (sector : ℕ) → IsAged g r sector → AgedRow sector
  aged_at sector (key, is, aged) =
      let row = row_at g r.gens (keys_of r) index sector key last is in
      let range = All-contains (λ (k : Key). (k.size ≤ k.end) × (0 < k.size)) index row.row last.order.0 row.has in
      record { row = row.row; has = row.has; covers = row.covers; aged = aged_row g r.gens key row.row row.rest.cut range.1 range.0 (lies_of sector key is) aged }

  none_aged : NoneAged g r.gens index → (sector : ℕ) → ¬ (IsAged g r sector)
  none_aged none sector aged = let a = aged_at sector aged in All-contains (λ (k : Key). ¬ (IsAgedKey g r.gens k)) index a.row none a.has a.aged

  pub window : NoneAged g r.gens index → IsWithinWindow g r
  window none sector key ptr is at = (far (cases_lt 96 (age_of g r.gens ptr)), near)
    where
      far : (96 < age_of g r.gens ptr) ⊎ (age_of g r.gens ptr ≤ 96) → age_of g r.gens ptr ≤ 96
      far (inl more) = absurd (none_aged none sector (key, is, (ptr, at, inl more)))
      far (inr most) = most

      near : key.dirty ≡ true → age_of g r.gens ptr ≡ 0
      near dirty = elim (cases_eq (age_of g r.gens ptr) 0) [ inl same ↦ same | inr other ↦ absurd (none_aged none sector (key, is, (ptr, at, inr (dirty, other)))) ]

  pub least_aged : (sector : ℕ) → IsFirstAged g r.gens index sector → IsLeastAged g r sector
  least_aged sector f =
      let low = place_low index f.place f.row f.at in
      let is = key_here index f.place f.row f.at in
      let has : Contains index f.row = (f.place, low, sym is) in
      let o = row_of g r.gens (keys_of r) index f.row last has in
      record {
        aged = (o.whole, subst (λ n. last_key (keys_of r) n ≡ Some o.whole) (sym f.start) o.look, aged_whole g r.gens o.whole f.row o.rest.cut o.some o.extent (lies_of (start_of f.row) o.whole o.look) f.aged);
        least = λ k below aged. (let a = aged_at k aged in before k a.row a.has a.aged a.covers (subst (λ n. k < n) f.start below) is low (cases_lt a.has.0 f.place));
      }
    where
      place_low : (rows : List Key) (i : ℕ) (row : Key) → slice_get rows i ≡ Some row → i < length rows
      place_low [] i row at = absurd (cc)
      place_low (x ∷ xs) zero row at = omega arith
      place_low (x ∷ xs) (suc i) row at = let rest = place_low xs i row at in omega (arith, rest)

      before : (k : ℕ) (row : Key) (has : Contains index row) → IsAgedKey g r.gens row → Covers row k → k < start_of f.row → f.row ≡ get_or index f.place f.row → f.place < length index → (has.0 < f.place) ⊎ (f.place ≤ has.0) → ⊥
      before k row has aged covers below is low (inl less) = f.before has.0 row less (subst (λ (x : Key). IsAgedKey g r.gens x) (sym has.2) aged)
      before k row has aged covers below is low (inr most) = behind_it (cases_eq has.0 f.place)
        where
          behind_it : (has.0 ≡ f.place) ⊎ (has.0 ≡ f.place → ⊥) → ⊥
          behind_it (inl same) =
              let one : row ≡ f.row = sym has.2 ∙ ap (λ n. get_or index n row) same ∙ get_or_default index f.place row f.row low ∙ sym is in
              let c = subst (λ (x : Key). start_of x ≤ k) one covers.0 in absurd (omega (arith, c, below))
          behind_it (inr other) =
              let apart = last.order.1 f.place has.0 row (omega (arith, most, other)) has.1 in
              let one : get_or index f.place row ≡ f.row = get_or_default index f.place row f.row low ∙ sym is in
              let ends = subst (λ (x : Key). x.end ≤ start_of (get_or index has.0 row)) one apart in
              let starts = subst (λ (x : Key). f.row.end ≤ start_of x) has.2 ends in
              let range = All-contains (λ (x : Key). (x.size ≤ x.end) × (0 < x.size)) index f.row last.order.0 (f.place, low, sym is) in
              let c = covers.0 in
              absurd (omega (arith, starts, range.0, range.1, c, below))

-- ---- of a survey

pub aged_told : (p : Pair) (b : BackingSuper) (c : CacheSuper) (g : Geometry) (j : Journal) (gens : Gens) (seen : List Visit) (index : List Key) (table : List Use) (h : HasSurvey p b c g j gens seen index table) (sector : Option ℕ)
    → MatchOption sector (NoneAged g gens index) (IsFirstAged g gens index) → MatchOption sector (IsWithinWindow g h.view.reading) (IsLeastAged g h.view.reading)
aged_told p b c g j gens seen index table h sector first =
    let r = h.view.reading in
    let size = data_sectors p.backing_sectors h.view.backing in
    let good = subst (λ (x : Geometry). All (IsDataKey x size) (keys_of r)) h.geometry h.openable.pointers.data_keys in
    go r size good h.index sector (subst (λ (gs : Gens). MatchOption sector (NoneAged g gs index) (IsFirstAged g gs index)) (sym h.gens) first)
  where
    go : (r : Reading) (size : ℕ) → All (IsDataKey g size) (keys_of r) → AreLastOfAll (keys_of r) index → (o : Option ℕ) → MatchOption o (NoneAged g r.gens index) (IsFirstAged g r.gens index) → MatchOption o (IsWithinWindow g r) (IsLeastAged g r)
    go r size good last None first = window g r size index last good first
    go r size good last (Some s) first = least_aged g r size index last good s first
