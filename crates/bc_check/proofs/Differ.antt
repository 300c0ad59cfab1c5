-- Which sectors have different data on both devices, by the rows of an index.
use Rattle.std.proofs.Common.{◌≡◌, ◌≢◌, ◌⊎◌, inl, inr, ℕ, suc, ◌+◌, ◌-◌, ◌*◌, ◌/◌, ◌%◌, ◌^◌, ◌<◌, ◌≤◌, true, false, List, length, get_or, Option, Some, None, sym, subst, ap, ◌∙◌, arith}
use Rattle.std.specs.Prelude.{All, Contains, MatchOption, slice_get}
use Rattle.std.proofs.Math.Nat.{mod-eq_of_lt, mul-le-mul_left}
use Rattle.std.proofs.lemmas.Bool.{cases_lt, cases_eq}
use Rattle.std.proofs.lemmas.List.{get_or_default}
use Rattle.std.proofs.lemmas.List.Elements.{All-contains}
use Rattle.std.proofs.lemmas.Option.{slice_get_within}
use Rattle.bc_disk.specs.Gens.{Gens}
use Rattle.bc_disk.specs.declared.geometry.Geometry.{Geometry}
use Rattle.bc_entries.specs.Journal.{Journal}
use Rattle.bc_extent.specs.LastKey.{last_key}
use Rattle.bc_extent.specs.Extents.{IsInOrder, IsPart, IsRest}
use Rattle.bc_extent.proofs.LastKeys.{last_key_found}
use Rattle.bc_image.specs.Pair.{Pair}
use Rattle.bc_image.specs.Reading.{View, keys_of, key_of}
use Rattle.bc_image.specs.Shown.{is_live}
use Rattle.bc_image.specs.Sound.{IsDataKey, AgreesWhereClean}
use Rattle.bc_image.proofs.Places.{lies_in_bucket}
use Rattle.bc_key.specs.Key.{ptr_at, place_at, start_of, Covers}
use Rattle.bc_key.specs.declared.key.Key.{Key}
use Rattle.bc_node.specs.Leaf.{AreLastOfAll}
use Rattle.bc_node.proofs.KeyLists.{key_here}
use Rattle.bc_record.specs.Places.{bucket_at}
use Rattle.bc_replay.specs.Survey.{HasSurvey}
use Rattle.bc_replay.specs.declared.uses.Use.{Use}
use Rattle.bc_replay.proofs.Used.{live_part, live_some, row_of, row_at}
use Rattle.bc_super.specs.Super.{data_sectors}
use Rattle.bc_super.specs.declared.backing.BackingSuper.{BackingSuper}
use Rattle.bc_super.specs.declared.cache.CacheSuper.{CacheSuper}
use Rattle.bc_walk.specs.declared.visit.Visit.{Visit}
use Rattle.bc_check.specs.Apart.{Disagrees, RowFits, RowSame, TellsRow, NoneApart, IsFirstApart, TellsRows}
use Rattle.bc_check.specs.Verdict.{IsLeast}

-- what a key's pointer points to ends on the device
ends_within : (g : Geometry) (offset size : ℕ) → bucket_at g offset < g.nbuckets → offset % g.bucket + size ≤ g.bucket → offset + size ≤ g.bucket * g.nbuckets
ends_within g offset size inside whole =
    let wide = g.bucket_from in
    let split : offset ≡ g.bucket * (offset / g.bucket) + offset % g.bucket = omega (arith, wide) in
    let more : g.bucket * suc (offset / g.bucket) ≤ g.bucket * g.nbuckets = mul-le-mul_left g.bucket (omega (arith, inside)) in
    omega (arith, split, more, whole)

-- ---- row after row

pub range_here : (index : List Key) → IsInOrder index → (i : ℕ) (row : Key) → i < length index → slice_get index i ≡ Some row → (row.size ≤ row.end) × (0 < row.size)
range_here index order i row inside at = subst (λ (x : Key). (x.size ≤ x.end) × (0 < x.size)) (sym (key_here index i row at)) (order.0 i row inside)

module _ (g : Geometry) (gens : Gens) (p : Pair) (offset : ℕ) (index : List Key) where
  pub none_first : NoneApart g gens p offset index 0
  none_first k d low = absurd (omega (arith, low))

  pub none_next : (i : ℕ) (row : Key) → i < length index → slice_get index i ≡ Some row → NoneApart g gens p offset index i → TellsRow g gens p offset row None → NoneApart g gens p offset index (i + 1)
  none_next i row inside at none tells k d low = elim (cases_eq k i) [
    | inl same ↦
        let here : get_or index k d ≡ row = ap (λ n. get_or index n d) same ∙ get_or_default index i d row inside ∙ sym (key_here index i row at) in
        subst (λ (x : Key). TellsRow g gens p offset x None) (sym here) tells
    | inr other ↦ none k d (omega (arith, low, other))
  ]

  pub none_all : (i : ℕ) → length index ≤ i → NoneApart g gens p offset index i → NoneApart g gens p offset index (length index)
  none_all i most none k d low = none k d (omega (arith, low, most))

  pub first_here : (i sector : ℕ) (row : Key) → slice_get index i ≡ Some row → NoneApart g gens p offset index i → TellsRow g gens p offset row (Some sector) → IsFirstApart g gens p offset index sector
  first_here i sector row at none tells = record { place = i; row = row; at = at; apart = tells; before = none }

module _ (p : Pair) (v : View) (index : List Key) (last : AreLastOfAll (keys_of v.reading) index)
    (good : All (IsDataKey v.geometry (data_sectors p.backing_sectors v.backing)) (keys_of v.reading))
    (room : v.geometry.bucket * v.geometry.nbuckets ≤ p.cache_sectors) where
  abbrev g : Geometry
  g = v.geometry

  abbrev gens : Gens
  gens = v.reading.gens

  abbrev offset : ℕ
  offset = v.backing.data_offset

  data_of : (sector : ℕ) (whole : Key) → last_key (keys_of v.reading) sector ≡ Some whole → IsDataKey g (data_sectors p.backing_sectors v.backing) whole
  data_of sector whole is = All-contains (IsDataKey g (data_sectors p.backing_sectors v.backing)) (keys_of v.reading) whole good (last_key_found (keys_of v.reading) sector whole is).0

  -- ---- one row

  module _ (whole row : Key) (part : IsPart whole row) (some : 0 < row.size) (extent : row.size ≤ row.end) (data_ : IsDataKey g (data_sectors p.backing_sectors v.backing) whole) where
    whole_live : is_live g gens row ≡ true → is_live g gens whole ≡ true
    whole_live live = live_part g gens whole row part some extent data_.ptrs ∙ live

    row_live : is_live g gens whole ≡ true → is_live g gens row ≡ true
    row_live live = sym (live_part g gens whole row part some extent data_.ptrs) ∙ live

    starts : 0 < whole.count → (ptr_at row 0).offset ≡ (ptr_at whole 0).offset + (start_of row - start_of whole)
    starts more =
        let small = (ptr_at row 0).offset_fits in
        let none : (ptr_at row 0).offset + (start_of row - start_of row) ≡ (ptr_at row 0).offset = omega arith in
        let own : place_at row 0 (start_of row) ≡ (ptr_at row 0).offset = ap (λ n. n % 2 ^ 43) none ∙ mod-eq_of_lt small in
        let from = part.from in
        let to = part.to in
        let covers : Covers whole (start_of row) = (omega (arith, from), omega (arith, to, some, extent)) in
        sym own ∙ part.places (start_of row) 0 (omega arith, omega (arith, some, extent)) more ∙ (lies_in_bucket g whole 0 (start_of row) (data_.ptrs 0 more) covers).0

    fits : 0 < whole.count → RowFits p offset row
    fits more =
        let lies = data_.ptrs 0 more in
        let ends = ends_within g (ptr_at whole 0).offset whole.size lies.bucket.1 lies.whole in
        let at = starts more in
        let from = part.from in
        let to = part.to in
        let few = data_.end more in (
          omega (arith, ends, at, from, to, some, extent, room),
          omega (arith, few, to, some, extent),
        )

    place_is : 0 < whole.count → (k : ℕ) → k < row.size → place_at whole 0 (start_of row + k) ≡ (ptr_at row 0).offset + k
    place_is more k low =
        let from = part.from in
        let to = part.to in
        let covers : Covers whole (start_of row + k) = (omega (arith, from), omega (arith, to, low, extent)) in
        let at = starts more in
        let apart : start_of row + k - start_of whole ≡ start_of row - start_of whole + k = omega (arith, from) in
        (lies_in_bucket g whole 0 (start_of row + k) (data_.ptrs 0 more) covers).0 ∙ ap (λ n. (ptr_at whole 0).offset + n) apart ∙ (let sum : (ptr_at whole 0).offset + (start_of row - start_of whole + k) ≡ (ptr_at row 0).offset + k = omega (arith, at) in sum)

    some_of : is_live g gens whole ≡ true → 0 < whole.count
    some_of live = live_some g gens whole live

    -- the row's sectors as the key has them
    to_key : 0 < whole.count → (k sector : ℕ) → k < row.size → sector ≡ start_of row + k → RowSame p offset row k → p.cache (place_at whole 0 sector) ≡ p.backing (offset + sector)
    to_key more k sector low is same =
        let at : offset + start_of row + k ≡ offset + (start_of row + k) = omega arith in
        ap (λ s. p.cache (place_at whole 0 s)) is ∙ ap p.cache (place_is more k low) ∙ same ∙ ap p.backing at ∙ ap (λ s. p.backing (offset + s)) (sym is)

    to_row : 0 < whole.count → (k sector : ℕ) → k < row.size → sector ≡ start_of row + k → p.cache (place_at whole 0 sector) ≡ p.backing (offset + sector) → RowSame p offset row k
    to_row more k sector low is same =
        let at : offset + start_of row + k ≡ offset + (start_of row + k) = omega arith in
        sym (ap p.cache (place_is more k low)) ∙ ap (λ s. p.cache (place_at whole 0 s)) (sym is) ∙ same ∙ ap (λ s. p.backing (offset + s)) is ∙ sym (ap p.backing at)

  -- ---- all of them

  range_of : (row : Key) → Contains index row → (row.size ≤ row.end) × (0 < row.size)
  range_of row has = All-contains (λ (k : Key). (k.size ≤ k.end) × (0 < k.size)) index row last.order.0 has

  behind_start : (row : Key) (sector : ℕ) → Covers row sector → sector ≡ start_of row + (sector - start_of row)
  behind_start row sector covers = let from = covers.0 in omega (arith, from)

  -- where a row tells that none of its sectors is apart, none of those is of which it is left
  agrees_in : (sector : ℕ) (key row : Key) → key_of v.reading sector ≡ Some key → is_live g gens key ≡ true → key.dirty ≡ false → Contains index row → Covers row sector → IsRest (last_key (keys_of v.reading)) key row
      → TellsRow g gens p offset row None → p.cache (place_at key 0 sector) ≡ p.backing (offset + sector)
  agrees_in sector key row is live clean has covers rest tells =
      let range = range_of row has in
      let data_ = data_of sector key is in
      let more = some_of key row rest.cut range.1 range.0 data_ live in
      let low : sector - start_of row < row.size = omega (arith, covers.0, covers.1, range.0) in
      to_key key row rest.cut range.1 range.0 data_ more (sector - start_of row) sector low (behind_start row sector covers)
      (tells (row_live key row rest.cut range.1 range.0 data_ live, rest.cut.kind.dirty ∙ clean) (fits key row rest.cut range.1 range.0 data_ more) (sector - start_of row) low)

  pub agrees : NoneApart g gens p offset index (length index) → AgreesWhereClean p v
  agrees none sector key is live clean =
      let row = row_at g gens (keys_of v.reading) index sector key last is in
      agrees_in sector key row.row is live clean row.has row.covers row.rest (subst (λ (x : Key). TellsRow g gens p offset x None) row.has.2 (none row.has.0 row.row row.has.1))

  module _ (sector : ℕ) (f : IsFirstApart g gens p offset index sector) where
    low_place : f.place < length index
    low_place = slice_get_within index f.place f.row f.at

    is_row : f.row ≡ get_or index f.place f.row
    is_row = key_here index f.place f.row f.at

    has_row : Contains index f.row
    has_row = (f.place, low_place, sym is_row)

    record Found : Type 0 where
      whole : Key
      look : key_of v.reading sector ≡ Some whole
      live : is_live g gens whole ≡ true
      clean : whole.dirty ≡ false
      k : ℕ
      at : sector ≡ start_of f.row + k
      low : k < f.row.size
      apart : ¬ (RowSame p offset f.row k)
      before : (i : ℕ) → i < k → RowSame p offset f.row i
      other : p.cache (place_at whole 0 sector) ≢ p.backing (offset + sector)

    found : Found
    found =
        let o = row_of g gens (keys_of v.reading) index f.row last has_row in
        let data_ = data_of (start_of f.row) o.whole o.look in
        let clean = f.apart.0 in
        let live = whole_live o.whole f.row o.rest.cut o.some o.extent data_ clean.0 in
        let more = some_of o.whole f.row o.rest.cut o.some o.extent data_ live in
        let a = f.apart.1 (fits o.whole f.row o.rest.cut o.some o.extent data_ more) in
        let at = a.1 in
        let low = a.2.0 in
        let extent = o.extent in
        record {
          whole = o.whole;
          look = o.rest.inside sector (omega (arith, at), omega (arith, at, low, extent));
          live = live;
          clean = sym o.rest.cut.kind.dirty ∙ clean.1;
          k = a.0;
          at = at;
          low = low;
          apart = a.2.1;
          before = a.2.2;
          other = λ same. a.2.1 (to_row o.whole f.row o.rest.cut o.some o.extent data_ more a.0 sector low at same);
        }

    -- an earlier row that has a sector apart
    not_before : (s : ℕ) (d : Disagrees p v s) (row : Key) (has : Contains index row) → Covers row s → IsRest (last_key (keys_of v.reading)) d.key row → has.0 < f.place → ⊥
    not_before s d row has covers rest low =
        let tells = subst (λ (x : Key). TellsRow g gens p offset x None) has.2 (f.before has.0 row low) in
        d.apart (agrees_in s d.key row d.last d.live d.clean has covers rest tells)

    -- a sector before it in the same row
    not_here : (s : ℕ) (d : Disagrees p v s) → s < sector → Covers f.row s → IsRest (last_key (keys_of v.reading)) d.key f.row → ⊥
    not_here s d less covers rest =
        let range = range_of f.row has_row in
        let data_ = data_of s d.key d.last in
        let more = some_of d.key f.row rest.cut range.1 range.0 data_ d.live in
        let at = found.at in
        let here : s - start_of f.row < found.k = omega (arith, covers.0, less, at) in
        let low : s - start_of f.row < f.row.size = omega (arith, covers.0, covers.1, range.0) in
        d.apart (to_key d.key f.row rest.cut range.1 range.0 data_ more (s - start_of f.row) s low (behind_start f.row s covers) (found.before (s - start_of f.row) here))

    not_behind : (s : ℕ) (row : Key) (has : Contains index row) → Covers row s → s < sector → f.place < has.0 → ⊥
    not_behind s row has covers less more =
        let apart = last.order.1 f.place has.0 row more has.1 in
        let one : get_or index f.place row ≡ f.row = get_or_default index f.place row f.row low_place ∙ sym is_row in
        let ends = subst (λ (x : Key). x.end ≤ start_of (get_or index has.0 row)) one apart in
        let starts_ = subst (λ (x : Key). f.row.end ≤ start_of x) has.2 ends in
        let range = range_of f.row has_row in
        let at = found.at in
        let low = found.low in
        absurd (omega (arith, starts_, range.0, covers.0, less, at, low))

    pub least_apart : IsLeast (Disagrees p v) sector
    least_apart = record {
      holds = record { key = found.whole; last = found.look; live = found.live; clean = found.clean; apart = found.other };
      least = λ s less d. (let row = row_at g gens (keys_of v.reading) index s d.key last d.last in where_ s d less row.row row.has row.covers row.rest (cases_lt row.has.0 f.place));
    }
      where
        same_row : (row : Key) (has : Contains index row) → has.0 ≡ f.place → row ≡ f.row
        same_row row has same = sym has.2 ∙ ap (λ n. get_or index n row) same ∙ get_or_default index f.place row f.row low_place ∙ sym is_row

        where_ : (s : ℕ) (d : Disagrees p v s) → s < sector → (row : Key) (has : Contains index row) → Covers row s → IsRest (last_key (keys_of v.reading)) d.key row → (has.0 < f.place) ⊎ (f.place ≤ has.0) → ⊥
        where_ s d less row has covers rest (inl low) = not_before s d row has covers rest low
        where_ s d less row has covers rest (inr most) = elim (cases_eq has.0 f.place) [
          | inl same ↦
              let one = same_row row has same in
              not_here s d less (subst (λ (x : Key). Covers x s) one covers) (subst (λ (x : Key). IsRest (last_key (keys_of v.reading)) d.key x) one rest)
          | inr other ↦ not_behind s row has covers less (omega (arith, most, other))
        ]

-- ---- of a survey

pub apart_told : (p : Pair) (b : BackingSuper) (c : CacheSuper) (g : Geometry) (j : Journal) (gens : Gens) (seen : List Visit) (index : List Key) (table : List Use) (h : HasSurvey p b c g j gens seen index table) (sector : Option ℕ)
    → g.bucket * g.nbuckets ≤ p.cache_sectors → TellsRows g gens p b.data_offset index sector → MatchOption sector (AgreesWhereClean p h.view) (IsLeast (Disagrees p h.view))
apart_told p b c g j gens seen index table h sector room tells =
    let v = h.view in
    let wide = subst (λ (x : Geometry). x.bucket * x.nbuckets ≤ p.cache_sectors) (sym h.geometry) room in
    let one = subst (λ (x : Geometry). TellsRows x gens p b.data_offset index sector) (sym h.geometry) tells in
    let two = subst (λ (x : Gens). TellsRows v.geometry x p b.data_offset index sector) (sym h.gens) one in
    go v h.index h.openable.pointers.data_keys wide sector (subst (λ (x : BackingSuper). TellsRows v.geometry v.reading.gens p x.data_offset index sector) (sym h.backing) two)
  where
    go : (v : View) → AreLastOfAll (keys_of v.reading) index → All (IsDataKey v.geometry (data_sectors p.backing_sectors v.backing)) (keys_of v.reading) → v.geometry.bucket * v.geometry.nbuckets ≤ p.cache_sectors → (o : Option ℕ)
        → TellsRows v.geometry v.reading.gens p v.backing.data_offset index o → MatchOption o (AgreesWhereClean p v) (IsLeast (Disagrees p v))
    go v last good room None tells = agrees p v index last good room tells
    go v last good room (Some s) tells = least_apart p v index last good room s tells
