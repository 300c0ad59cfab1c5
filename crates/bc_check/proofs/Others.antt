-- Entries that stand in the journal's buckets and don't count.
use Rattle.std.proofs.Common.{◌≡◌, ◌⊎◌, inl, inr, ℕ, zero, suc, ◌+◌, ◌-◌, ◌*◌, ◌/◌, ◌<◌, ◌≤◌, Bool, true, false, List, [], ◌∷◌, ◌++◌, length, get_or, take, drop, Option, Some, None, refl, sym, subst, ap, ◌∙◌, arith}
use Rattle.std.specs.Bool.{MatchBool}
use Rattle.std.specs.Prelude.{Contains, MatchOption, not, slice_get}
use Rattle.std.proofs.Math.Nat.{mul-le-mul_left}
use Rattle.std.proofs.lemmas.Nat.{div-mul-add}
use Rattle.std.proofs.lemmas.Bool.{cases_lt, cases_eq}
use Rattle.std.proofs.lemmas.List.{drop_at, get_or_default, length-drop, take_all}
use Rattle.std.proofs.lemmas.List.Elements.{All-get_or}
use Rattle.bc_disk.specs.Disk.{DiskFacts, IfTold, IsRead}
use Rattle.bc_disk.specs.Gens.{Gens}
use Rattle.bc_disk.specs.declared.geometry.Geometry.{Geometry}
use Rattle.bc_entries.specs.Journal.{Journal}
use Rattle.bc_image.specs.Pair.{Pair}
use Rattle.bc_image.specs.Reading.{Reading}
use Rattle.bc_image.specs.Sound.{HasNoStrayEntry}
use Rattle.bc_image.proofs.Unique.{same_newest}
use Rattle.bc_jset.specs.Entries.{FoundEntry, AreEntries, AreNumbered, StandsInJournal, bucket_start, bucket_end}
use Rattle.bc_jset.specs.EntryBytes.{IsEntry, StandsAt}
use Rattle.bc_jset.specs.Records.{entry_kind, EntryFound}
use Rattle.bc_jset.specs.declared.entry.JEntry.{JEntry}
use Rattle.bc_jset.proofs.EntryLaws.{one_entry}
use Rattle.bc_jset.proofs.Entries.{found_number, stand_in_journal}
use Rattle.bc_jset.proofs.Records.{entry_codec}
use Rattle.bc_key.specs.declared.key.Key.{Key}
use Rattle.bc_model.specs.Sector.{Image, Gives, values_of}
use Rattle.bc_record.specs.Places.{at_place, bucket_at}
use Rattle.bc_record.specs.Sectors.{Has, bytes_in, bytes_to}
use Rattle.bc_record.proofs.Blocks.{bucket_blocks}
use Rattle.bc_record.proofs.Found.{one_found, takes_some, found_fits}
use Rattle.bc_record.proofs.Parts.{bytes_in-has, bytes_in-add, length-bytes_in}
use Rattle.bc_replay.specs.Survey.{HasSurvey}
use Rattle.bc_replay.specs.declared.uses.Use.{Use}
use Rattle.bc_replay.proofs.Behind.{newest_at}
use Rattle.bc_super.specs.declared.backing.BackingSuper.{BackingSuper}
use Rattle.bc_super.specs.declared.cache.CacheSuper.{CacheSuper}
use Rattle.bc_walk.specs.declared.visit.Visit.{Visit}
use Rattle.bc_check.specs.Strays.{IsStrayIn, IsListedAt, IsOtherAt, HasOther, HasOtherIn, NoneOther, TellsOther, TellsStray}
use Rattle.bc_check.specs.Verdict.{IsLeast}
use Rattle.bc_check.proofs.Pairs.{match_as}

-- ---- one sector

-- what a reader of the bytes has from a place on
pub whole_rest : (n : ℕ) (bytes : List ℕ) → take (length bytes - n) (drop n bytes) ≡ drop n bytes
whole_rest n bytes = take_all (length bytes - n) (drop n bytes) (let long = length-drop n bytes in omega (arith, long))

module _ (magic : ℕ) (bytes : List ℕ) (es : List FoundEntry) (low start sector : ℕ) where
  pub other_by : (seq : ℕ) (b : Bool) → ((entry : JEntry) × StandsAt magic bytes (512 * sector) entry × (entry.seq ≡ seq)) → low ≤ seq → MatchBool b (IsListedAt es low seq (start + sector)) (¬ (IsListedAt es low seq (start + sector)))
      → MatchBool (not b) (IsOtherAt magic bytes es low start sector) (¬ (IsOtherAt magic bytes es low start sector))
  other_by seq true (entry, stands, number) most listed = λ (other, at, rest). rest.1 (subst (λ n. IsListedAt es low n (start + sector)) (sym number ∙ ap (λ (e : JEntry). e.seq) (one_entry magic (drop (512 * sector) bytes) entry other stands at)) listed)
  other_by seq false (entry, stands, number) most not_ = (entry, stands, (omega (arith, number, most), λ listed. not_ (subst (λ n. IsListedAt es low n (start + sector)) number listed)))

-- ---- block after block

module _ (g : Geometry) (bytes : List ℕ) (es : List FoundEntry) (low start : ℕ) where
  abbrev At : ℕ → Type 0
  At sector = IsOtherAt g.set_magic bytes es low start sector

  pub other_at : (k sector : ℕ) → sector ≡ g.block * k → sector < g.bucket → At sector → HasOther g bytes es low start
  other_at k sector is inside other = (k, subst (λ n. n < g.bucket) is inside, subst At is other)

  pub none_next : (k sector : ℕ) → sector ≡ g.block * k → ((i : ℕ) → i < k → ¬ (At (g.block * i))) → ¬ (At sector) → (i : ℕ) → i < k + 1 → ¬ (At (g.block * i))
  none_next k sector is none not i low_ = elim (cases_eq i k) [
    | inl same ↦ λ other. not (subst At (ap (λ n. g.block * n) same ∙ sym is) other)
    | inr other ↦ none i (omega (arith, low_, other))
  ]

  pub none_all : (k sector : ℕ) → sector ≡ g.block * k → g.bucket ≤ sector → ((i : ℕ) → i < k → ¬ (At (g.block * i))) → ¬ (HasOther g bytes es low start)
  none_all k sector is most none (i, inside, other) = elim (cases_lt i k) [
    | inl less ↦ none i less other
    | inr above ↦ (let more : g.block * k ≤ g.block * i = mul-le-mul_left g.block above in absurd (omega (arith, is, most, inside, more)))
  ]

-- ---- the bytes of a bucket

-- what an image has from a sector of a bucket on, whose bytes these are
behind_sector : (image : Image) (start n sector : ℕ) (bytes : List ℕ) → length bytes ≡ 512 * n → Has image start (values_of bytes) → sector ≤ n → bytes_to image (start + n) (start + sector) ≡ drop (512 * sector) bytes
behind_sector image start n sector bytes whole has low =
    let width : start + n - (start + sector) ≡ n - sector = omega arith in
    let parts : sector + (n - sector) ≡ n = omega (arith, low) in
    let front = bytes_in image start sector in
    let rest = bytes_in image (start + sector) (n - sector) in
    let both : bytes ≡ front ++ rest = sym (bytes_in-has image start n bytes whole has) ∙ ap (bytes_in image start) (sym parts) ∙ bytes_in-add image start sector (n - sector) in
    ap (bytes_in image (start + sector)) width ∙ sym (ap (drop (512 * sector)) both ∙ drop_at front rest (512 * sector) (length-bytes_in image start sector))

module _ (g : Geometry) (image : Image) (i : ℕ) (bytes : List ℕ) (whole : length bytes ≡ 512 * g.bucket) (has : Has image (bucket_start g i) (values_of bytes)) (es : List FoundEntry) (low : ℕ) where
  other_found : HasOther g bytes es low (bucket_start g i) → HasOtherIn g image es low i
  other_found (k, inside, (entry, stands, other)) = (
    k,
    entry,
    inside,
    subst (λ (bs : List ℕ). IsEntry g.set_magic bs entry) (sym (behind_sector image (bucket_start g i) g.bucket (g.block * k) bytes whole has (omega (arith, inside)))) stands,
    other,
  )

  found_other : HasOtherIn g image es low i → HasOther g bytes es low (bucket_start g i)
  found_other (k, entry, inside, found, other) = (
    k,
    inside,
    (
      entry,
      subst (λ (bs : List ℕ). IsEntry g.set_magic bs entry) (behind_sector image (bucket_start g i) g.bucket (g.block * k) bytes whole has (omega (arith, inside))) found,
      other,
    ),
  )

pub bucket_told : (g : Geometry) (d : DiskFacts) (i : ℕ) (bytes : List ℕ) (es : List FoundEntry) (low : ℕ) (b : Bool) → length bytes ≡ 512 * g.bucket → IsRead (bucket_start g i) (values_of bytes) d
    → MatchBool b (HasOther g bytes es low (bucket_start g i)) (¬ (HasOther g bytes es low (bucket_start g i)))
    → IfTold d.holds (λ image. MatchBool b (HasOtherIn g image es low i) (¬ (HasOtherIn g image es low i)))
bucket_told g d i bytes es low b whole read tells = go d.holds read
  where
    go : (o : Option Image) → IfTold o (λ held. Gives (bucket_start g i) (values_of bytes) (λ s v. v ≡ held s)) → IfTold o (λ image. MatchBool b (HasOtherIn g image es low i) (¬ (HasOtherIn g image es low i)))
    go None has = tt
    go (Some image) has =
        match_as b (HasOther g bytes es low (bucket_start g i)) (HasOtherIn g image es low i) (other_found g image i bytes whole has es low) (found_other g image i bytes whole has es low) tells

-- ---- bucket after bucket

module _ (g : Geometry) (image : Image) (es : List FoundEntry) (low : ℕ) where
  pub none_before : NoneOther g image es low 0
  none_before i less = absurd (omega (arith, less))

  pub none_more : (i : ℕ) → NoneOther g image es low i → ¬ (HasOtherIn g image es low i) → NoneOther g image es low (i + 1)
  none_more i none here k less = elim (cases_eq k i) [
    | inl same ↦ subst (λ n. ¬ (HasOtherIn g image es low n)) (sym same) here
    | inr other ↦ none k (omega (arith, less, other))
  ]

module _ (g : Geometry) (j : Journal) (newest : FoundEntry) (at : slice_get j.entries (length j.entries - 1) ≡ Some newest) (image : Image) where
  pub stray_some : (i bucket : ℕ) → i < g.journal → bucket ≡ g.first_bucket + i → NoneOther g image j.entries newest.item.last_seq i → HasOtherIn g image j.entries newest.item.last_seq i → TellsStray g image j (Some bucket)
  stray_some i bucket inside is none other has =
      subst (λ (e : FoundEntry). TellsOther g image j.entries e.item.last_seq (Some bucket)) (sym (newest_at g image j has newest at)) (i, inside, is, other, none)

  pub stray_none : (i : ℕ) → g.journal ≤ i → NoneOther g image j.entries newest.item.last_seq i → TellsStray g image j None
  stray_none i most none has =
      subst (λ (e : FoundEntry). TellsOther g image j.entries e.item.last_seq None) (sym (newest_at g image j has newest at)) (λ k less. none k (omega (arith, less, most)))

-- ---- numbers that count up

numbers_of : (all : List FoundEntry) (low next : ℕ) (es : List FoundEntry) → AreNumbered all low es next → (k : ℕ) (d : FoundEntry) → k < length es → (get_or es k d).item.seq ≡ low + k
numbers_of all low next [] numbered k d inside = absurd (omega (arith, inside))
numbers_of all low next (e ∷ es) numbered zero d inside = found_number low all e numbered.0 ∙ (let same : low ≡ low + 0 = omega arith in same)
numbers_of all low next (e ∷ es) numbered (suc k) d inside = numbers_of all (suc low) next es numbered.1 k d (omega (arith, inside)) ∙ (let more : suc low + k ≡ low + suc k = omega arith in more)

-- ---- places in the journal

module _ (g : Geometry) where
  in_bucket : (i m : ℕ) → m < g.bucket → bucket_at g (bucket_start g i + m) ≡ g.first_bucket + i
  in_bucket i m inside =
      ap (λ n. n / g.bucket) (let turned : g.bucket * (g.first_bucket + i) + m ≡ (g.first_bucket + i) * g.bucket + m = grind arith in turned) ∙ div-mul-add (g.first_bucket + i) g.bucket m inside

  -- an entry at a block of a bucket is whole in it
  whole_there : (image : Image) (i k : ℕ) (entry : JEntry) → i < g.journal → g.block * k < g.bucket → EntryFound g image (bucket_end g i) (bucket_start g i + g.block * k) entry
      → StandsInJournal g image (at_place (bucket_start g i + g.block * k) entry)
  whole_there image i k entry low inside found =
      let blocks = bucket_blocks g in
      let rest = rest_of blocks.0 blocks.1 in
      (i, k, low, refl, found, found_fits (entry_kind g) (entry_codec g) image (bucket_end g i) (bucket_start g i + g.block * k) rest.0 entry rest.1 found)
    where
      rest_of : (n : ℕ) → g.bucket ≡ g.block * n → (m : ℕ) × (bucket_start g i + g.bucket ≡ bucket_start g i + g.block * k + g.block * m)
      rest_of n is =
          let some : k < n = (let more = inside in fewer n is (cases_lt k n)) in
          (n - k, (let product : g.block * k + g.block * (n - k) ≡ g.block * n = times n some in omega (arith, product, is)))
        where
          times : (n : ℕ) → k < n → g.block * k + g.block * (n - k) ≡ g.block * n
          times n some = (let parts : k + (n - k) ≡ n = omega (arith, some) in grind (arith))

          fewer : (n : ℕ) → g.bucket ≡ g.block * n → (k < n) ⊎ (n ≤ k) → k < n
          fewer n is (inl low) = low
          fewer n is (inr most) = grind (arith)

  -- by the end of its bucket, where it takes a sector at least
  inside_of : (image : Image) (entry : FoundEntry) (s : StandsInJournal g image entry) → g.block * s.1 < g.bucket
  inside_of image entry (i, k, low, place, found, fits) =
      let some = takes_some (entry_kind g) (entry_codec g) entry.item in
      omega (arith, place, fits, some)

  bucket_is : (image : Image) (entry : FoundEntry) (s : StandsInJournal g image entry) → bucket_at g entry.place ≡ g.first_bucket + s.0
  bucket_is image entry s = ap (bucket_at g) s.3 ∙ in_bucket s.0 (g.block * s.1) (inside_of image entry s)

-- ---- entries that count

module _ (g : Geometry) (image : Image) (es : List FoundEntry) (a : AreEntries g image es) where
  abbrev low : ℕ
  low = a.newest.item.last_seq

  listed_of : (entry : FoundEntry) → Contains es entry → IsListedAt es low entry.item.seq entry.place
  listed_of entry (k, inside, is) =
      let number : entry.item.seq ≡ low + k = ap (λ (x : FoundEntry). x.item.seq) (sym is) ∙ numbers_of a.all low (suc a.newest.item.seq) es a.numbered k entry inside in
      let at : entry.item.seq - low ≡ k = omega (arith, number) in (
        omega (arith, at, inside),
        λ d. ap (λ (x : FoundEntry). x.place) (ap (λ n. get_or es n d) at ∙ get_or_default es k d entry inside ∙ is),
      )

  has_listed : (entry : FoundEntry) → StandsInJournal g image entry → IsListedAt es low entry.item.seq entry.place → Contains es entry
  has_listed entry stands (inside, at) =
      let k = entry.item.seq - low in
      let d = get_or es k entry in
      let other : StandsInJournal g image d = All-get_or (StandsInJournal g image) es k entry inside (stand_in_journal g image es a) in
      let place : d.place ≡ entry.place = at entry in
      let bucket : g.first_bucket + other.0 ≡ g.first_bucket + stands.0 = sym (bucket_is g image d other) ∙ ap (bucket_at g) place ∙ bucket_is g image entry stands in
      let same : other.0 ≡ stands.0 = omega (arith, bucket) in
      let there = subst (λ i. EntryFound g image (bucket_end g i) d.place d.item) same other.4 in
      let here = subst (λ q. EntryFound g image (bucket_end g stands.0) q d.item) place there in
      let item : d.item ≡ entry.item = one_found (entry_kind g) (entry_codec g) image (bucket_end g stands.0) entry.place d.item entry.item here stands.4 in
      (k, inside, ap (λ q. at_place q d.item) place ∙ ap (λ (x : JEntry). at_place entry.place x) item)

  decide : (entry : FoundEntry) → IsListedAt es low entry.item.seq entry.place ⊎ ¬ (IsListedAt es low entry.item.seq entry.place)
  decide entry = elim (cases_lt (entry.item.seq - low) (length es)) [
    | inl inside ↦ elim (cases_eq (get_or es (entry.item.seq - low) entry).place entry.place) [
      | inl same ↦ inl (inside, λ d. ap (λ (x : FoundEntry). x.place) (get_or_default es (entry.item.seq - low) d entry inside) ∙ same)
      | inr other ↦ inr (λ listed. other (listed.1 entry))
    ]
    | inr past ↦ inr (λ listed. absurd (let inside = listed.0 in omega (arith, inside, past)))
  ]

  -- ---- a stray entry is another one

  module _ (r : Reading) (entries : r.entries ≡ es) (newest : a.newest ≡ r.newest) where
    low_is : r.newest.item.last_seq ≡ low
    low_is = ap (λ (x : FoundEntry). x.item.last_seq) (sym newest)

    stray_of : (i : ℕ) → i < g.journal → HasOtherIn g image es low i → IsStrayIn g image r (g.first_bucket + i)
    stray_of i inside (k, entry, block, found, other) =
        let stands = whole_there g image i k entry inside block found in
        let same = low_is in
        let most = other.0 in
        record {
          entry = at_place (bucket_start g i + g.block * k) entry;
          stands = stands;
          number = omega (arith, same, most);
          other = λ has. other.1 (listed_of (at_place (bucket_start g i + g.block * k) entry) (subst (λ (xs : List FoundEntry). Contains xs (at_place (bucket_start g i + g.block * k) entry)) entries has));
          lies = in_bucket g i (g.block * k) block;
        }

    other_of : (entry : FoundEntry) (s : StandsInJournal g image entry) → r.newest.item.last_seq ≤ entry.item.seq → ¬ (Contains r.entries entry) → HasOtherIn g image es low s.0
    other_of entry s number other =
        let same = low_is in (
          s.1,
          entry.item,
          inside_of g image entry s,
          subst (λ q. EntryFound g image (bucket_end g s.0) q entry.item) s.3 s.4,
          (
            omega (arith, same, number),
            λ listed. other (subst (λ (xs : List FoundEntry). Contains xs entry) (sym entries) (has_listed entry s (subst (λ q. IsListedAt es low entry.item.seq q) (sym s.3) listed))),
          ),
        )

    no_stray : NoneOther g image es low g.journal → HasNoStrayEntry g image r
    no_stray none entry s number = elim (decide entry) [
      | inl listed ↦ subst (λ (xs : List FoundEntry). Contains xs entry) (sym entries) (has_listed entry s listed)
      | inr other ↦
          let same = low_is in
          absurd (none s.0 s.2 (
            s.1,
            entry.item,
            inside_of g image entry s,
            subst (λ q. EntryFound g image (bucket_end g s.0) q entry.item) s.3 s.4,
            ((let more : low ≤ entry.item.seq = omega (arith, same, number) in more), λ listed. other (subst (λ q. IsListedAt es low entry.item.seq q) (sym s.3) listed)),
          ))
    ]

    least_stray : (bucket : ℕ) → TellsOther g image es low (Some bucket) → IsLeast (IsStrayIn g image r) bucket
    least_stray bucket (i, inside, is, other, before) = record {
      holds = subst (λ n. IsStrayIn g image r n) (sym is) (stray_of i inside other);
      least = λ n less s.
          (let there = bucket_is g image s.entry s.stands in
          let at = s.lies in
          let low_ : s.stands.0 < i = omega (arith, there, at, less, is) in
          before s.stands.0 low_ (other_of s.entry s.stands s.number s.other));
    }

-- ---- of a survey

pub stray_told : (p : Pair) (b : BackingSuper) (c : CacheSuper) (g : Geometry) (j : Journal) (gens : Gens) (seen : List Visit) (index : List Key) (table : List Use) (h : HasSurvey p b c g j gens seen index table) (bucket : Option ℕ)
    → TellsStray g p.cache j bucket → MatchOption bucket (HasNoStrayEntry h.view.geometry p.cache h.view.reading) (IsLeast (IsStrayIn h.view.geometry p.cache h.view.reading))
stray_told p b c g j gens seen index table h bucket tells =
    let r = h.view.reading in
    let a = h.journal.entries in
    let read = subst (λ (x : Geometry). (q : AreEntries x p.cache r.entries) × (q.newest ≡ r.newest)) h.geometry (h.is_view.reading.entries, h.is_view.reading.newest) in
    let newest : a.newest ≡ r.newest = sym (same_newest g p.cache r.entries j.entries read.0 a) ∙ read.1 in
    subst (λ (x : Geometry). MatchOption bucket (HasNoStrayEntry x p.cache r) (IsLeast (IsStrayIn x p.cache r))) (sym h.geometry) (go newest bucket (tells h.journal))
  where
    go : h.journal.entries.newest ≡ h.view.reading.newest → (o : Option ℕ) → TellsOther g p.cache j.entries h.journal.entries.newest.item.last_seq o
        → MatchOption o (HasNoStrayEntry g p.cache h.view.reading) (IsLeast (IsStrayIn g p.cache h.view.reading))
    go newest None none = no_stray g p.cache j.entries h.journal.entries h.view.reading h.entries newest none
    go newest (Some n) tells = least_stray g p.cache j.entries h.journal.entries h.view.reading h.entries newest n tells
