-- For each part of soundness a small view that lacks it alone.
use Rattle.std.proofs.Common.{◌≡◌, ◌≢◌, inl, inr, ℕ, zero, suc, ◌+◌, ◌-◌, ◌*◌, ◌^◌, ◌<◌, ◌≤◌, false, List, [], ◌∷◌, ◌++◌, take, drop, replicate, refl, sym, subst, ap, ◌∙◌, lit<, lit≤, arith}
use Rattle.std.specs.Prelude.{slice_index_or}
use Rattle.std.proofs.lemmas.List.Elements.{All-nil, All-cons, All-contains}
use Rattle.bc_bytes.specs.Fields.{number_at}
use Rattle.bc_model.specs.Sector.{Image}
use Rattle.bc_model.specs.Pattern.{zeros}
use Rattle.bc_record.specs.Places.{end_of}
use Rattle.bc_key.specs.declared.key.Key.{Key}
use Rattle.bc_key.specs.Key.{ptr_at, place_at, Covers}
use Rattle.bc_extent.proofs.LastKeys.{last_key_found}
use Rattle.bc_jset.specs.Entries.{FoundEntry, bucket_start, bucket_end, StandIn}
use Rattle.bc_jset.specs.Records.{entry_kind}
use Rattle.bc_jset.specs.Ring.{bucket_of, bucket_after}
use Rattle.bc_jset.proofs.Records as jset
use Rattle.bc_disk.specs.Chain.{sets_in_chain, records_in_set}
use Rattle.bc_image.specs.Pair.{Pair}
use Rattle.bc_image.specs.Reading.{View}
use Rattle.bc_image.specs.Uses.{Use, IsUsedFor, IsSpare, LiesLive}
use Rattle.bc_image.specs.Uses as uses
use Rattle.bc_image.specs.Sound.{NamesBacking, AgreesWhereClean, HasSpareBuckets, HasNoStrayEntry, HasRoomForEntry}
use Rattle.bc_image.specs.Formatted.{AreBlank}
use Rattle.bc_image.proofs.Places.{lies_in_bucket}
use Rattle.std.proofs.lemmas.List.{get_or-replicate, length-replicate}
use Rattle.bc_record.specs.Sectors.{bytes_in, sector_bytes}
use Rattle.bc_record.proofs.Found.{takes_some}
use Rattle.bc_jset.proofs.Records.{entry_codec}
use Rattle.bc_uuid.specs.declared.entry.UuidEntry.{UuidEntry}
use Rattle.bc_uuid.specs.Entry.{IsEntry}
use Rattle.bc_uuid.specs.Table.{TableIn, HoldsEntries, entry_bytes}
use Rattle.bc_image.proofs.Examples.{geometry, table_key, clean_key, dirty_key, found_with, reading, backing_with, cache_super, clean_points, into_table, used_class}

-- ---- zeros

zeros_more : (n m : ℕ) → replicate {A = ℕ} n 0 ++ replicate m 0 ≡ replicate (n + m) 0
zeros_more zero m = (let same : m ≡ 0 + m = omega arith in ap (λ k. replicate {A = ℕ} k 0) same)
zeros_more (suc n) m = ap (λ (xs : List ℕ). 0 ∷ xs) (zeros_more n m) ∙ (let more : suc (n + m) ≡ suc n + m = omega arith in ap (λ k. replicate {A = ℕ} k 0) more)

zeros_dropped : (i n : ℕ) → drop i (replicate {A = ℕ} n 0) ≡ replicate (n - i) 0
zeros_dropped zero n = (let same : n ≡ n - 0 = omega arith in ap (λ k. replicate {A = ℕ} k 0) same)
zeros_dropped (suc i) zero = (let none : 0 ≡ 0 - suc i = omega arith in ap (λ k. replicate {A = ℕ} k 0) none)
zeros_dropped (suc i) (suc n) = zeros_dropped i n ∙ (let less : n - i ≡ suc n - suc i = omega arith in ap (λ k. replicate {A = ℕ} k 0) less)

zeros_taken : (k n : ℕ) → k ≤ n → take k (replicate {A = ℕ} n 0) ≡ replicate k 0
zeros_taken zero n le = refl
zeros_taken (suc k) zero le = absurd (omega arith)
zeros_taken (suc k) (suc n) le = ap (λ (xs : List ℕ). 0 ∷ xs) (zeros_taken k n (omega (arith, le)))

zero_sector : sector_bytes zeros ≡ replicate 512 0
unfolding zeros
zero_sector = refl

blank_bytes : (image : Image) (place n : ℕ) → AreBlank image place (place + n) → bytes_in image place n ≡ replicate (512 * n) 0
unfolding bytes_in
blank_bytes image place zero none = refl
blank_bytes image place (suc n) none =
    let first : image place ≡ zeros = none place (omega arith) (omega arith) in
    let rest = blank_bytes image (suc place) n (λ s low high. none s (omega (arith, low)) (omega (arith, high))) in
    let long : 512 + 512 * n ≡ 512 * suc n = omega arith in
    ap (λ v. sector_bytes v ++ bytes_in image (suc place) n) first ∙ ap (λ (xs : List ℕ). xs ++ bytes_in image (suc place) n) zero_sector
    ∙ ap (λ (xs : List ℕ). replicate 512 0 ++ xs) rest ∙ zeros_more 512 (512 * n) ∙ ap (λ k. replicate {A = ℕ} k 0) long

-- ---- the uuid table

abbrev pub unused : UuidEntry
unused = record { uuid = replicate 16 0; label = replicate 32 0; first_reg = 0; last_reg = 0; invalidated = 0; flags = 0; sectors = 0; uuid_whole = refl; label_whole = refl }

unused_entry : IsEntry (replicate 128 0) unused
unfolding number_at
unused_entry = record { uuid = refl; label = refl; first_reg = refl; last_reg = refl; invalidated = refl; flags = refl; sectors = refl }

module _ (journal : ℕ) (fits : 1 + journal ≤ 128) (cache : Image) (bucket : ℕ) (none : AreBlank cache (64 * bucket) (64 * bucket + 64)) where
  pub zero_table : TableIn (geometry journal fits) cache bucket (replicate 256 unused)
  zero_table = record { many = length-replicate 256 unused; holds = holds }
    where
      holds : HoldsEntries (bytes_in cache (64 * bucket) 64) (replicate 256 unused)
      holds i inside d =
          let few : i < 256 = omega (arith, inside, length-replicate {A = UuidEntry} 256 unused) in
          let bytes = blank_bytes cache (64 * bucket) 64 none in
          let width : 128 * i + 128 - 128 * i ≡ 128 = omega arith in
          let part : entry_bytes (bytes_in cache (64 * bucket) 64) i ≡ replicate 128 0 =
          ap (λ (bs : List ℕ). entry_bytes bs i) bytes ∙ ap (λ (k : ℕ). take k (drop (128 * i) (replicate {A = ℕ} 32768 0))) width
          ∙ ap (λ (bs : List ℕ). take 128 bs) (zeros_dropped (128 * i) 32768) ∙ zeros_taken 128 (32768 - 128 * i) (omega (arith, few)) in
          subst (λ (bs : List ℕ). IsEntry bs (slice_index_or (replicate 256 unused) i d)) (sym part) (subst (λ (e : UuidEntry). IsEntry (replicate 128 0) e) (sym (get_or-replicate 256 i unused d few)) unused_entry)

pub blank_table : (journal : ℕ) (fits : 1 + journal ≤ 128) (cache : Image) → AreBlank cache 7936 8000 → TableIn (geometry journal fits) cache 124 (replicate 256 unused)
blank_table journal fits cache none = zero_table journal fits cache 124 none

-- ---- views

abbrev pub view : (journal : ℕ) → 1 + journal ≤ 128 → (from chain seq generation : ℕ) → generation < 2 ^ 8 → (uuid : List ℕ) → (flags : ℕ) → View
view journal fits from chain seq generation small uuid flags = record { backing = backing_with uuid flags; cache = cache_super; geometry = geometry journal fits; reading = reading from chain seq generation small }

abbrev pub pair_of : Image → Image → ℕ → Pair
pair_of cache backing sectors = record { cache = cache; cache_sectors = 8192; backing = backing; backing_sectors = sectors }

module _ (journal : ℕ) (fits : 1 + journal ≤ 128) (few : journal ≤ 122) (from chain seq generation : ℕ) (small : generation < 2 ^ 8) where
  pub names : (cache : Image) (flags : ℕ) → AreBlank cache 7936 8000 → NamesBacking (view journal fits from chain seq generation small (replicate 16 0) flags) cache
  names cache flags none = record { bucket = 124; place = (ptr_at table_key 0, refl, refl); entries = replicate 256 unused; table = blank_table journal fits cache none; first = λ d. refl }

  pub agrees : (cache backing : Image) (sectors : ℕ) (uuid : List ℕ) (flags : ℕ) → AreBlank cache 8128 8192 → AreBlank backing 48 56 → AgreesWhereClean (pair_of cache backing sectors) (view journal fits from chain seq generation small uuid flags)
  agrees cache backing sectors uuid flags data_ calm s key is live clean =
      let found = last_key_found (clean_key ∷ dirty_key generation small ∷ []) s key is in
      All-contains (λ (k : Key). k.dirty ≡ false → (t : ℕ) → Covers k t → cache (place_at k 0 t) ≡ backing (16 + t)) (clean_key ∷ dirty_key generation small ∷ []) key
      (All-cons (λ (k : Key). k.dirty ≡ false → (t : ℕ) → Covers k t → cache (place_at k 0 t) ≡ backing (16 + t)) clean_key (dirty_key generation small ∷ [])
      (λ _ t covers.
      (let place = (lies_in_bucket (geometry journal fits) clean_key 0 t (clean_points journal fits few 0 (lit< tt)) covers).0 in
      data_ (place_at clean_key 0 t) (omega (arith, place)) (omega (arith, place, covers.0, covers.1)) ∙ sym (calm (16 + t) (omega (arith, covers.0)) (omega (arith, covers.1)))))
      (All-cons (λ (k : Key). k.dirty ≡ false → (t : ℕ) → Covers k t → cache (place_at k 0 t) ≡ backing (16 + t)) (dirty_key generation small) [] (λ no_. absurd (cc))
      (All-nil (λ (k : Key). k.dirty ≡ false → (t : ℕ) → Covers k t → cache (place_at k 0 t) ≡ backing (16 + t)))))
      found.0 clean s found.1

  pub no_strays : (cache : Image) → AreBlank cache 64 7936 → HasNoStrayEntry (geometry journal fits) cache (reading from chain seq generation small)
  no_strays cache none d (i, k, inside, place, found, whole) needed =
      let some = takes_some (entry_kind (geometry journal fits)) (entry_codec (geometry journal fits)) d.item in
      absurd (jset.none_in_zeros (geometry journal fits) cache (bucket_end (geometry journal fits) i) d.place d.item (none d.place (omega (arith, place)) (omega (arith, some, inside, few, whole))) found)

  stands : (cache : Image) (n : ℕ) → ((i : ℕ) → i < n → cache (64 * (1 + i)) ≡ zeros) → StandIn (geometry journal fits) cache n []
  stands cache zero none = refl
  stands cache (suc n) none =
      ([], [], stands cache n (λ i less. none i (omega (arith, less))), (λ e found. jset.none_in_zeros (geometry journal fits) cache (bucket_end (geometry journal fits) n) (bucket_start (geometry journal fits) n) e (none n (omega arith)) found), refl)

  pub room : (cache : Image) → ((i : ℕ) → i < journal → cache (64 * (1 + i)) ≡ zeros) → seq < 2 ^ 63 - 2 → HasRoomForEntry (geometry journal fits) cache (reading from chain seq generation small)
  room cache none less = record {
    number = less;
    all = [];
    stand = stands cache journal none;
    room = record {
      next = end_of (entry_kind (geometry journal fits)) (found_with seq generation small);
      place = record {
        last = (0, found_with seq generation small, lit< tt, refl, (refl, refl));
        behind =
            All-cons (λ (d : FoundEntry). bucket_of (geometry journal fits) d ≡ bucket_of (geometry journal fits) (found_with seq generation small) → end_of (entry_kind (geometry journal fits)) d ≤ end_of (entry_kind (geometry journal fits)) (found_with seq generation small)) (found_with seq generation small) []
            (λ same. omega arith) (All-nil (λ (d : FoundEntry). bucket_of (geometry journal fits) d ≡ bucket_of (geometry journal fits) (found_with seq generation small) → end_of (entry_kind (geometry journal fits)) d ≤ end_of (entry_kind (geometry journal fits)) (found_with seq generation small)));
      };
      room = inr (All-nil (λ (d : FoundEntry). bucket_of (geometry journal fits) d ≡ bucket_after (geometry journal fits) 1 → d.item.seq < 1));
    };
  }

pub one_set : (journal : ℕ) (fits : 1 + journal ≤ 128) → sets_in_chain (geometry journal fits) ≡ 1
unfolding sets_in_chain records_in_set
one_set journal fits = refl

-- with 121 buckets of the journal nothing uses bucket 122
not_122 : (from chain seq generation : ℕ) (small : generation < 2 ^ 8) → chain ≢ 122 → (what : Use) → IsUsedFor (geometry 121 (lit≤ tt)) (reading from chain seq generation small) what 122 → ⊥
not_122 from chain seq generation small other uses.Super used = absurd (omega (arith, used))
not_122 from chain seq generation small other uses.Journal used = absurd (omega (arith, used.1))
not_122 from chain seq generation small other uses.Priority (k, inside, at) = go k inside at
  where
    go : (m : ℕ) → m < 1 → slice_index_or (chain ∷ []) m 122 ≡ 122 → ⊥
    go zero less e = other e
    go (suc m) less e = absurd (omega arith)
not_122 from chain seq generation small other uses.Uuid used = absurd (omega (arith, into_table 121 (lit≤ tt) (lit≤ tt) 122 used))
not_122 from chain seq generation small other uses.Node used = elim (used_class 121 (lit≤ tt) (lit≤ tt) from seq generation small uses.Node 122 used).1 [ inl low ↦ omega (arith, low) | inr high ↦ omega (arith, high) ]
not_122 from chain seq generation small other uses.Data (s, key, lies) = elim (used_class 121 (lit≤ tt) (lit≤ tt) from seq generation small uses.Data 122 (s, key, record { last = lies.last; live = lies.live; place = lies.place })).1 [ inl low ↦ omega (arith, low) | inr high ↦ omega (arith, high) ]

pub spare : (from chain seq generation : ℕ) (small : generation < 2 ^ 8) → chain ≢ 122 → HasSpareBuckets (geometry 121 (lit≤ tt)) (reading from chain seq generation small)
spare from chain seq generation small other = record {
  spare = 122 ∷ [];
  different = λ i j d low high. absurd (omega arith);
  each = All-cons (IsSpare (geometry 121 (lit≤ tt)) (reading from chain seq generation small)) 122 [] (lit< tt, not_122 from chain seq generation small other) (All-nil (IsSpare (geometry 121 (lit≤ tt)) (reading from chain seq generation small)));
  enough = (let one = one_set 121 (lit≤ tt) in omega (arith, one));
}
