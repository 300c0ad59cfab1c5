-- A pair that was made anew is sound, and shows the data of the backing device.
use Rattle.std.proofs.Common.{◌≡◌, inl, inr, ℕ, zero, suc, ◌+◌, ◌-◌, ◌*◌, ◌<◌, ◌≤◌, true, false, List, [], ◌∷◌, length, Some, None, if◌then◌else◌, refl, sym, subst, ap, ◌∙◌, arith}
use Rattle.std.specs.Prelude.{◌/◌, ◌%◌, Contains, nat_lt, slice_index_or}
use Rattle.std.proofs.Math.Nat.{mul-add, mul-le-mul_left, mul-div_right, mul-mod_right}
use Rattle.std.proofs.lemmas.Bool.{cases_lt, lt-ltb}
use Rattle.std.proofs.lemmas.List.Elements.{All-nil, All-cons}
use Rattle.bc_model.specs.Sector.{Image}
use Rattle.bc_disk.specs.declared.geometry.Geometry.{Geometry}
use Rattle.bc_record.specs.Kind.{IsFound, NoneFound}
use Rattle.bc_record.specs.Places.{at_place, bucket_at}
use Rattle.bc_record.proofs.Blocks.{block_some, block_small, blocks_within}
use Rattle.bc_record.proofs.Found.{one_found, takes_some}
use Rattle.bc_record.proofs.Parts.{length-bytes_in}
use Rattle.bc_jset.specs.declared.entry.JEntry.{JEntry}
use Rattle.bc_jset.specs.EntryBytes.{bytes_of}
use Rattle.bc_jset.specs.Entries.{FoundEntry, bucket_start, bucket_end, StandIn, IsNewest, AreEntries, StandsInJournal}
use Rattle.bc_jset.specs.Records.{entry_kind, entry_sectors}
use Rattle.bc_jset.proofs.Records as jset
use Rattle.bc_jset.proofs.Records.{entry_codec}
use Rattle.bc_jset.proofs.Journal.{first_here}
use Rattle.bc_key.specs.declared.key.Key.{Key}
use Rattle.bc_key.specs.declared.ptr.Ptr.{Ptr}
use Rattle.bc_key.specs.Key.{ptr_at, pointer_of}
use Rattle.bc_key.specs.Words.{ptr_word}
use Rattle.bc_keys.specs.Spelling.{words_of_all}
use Rattle.bc_set.specs.declared.set.Set.{Set}
use Rattle.bc_set.specs.Records.{set_kind, set_sectors}
use Rattle.bc_set.proofs.NodeSets.{alone}
use Rattle.bc_set.proofs.Records as sets
use Rattle.bc_disk.specs.Chain.{sets_in_chain, records_in_set}
use Rattle.bc_disk.proofs.Amounts.{records_fit, part_begins, some_sets}
use Rattle.bc_image.specs.Pointers.{LiesInData, PointsIntoData, PointsInto}
use Rattle.bc_image.specs.Children.{is_bare}
use Rattle.bc_image.specs.Tree.{kind_at, AreSetsAt}
use Rattle.bc_image.specs.Formatted.{first_set, leaf_bucket, AreBlank, IsKeyTo, HasFirstEntry, HasOneSet, IsDivided}
use Rattle.bc_image.proofs.Unique.{some_same}

-- ---- nothing is found in zeros

blank_entry : (g : Geometry) (image : Image) (end q : ℕ) → AreBlank image q end → NoneFound (entry_kind g) image end q
blank_entry g image end q blank e found = elim (cases_lt q end) [
  | inl inside ↦ jset.none_in_zeros g image end q e (blank q (omega arith) inside) found
  | inr past ↦ let room = found.whole.header.room in absurd (omega (arith, room, past, length-bytes_in image q (end - q)))
]

blank_set : (g : Geometry) (level start : ℕ) (image : Image) (end q : ℕ) → AreBlank image q end → NoneFound (set_kind g start (kind_at level)) image end q
blank_set g level start image end q blank s found = elim (cases_lt q end) [
  | inl inside ↦ sets.none_in_zeros g start (kind_at level) image end q s (blank q (omega arith) inside) found
  | inr past ↦ let room = found.whole.header.room in absurd (omega (arith, room, past, length-bytes_in image q (end - q)))
]

-- ---- the journal

starts_rise : (g : Geometry) (i j : ℕ) → i ≤ j → bucket_start g i ≤ bucket_start g j
starts_rise g i j le = mul-le-mul_left g.bucket (omega (arith, le))

start_next : (g : Geometry) (i : ℕ) → bucket_start g (suc i) ≡ bucket_end g i
start_next g i =
    let more : g.bucket * (g.first_bucket + i + 1) ≡ g.bucket * (g.first_bucket + i) + g.bucket * 1 = mul-add g.bucket (g.first_bucket + i) 1 in
    let here : g.first_bucket + suc i ≡ g.first_bucket + i + 1 = omega arith in
    ap (λ n. g.bucket * n) here ∙ omega (arith, more)

-- an entry without keys takes a block
pub sectors_small : (g : Geometry) (e : JEntry) → e.keys ≡ [] → entry_sectors g e ≤ g.block
sectors_small g e none =
    let long : bytes_of e ≡ 240 = ap (λ (ks : List Key). 240 + 8 * length (words_of_all ks)) none in
    let some = block_some g in
    let within = blocks_within g.block (bytes_of e) 1 some (omega (arith, long, some)) in
    omega (arith, within)

module _ (g : Geometry) (image : Image) (e : JEntry) (first : HasFirstEntry g image e) where
  abbrev pub first_found : FoundEntry
  first_found = at_place (bucket_start g 0) e

  pub first_stands : (n : ℕ) → suc n ≤ g.journal → StandIn g image (suc n) (first_found ∷ [])
  first_stands zero some =
      let next = start_next g 0 in
      let rise = starts_rise g 1 g.journal some in (
        [],
        e ∷ [],
        refl,
        (first.stands, blank_entry g image (bucket_end g 0) (bucket_start g 0 + entry_sectors g e) (λ s low high. first.blank s low (omega (arith, high, next, rise)))),
        refl,
      )
  first_stands (suc n) some =
      let next = start_next g 0 in
      let low_rise = starts_rise g 1 (suc n) (omega arith) in
      let high_rise = starts_rise g (suc (suc n)) g.journal some in
      let last = start_next g (suc n) in
      let small = sectors_small g e first.keys in
      let block = block_small g in
      let wide = g.bucket_from in (
        first_found ∷ [],
        [],
        first_stands n (omega (arith, some)),
        blank_entry g image (bucket_end g (suc n)) (bucket_start g (suc n)) (λ s low high. first.blank s (omega (arith, low, low_rise, next, small, block, wide)) (omega (arith, high, last, high_rise))),
        refl,
      )

  pub all_stand : 0 < g.journal → StandIn g image g.journal (first_found ∷ [])
  all_stand some =
      let is : suc (g.journal - 1) ≡ g.journal = omega (arith, some) in
      subst (λ n. StandIn g image n (first_found ∷ [])) is (first_stands (g.journal - 1) (omega (arith, some)))

  first_is_newest : IsNewest (first_found ∷ []) first_found
  first_is_newest = record { counts = first_here e.seq first_found [] refl; greatest = All-cons (λ (d : FoundEntry). d.item.seq ≤ e.seq) first_found [] (omega arith) (All-nil (λ (d : FoundEntry). d.item.seq ≤ e.seq)) }

  pub first_listed : 0 < g.journal → (a : AreEntries g image (first_found ∷ [])) × (a.newest ≡ first_found)
  first_listed some =
      let seq = first.seq in
      let last_seq = first.last_seq in (
        record {
          all = first_found ∷ [];
          stand = all_stand some;
          newest = first_found;
          is_newest = first_is_newest;
          reaches = omega (arith, seq, last_seq);
          numbered = (first_here e.last_seq first_found [] (seq ∙ sym last_seq), (let same : suc e.last_seq ≡ suc e.seq = omega (arith, seq, last_seq) in same));
        },
        refl,
      )

  -- any other entry would stand in zeros
  pub first_alone : (d : FoundEntry) → StandsInJournal g image d → Contains (first_found ∷ []) d
  first_alone d (i, k, inside, place, found, fits) = elim (cases_lt d.place (bucket_start g 0 + entry_sectors g e)) [
    | inr behind ↦
        let some = takes_some (entry_kind g) (entry_codec g) d.item in
        let next = start_next g i in
        let rise = starts_rise g (suc i) g.journal inside in
        absurd (jset.none_in_zeros g image (bucket_end g i) d.place d.item (first.blank d.place behind (omega (arith, some, next, rise, fits))) found)
    | inl before ↦ at_first (first_place i k place before)
  ]
    where
      small : entry_sectors g e ≤ g.block
      small = sectors_small g e first.keys

      block_more : (j : ℕ) → g.block ≤ g.block * suc j
      block_more j = let more : g.block * 1 ≤ g.block * suc j = mul-le-mul_left g.block (omega arith) in omega (arith, more)

      first_place : (m j : ℕ) → d.place ≡ bucket_start g m + g.block * j → d.place < bucket_start g 0 + entry_sectors g e → (m ≡ 0) × (d.place ≡ bucket_start g 0)
      first_place zero zero at low = (refl, omega (arith, at))
      first_place zero (suc j) at low = let more = block_more j in let few = small in absurd (omega (arith, at, low, more, few))
      first_place (suc m) j at low =
          let rise = starts_rise g 1 (suc m) (omega arith) in
          let next = start_next g 0 in
          let few = small in
          let block = block_small g in
          let wide = g.bucket_from in
          absurd (omega (arith, at, low, rise, next, few, block, wide))

      at_first : (i ≡ 0) × (d.place ≡ bucket_start g 0) → Contains (first_found ∷ []) d
      at_first (bucket, here) =
          let there = subst (λ m. IsFound (entry_kind g) image (bucket_end g m) d.place d.item) bucket found in
          let start = subst (λ q. IsFound (entry_kind g) image (bucket_end g 0) q d.item) here there in
          let same : e ≡ d.item = one_found (entry_kind g) (entry_codec g) image (bucket_end g 0) (bucket_start g 0) e d.item first.stands start in
          (0, (let one : 0 < 1 = omega arith in one), ap (λ q. at_place q e) (sym here) ∙ ap (λ (x : JEntry). at_place d.place x) same)

-- ---- keys to buckets

module _ (g : Geometry) (bucket end size : ℕ) (key : Key) (to : IsKeyTo g bucket end size key) where
  pub key_points : pointer_of key ≡ Some (ptr_at key 0)
  key_points =
      let count = to.count in
      let test : nat_lt 0 key.count ≡ true = lt-ltb 0 key.count (omega (arith, count)) in
      let at : (if nat_lt 0 key.count then Some (ptr_at key 0) else None) ≡ Some (ptr_at key 0) = rw test refl in
      at

  pub not_bare : is_bare key ≡ false
  not_bare =
      let count = to.count in
      let test : nat_lt 0 key.count ≡ true = lt-ltb 0 key.count (omega (arith, count)) in
      rw test refl

  bucket_is : bucket_at g (ptr_at key 0).offset ≡ bucket
  bucket_is =
      let wide = g.bucket_from in
      ap (λ n. n / g.bucket) to.offset ∙ mul-div_right bucket (let some : zero < g.bucket = omega (arith, wide) in some)

  pub into_bucket : PointsInto g key bucket
  into_bucket = (ptr_at key 0, key_points, bucket_is)

  pub only_bucket : (b : ℕ) → PointsInto g key b → b ≡ bucket
  only_bucket b (ptr, points, at) =
      let same : ptr_at key 0 ≡ ptr = some_same (ptr_at key 0) ptr (sym key_points ∙ points) in
      sym at ∙ ap (λ (x : Ptr). bucket_at g x.offset) (sym same) ∙ bucket_is

  pub lies_whole : first_set g ≤ bucket → bucket < g.nbuckets → size ≤ g.bucket → PointsIntoData g key
  lies_whole low high fits i inside =
      let count = to.count in
      let is : 0 ≡ i = omega (arith, count, inside) in
      let none : (g.bucket * bucket) % g.bucket ≡ 0 = mul-mod_right g.bucket bucket in
      let at : (ptr_at key 0).offset % g.bucket ≡ 0 = ap (λ n. n % g.bucket) to.offset ∙ none in
      let long = to.long in
      subst (λ n. LiesInData g (ptr_at key n) key.size) is
      (record { device = to.device; bucket = subst (λ n. (g.first_bucket + g.journal ≤ n) × (n < g.nbuckets)) (sym bucket_is) (low, high); whole = omega (arith, at, long, fits) })

-- ---- a node with one set

pub one_set_at : (g : Geometry) (image : Image) (level bucket end size : ℕ) (key : Key) (s : Set) → IsKeyTo g bucket end size key → HasOneSet g image level key s → AreSetsAt g image level key (s ∷ [])
one_set_at g image level bucket end size key s to has = record {
  ptr = ptr_at key 0;
  points = key_points g bucket end size key to;
  stand = alone g (ptr_word (ptr_at key 0)) (kind_at level) image ((ptr_at key 0).offset + g.node_sectors) (ptr_at key 0).offset s has.stands
      (blank_set g level (ptr_word (ptr_at key 0)) image ((ptr_at key 0).offset + g.node_sectors) ((ptr_at key 0).offset + set_sectors g s) has.blank);
  some = λ none. absurd (omega (arith, ap (λ (ss : List Set). length ss) none));
}

-- ---- numbers one behind the other

abbrev pub counted : ℕ → ℕ → List ℕ
counted from zero = []
counted from (suc n) = from ∷ counted (suc from) n

pub counted_long : (from n : ℕ) → length (counted from n) ≡ n
counted_long from zero = refl
counted_long from (suc n) = ap suc (counted_long (suc from) n)

pub counted_at : (from n k d : ℕ) → k < n → slice_index_or (counted from n) k d ≡ from + k
counted_at from zero k d inside = absurd (omega arith)
counted_at from (suc n) zero d inside = omega arith
counted_at from (suc n) (suc k) d inside = counted_at (suc from) n k d (omega arith) ∙ (let more : suc from + k ≡ from + suc k = omega arith in more)

-- ---- enough buckets

pub enough : (g : Geometry) → IsDivided g → leaf_bucket g + sets_in_chain g < g.nbuckets
enough g divided =
    let first = divided.first_bucket in
    let journal = divided.journal in
    let many = g.buckets_from in
    let some = some_sets g in
    let before = part_begins g (sets_in_chain g - 1) (omega (arith, some)) in
    let wide = (records_fit g).many in
    let less : (sets_in_chain g - 1) * 10909 ≤ (sets_in_chain g - 1) * records_in_set g = mul-le-mul_left (sets_in_chain g - 1) wide in
    omega (arith, first, journal, many, some, before, less)
