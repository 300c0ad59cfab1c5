-- Of an opening's entry on a pair that was made anew no part is read by chance.
use Rattle.std.proofs.Common.{◌≡◌, inl, inr, ℕ, zero, suc, ◌+◌, ◌-◌, ◌*◌, ◌<◌, ◌≤◌, List, [], ◌∷◌}
use Rattle.std.proofs.Common.{◌++◌, length, take, drop, Some, if◌then◌else◌, refl, sym, subst, ap}
use Rattle.std.proofs.Common.{◌∙◌, arith}
use Rattle.std.specs.Prelude.{◌/◌, Any}
use Rattle.std.proofs.Math.Nat.{mul-add, mul-le-mul_left, mul-div_right, lt_of_mul-lt-mul_left}
use Rattle.std.proofs.lemmas.Bool.{cases_lt}
use Rattle.std.proofs.lemmas.List.{length-take-le, take-append-le, take-take}
use Rattle.std.proofs.lemmas.List.Elements.{All-head}
use Rattle.bc_model.specs.Sector.{Image, Value, at_run, sectors, values_of}
use Rattle.bc_model.proofs.Runs.{at_range}
use Rattle.bc_model.proofs.Sectors.{length_sectors, values_whole}
use Rattle.bc_disk.specs.Disk.{Torn}
use Rattle.bc_disk.specs.declared.geometry.Geometry.{Geometry}
use Rattle.bc_record.specs.Kind.{IsFound}
use Rattle.bc_record.specs.Places.{end_of}
use Rattle.bc_record.specs.Sectors.{bytes_in, bytes_to, sector_bytes}
use Rattle.bc_record.proofs.Blocks.{block_small}
use Rattle.bc_record.proofs.Found.{found_stays, one_found, takes_some}
use Rattle.bc_record.proofs.Parts.{bytes_in-front, sector_of_whole}
use Rattle.bc_key.specs.declared.key.Key.{Key}
use Rattle.bc_keys.specs.Spelling.{words_of_all}
use Rattle.bc_jset.specs.declared.entry.JEntry.{JEntry}
use Rattle.bc_jset.specs.EntryBytes.{bytes_of}
use Rattle.bc_jset.specs.Entries.{FoundEntry, bucket_end, bucket_start}
use Rattle.bc_jset.specs.Records.{entry_kind, entry_sectors}
use Rattle.bc_jset.specs.Ring.{bucket_of}
use Rattle.bc_jset.proofs.Entries.{one_list, one_stand}
use Rattle.bc_jset.proofs.EntryLaws.{entry_stays, one_entry}
use Rattle.bc_jset.proofs.Records.{entry_codec, none_in_zeros}
use Rattle.bc_meta.specs.Facts.{IsAtBlock}
use Rattle.bc_meta.proofs.Lists.{by_test}
use Rattle.bc_image.specs.Formatted.{HasFirstEntry}
use Rattle.bc_image.proofs.Formatted.{all_stand, first_found, first_listed, sectors_small}
use Rattle.bc_facts.specs.Whole.{IsWhole}
use Rattle.bc_journal.specs.Sealed.{AreBytesOf, sector_at}
use Rattle.bc_enter.specs.Entry.{GoesTo, IsBehind, IsInFront}
use Rattle.bc_entered.specs.Entry.{NoTornEntry}
use Rattle.bc_entered_example.specs.Laws.{LawTears}

-- ---- buckets and blocks

next_start : (g : Geometry) (i : ℕ) → bucket_start g (suc i) ≡ bucket_end g i
next_start g i =
    let more = mul-add g.bucket (g.first_bucket + i) 1 in
    let here : g.first_bucket + suc i ≡ g.first_bucket + i + 1 = omega arith in
    ap (λ n. g.bucket * n) here ∙ omega (arith, more)

-- a bucket ends in front of a later one
ends_before : (g : Geometry) (i j : ℕ) → i < j → bucket_end g i ≤ bucket_start g j
ends_before g i j lt =
    let rise : bucket_start g (suc i) ≤ bucket_start g j =
    mul-le-mul_left g.bucket (omega (arith, lt)) in
    let next = next_start g i in
    omega (arith, rise, next)

-- two blocks of a bucket are one, where the one begins in the other
same_block : (block j m from : ℕ) → from + block * m ≤ from + block * j
    → from + block * j < from + block * m + block → j ≡ m
same_block block j m from low high =
    let over : block * (m + 1) ≡ block * m + block * 1 = mul-add block m 1 in
    let under : block * (j + 1) ≡ block * j + block * 1 = mul-add block j 1 in
    let up : j < m + 1 = lt_of_mul-lt-mul_left block (omega (arith, high, over)) in
    let some : 0 < block = omega (arith, low, high) in
    let down : m < j + 1 = lt_of_mul-lt-mul_left block (omega (arith, low, under, some)) in
    omega (arith, up, down)

-- ---- values

first_value : (at : ℕ) (v : Value) (vs : List Value) → at_run at (v ∷ vs) at ≡ Some v
first_value at v vs = by_test at at
    (λ t. (if t then Some v else at_run (suc at) vs at) ≡ Some v) (λ e. refl)
    (λ ne. absurd (ne refl))

-- whole sectors begin with the first one
begin_with : (at n : ℕ) (bytes : List ℕ) → 0 < n → length bytes ≡ 512 * n
    → at_run at (values_of bytes) at ≡ Some (take 512 bytes)
begin_with at zero bytes some whole = absurd (omega (arith, some))
begin_with at (suc n) bytes some whole =
    ap (λ vs. at_run at vs at) (values_whole (suc n) bytes whole)
    ∙ first_value at (take 512 bytes) (sectors n (drop 512 bytes))

some_same : (a b : Value) → Some a ≡ Some b → a ≡ b
some_same a b same = cc

one_of : (P : FoundEntry → Type 0) (x : FoundEntry) → Any P (x ∷ []) → P x
one_of P x (zero, y, inside, is, holds) = subst P (sym is) holds
one_of P x (suc k, y, inside, is, holds) = absurd (omega (arith, inside))

-- ---- an entry without keys, over zeros

module _ (g : Geometry) (image : Image) (one : JEntry) (first : HasFirstEntry g image one) where
  abbrev found : FoundEntry
  found = first_found g image one first

  abbrev start : ℕ
  start = bucket_start g 0

  one_small : entry_sectors g one ≤ g.block
  one_small = sectors_small g one first.keys

  -- the first entry's block ends within the first bucket
  one_inside : start + entry_sectors g one ≤ bucket_end g 0
  one_inside =
      let small = one_small in
      let block = block_small g in
      let wide = g.bucket_from in
      omega (arith, small, block, wide)

  at_start : bucket_of g found ≡ g.first_bucket + 0
  at_start =
      let wide = g.bucket_from in
      mul-div_right (g.first_bucket + 0) (let some : zero < g.bucket = omega (arith, wide) in some)

  -- Where an entry goes: a block behind the first entry's.
  pub record IsPlaced (k at : ℕ) : Type 0 where
    block : ℕ
    here : at ≡ bucket_start g k + g.block * block
    behind : start + entry_sectors g one ≤ at

  placed_behind : (k at : ℕ) → IsBehind g (found ∷ []) found k at → IsPlaced k at
  placed_behind k at h = record {
    block = (bytes_of one + (512 * g.block - 1)) / (512 * g.block);
    here =
        let end = at_end h.next.last in
        let same = at_start in
        let bucket = h.bucket in
        let none : k ≡ 0 = omega (arith, same, bucket) in
        sym end ∙ ap (λ n. bucket_start g n + entry_sectors g one) (sym none);
    behind = let end = at_end h.next.last in omega (arith, end);
  }
    where
      at_end : Any (λ (e : FoundEntry). (bucket_of g e ≡ bucket_of g found)
          × (end_of (entry_kind g) e ≡ at)) (found ∷ []) → start + entry_sectors g one ≡ at
      at_end last = (one_of (λ (e : FoundEntry). (bucket_of g e ≡ bucket_of g found)
          × (end_of (entry_kind g) e ≡ at)) found last).1

  placed_front : (k at : ℕ) → IsInFront g (found ∷ []) found k at → IsPlaced k at
  placed_front k at h = record {
    block = 0;
    here = let is = h.first in omega (arith, is);
    behind =
        let is = h.first in
        let room = one_inside in
        let before = ends_before g 0 k (some k (λ same. free same)) in
        omega (arith, is, room, before);
  }
    where
      free : k ≡ 0 → ⊥
      free same =
          let lower = All-head (λ (e : FoundEntry). bucket_of g e ≡ g.first_bucket + k
          → e.item.seq < found.item.last_seq) found [] h.free in
          let here = at_start in
          let less = lower (omega (arith, here, same)) in
          let seq = first.seq in
          let last = first.last_seq in
          omega (arith, less, seq, last)

      some : (n : ℕ) → (n ≡ 0 → ⊥) → 0 < n
      some zero other = absurd (other refl)
      some (suc n) other = omega arith

  module _ (e : JEntry) (none : e.keys ≡ []) (bytes : List ℕ) (are : AreBytesOf g e bytes)
      (k at : ℕ) (placed : IsPlaced k at) (inside : at + entry_sectors g e ≤ bucket_end g k) where
    small : entry_sectors g e ≤ g.block
    small = sectors_small g e none

    some : 0 < entry_sectors g e
    some = takes_some (entry_kind g) (entry_codec g) e

    long : length (values_of bytes) ≡ entry_sectors g e
    long = ap (λ (vs : List Value). length vs) (values_whole (entry_sectors g e) bytes are.whole)
        ∙ length_sectors (entry_sectors g e) bytes

    -- a place of the journal in what is written is where it begins
    same_place : (c place : ℕ) → IsAtBlock g.block (bucket_start g c) place → place < bucket_end g c
        → at ≤ place → place < at + entry_sectors g e → (c ≡ k) × (place ≡ at)
    same_place c place block end low high = elim (cases_lt c k) [
      | inl before ↦ (let apart = ends_before g c k before in let here = placed.here in
          absurd (omega (arith, apart, here, low, end)))
      | inr from ↦ elim (cases_lt k c) [
        | inl after ↦ (let apart = ends_before g k c after in let here = block.1 in
            let room = inside in absurd (omega (arith, apart, here, high, room)))
        | inr to ↦ (
            let same : c ≡ k = omega (arith, from, to) in
            let there : place ≡ bucket_start g k + g.block * block.0 =
            block.1 ∙ ap (λ n. bucket_start g n + g.block * block.0) same in
            let here = placed.here in
            let few = small in
            let one = same_block g.block block.0 placed.block (bucket_start g k)
            (omega (arith, here, there, low)) (omega (arith, here, there, high, few)) in
            (same, there ∙ ap (λ n. bucket_start g k + g.block * n) one ∙ sym here))
      ]
    ]

    -- in front of the first entry's end there is its own place alone
    front_place : (c place : ℕ) → IsAtBlock g.block (bucket_start g c) place
        → place < start + entry_sectors g one → (c ≡ 0) × (place ≡ start)
    front_place zero place (zero, here) low = (refl, omega (arith, here))
    front_place zero place (suc j, here) low =
        let more : g.block * (j + 1) ≡ g.block * j + g.block * 1 = mul-add g.block j 1 in
        let few = one_small in absurd (omega (arith, here, low, more, few))
    front_place (suc c) place (j, here) low =
        let before = ends_before g 0 (suc c) (omega arith) in
        let room = one_inside in
        absurd (omega (arith, here, low, before, room))

    module _ (left : Image) (torn : Torn at (values_of bytes) image left) where
      written : (s : ℕ) → at_run at (values_of bytes) s ≡ Some (left s)
          → (at ≤ s) × (s < at + entry_sectors g e)
      written s new =
          let range = at_range at (values_of bytes) s (left s) new in
          let low = range.0 in
          let high = range.1 in
          let n = long in
          (low, omega (arith, high, n))

      -- the first entry is what it was
      stays : IsFound (entry_kind g) left (bucket_end g 0) start one
      stays = found_stays (entry_kind g) (entry_codec g) image left (bucket_end g 0) start one
          first.stands
          (λ s low high. elim (torn s) [
            | inl same ↦ sym same
            | inr new ↦ (let from = (written s new).0 in let apart = placed.behind in
                absurd (omega (arith, from, apart, high)))
          ]) one_inside

      at_first : (c place : ℕ) (f : JEntry) → c ≡ 0 → place ≡ start
          → IsWhole (entry_kind g) left (bucket_end g c) place f
          → IsWhole (entry_kind g) image (bucket_end g c) place f
      at_first c place f bucket here whole =
          let there = subst (λ q. IsFound (entry_kind g) left (bucket_end g 0) q f) here
          (subst (λ n. IsFound (entry_kind g) left (bucket_end g n) place f) bucket whole.0) in
          let same : one ≡ f = one_found (entry_kind g) (entry_codec g) left (bucket_end g 0) start
          one f stays there in
          let back = subst (λ (x : JEntry). IsFound (entry_kind g) image (bucket_end g 0) start x)
          same first.stands in (
            subst (λ n. IsFound (entry_kind g) image (bucket_end g n) place f) (sym bucket)
                (subst (λ q. IsFound (entry_kind g) image (bucket_end g 0) q f) (sym here) back),
            whole.1,
          )

      -- where the first new sector stands, the new entry is read
      new_is : (end : ℕ) (f : JEntry) → at < end → at_run at (values_of bytes) at ≡ Some (left at)
          → IsFound (entry_kind g) left end at f → f ≡ e
      unfolding bytes_in
      new_is end f room new read =
          let n = bytes_of e in
          let length_is : n ≡ 240 =
          ap (λ (ks : List Key). 240 + 8 * length (words_of_all ks)) none in
          let few : n ≤ 512 = omega (arith, length_is) in
          let size = are.whole in
          let more = some in
          let value : take 512 bytes ≡ left at = some_same (take 512 bytes) (left at)
          (sym (begin_with at (entry_sectors g e) bytes some are.whole) ∙ new) in
          let whole : length (take 512 bytes) ≡ 512 =
          length-take-le 512 bytes (omega (arith, size, more)) in
          let sector : sector_bytes (left at) ≡ take 512 bytes =
          ap sector_bytes (sym value) ∙ sector_of_whole (take 512 bytes) whole in
          let same : take n (bytes_to left end at) ≡ take n bytes =
          bytes_in-front left at 1 (end - at) n (omega (arith, room)) (omega (arith, few))
          ∙ ap (λ (v : List ℕ). take n (v ++ [])) sector
          ∙ take-append-le n (take 512 bytes) [] (omega (arith, few, whole))
          ∙ take-take n 512 bytes few in
          one_entry g.set_magic (bytes_to left end at) f e read
          (entry_stays g.set_magic bytes (bytes_to left end at) e are.entry same)

    pub none_torn : NoTornEntry g image k at e (values_of bytes)
    none_torn left c place f torn low block whole =
        let size = takes_some (entry_kind g) (entry_codec g) f in
        let fits = whole.1 in
        let before : place < bucket_end g c = omega (arith, size, fits) in
        elim (cases_lt place (start + entry_sectors g one)) [
          | inl front ↦ (let is = front_place c place block front in
              inl (at_first left torn c place f is.0 is.1 whole))
          | inr behind ↦ elim (torn place) [
            | inl same ↦ (let last = ends_before g c g.journal low in
                absurd (none_in_zeros g left (bucket_end g c) place f
                (same ∙ first.blank place behind (omega (arith, before, last))) whole.0))
            | inr new ↦ (
                let range = written left torn place new in
                let is = same_place c place block before range.0 range.1 in
                inr (
                  is.0,
                  is.1,
                  new_is left torn (bucket_end g c) f
                      (let here = is.1 in omega (arith, before, here))
                      (subst (λ s. at_run at (values_of bytes) s ≡ Some (left s)) is.1 new)
                      (subst (λ q. IsFound (entry_kind g) left (bucket_end g c) q f) is.1 whole.0),
                ))
          ]
        ]

  -- wherever it goes behind the first one
  pub none_torn_at : (e : JEntry) → e.keys ≡ [] → (bytes : List ℕ) → AreBytesOf g e bytes
      → (k at : ℕ) → GoesTo g (found ∷ []) (found ∷ []) found (entry_sectors g e) k at
      → NoTornEntry g image k at e (values_of bytes)
  none_torn_at e none bytes are k at goes =
      none_torn e none bytes are k at
      (elim goes.place [ inl h ↦ placed_behind k at h | inr h ↦ placed_front k at h ]) goes.fits

-- ---- what was read of a pair that was made anew

one_end : (xs : List FoundEntry) (a b : FoundEntry) → xs ++ a ∷ [] ≡ b ∷ [] → a ≡ b
one_end [] a b same = cc
one_end (x ∷ []) a b same = absurd (cc)
one_end (x ∷ (y ∷ xs)) a b same = absurd (cc)

pub law_tears : LawTears
law_tears p b c g read f journal s bytes next are =
    let first = f.first_entry in
    let divided = f.divided.journal in
    let some : 0 < g.journal = omega (arith, divided) in
    let found = first_found g p.cache f.entry first in
    let entries : read.entries ≡ found ∷ [] = one_list g p.cache read.entries (found ∷ [])
    journal.entries (first_listed g p.cache f.entry first some).0 in
    let all : read.all ≡ found ∷ [] = sym journal.all
    ∙ one_stand g p.cache g.journal journal.entries.all (found ∷ []) journal.entries.stand
    (all_stand g p.cache f.entry first some) in
    let newest : next.newest ≡ found = one_end next.older next.newest found
    (sym next.parts ∙ entries) in
    none_torn_at g p.cache f.entry first s.entry next.entry.none bytes are s.place.bucket
    (sector_at g s.place)
    (subst (λ (n : FoundEntry). GoesTo g (found ∷ []) (found ∷ []) n (entry_sectors g s.entry)
    s.place.bucket (sector_at g s.place)) newest
    (subst (λ (es : List FoundEntry). GoesTo g (found ∷ []) es next.newest (entry_sectors g s.entry)
    s.place.bucket (sector_at g s.place)) entries
    (subst (λ (es : List FoundEntry). GoesTo g es read.entries next.newest
    (entry_sectors g s.entry) s.place.bucket (sector_at g s.place)) all next.place)))
