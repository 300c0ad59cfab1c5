-- The sets that were written into the buckets of a chain lead through it, and have the generations
-- of all buckets.
use Rattle.std.proofs.Common.{◌≡◌, ◌⊎◌, inl, inr, ℕ, zero, suc, ◌+◌, ◌-◌, ◌*◌, ◌%◌, ◌<◌, ◌≤◌, List, [], ◌∷◌, ◌++◌, length, drop, take, get_or, Option, None, Some, refl, sym, ap, ◌∙◌, subst, arith}
use Rattle.std.specs.Prelude.{map, min, slice_index, slice_index_or}
use Rattle.std.proofs.lemmas.Bool.{cases_lt}
use Rattle.std.proofs.Math.Nat.{min-eq_left, min-eq_right, min-le_left, min-le_right, mul-le-mul_right, suc-mul}
use Rattle.std.proofs.lemmas.List.{drop-drop, drop_all, drop_more, get_or_past, take-append-drop}
use Rattle.bc_disk.proofs.Amounts.{part_begins, parts_reach}
use Rattle.bc_disk.specs.Chain.{records_in_set, sets_in_chain}
use Rattle.bc_disk.specs.declared.gens.BucketRecord.{BucketRecord}
use Rattle.bc_disk.specs.declared.geometry.Geometry.{Geometry}
use Rattle.bc_events.specs.Acts.{bytes_in, bytes_of_made}
use Rattle.bc_facts.specs.Reads.{gens_of}
use Rattle.bc_facts.specs.Seen.{counted, gens_from, seen_prio}
use Rattle.bc_known.specs.Acts.{State}
use Rattle.bc_meta.specs.Acts.{IsBuilt, Made, head_of}
use Rattle.bc_prio.specs.Set.{IsWrittenSet, records_in}
use Rattle.bc_chained.specs.Chained.{next_of}

no_record : BucketRecord
no_record = record { priority = 0; generation = 0 }

-- the first so many records of a part are those of the list from there on
part_gens : (bytes : List ℕ) (records : List BucketRecord) (from i n : ℕ)
    → from + i + n ≤ length records
    → ((j : ℕ) → j < i + n → slice_index bytes (42 + 3 * j)
    ≡ (slice_index_or records (from + j) no_record).generation)
    → gens_from bytes i n ≡ gens_of (take n (drop (from + i) records))
part_gens bytes records from i zero long are = refl
part_gens bytes records from i (suc n) long are =
    let here = drop_more records (from + i) no_record (omega (arith, long)) in
    let next : from + suc i ≡ from + i + 1 = omega arith in
    (λ k. (are i (omega arith) k) % 256 ∷ part_gens bytes records from (suc i) n
    (omega (arith, long)) (λ j below. are j (omega (arith, below))) k)
    ∙ ap (λ m. gens_of (get_or records (from + i) no_record ∷ take n (drop m records))) next
    ∙ ap (λ xs. gens_of (take (suc n) xs)) (sym here)

gens_append : (xs ys : List BucketRecord) → gens_of (xs ++ ys) ≡ gens_of xs ++ gens_of ys
gens_append [] ys = refl
gens_append (x ∷ xs) ys = ap (λ (l : List ℕ). x.generation % 256 ∷ l) (gens_append xs ys)

-- those of this part, and behind it
split_gens : (xs : List BucketRecord) (n : ℕ)
    → gens_of xs ≡ gens_of (take n xs) ++ gens_of (drop n xs)
split_gens xs n = ap gens_of (sym (take-append-drop n xs)) ∙ gens_append (take n xs) (drop n xs)

-- where the next part begins
next_begins : (a b : ℕ) → (a + 1) * b ≡ a * b + b
next_begins a b = ap (λ n. n * b) (let e : a + 1 ≡ suc a = omega arith in e) ∙ suc-mul a b

part_ends : (records : List BucketRecord) (size part : ℕ)
    → drop (min size (length records - part * size)) (drop (part * size) records)
    ≡ drop ((part + 1) * size) records
part_ends records size part =
    drop-drop (min size (length records - part * size)) (part * size) records
    ∙ go (cases_lt (length records - part * size) size)
  where
    go : (length records - part * size < size) ⊎ (size ≤ length records - part * size)
        → drop (part * size + min size (length records - part * size)) records
        ≡ drop ((part + 1) * size) records
    go (inl less) =
        let more = next_begins part size in
        let least : min size (length records - part * size) ≡ length records - part * size
        = min-eq_right (omega (arith, less)) in
        drop_all (part * size + min size (length records - part * size)) records
        (omega (arith, least))
        ∙ sym (drop_all ((part + 1) * size) records (omega (arith, more, less)))
    go (inr all) =
        let more = next_begins part size in
        let least : min size (length records - part * size) ≡ size = min-eq_left all in
        ap (λ n. drop n records) (omega (arith, more, least))

abbrev part_of : Option Made → ℕ
part_of None = 0
part_of (Some m) = m.part

-- the sets of a chain, of these records
module _ (g : Geometry) (records : List BucketRecord) (long : length records ≡ g.nbuckets)
    (new : List ℕ) (many : length new ≡ sets_in_chain g) (st : State)
    (sets : (k : ℕ) → k < length new → (bytes : List ℕ)
    × IsWrittenSet g records k (next_of new k) bytes
    × (st.whole.store.made (counted g (slice_index new k))
    ≡ Some (record { part = k; set = seen_prio g k bytes }))) where
  abbrev size : ℕ
  size = records_in_set g

  set_gens : (k : ℕ) (bytes : List ℕ) → k < length new
      → IsWrittenSet g records k (next_of new k) bytes
      → gens_from bytes 0 (records_in g k) ≡ gens_of (take (records_in g k)
      (drop (k * size) records))
  set_gens k bytes below set =
      let begins = part_begins g k (omega (arith, below, many)) in
      let first = min-le_left size (g.nbuckets - k * size) in
      let second = min-le_right size (g.nbuckets - k * size) in
      part_gens bytes records (k * size) 0 (records_in g k)
      (omega (arith, begins, second, long))
      (λ j few. (set.holds j (omega (arith, few, first))
      (omega (arith, few, second, long, begins)) no_record).1)
      ∙ ap (λ n. gens_of (take (records_in g k) (drop n records)))
      (let e : k * size + 0 ≡ k * size = omega arith in e)

  -- behind this part come the others
  all_gens : (k : ℕ) (bytes : List ℕ) → k < length new
      → IsWrittenSet g records k (next_of new k) bytes
      → gens_of (drop (k * size) records) ≡ gens_from bytes 0 (records_in g k)
      ++ gens_of (drop ((k + 1) * size) records)
  all_gens k bytes below set =
      split_gens (drop (k * size) records) (records_in g k)
      ∙ ap (λ xs. gens_of (take (records_in g k) (drop (k * size) records)) ++ gens_of xs)
      (ap (λ n. drop (min size (n - k * size)) (drop (k * size) records)) (sym long)
      ∙ part_ends records size k)
      ∙ ap (λ xs. xs ++ gens_of (drop ((k + 1) * size) records))
      (sym (set_gens k bytes below set))

  none_left : (k : ℕ) → length new ≤ k → gens_of (drop (k * size) records) ≡ []
  none_left k all =
      let reach = parts_reach g in
      let more : sets_in_chain g * size ≤ k * size
      = mul-le-mul_right size (omega (arith, all, many)) in
      ap gens_of (drop_all (k * size) records (omega (arith, reach, more, long)))

  -- the bucket at a place of the list
  first_is : (k n : ℕ) (ms : List ℕ) → n ∷ ms ≡ drop k new → k < length new
      → (n ≡ slice_index new k) × (ms ≡ drop (k + 1) new)
  first_is k n ms is below =
      let both : n ∷ ms ≡ slice_index new k ∷ drop (k + 1) new
      = is ∙ drop_more new k 0 below in (cc, cc)

  next_is : (k : ℕ) (ms : List ℕ) → ms ≡ drop k new
      → head_of (map (counted g) ms) ≡ counted g (slice_index new k)
  next_is k [] is = go (cases_lt k (length new))
    where
      go : (k < length new) ⊎ (length new ≤ k) → 0 ≡ counted g (slice_index new k)
      go (inl less) = absurd (none (is ∙ drop_more new k 0 less))
        where
          none : [] ≡ slice_index new k ∷ drop (k + 1) new → ⊥
          none e = cc
      go (inr past) =
          let none : 0 ≡ counted g 0 = omega arith in
          none ∙ ap (counted g) (sym (get_or_past new k 0 past))
  next_is k (m ∷ ms) is = go (cases_lt k (length new))
    where
      go : (k < length new) ⊎ (length new ≤ k) → counted g m ≡ counted g (slice_index new k)
      go (inl less) = ap (counted g) (first_is k m ms is less).0
      go (inr past) = absurd (none (is ∙ drop_all k new past))
        where
          none : m ∷ ms ≡ [] → ⊥
          none e = cc

  pub built : (k : ℕ) (ns : List ℕ) → ns ≡ drop k new → k + length ns ≡ length new
      → IsBuilt st.whole.store.made k (head_of (map (counted g) ns)) (map (counted g) ns)
      (gens_of (drop (k * size) records))
  built k [] is all = (refl, none_left k (omega (arith, all)))
  built k (n ∷ ms) is all =
      let below : k < length new = omega (arith, all) in
      let its = sets k below in
      let at = first_is k n ms is below in
      let next = next_is (k + 1) ms at.1
      ∙ ap (counted g) (sym its.1.names) in (
        refl,
        (
          seen_prio g k its.0,
          ap (λ m. st.whole.store.made (counted g m)) at.0 ∙ its.2,
          (
            gens_of (drop ((k + 1) * size) records),
            all_gens k its.0 below its.1,
            subst (λ from. IsBuilt st.whole.store.made (suc k) from (map (counted g) ms)
                (gens_of (drop ((k + 1) * size) records))) next
                (subst (λ m. IsBuilt st.whole.store.made m (head_of (map (counted g) ms))
                (map (counted g) ms) (gens_of (drop ((k + 1) * size) records)))
                (let e : k + 1 ≡ suc k = omega arith in e)
                (built (k + 1) ms at.1 (omega (arith, all)))),
          ),
        ),
      )

  pub bytes_are : (k : ℕ) (ns : List ℕ) → ns ≡ drop k new → k + length ns ≡ length new
      → bytes_in st (map (counted g) ns) ≡ gens_of (drop (k * size) records)
  bytes_are k [] is all = sym (none_left k (omega (arith, all)))
  bytes_are k (n ∷ ms) is all =
      let below : k < length new = omega (arith, all) in
      let its = sets k below in
      let at = first_is k n ms is below in
      ap (λ o. bytes_of_made o ++ bytes_in st (map (counted g) ms))
      (ap (λ m. st.whole.store.made (counted g m)) at.0 ∙ its.2)
      ∙ ap (λ xs. gens_from its.0 0 (records_in g k) ++ xs)
      (bytes_are (k + 1) ms at.1 (omega (arith, all)))
      ∙ sym (all_gens k its.0 below its.1)

  -- no two sets are in one bucket
  pub apart : (i j : ℕ) → i < length new → j < length new
      → counted g (slice_index new i) ≡ counted g (slice_index new j) → i ≡ j
  apart i j below other same =
      let one = (sets i below).2 in
      let two = (sets j other).2 in
      ap part_of (sym one ∙ ap st.whole.store.made same ∙ two)
