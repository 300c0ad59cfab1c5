-- The chain of priority sets of an image, as the format has it and as the machine does.
use Rattle.std.proofs.Common.{subst, ◌≡◌, ◌≢◌, inl, inr, ℕ, zero, suc, ◌+◌, ◌-◌, ◌*◌, ◌%◌, ◌<◌, ◌≤◌, true, List, [], ◌∷◌, ◌++◌, length, take, Some, refl, sym, ap, ◌∙◌, arith, ◌&&◌, nat_le}
use Rattle.std.specs.Prelude.{map, AllPairs, slice_index, slice_index_or}
use Rattle.std.proofs.Math.Nat.{add-mul}
use Rattle.std.proofs.lemmas.List.{take_all, length-append, append_assoc}
use Rattle.bc_bytes.specs.Fields.{number_at}
use Rattle.bc_model.specs.Sector.{Image}
use Rattle.bc_disk.specs.Gens.{Gens}
use Rattle.bc_disk.specs.declared.geometry.Geometry.{Geometry}
use Rattle.bc_disk.specs.declared.gens.BucketRecord.{BucketRecord}
use Rattle.bc_record.specs.Sectors.{bytes_in, bytes_to}
use Rattle.bc_record.proofs.Parts.{length-bytes_in}
use Rattle.bc_disk.specs.Chain.{bucket_bytes, records_in_set, sets_in_chain}
use Rattle.bc_prio.specs.Set.{IsSet, HoldsPart, IsRecord, next_in, records_in}
use Rattle.bc_prio.specs.Chain.{IsPlace}
use Rattle.bc_prio.specs.Records.{bucket_in, LeadIn, ChainIn}
use Rattle.bc_disk.proofs.Amounts.{part_begins, parts_reach, some_sets}
use Rattle.bc_meta.specs.Facts.{In}
use Rattle.bc_meta.specs.Layout.{Layout, PrioSet}
use Rattle.bc_meta.specs.Chain.{Distinct, Leads, chain_in, is_place, prio_at}
use Rattle.bc_meta.proofs.Lists.{by_le}
use Rattle.bc_meta.proofs.Chains as chains
use Rattle.bc_facts.specs.Seen.{counted, gens_from, seen_prio}
use Rattle.bc_facts.specs.Layout.{IsLayoutOf}
use Rattle.bc_facts.specs.Reads.{back, gens_of}

-- ---- the records of a set

record_at : List ℕ → ℕ → BucketRecord
record_at bytes i = record { priority = number_at 2 bytes (40 + 3 * i); generation = slice_index bytes (42 + 3 * i) }

abbrev records_at : List ℕ → ℕ → ℕ → List BucketRecord
records_at bytes i zero = []
records_at bytes i (suc n) = record_at bytes i ∷ records_at bytes (suc i) n

long_at : (bytes : List ℕ) (i n : ℕ) → length (records_at bytes i n) ≡ n
long_at bytes i zero = refl
long_at bytes i (suc n) = ap suc (long_at bytes (suc i) n)

gens_at : (bytes : List ℕ) (i n : ℕ) → gens_of (records_at bytes i n) ≡ gens_from bytes i n
unfolding record_at
gens_at bytes i zero = refl
gens_at bytes i (suc n) = ap (λ (l : List ℕ). slice_index bytes (42 + 3 * i) % 256 ∷ l) (gens_at bytes (suc i) n)

gens_append : (xs ys : List BucketRecord) → gens_of (xs ++ ys) ≡ gens_of xs ++ gens_of ys
gens_append [] ys = refl
gens_append (x ∷ xs) ys = ap (λ (l : List ℕ). x.generation % 256 ∷ l) (gens_append xs ys)

at_record : (bytes : List ℕ) (i n : ℕ) (rest : List BucketRecord) (k : ℕ) (d : BucketRecord) → k < n → slice_index_or (records_at bytes i n ++ rest) k d ≡ record_at bytes (i + k)
at_record bytes i zero rest k d lt = absurd (omega arith)
at_record bytes i (suc n) rest zero d lt = ap (record_at bytes) (let e : i ≡ i + 0 = omega arith in e)
at_record bytes i (suc n) rest (suc k) d lt = at_record bytes (suc i) n rest k d (omega arith) ∙ ap (record_at bytes) (let e : suc i + k ≡ i + suc k = omega arith in e)

behind_front : (before rest : List BucketRecord) (k : ℕ) (d : BucketRecord) → slice_index_or (before ++ rest) (length before + k) d ≡ slice_index_or rest k d
behind_front [] rest k d = ap (λ n. slice_index_or rest n d) (let e : 0 + k ≡ k = omega arith in e)
behind_front (x ∷ xs) rest k d = ap (λ n. slice_index_or (x ∷ (xs ++ rest)) n d) (let e : suc (length xs) + k ≡ suc (length xs + k) = omega arith in e) ∙ behind_front xs rest k d

is_record : (bytes : List ℕ) (i : ℕ) (e : BucketRecord) → e ≡ record_at bytes i → IsRecord bytes i e
unfolding record_at
is_record bytes i e is = (sym (ap (λ (x : BucketRecord). x.priority) is), sym (ap (λ (x : BucketRecord). x.generation) is))

module _ (g : Geometry) (image : Image) where
  bytes_of : ℕ → List ℕ
  bytes_of q = bucket_in g image (back g q)

  abbrev records_from : ℕ → List ℕ → List BucketRecord
  records_from part [] = []
  records_from part (q ∷ qs) = records_at (bucket_in g image (back g q)) 0 (records_in g part) ++ records_from (suc part) qs

  -- how many records there are
  some_long : (part : ℕ) (q : ℕ) (qs : List ℕ) → part + suc (length qs) ≡ sets_in_chain g → part * records_in_set g + length (records_from part (q ∷ qs)) ≡ g.nbuckets
  some_long part q [] all =
      let begins = part_begins g part (omega arith) in
      let reach = parts_reach g in
      let ends : sets_in_chain g ≡ part + 1 = omega arith in
      let cut = ap (λ n. n * records_in_set g) ends ∙ add-mul part 1 (records_in_set g) in
      let long = long_at (bucket_in g image (back g q)) 0 (records_in g part) in
      let both = length-append (records_at (bucket_in g image (back g q)) 0 (records_in g part)) [] in
      omega (arith, begins, reach, cut, long, both)
  some_long part q (r ∷ qs) all =
      let begins = part_begins g (suc part) (omega arith) in
      let cut : suc part * records_in_set g ≡ part * records_in_set g + 1 * records_in_set g = ap (λ n. n * records_in_set g) (let e : suc part ≡ part + 1 = omega arith in e) ∙ add-mul part 1 (records_in_set g) in
      let rest = some_long (suc part) r qs (omega arith) in
      let long = long_at (bucket_in g image (back g q)) 0 (records_in g part) in
      let both = length-append (records_at (bucket_in g image (back g q)) 0 (records_in g part)) (records_from (suc part) (r ∷ qs)) in
      omega (arith, begins, cut, rest, long, both)

  -- each part is held by all records
  holds : (all before rest : List BucketRecord) (part : ℕ) (bytes : List ℕ) → all ≡ before ++ (records_at bytes 0 (records_in g part) ++ rest) → length before ≡ part * records_in_set g → length all ≡ g.nbuckets → HoldsPart g all part bytes
  holds all before rest part bytes is front long i few within d =
      is_record bytes i (slice_index_or all (part * records_in_set g + i) d)
      (ap (λ (l : List BucketRecord). slice_index_or l (part * records_in_set g + i) d) is
      ∙ ap (λ n. slice_index_or (before ++ (records_at bytes 0 (records_in g part) ++ rest)) (n + i) d) (sym front)
      ∙ behind_front before (records_at bytes 0 (records_in g part) ++ rest) i d
      ∙ at_record bytes 0 (records_in g part) rest i d (omega (arith, few, within, long))
      ∙ ap (record_at bytes) (let e : 0 + i ≡ i = omega arith in e))

  pub bucket_bytes_in : (bucket : ℕ) → take (bucket_bytes g) (bytes_to image (g.bucket * bucket + g.bucket) (g.bucket * bucket)) ≡ bucket_in g image bucket
  bucket_bytes_in bucket =
      let width : g.bucket * bucket + g.bucket - g.bucket * bucket ≡ g.bucket = omega arith in
      ap (λ n. take (bucket_bytes g) (bytes_in image (g.bucket * bucket) n)) width
      ∙ take_all (bucket_bytes g) (bucket_in g image bucket) (omega (arith, length-bytes_in image (g.bucket * bucket) g.bucket))

-- ---- a set

place_of : (w : Layout) (q : ℕ) → is_place w q ≡ true → (w.journal ≤ q) × (q < w.buckets)
place_of w q =
    by_le w.journal q (λ b. (b && nat_le (suc q) w.buckets) ≡ true → (w.journal ≤ q) × (q < w.buckets))
    (λ le. by_le (suc q) w.buckets (λ b. b ≡ true → (w.journal ≤ q) × (q < w.buckets)) (λ lt _. (le, lt)) (λ _ h. absurd (cc)))
    (λ _ h. absurd (cc))

module _ (g : Geometry) (w : Layout) (layout : IsLayoutOf g w) (image : Image) (some : 0 < g.journal) where
  -- the set that the machine finds in a bucket is that of the bucket's bytes
  set_there : (part q : ℕ) (set : PrioSet) → prio_at w image part q ≡ Some set → IsSet g part (bucket_in g image (back g q)) × (seen_prio g part (bucket_in g image (back g q)) ≡ set)
  set_there part q set is =
      let k = (layout.prios.found image part (w.first q + w.bucket_sectors) (w.first q) set).0 is in
      let place : w.first q ≡ g.bucket * back g q = layout.first q in
      let end : w.first q + w.bucket_sectors ≡ g.bucket * back g q + g.bucket = let s = layout.bucket_sectors in omega (arith, place, s) in
      let same : bucket_in g image (back g q) ≡ k.0 =
      sym (bucket_bytes_in g image (back g q))
      ∙ ap (λ n. take (bucket_bytes g) (bytes_to image n (g.bucket * back g q))) (sym end)
      ∙ ap (λ n. take (bucket_bytes g) (bytes_to image (w.first q + w.bucket_sectors) n)) (sym place) ∙ k.1.0.1 in
      (subst (λ (bs : List ℕ). IsSet g part bs) (sym same) k.1.0.0, ap (seen_prio g part) same ∙ k.2)

  is_there : (q : ℕ) → is_place w q ≡ true → IsPlace g (back g q) × (0 < q)
  is_there q is =
      let k = place_of w q is in
      let j = layout.journal in
      let b = layout.buckets in
      let low = k.0 in
      let high = k.1 in
      let within = g.journal_within in
      ((omega (arith, low, j), omega (arith, high, b, within)), omega (arith, low, j, some))

  leads : (all before : List BucketRecord) (part from : ℕ) (qs gens : List ℕ) → Leads w image part (counted g from) qs gens 0 → part + length qs ≡ sets_in_chain g → (length qs ≡ 0 → from ≡ 0)
      → length all ≡ g.nbuckets → all ≡ before ++ records_from g image part qs → (0 < length qs → length before ≡ part * records_in_set g)
      → LeadIn g image all part from (map (back g) qs) 0 × (gens_of (records_from g image part qs) ≡ gens)
  leads all before part from [] gens h count ends long is front = (ends refl, sym h.1)
  leads all before part from (q ∷ qs) gens h count ends long is front =
      let there = is_there q h.1 in
      let at : from ≡ back g q = let e = h.0 in let s = there.1 in omega (arith, e, s) in
      let set = set_there part q h.2.0 h.2.1 in
      let bytes = bucket_in g image (back g q) in
      let next : counted g (next_in (bucket_in g image (back g q))) ≡ h.2.0.next = ap (λ (x : PrioSet). x.next) set.1 in
      let said : gens_from (bucket_in g image (back g q)) 0 (records_in g part) ≡ h.2.0.gens = ap (λ (x : PrioSet). x.gens) set.1 in
      let hd : length before ≡ part * records_in_set g = front (omega arith) in
      let here = records_at (bucket_in g image (back g q)) 0 (records_in g part) in
      let cut : suc part * records_in_set g ≡ part * records_in_set g + 1 * records_in_set g = ap (λ n. n * records_in_set g) (let e : suc part ≡ part + 1 = omega arith in e) ∙ add-mul part 1 (records_in_set g) in
      let full : 0 < length qs → length (before ++ records_at (bucket_in g image (back g q)) 0 (records_in g part)) ≡ suc part * records_in_set g =
      λ more. let begins = part_begins g (suc part) (omega arith) in
      let both = length-append before (records_at (bucket_in g image (back g q)) 0 (records_in g part)) in
      let n = long_at (bucket_in g image (back g q)) 0 (records_in g part) in
      omega (arith, begins, both, n, hd, cut) in
      let ih = leads all (before ++ records_at (bucket_in g image (back g q)) 0 (records_in g part)) (suc part) (next_in (bucket_in g image (back g q))) qs h.2.2.0
      (subst (λ (n : ℕ). Leads w image (suc part) n qs h.2.2.0 0) (sym next) h.2.2.2) (omega arith)
      (λ none. (set.0.count).1 (omega arith)) long
      (is ∙ sym (append_assoc before (records_at (bucket_in g image (back g q)) 0 (records_in g part)) (records_from g image (suc part) qs))) full in (
        (at, there.0, (next_in (bucket_in g image (back g q)), record { set = set.0; names = refl; holds = holds g image all before (records_from g image (suc part) qs) part (bucket_in g image (back g q)) is hd long }, ih.0)),
        gens_append (records_at (bucket_in g image (back g q)) 0 (records_in g part)) (records_from g image (suc part) qs)
            ∙ ap (λ (l : List ℕ). l ++ gens_of (records_from g image (suc part) qs)) (gens_at (bucket_in g image (back g q)) 0 (records_in g part) ∙ said)
            ∙ ap (λ (l : List ℕ). h.2.0.gens ++ l) ih.1 ∙ sym h.2.2.1,
      )

  one_in : (qs : List ℕ) (j d : ℕ) → j < length (map (back g) qs) → (q : ℕ) × In q qs × (slice_index_or (map (back g) qs) j d ≡ back g q)
  one_in [] j d lt = absurd (omega arith)
  one_in (q ∷ qs) zero d lt = (q, inl refl, refl)
  one_in (q ∷ qs) (suc j) d lt = let k = one_in qs j d (omega arith) in (k.0, inr k.1, k.2)

  apart : (qs : List ℕ) → Distinct qs → AllPairs (λ a b. a ≢ b) (map (back g) qs)
  apart [] h i j d lt inside = absurd (omega arith)
  apart (q ∷ qs) h i zero d lt inside = absurd (omega arith)
  apart (q ∷ qs) h zero (suc j) d lt inside = λ same. (let k = one_in qs j d (omega arith) in h.0 (subst (λ (n : ℕ). In n qs) (let e = k.2 in let x : k.0 ≡ q = omega (arith, same, e) in x) k.1))
  apart (q ∷ qs) h (suc i) (suc j) d lt inside = apart qs h.1 i j d (omega arith) (omega arith)

  pub record Read (first : ℕ) (buckets gens : List ℕ) : Type 0 where
    pub found : Gens
    pub are : ChainIn g image first found
    pub chain : found.chain ≡ map (back g) buckets
    pub gens_are : gens_of found.records ≡ gens

  long_back : (qs : List ℕ) → length (map (back g) qs) ≡ length qs
  long_back [] = refl
  long_back (q ∷ qs) = ap suc (long_back qs)

  pub read_chain : (first : ℕ) (buckets gens : List ℕ) → Distinct buckets → chain_in w image (counted g first) ≡ Some (record { buckets = buckets; gens = gens }) → Read first buckets gens
  read_chain first buckets gens distinct is =
      let k = (chains.law_chain w image (counted g first) (record { buckets = buckets; gens = gens })).0 is in
      let count : length buckets ≡ sets_in_chain g = k.1 ∙ layout.chain_sets in
      go buckets distinct k.0 count
    where
      go : (qs : List ℕ) → Distinct qs → Leads w image 0 (counted g first) qs gens 0 → length qs ≡ sets_in_chain g → Read first qs gens
      go [] d l count = let more = some_sets g in absurd (omega arith)
      go (q ∷ qs) d l count =
          let long : length (records_from g image 0 (q ∷ qs)) ≡ g.nbuckets = let n = some_long g image 0 q qs (omega arith) in omega (arith, n) in
          let h = leads (records_from g image 0 (q ∷ qs)) [] 0 first (q ∷ qs) gens l (omega arith) (λ none. absurd (omega arith)) long refl (λ _. (let e : 0 ≡ 0 * records_in_set g = omega arith in e)) in
          record {
            found = record { records = records_from g image 0 (q ∷ qs); chain = map (back g) (q ∷ qs) };
            are = record { sets = h.0; distinct = apart (q ∷ qs) d; count = long_back (q ∷ qs) ∙ count; records = long };
            chain = refl;
            gens_are = h.1;
          }
