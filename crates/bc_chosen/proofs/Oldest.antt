-- The oldest generations of keys, as versions.
use Rattle.std.proofs.Common.{subst, ◌≡◌, ◌⊎◌, inl, inr, ℕ, zero, suc, ◌+◌, ◌-◌, ◌%◌, ◌<◌, ◌≤◌, Bool, true, false, List, [], ◌∷◌, length, Option, Some, None, refl, sym, ap, ◌∙◌, arith, if◌then◌else◌, nat_lt}
use Rattle.std.specs.Prelude.{map, slice_index_or}
use Rattle.std.proofs.Math.Nat.{add-mod_right}
use Rattle.std.proofs.lemmas.Bool.{cases_lt}
use Rattle.std.proofs.lemmas.List.Elements.{All-contains}
use Rattle.bc_bucket.specs.Buckets.{Buckets, bucket_of}
use Rattle.bc_bucket.specs.declared.bucket.Bucket.{Bucket}
use Rattle.bc_disk.specs.declared.gens.BucketRecord.{BucketRecord}
use Rattle.bc_disk.specs.declared.geometry.Geometry.{Geometry}
use Rattle.bc_extent.proofs.LastKeys.{last_key_found}
use Rattle.bc_facts.specs.Reads.{back}
use Rattle.bc_facts.proofs.Place.{by_lt}
use Rattle.bc_image.specs.Pointers.{LiesInData}
use Rattle.bc_image.specs.Reading.{Reading, key_of, keys_of}
use Rattle.bc_image.specs.Shown.{age_of, generation_of}
use Rattle.bc_image.specs.Sound.{HasPointers, IsDataKey, IsWithinWindow}
use Rattle.bc_image.proofs.Unique.{some_same}
use Rattle.bc_key.specs.Generation.{behind}
use Rattle.bc_key.specs.Key.{pointer_of, ptr_at}
use Rattle.bc_key.specs.declared.key.Key.{Key}
use Rattle.bc_key.specs.declared.ptr.Ptr.{Ptr}
use Rattle.bc_opening.specs.Choices.{AreOldest}
use Rattle.bc_opening.specs.Read.{bucket_by, version_at, version_by, version_of, versions}
use Rattle.bc_opening.proofs.Pointers.{age_is, own_is, version_is}
use Rattle.bc_record.specs.Places.{bucket_at}
use Rattle.bc_recover.specs.Known.{AreKnown, IsOldestKey, PointsFrom}
use Rattle.bc_whole.specs.Together.{gen_at, gen_from}
use Rattle.bc_chosen.specs.Oldest.{LawOldest, last_gc_at}

-- 256 more changes nothing of how far a byte lies behind
behind_up : (n b : ℕ) → b < 256 → behind (n + 256) b ≡ behind n b
behind_up n b small =
    let parts : n + 256 + 256 - b ≡ (n + 256 - b) + 256 = omega (arith, small) in
    ap (λ m. m % 256) parts ∙ add-mod_right (n + 256 - b) 256

behind_over : (n : ℕ) → behind (n + 256) n ≡ 0
behind_over n = let all : n + 256 + 256 - n ≡ 512 = omega arith in ap (λ m. m % 256) all

behind_own : (n : ℕ) → behind n n ≡ 0
behind_own n = let all : n + 256 - n ≡ 256 = omega arith in ap (λ m. m % 256) all

-- ---- what is no bucket of the device has the version 0

gen_behind : (n : ℕ) (gens : List ℕ) (b : ℕ) → gen_from n gens b ≡ gen_at gens (n + b)
gen_behind zero gens b = ap (gen_at gens) (let e : b ≡ 0 + b = omega arith in e)
gen_behind (suc n) [] b = refl
gen_behind (suc n) (x ∷ xs) b = gen_behind n xs b ∙ ap (gen_at (x ∷ xs)) (let e : suc (n + b) ≡ suc n + b = omega arith in e)

gen_past : (records : List BucketRecord) (b : ℕ) → length records ≤ b → gen_at (map (λ (x : BucketRecord). x.generation + 256) records) b ≡ 0
gen_past [] b high = refl
gen_past (x ∷ xs) zero high = absurd (omega (arith, high))
gen_past (x ∷ xs) (suc b) high = gen_past xs b (omega (arith, high))

first_of_key : (key : Key) (ptr : Ptr) → pointer_of key ≡ Some ptr → (0 < key.count) × (ptr_at key 0 ≡ ptr)
first_of_key key ptr = by_lt 0 key.count (λ b. (if b then Some (ptr_at key 0) else None) ≡ Some ptr → (0 < key.count) × (ptr_at key 0 ≡ ptr)) (λ lt e. (lt, some_same (ptr_at key 0) ptr e)) (λ _ e. absurd (cc))

module _ (g : Geometry) (size : ℕ) (r : Reading) (buckets : Buckets) (known : AreKnown g r buckets) (long : length r.gens.records ≡ g.nbuckets) (pointers : HasPointers g size r) (near : IsWithinWindow g r) where
  abbrev last : ℕ → ℕ
  last k = (bucket_of buckets k).last_gc

  past : (q : ℕ) → g.nbuckets ≤ back g q → version_at g r.gens q ≡ 0
  past q high = gen_behind g.first_bucket (versions r.gens) q ∙ gen_past r.gens.records (g.first_bucket + q) (omega (arith, high, long))

  inside_is : (q : ℕ) → back g q < g.nbuckets → version_at g r.gens q ≡ generation_of r.gens (back g q) + 256
  inside_is q inside = version_is g r.gens q (omega (arith, inside, long))

  -- how far it lies behind, by the byte
  last_up : (k : ℕ) → IsOldestKey g r k (last k) → behind (generation_of r.gens k + 256) (last k) ≡ behind (generation_of r.gens k) (last k)
  last_up k o = elim o.one [
    | inl own ↦ ap (behind (generation_of r.gens k + 256)) own ∙ behind_over (generation_of r.gens k) ∙ sym (ap (behind (generation_of r.gens k)) own ∙ behind_own (generation_of r.gens k))
    | inr f ↦ of_key f.2 f.4
  ]
    where
      of_key : (ptr : Ptr) → ptr.generation ≡ last k → behind (generation_of r.gens k + 256) (last k) ≡ behind (generation_of r.gens k) (last k)
      of_key ptr same = behind_up (generation_of r.gens k) (last k) (subst (λ b. b < 256) same ptr.generation_fits)

  last_is : (q k : ℕ) → back g q ≡ k → version_at g r.gens q ≡ generation_of r.gens k + 256 → IsOldestKey g r k (last k) → behind (version_at g r.gens q) (last (back g q)) ≡ behind (generation_of r.gens k) (last k)
  last_is q k there own o =
      ap (λ n. behind (version_at g r.gens q) (last n)) there
      ∙ ap (λ m. behind m (last k)) own
      ∙ last_up k o

  last_gc_is : (q : ℕ) → last_gc_at g r.gens buckets q ≡ version_at g r.gens q - behind (version_at g r.gens q) (last (back g q))
  last_gc_is q = refl

  oldest_near : (k : ℕ) → IsOldestKey g r k (last k) → behind (generation_of r.gens k) (last k) ≤ 96
  oldest_near k o = elim o.one [
    | inl own ↦ (let none = ap (behind (generation_of r.gens k)) own ∙ behind_own (generation_of r.gens k) in omega (arith, none))
    | inr f ↦ of_key f.0 f.1 f.2 f.3 f.4
  ]
    where
      of_key : (s : ℕ) (key : Key) (ptr : Ptr) → PointsFrom g r k s key ptr → ptr.generation ≡ last k → behind (generation_of r.gens k) (last k) ≤ 96
      of_key s key ptr from same =
          let within = (near s key ptr from.last from.points).0 in
          subst (λ n. behind (generation_of r.gens n) (last k) ≤ 96) from.place
          (subst (λ b. behind (generation_of r.gens (bucket_at g ptr.offset)) b ≤ 96) same within)

  window_is : (q : ℕ) → version_at g r.gens q ≤ last_gc_at g r.gens buckets q + 96
  window_is q = elim (cases_lt (back g q) g.nbuckets) [
    | inl inside ↦ (let most = oldest_near (back g q) (known.known (back g q) inside).oldest in
        let is = last_is q (back g q) refl (inside_is q inside) (known.known (back g q) inside).oldest in
        let same = last_gc_is q in
        omega (arith, most, is, same))
    | inr high ↦ (let none = past q high in omega (arith, none))
  ]

  keys_are : (s : ℕ) (key : Key) (ptr : Ptr) → key_of r s ≡ Some key → pointer_of key ≡ Some ptr → last_gc_at g r.gens buckets (bucket_by g ptr) ≤ version_of g r.gens ptr
  keys_are s key ptr at points =
      let first = first_of_key key ptr points in
      let f = last_key_found (keys_of r) s key at in
      let lies = subst (λ (x : Ptr). LiesInData g x key.size) first.1 ((All-contains (IsDataKey g size) (keys_of r) key pointers.data_keys f.0).ptrs 0 first.0) in
      let low = lies.bucket.0 in
      let there : back g (bucket_by g ptr) ≡ bucket_at g ptr.offset = omega (arith, low) in
      let o = (known.known (bucket_at g ptr.offset) lies.bucket.1).oldest in
      let older = o.none_older s key ptr (record { last = at; points = points; place = refl }) in
      let age = age_is g size r pointers long ptr key.size lies in
      let is = last_is (bucket_by g ptr) (bucket_at g ptr.offset) there (own_is g size r pointers long ptr key.size lies) o in
      let same = last_gc_is (bucket_by g ptr) in
      let own : version_of g r.gens ptr ≡ version_at g r.gens (bucket_by g ptr) - behind (version_at g r.gens (bucket_by g ptr)) ptr.generation = refl in
      omega (arith, older, age, is, same, own)

  pub law : AreOldest g r (last_gc_at g r.gens buckets)
  law = record { most = λ q. (let same = last_gc_is q in omega (arith, same)); window = window_is; keys = keys_are }

pub law_oldest : LawOldest
law_oldest g size r buckets known long pointers near = law g size r buckets known long pointers near
