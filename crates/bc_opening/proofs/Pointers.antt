-- Where the last keys of a reading point, and how old they are.
use Rattle.std.proofs.Common.{subst, ◌≡◌, ℕ, zero, suc, ◌+◌, ◌-◌, ◌*◌, ◌%◌, ◌<◌, ◌≤◌, Bool, true, false, List, [], ◌∷◌, length, Option, Some, None, refl, sym, ap, ◌∙◌, arith, if◌then◌else◌, nat_lt}
use Rattle.std.specs.Prelude.{map, not, slice_index_or, ◌/◌}
use Rattle.std.proofs.Math.Nat.{add-mod_right, mod-eq_of_lt, mul-add-mod_self_left}
use Rattle.std.proofs.lemmas.Bool.{lt-ltb}
use Rattle.std.proofs.lemmas.List.Elements.{All-contains}
use Rattle.bc_disk.specs.Gens.{Gens}
use Rattle.bc_disk.specs.declared.gens.BucketRecord.{BucketRecord}
use Rattle.bc_disk.specs.declared.geometry.Geometry.{Geometry}
use Rattle.bc_key.specs.declared.key.Key.{Key}
use Rattle.bc_key.specs.declared.ptr.Ptr.{Ptr}
use Rattle.bc_key.specs.Generation.{behind}
use Rattle.bc_key.specs.Key.{Covers, place_at, pointer_of, ptr_at}
use Rattle.bc_record.specs.Places.{bucket_at}
use Rattle.bc_prio.specs.Chain.{IsPlace}
use Rattle.bc_extent.proofs.LastKeys.{last_key_found}
use Rattle.bc_books.specs.Index.{Pointer}
use Rattle.bc_books.specs.Versions as versions_of
use Rattle.bc_meta.specs.Chain.{bytes_of}
use Rattle.bc_image.specs.Pointers.{LiesInData}
use Rattle.bc_image.specs.Reading.{Reading, key_of, keys_of}
use Rattle.bc_image.specs.Shown.{age_of, generation_of, is_fresh, is_live, is_stale, no_record}
use Rattle.bc_image.specs.Sound.{HasPointers, IsDataKey}
use Rattle.bc_image.specs.Uses.{LiesLive}
use Rattle.bc_image.proofs.Places.{lies_in_bucket}
use Rattle.bc_image.proofs.Unique.{some_same}
use Rattle.bc_facts.specs.Reads.{back, gens_of}
use Rattle.bc_facts.specs.Seen.{counted}
use Rattle.bc_facts.proofs.Place.{by_lt}
use Rattle.bc_whole.specs.Together.{gen_at, gen_from}
use Rattle.bc_opening.specs.Read.{bucket_by, kind_of, pointed, pointer_by, version_at, version_by, version_of, versions}

-- ---- numbers

-- 256 more changes nothing of how far a byte lies behind
behind_up : (n b : ℕ) → b < 256 → behind (n + 256) b ≡ behind n b
behind_up n b small =
    let parts : n + 256 + 256 - b ≡ (n + 256 - b) + 256 = omega (arith, small) in
    ap (λ m. m % 256) parts ∙ add-mod_right (n + 256 - b) 256

-- nor does it whether the bucket's generation is a byte
behind_byte : (n b : ℕ) → b < 256 → versions_of.behind (n % 256) b ≡ behind n b
behind_byte n b small =
    let parts : n + 256 - b ≡ 256 * (n / 256) + (n % 256 + 256 - b) = omega (arith, small) in
    sym (ap (λ m. m % 256) parts ∙ mul-add-mod_self_left 256 (n / 256) (n % 256 + 256 - b))

-- a version has the byte by which it was found
pub byte_of : (own byte : ℕ) → byte < 256 → 256 ≤ own → version_by own byte % 256 ≡ byte
byte_of own byte small high =
    let parts : own - behind own byte ≡ 256 * ((own + 256 - byte) / 256 - 1) + byte = omega (arith, small, high) in
    ap (λ m. m % 256) parts ∙ mul-add-mod_self_left 256 ((own + 256 - byte) / 256 - 1) byte ∙ mod-eq_of_lt small

-- ---- versions

gen_behind : (n : ℕ) (gens : List ℕ) (b : ℕ) → gen_from n gens b ≡ gen_at gens (n + b)
gen_behind zero gens b = ap (gen_at gens) (let e : b ≡ 0 + b = omega arith in e)
gen_behind (suc n) [] b = refl
gen_behind (suc n) (x ∷ xs) b = gen_behind n xs b ∙ ap (gen_at (x ∷ xs)) (let e : suc (n + b) ≡ suc n + b = omega arith in e)

gen_here : (records : List BucketRecord) (b : ℕ) → b < length records → gen_at (map (λ (x : BucketRecord). x.generation + 256) records) b ≡ (slice_index_or records b no_record).generation + 256
gen_here [] b lt = absurd (omega arith)
gen_here (x ∷ xs) zero lt = refl
gen_here (x ∷ xs) (suc b) lt = gen_here xs b (omega (arith, lt))

pub version_is : (g : Geometry) (gens : Gens) (q : ℕ) → back g q < length gens.records → version_at g gens q ≡ generation_of gens (back g q) + 256
version_is g gens q inside = gen_behind g.first_bucket (versions gens) q ∙ gen_here gens.records (g.first_bucket + q) inside

-- on the device they are the bytes that the chain has
pub version_bytes : (records : List BucketRecord) → bytes_of (map (λ (x : BucketRecord). x.generation + 256) records) ≡ gens_of records
version_bytes [] = refl
version_bytes (x ∷ xs) = let here = add-mod_right x.generation 256 in let rest = version_bytes xs in cc

-- ---- pointers

abbrev pub pointer_at : Geometry → Gens → Key → ℕ → Pointer
pointer_at g gens key s = record { kind = kind_of key.dirty; place = place_at key 0 s; version = version_of g gens (ptr_at key 0) }

pub record Pointed (g : Geometry) (gens : Gens) (o : Option Key) (s : ℕ) (x : Pointer) : Type 0 where
  pub key : Key
  pub at : o ≡ Some key
  pub some : 0 < key.count
  pub is : pointer_at g gens key s ≡ x

pub some_points : (key : Key) → 0 < key.count → pointer_of key ≡ Some (ptr_at key 0)
some_points key some = let test = lt-ltb 0 key.count some in let points : pointer_of key ≡ Some (ptr_at key 0) = rw test refl in points

some_counts : (key : Key) → nat_lt 0 key.count ≡ true → 0 < key.count
some_counts key test = by_lt 0 key.count (λ b. b ≡ true → 0 < key.count) (λ lt _. lt) (λ _ h. absurd (cc)) test

pointed_is : (g : Geometry) (gens : Gens) (o : Option Key) (s : ℕ) (x : Pointer) → pointer_by g gens o s ≡ Some x → Pointed g gens o s x
pointed_is g gens None s x e = absurd (cc)
pointed_is g gens (Some key) s x e = go (nat_lt 0 key.count) refl e
  where
    go : (b : Bool) → nat_lt 0 key.count ≡ b → pointed g gens key s (if b then Some (ptr_at key 0) else None) ≡ Some x → Pointed g gens (Some key) s x
    go true test h = record { key = key; at = refl; some = some_counts key test; is = some_same (pointer_at g gens key s) x h }
    go false test h = absurd (cc)

-- ---- of a sound reading

module _ (g : Geometry) (size : ℕ) (r : Reading) (pointers : HasPointers g size r) (long : length r.gens.records ≡ g.nbuckets) where
  -- the pointer of a sector's last key
  pub record At (s : ℕ) (x : Pointer) : Type 0 where
    pub key : Key
    pub at : key_of r s ≡ Some key
    pub some : 0 < key.count
    pub points : pointer_of key ≡ Some (ptr_at key 0)
    pub is : pointer_at g r.gens key s ≡ x
    pub covers : Covers key s
    pub of_data : IsDataKey g size key
    pub lies : LiesInData g (ptr_at key 0) key.size
    pub place : bucket_at g (place_at key 0 s) ≡ back g (bucket_by g (ptr_at key 0))
    pub bucket : counted g (bucket_at g x.place) ≡ bucket_by g (ptr_at key 0)

  pub at_sector : (s : ℕ) (x : Pointer) → pointer_by g r.gens (key_of r s) s ≡ Some x → At s x
  at_sector s x e =
      let p = pointed_is g r.gens (key_of r s) s x e in
      let f = last_key_found (keys_of r) s p.key p.at in
      let here = All-contains (IsDataKey g size) (keys_of r) p.key pointers.data_keys f.0 in
      let lies = here.ptrs 0 p.some in
      let in_ = (lies_in_bucket g p.key 0 s lies f.1).1 in
      let low = lies.bucket.0 in
      record {
        key = p.key;
        at = p.at;
        some = p.some;
        points = some_points p.key p.some;
        is = p.is;
        covers = f.1;
        of_data = here;
        lies = lies;
        place = omega (arith, in_, low);
        bucket = ap (λ (y : Pointer). counted g (bucket_at g y.place)) (sym p.is) ∙ ap (counted g) in_;
      }

  -- its bucket's version, and how far it lies behind that
  pub own_is : (ptr : Ptr) (n : ℕ) → LiesInData g ptr n → version_at g r.gens (bucket_by g ptr) ≡ generation_of r.gens (bucket_at g ptr.offset) + 256
  own_is ptr n lies =
      let low = lies.bucket.0 in
      let high = lies.bucket.1 in
      let there : back g (bucket_by g ptr) ≡ bucket_at g ptr.offset = omega (arith, low) in
      version_is g r.gens (bucket_by g ptr) (omega (arith, there, high, long)) ∙ ap (λ m. generation_of r.gens m + 256) there

  pub age_is : (ptr : Ptr) (n : ℕ) → LiesInData g ptr n → behind (version_at g r.gens (bucket_by g ptr)) ptr.generation ≡ age_of g r.gens ptr
  age_is ptr n lies = ap (λ m. behind m ptr.generation) (own_is ptr n lies) ∙ behind_up (generation_of r.gens (bucket_at g ptr.offset)) ptr.generation ptr.generation_fits

  pub version_byte : (ptr : Ptr) (n : ℕ) → LiesInData g ptr n → version_of g r.gens ptr % 256 ≡ ptr.generation
  version_byte ptr n lies = let own = own_is ptr n lies in byte_of (version_at g r.gens (bucket_by g ptr)) ptr.generation ptr.generation_fits (omega (arith, own))

  -- the books' test by bytes is the format's
  pub stale_is : (ptr : Ptr) (n : ℕ) → LiesInData g ptr n
      → versions_of.is_stale (version_at g r.gens (bucket_by g ptr) % 256) (version_of g r.gens ptr % 256) ≡ is_stale (age_of g r.gens ptr)
  stale_is ptr n lies =
      ap (λ m. versions_of.is_stale (version_at g r.gens (bucket_by g ptr) % 256) m) (version_byte ptr n lies)
      ∙ ap (λ m. is_stale m) (behind_byte (version_at g r.gens (bucket_by g ptr)) ptr.generation ptr.generation_fits ∙ age_is ptr n lies)

  -- a pointer that is as new as its bucket isn't behind it, and the other way round
  pub no_age : (ptr : Ptr) (n : ℕ) → LiesInData g ptr n → version_at g r.gens (bucket_by g ptr) ≡ version_of g r.gens ptr → age_of g r.gens ptr ≡ 0
  no_age ptr n lies same =
      let own = own_is ptr n lies in
      let age = age_is ptr n lies in
      let small : behind (version_at g r.gens (bucket_by g ptr)) ptr.generation < 256 = omega arith in
      omega (arith, own, age, small, same)

  pub as_new : (ptr : Ptr) (n : ℕ) → LiesInData g ptr n → age_of g r.gens ptr ≡ 0 → version_at g r.gens (bucket_by g ptr) ≡ version_of g r.gens ptr
  as_new ptr n lies none = let age = age_is ptr n lies in omega (arith, age, none)

  -- it is live then
  pub live_is : (key : Key) → 0 < key.count → age_of g r.gens (ptr_at key 0) ≡ 0 → is_live g r.gens key ≡ true
  live_is key some none = ap (is_fresh g r.gens) (some_points key some) ∙ ap (λ m. not (is_stale m)) none

  pub lies_live : (s : ℕ) (x : Pointer) (a : At s x) → age_of g r.gens (ptr_at a.key 0) ≡ 0 → LiesLive g r s a.key (back g (bucket_by g (ptr_at a.key 0)))
  lies_live s x a none = record { last = a.at; live = live_is a.key a.some none; place = a.place }

  pub live_counts : (key : Key) → is_live g r.gens key ≡ true → 0 < key.count
  live_counts key live = by_lt 0 key.count (λ b. is_fresh g r.gens (if b then Some (ptr_at key 0) else None) ≡ true → 0 < key.count) (λ lt _. lt) (λ _ h. absurd (cc)) live

  -- what a live key points into is a bucket behind the journal
  pub data_place : (s : ℕ) (key : Key) (b : ℕ) → LiesLive g r s key b → IsPlace g b
  data_place s key b live =
      let some = live_counts key live.live in
      let f = last_key_found (keys_of r) s key live.last in
      let lies = (All-contains (IsDataKey g size) (keys_of r) key pointers.data_keys f.0).ptrs 0 some in
      subst (IsPlace g) (sym (lies_in_bucket g key 0 s lies f.1).1 ∙ live.place) lies.bucket
