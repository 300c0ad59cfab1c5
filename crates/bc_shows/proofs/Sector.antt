-- What one sector has, by the formats and by the machine.
use Rattle.std.proofs.Common.{◌≡◌, ℕ, zero, suc, ◌+◌, ◌-◌, ◌*◌, ◌%◌, ◌<◌, Bool, true, false, List, [], ◌∷◌, Option, Some, None, refl, sym, ap, ◌∙◌, arith, if◌then◌else◌, nat_lt}
use Rattle.std.specs.Prelude.{◌/◌, not, slice_index_or}
use Rattle.std.proofs.Math.Nat.{mul-add-mod_self_left}
use Rattle.bc_model.specs.Sector.{Image, Value}
use Rattle.bc_disk.specs.Gens.{Gens}
use Rattle.bc_disk.specs.declared.gens.BucketRecord.{BucketRecord}
use Rattle.bc_disk.specs.declared.geometry.Geometry.{Geometry}
use Rattle.bc_record.specs.Places.{bucket_at}
use Rattle.bc_key.specs.declared.key.Key.{Key}
use Rattle.bc_key.specs.Key.{Covers, place_at, ptr_at, start_of}
use Rattle.bc_books.specs.Versions as books
use Rattle.bc_meta.specs.Keys.{Ref, ref_by}
use Rattle.bc_facts.specs.Reads.{gens_of}
use Rattle.bc_facts.proofs.Place.{by_lt}
use Rattle.bc_image.specs.Pointers.{LiesInData, PointsIntoData}
use Rattle.bc_image.specs.Shown.{age_of, generation_of, is_fresh, is_live, is_stale, no_record, value_by}
use Rattle.bc_image.proofs.Places.{lies_in_bucket}
use Rattle.bc_remains.specs.Means.{ref_of}
use Rattle.bc_whole.specs.State.{Opening}
use Rattle.bc_whole.specs.Together.{gen_at, gen_from}
use Rattle.bc_whole.specs.Laws.{shown_by}
use Rattle.bc_known.specs.Known.{AreLaid}
use Rattle.bc_shows.specs.On.{IsMachineOf}

-- ---- generations

gen_behind : (n : ℕ) (gens : List ℕ) (b : ℕ) → gen_from n gens b ≡ gen_at gens (n + b)
gen_behind zero gens b = ap (gen_at gens) (let e : b ≡ 0 + b = omega arith in e)
gen_behind (suc n) [] b = refl
gen_behind (suc n) (x ∷ xs) b = gen_behind n xs b ∙ ap (gen_at (x ∷ xs)) (let e : suc (n + b) ≡ suc n + b = omega arith in e)

gen_here : (records : List BucketRecord) (b : ℕ) → gen_at (gens_of records) b ≡ (slice_index_or records b no_record).generation % 256
gen_here [] b = refl
gen_here (x ∷ xs) zero = refl
gen_here (x ∷ xs) (suc b) = gen_here xs b

-- only the byte of a bucket's generation counts
pub byte_alone : (x p : ℕ) → p < 256 → (x % 256 + 256 - p) % 256 ≡ (x + 256 - p) % 256
byte_alone x p small =
    let parts : x + 256 - p ≡ 256 * (x / 256) + (x % 256 + 256 - p) = omega (arith, small) in
    sym (ap (λ n. n % 256) parts ∙ mul-add-mod_self_left 256 (x / 256) (x % 256 + 256 - p))

module _ (g : Geometry) (w : Opening) (on : IsMachineOf g w) (laid : AreLaid w) where
  -- the bucket of a sector's place is the one into which the key's pointer points
  pub bucket_is : (key : Key) (s : ℕ) → LiesInData g (ptr_at key 0) key.size → Covers key s
      → w.flow.books.bucket (place_at key 0 s) ≡ bucket_at g (ptr_at key 0).offset - g.first_bucket
  bucket_is key s lies covers =
      let k = lies_in_bucket g key 0 s lies covers in
      let low = lies.bucket.0 in
      let high = lies.bucket.1 in
      let place = k.0 in
      let whole = lies.whole in
      let wide = g.bucket_from in
      let short : s - start_of key < key.size = omega (arith, covers.0, covers.1) in
      let buckets = on.layout.buckets in
      let sectors = on.layout.bucket_sectors in
      let begins : w.layout.first (bucket_at g (ptr_at key 0).offset - g.first_bucket) ≡ g.bucket * bucket_at g (ptr_at key 0).offset =
      on.layout.first (bucket_at g (ptr_at key 0).offset - g.first_bucket)
      ∙ ap (λ n. g.bucket * n) (let e : g.first_bucket + (bucket_at g (ptr_at key 0).offset - g.first_bucket) ≡ bucket_at g (ptr_at key 0).offset = omega (arith, low) in e) in
      let parts : (ptr_at key 0).offset ≡ g.bucket * bucket_at g (ptr_at key 0).offset + (ptr_at key 0).offset % g.bucket = omega (arith, wide) in
      laid.sector (bucket_at g (ptr_at key 0).offset - g.first_bucket) (place_at key 0 s)
      (omega (arith, low, high, buckets)) (omega (arith, begins, parts, place)) (omega (arith, begins, parts, place, whole, short, sectors))

  module _ (gens : Gens) (said : List ℕ) (same : gens_of gens.records ≡ said) (c : Image) where
    -- so both ask about one generation
    pub gen_is : (key : Key) (s : ℕ) → LiesInData g (ptr_at key 0) key.size → Covers key s
        → gen_from w.before said (w.flow.books.bucket (place_at key 0 s)) ≡ generation_of gens (bucket_at g (ptr_at key 0).offset) % 256
    gen_is key s lies covers =
        let low = lies.bucket.0 in
        let before = on.before in
        ap (gen_from w.before said) (bucket_is key s lies covers)
        ∙ ap (λ (l : List ℕ). gen_from w.before l (bucket_at g (ptr_at key 0).offset - g.first_bucket)) (sym same)
        ∙ gen_behind w.before (gens_of gens.records) (bucket_at g (ptr_at key 0).offset - g.first_bucket)
        ∙ ap (gen_at (gens_of gens.records)) (let e : w.before + (bucket_at g (ptr_at key 0).offset - g.first_bucket) ≡ bucket_at g (ptr_at key 0).offset = omega (arith, low, before) in e)
        ∙ gen_here gens.records (bucket_at g (ptr_at key 0).offset)

    pub stale_is : (key : Key) (s : ℕ) → LiesInData g (ptr_at key 0) key.size → Covers key s
        → books.is_stale (gen_from w.before said (w.flow.books.bucket (place_at key 0 s))) (ptr_at key 0).generation
        ≡ is_stale (age_of g gens (ptr_at key 0))
    stale_is key s lies covers =
        ap (λ n. books.is_stale n (ptr_at key 0).generation) (gen_is key s lies covers)
        ∙ ap (λ n. is_stale n) (byte_alone (generation_of gens (bucket_at g (ptr_at key 0).offset)) (ptr_at key 0).generation (ptr_at key 0).generation_fits)

    turned : (b : Bool) (x y : Value) → (if not b then x else y) ≡ (if b then y else x)
    turned true x y = refl
    turned false x y = refl

    some_counts : (key : Key) → nat_lt 0 key.count ≡ true → 0 < key.count
    some_counts key = by_lt 0 key.count (λ b. b ≡ true → 0 < key.count) (λ lt _. lt) (λ _ h. absurd (cc))

    -- the value of a sector by its key
    pub value_is : (o : Option Key) (s : ℕ) (v : Value) → ((key : Key) → o ≡ Some key → PointsIntoData g key × Covers key s)
        → value_by g gens c o s v ≡ shown_by w.flow.books.bucket (gen_from w.before said) (ref_of o s) c v
    value_is None s v h = refl
    value_is (Some key) s v h = go (nat_lt 0 key.count) refl
      where
        go : (b : Bool) → nat_lt 0 key.count ≡ b
            → (if is_fresh g gens (if b then Some (ptr_at key 0) else None) then c (place_at key 0 s) else v)
            ≡ shown_by w.flow.books.bucket (gen_from w.before said) (ref_by key s (if b then Some (ptr_at key 0) else None)) c v
        go false test = refl
        go true test =
            let k = h key refl in
            turned (is_stale (age_of g gens (ptr_at key 0))) (c (place_at key 0 s)) v
            ∙ ap (λ (b : Bool). if b then v else c (place_at key 0 s)) (sym (stale_is key s (k.0 0 (some_counts key test)) k.1))

    -- a live key is one that the machine has, and that isn't stale
    pub record Live (key : Key) (s : ℕ) : Type 0 where
      pub ref : Ref
      pub is : ref_of (Some key) s ≡ Some ref
      pub dirty : ref.dirty ≡ key.dirty
      pub place : ref.place ≡ place_at key 0 s
      pub fresh : books.is_stale (gen_from w.before said (w.flow.books.bucket ref.place)) ref.generation ≡ false

    pub live_is : (key : Key) (s : ℕ) → PointsIntoData g key → Covers key s → is_live g gens key ≡ true → Live key s
    live_is key s points covers = go (nat_lt 0 key.count) refl
      where
        fresh_not : (b : Bool) → not b ≡ true → b ≡ false
        fresh_not true e = absurd (cc)
        fresh_not false e = refl

        go : (b : Bool) → nat_lt 0 key.count ≡ b → is_fresh g gens (if b then Some (ptr_at key 0) else None) ≡ true → Live key s
        go false test live = absurd (cc)
        go true test live = record {
          ref = record { dirty = key.dirty; dev = (ptr_at key 0).dev; place = place_at key 0 s; generation = (ptr_at key 0).generation };
          is = ap (λ (b : Bool). ref_by key s (if b then Some (ptr_at key 0) else None)) test;
          dirty = refl;
          place = refl;
          fresh = stale_is key s (points 0 (some_counts key test)) covers ∙ fresh_not (is_stale (age_of g gens (ptr_at key 0))) live;
        }
