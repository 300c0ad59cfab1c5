-- Places by pointers into the data buckets.
use Rattle.std.proofs.Common.{◌≡◌, ℕ, suc, ◌+◌, ◌-◌, ◌*◌, ◌^◌, ◌<◌, ◌≤◌, ap, ◌∙◌, arith}
use Rattle.std.specs.Prelude.{◌/◌, ◌%◌}
use Rattle.std.proofs.Math.Nat.{mod-eq_of_lt, mul-le-mul_left}
use Rattle.std.proofs.lemmas.Nat.{mul-le, div-mul-add}
use Rattle.bc_disk.specs.declared.geometry.Geometry.{Geometry}
use Rattle.bc_key.specs.declared.key.Key.{Key}
use Rattle.bc_key.specs.Key.{ptr_at, place_at, start_of, Covers}
use Rattle.bc_record.specs.Places.{bucket_at}
use Rattle.bc_image.specs.Pointers.{LiesInData}

device_small : (g : Geometry) → g.bucket * g.nbuckets ≤ 2 ^ 35
device_small g =
    let to = g.buckets_to in
    let some = g.bucket_to in
    mul-le g.bucket g.nbuckets (2 ^ 15) (2 ^ 20) (omega (arith, some)) (omega (arith, to))

-- behind the beginning of a bucket by less than its length
within : (bucket q r : ℕ) → r < bucket → (bucket * q + r) / bucket ≡ q
within bucket q r small = ap (λ n. n / bucket) (let turned : bucket * q + r ≡ q * bucket + r = grind arith in turned) ∙ div-mul-add q bucket r small

module _ (g : Geometry) (offset d n : ℕ) (inside : offset / g.bucket < g.nbuckets) (whole : offset % g.bucket + n ≤ g.bucket) (short : d < n) where
  split : offset + d ≡ g.bucket * (offset / g.bucket) + (offset % g.bucket + d)
  split = let wide = g.bucket_from in omega (arith, wide)

  place_within : offset + d < 2 ^ 43
  place_within =
      let small = device_small g in
      let more : g.bucket * suc (offset / g.bucket) ≤ g.bucket * g.nbuckets = mul-le-mul_left g.bucket (omega (arith, inside)) in
      let parts = split in
      omega (arith, small, more, parts, whole, short)

  place_bucket : (offset + d) / g.bucket ≡ offset / g.bucket
  place_bucket = ap (λ m. m / g.bucket) split ∙ within g.bucket (offset / g.bucket) (offset % g.bucket + d) (omega (arith, whole, short))

pub lies_in_bucket : (g : Geometry) (key : Key) (i s : ℕ) → LiesInData g (ptr_at key i) key.size → Covers key s
    → (place_at key i s ≡ (ptr_at key i).offset + (s - start_of key)) × (bucket_at g (place_at key i s) ≡ bucket_at g (ptr_at key i).offset)
lies_in_bucket g key i s lies covers =
    let offset = (ptr_at key i).offset in
    let short : s - start_of key < key.size = omega (arith, covers.0, covers.1) in
    let place : place_at key i s ≡ (ptr_at key i).offset + (s - start_of key) = mod-eq_of_lt (place_within g (ptr_at key i).offset (s - start_of key) key.size lies.bucket.1 lies.whole short) in
    (place, ap (λ m. m / g.bucket) place ∙ place_bucket g (ptr_at key i).offset (s - start_of key) key.size lies.bucket.1 lies.whole short)
