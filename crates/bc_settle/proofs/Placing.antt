-- Where places lie that are in one bucket of the device.
use Rattle.std.proofs.Common.{◌≡◌, ℕ, ◌+◌, ◌-◌, ◌*◌, ◌/◌, ◌<◌, ◌≤◌, length, ap, ◌∙◌, arith}
use Rattle.std.proofs.Math.Nat.{div-mul-le_self, lt-div-mul-add}
use Rattle.bc_bucket.specs.Buckets.{Buckets}
use Rattle.bc_known.specs.Known.{AreLaid}
use Rattle.bc_places.specs.Stands.{IsCutInto}
use Rattle.bc_whole.specs.State as whole
use Rattle.bc_settle.specs.Fits.{LieInOne}

module _ (w : whole.Opening) (b : Buckets) (laid : AreLaid w)
    (cut : IsCutInto b.size (length b.records) w)
    (from_is : b.data_from ≡ w.before + w.layout.journal) (some_size : 0 < b.size) (at count : ℕ)
    (some : 1 ≤ count) (one : LieInOne b at count) where
  abbrev pub number : ℕ
  number = at / b.size

  -- the core counts from the first bucket of the journal on
  abbrev pub its : ℕ
  its = number - w.before

  pub number_is : w.before + its ≡ number
  number_is = let from = one.for_data in omega (arith, from, from_is)

  pub low : number * b.size ≤ at
  low = div-mul-le_self at b.size

  pub high : at + count ≤ number * b.size + b.size
  high =
      let last = lt-div-mul-add {a = at + count - 1} some_size in
      let same = ap (λ n. n * b.size) one.same in omega (arith, last, same, some)

  pub known : its < w.layout.buckets
  known =
      let below = one.known in
      let many = cut.buckets in
      let is = number_is in omega (arith, below, many, is)

  first_is : w.layout.first its ≡ number * b.size
  first_is = cut.first its ∙ ap (λ n. n * b.size) number_is

  pub bucket_is : (t : ℕ) → at ≤ t → t < at + count → w.flow.books.bucket t ≡ its
  bucket_is t from to =
      let first = first_is in
      let long = cut.sectors in
      let a = low in
      let c = high in
      laid.sector its t known (omega (arith, first, a, from))
      (omega (arith, first, c, to, long))
