-- How many records and sets there are, in numbers.
use Rattle.std.proofs.Common.{ℕ, zero, suc, ◌+◌, ◌-◌, ◌*◌, ◌/◌, ◌<◌, ◌≤◌, ◌^◌, arith}
use Rattle.std.proofs.Math.Nat.{le-div_iff_mul-le, lt-div-mul-add, add-mul, zero-mul, div-le_self}
use Rattle.bc_disk.specs.declared.geometry.Geometry.{Geometry}
use Rattle.bc_disk.specs.Chain.{bucket_bytes, records_in_set, sets_in_chain}

pub record Fit (g : Geometry) : Type 0 where
  pub room : 40 + 3 * records_in_set g ≤ bucket_bytes g
  pub many : 10909 ≤ records_in_set g
  pub few : records_in_set g < 2 ^ 23
  pub buckets : g.nbuckets < 2 ^ 21

pub records_fit : (g : Geometry) → Fit g
unfolding records_in_set
records_fit g =
    let from = g.bucket_from in
    let to = g.bucket_to in
    let buckets = g.buckets_to in
    record { room = omega arith; many = omega arith; few = omega arith; buckets = omega arith }

-- each part of a chain has a record
pub part_begins : (g : Geometry) (part : ℕ) → part < sets_in_chain g → part * records_in_set g < g.nbuckets
unfolding sets_in_chain
part_begins g part inside =
    let fit = records_fit g in
    let some : zero < records_in_set g = omega (arith, fit.many) in
    let more : part + 1 ≤ (g.nbuckets + (records_in_set g - 1)) / records_in_set g = omega arith in
    let all : (part + 1) * records_in_set g ≤ g.nbuckets + (records_in_set g - 1) = (le-div_iff_mul-le some).0 more in
    omega (arith, add-mul part 1 (records_in_set g))

-- and all parts together have all records
pub parts_reach : (g : Geometry) → g.nbuckets ≤ sets_in_chain g * records_in_set g
unfolding sets_in_chain
parts_reach g =
    let fit = records_fit g in
    let some : zero < records_in_set g = omega (arith, fit.many) in
    let all = lt-div-mul-add {a = g.nbuckets + (records_in_set g - 1)} some in
    omega arith

pub some_sets : (g : Geometry) → 0 < sets_in_chain g
some_sets g = go (sets_in_chain g) (parts_reach g)
  where
    go : (n : ℕ) → g.nbuckets ≤ n * records_in_set g → 0 < n
    go zero h = let many = g.buckets_from in absurd (omega (arith, zero-mul (records_in_set g)))
    go (suc n) h = omega arith

pub sets_few : (g : Geometry) → sets_in_chain g < 2 ^ 24
unfolding sets_in_chain
sets_few g =
    let fit = records_fit g in
    let few = div-le_self (g.nbuckets + (records_in_set g - 1)) (records_in_set g) in
    omega (arith, fit.few, fit.buckets)
