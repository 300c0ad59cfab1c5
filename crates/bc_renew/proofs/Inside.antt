-- What the core counts to a bucket of the device lies in it.
use Rattle.std.proofs.Common.{◌≡◌, ◌⊎◌, inl, inr, ℕ, zero, suc, ◌+◌, ◌-◌, ◌*◌, ◌<◌, ◌≤◌, false, arith}
use Rattle.std.proofs.lemmas.Bool.{cases_lt}
use Rattle.std.proofs.lemmas.Grind.{common_steps}
use Rattle.bc_machine.specs.World.{IsOrigin, Origin, World}
use Rattle.bc_places.specs.Stands.{IsCutInto}
use Rattle.bc_whole.specs.State as whole

module _ (x : World) (o : Origin) (is : IsOrigin x o) (size count : ℕ)
    (cut : IsCutInto size count o.opening.machine) (some : 0 < size) where
  abbrev w : whole.Opening
  w = o.opening.machine

  -- what lies behind a bucket is in a later one
  behind : (q t : ℕ) → w.flow.books.bucket t ≡ q → t < (w.before + q) * size + size
  behind q t at = go (cases_lt t ((w.before + q) * size + size))
    where
      go : (t < (w.before + q) * size + size) ⊎ ((w.before + q) * size + size ≤ t)
          → t < (w.before + q) * size + size
      go (inl less) = less
      go (inr past) =
          let first = cut.first q in
          let sectors = cut.sectors in
          let later = is.ends (omega (arith, some, sectors)) q t (omega (
            arith,
            past,
            first,
            sectors,
          ))
          in absurd (omega (arith, later, at))

  -- and what lies before one is in an earlier one
  before : (q t : ℕ) → q < w.layout.buckets → w.flow.books.fixed q ≡ false
      → w.flow.books.bucket t ≡ q → (w.before + q) * size ≤ t
  before zero t below unfixed at =
      let area = (is.sound.laid.area 0 unfixed).0 in
      let journal = is.sound.whole.store.whole.current in absurd (omega (arith, area, journal))
  before (suc q) t below unfixed at = go (cases_lt t ((w.before + suc q) * size))
    where
      last : ℕ
      last = (w.before + q) * size + (size - 1)

      its : w.flow.books.bucket ((w.before + q) * size + (size - 1)) ≡ q
      its =
          let first = cut.first q in
          let sectors = cut.sectors in
          is.sound.laid.sector q ((w.before + q) * size + (size - 1)) (omega (arith, below))
          (omega (arith, first)) (omega (arith, first, sectors, some))

      go : (t < (w.before + suc q) * size) ⊎ ((w.before + suc q) * size ≤ t)
          → (w.before + suc q) * size ≤ t
      go (inr later) = later
      go (inl less) =
          let next : (w.before + suc q) * size ≡ (w.before + q) * size + size
          = grind (arith, common_steps) in
          let early = is.order t ((w.before + q) * size + (size - 1))
          (omega (arith, less, next, some)) in
          let where_ = its in absurd (omega (arith, early, where_, at))

  -- so a place that is counted to a bucket which isn't one of superblock, journal or uuid table is
  -- one of its sectors
  pub sectors_inside : (q t : ℕ) → q < w.layout.buckets → w.flow.books.fixed q ≡ false
      → w.flow.books.bucket t ≡ q → ((w.before + q) * size ≤ t) × (t < (w.before + q) * size + size)
  sectors_inside q t below unfixed at = (before q t below unfixed at, behind q t at)
