-- What was read of devices that kept what they held.
use Rattle.std.proofs.Common.{◌≡◌, ℕ, Option, Some, None, refl, sym, ap, subst}
use Rattle.bc_disk.specs.Disk.{BothTold, DiskFacts, IfTold, IsKept}
use Rattle.bc_image.specs.Pair.{Pair}
use Rattle.bc_model.specs.Sector.{Gives, Image, values_of}
use Rattle.bc_replay.specs.Causes.{OfHeld}
use Rattle.bc_super.specs.Reading.{ReadsSuper}
use Rattle.bc_super.specs.Super.{IsBackingSuper}
use Rattle.bc_super.specs.declared.backing.BackingSuper.{BackingSuper}

same_told : (x y : Option Image) → BothTold (λ (a b : Image). (s : ℕ) → b s ≡ a s) x y → x ≡ y
same_told None None both = refl
same_told None (Some b) both = absurd both
same_told (Some a) None both = absurd both
same_told (Some a) (Some b) both =
    let same : b ≡ a = (λ i. λ s. both s i) in ap (λ (i : Image). Some i) (sym same)

module _ (old new : DiskFacts) (kept : IsKept old new) where
  pub reads_kept : (b : BackingSuper) → ReadsSuper old b → ReadsSuper new b
  reads_kept b (bytes, there, is) = (
    bytes,
    record {
      whole = there.whole;
      read = subst (λ (o : Option Image). IfTold o (λ held.
          Gives 8 (values_of bytes) (λ s v. v ≡ held s))) (same_told old.holds new.holds kept.holds)
          there.read;
    },
    subst (λ n. IsBackingSuper bytes n b) (sym kept.sectors) is,
  )

  pub backing_kept : (cache : DiskFacts) (P : Pair → Type 0) → OfHeld P cache old
      → OfHeld P cache new
  backing_kept cache P so = subst (λ n. IfTold cache.holds (λ c. IfTold new.holds (λ d. P (record {
    cache = c;
    cache_sectors = cache.sectors;
    backing = d;
    backing_sectors = n;
  })))) (sym kept.sectors) (subst (λ (o : Option Image). IfTold cache.holds (λ c.
      IfTold o (λ d. P (record {
        cache = c;
        cache_sectors = cache.sectors;
        backing = d;
        backing_sectors = old.sectors;
      })))) (same_told old.holds new.holds kept.holds) so)
