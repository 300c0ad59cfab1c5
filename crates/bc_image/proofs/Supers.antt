-- The superblocks of images are those that reads give.
use Rattle.std.proofs.Common.{◌≡◌, ℕ, ◌≤◌, List, Some, sym, subst}
use Rattle.std.specs.Prelude.{Option}
use Rattle.bc_model.specs.Sector.{Image, Gives, values_of}
use Rattle.bc_disk.specs.Disk.{DiskFacts, IfTold}
use Rattle.bc_record.specs.Sectors.{Has}
use Rattle.bc_record.proofs.Parts.{bytes_in-has}
use Rattle.bc_super.specs.Cache.{IsCacheSuper}
use Rattle.bc_super.specs.Reading.{IsSuperBytes, ReadsCache, ReadsSuper}
use Rattle.bc_super.specs.Super.{IsBackingSuper}
use Rattle.bc_super.specs.declared.backing.BackingSuper.{BackingSuper}
use Rattle.bc_super.specs.declared.cache.CacheSuper.{CacheSuper}
use Rattle.bc_image.specs.Pair.{Pair, super_bytes, HasBacking, HasCache}

bytes_are : (d : DiskFacts) (image : Image) (bytes : List ℕ) → d.holds ≡ Some image → IsSuperBytes bytes d → super_bytes image ≡ bytes
bytes_are d image bytes told there =
    let has : Has image 8 (values_of bytes) = subst (λ (o : Option Image). IfTold o (λ held. Gives 8 (values_of bytes) (λ s v. v ≡ held s))) told there.read in
    bytes_in-has image 8 5 bytes there.whole has

pub cache_read : (d : DiskFacts) (p : Pair) (s : CacheSuper) → d.holds ≡ Some p.cache → d.sectors ≡ p.cache_sectors → 16 ≤ p.cache_sectors → ReadsCache d s → HasCache p s
cache_read d p s told size some (bytes, there, is) = (some, subst (λ n. IsCacheSuper (super_bytes p.cache) n s) size (subst (λ (bs : List ℕ). IsCacheSuper bs d.sectors s) (sym (bytes_are d p.cache bytes told there)) is))

pub backing_read : (d : DiskFacts) (p : Pair) (s : BackingSuper) → d.holds ≡ Some p.backing → d.sectors ≡ p.backing_sectors → 16 ≤ p.backing_sectors → ReadsSuper d s → HasBacking p s
backing_read d p s told size some (bytes, there, is) = (some, subst (λ n. IsBackingSuper (super_bytes p.backing) n s) size (subst (λ (bs : List ℕ). IsBackingSuper bs d.sectors s) (sym (bytes_are d p.backing bytes told there)) is))
