-- What reads of a disk of some bytes say of the image of these bytes.
use Rattle.std.proofs.Common.{◌≡◌, ◌≢◌, ℕ, ◌<◌, ◌≤◌, ◌⊎◌, List, length, Some, inl, inr, refl, sym, subst, arith}
use Rattle.std.specs.Prelude.{◌/◌, Option}
use Rattle.std.proofs.lemmas.Bool.{cases_lt}
use Rattle.bc_model.specs.Sector.{Image, Gives, values_of}
use Rattle.bc_disk.specs.Bytes.{image_of}
use Rattle.bc_disk.specs.Disk.{DiskFacts, IfTold}
use Rattle.bc_record.specs.Sectors.{Has}
use Rattle.bc_record.proofs.Parts.{bytes_in-has}
use Rattle.bc_super.specs.Cache.{IsCacheSuper}
use Rattle.bc_super.specs.Super.{IsBackingSuper}
use Rattle.bc_super.specs.Reading.{IsSuperBytes, ReadsCache, ReadsSuper, ReadsRefused, ReadsCacheRefused, IsCause, IsCacheCause}
use Rattle.bc_super.specs.declared.backing.BackingSuper.{BackingSuper}
use Rattle.bc_super.specs.declared.cache.CacheSuper.{CacheSuper}
use Rattle.bc_super.specs.declared.error.SuperError.{SuperError}
use Rattle.bc_super.specs.declared.error.SuperError.TheVariants as errors
use Rattle.bc_super.proofs.Readings.{never_both_cache, apart}
use Rattle.bc_image.specs.Pair.{super_bytes, HasBacking, HasCache}
use Rattle.bc_image.proofs.Supers.{cache_read, backing_read}
use Rattle.bc_plain_pair.specs.PairBytes.{pair_of}

bytes_are : (d : DiskFacts) (image : Image) (bytes : List ℕ) → d.holds ≡ Some image → IsSuperBytes bytes d → super_bytes image ≡ bytes
bytes_are d image bytes told there =
    let has : Has image 8 (values_of bytes) = subst (λ (o : Option Image). IfTold o (λ held. Gives 8 (values_of bytes) (λ s v. v ≡ held s))) told there.read in
    bytes_in-has image 8 5 bytes there.whole has

pub cache_there : (d : DiskFacts) (cache backing : List ℕ) (s : CacheSuper) → d.holds ≡ Some (image_of cache) → d.sectors ≡ length cache / 512 → 16 ≤ d.sectors → ReadsCache d s → HasCache (pair_of cache backing) s
cache_there d cache backing s told size large reads = cache_read d (pair_of cache backing) s told size (subst (λ n. 16 ≤ n) size large) reads

cache_refused : (d : DiskFacts) (cache backing : List ℕ) (e : SuperError) → d.holds ≡ Some (image_of cache) → d.sectors ≡ length cache / 512 → ReadsCacheRefused d e → (x : CacheSuper) → HasCache (pair_of cache backing) x → ⊥
cache_refused d cache backing e told size (bytes, there, is) x has =
    let same = bytes_are d (image_of cache) bytes told there in
    never_both_cache bytes d.sectors x e (subst (λ n. IsCacheSuper bytes n x) (sym size) (subst (λ (bs : List ℕ). IsCacheSuper bs (length cache / 512) x) same has.1)) is

pub cache_not : (d : DiskFacts) (cache backing : List ℕ) (e : SuperError) → d.holds ≡ Some (image_of cache) → d.sectors ≡ length cache / 512 → e ≢ errors.Fault → IsCacheCause d e → (x : CacheSuper) → HasCache (pair_of cache backing) x → ⊥
cache_not d cache backing errors.DeviceSmall told size fault (inl small) x has = (let large = has.0 in omega (arith, large, small, size))
cache_not d cache backing errors.DeviceSmall told size fault (inr why) x has = cache_refused d cache backing errors.DeviceSmall told size why x has
cache_not d cache backing errors.Fault told size fault cause x has = fault refl
cache_not d cache backing e told size fault cause x has = cache_refused d cache backing e told size cause x has

pub backing_there : (d : DiskFacts) (cache backing : List ℕ) (s : BackingSuper) → d.holds ≡ Some (image_of backing) → d.sectors ≡ length backing / 512 → 16 ≤ d.sectors → ReadsSuper d s → HasBacking (pair_of cache backing) s
backing_there d cache backing s told size large reads = backing_read d (pair_of cache backing) s told size (subst (λ n. 16 ≤ n) size large) reads

backing_refused : (d : DiskFacts) (cache backing : List ℕ) (e : SuperError) → d.holds ≡ Some (image_of backing) → d.sectors ≡ length backing / 512 → ReadsRefused d e → (x : BackingSuper) → HasBacking (pair_of cache backing) x → ⊥
backing_refused d cache backing e told size (bytes, there, is) x has =
    let same = bytes_are d (image_of backing) bytes told there in
    apart bytes d.sectors x e (subst (λ n. IsBackingSuper bytes n x) (sym size) (subst (λ (bs : List ℕ). IsBackingSuper bs (length backing / 512) x) same has.1)) is

pub backing_not : (d : DiskFacts) (cache backing : List ℕ) (e : SuperError) → d.holds ≡ Some (image_of backing) → d.sectors ≡ length backing / 512 → e ≢ errors.Fault → IsCause d e → (x : BackingSuper) → HasBacking (pair_of cache backing) x → ⊥
backing_not d cache backing errors.DeviceSmall told size fault small x has = (let large = has.0 in omega (arith, large, small, size))
backing_not d cache backing errors.Fault told size fault cause x has = fault refl
backing_not d cache backing e told size fault cause x has = backing_refused d cache backing e told size cause x has

pub large : (n : ℕ) → (n < 16 → ⊥) → 16 ≤ n
large n no_less = go (cases_lt n 16)
  where
    go : (n < 16) ⊎ (16 ≤ n) → 16 ≤ n
    go (inl low) = absurd (no_less low)
    go (inr high) = high
