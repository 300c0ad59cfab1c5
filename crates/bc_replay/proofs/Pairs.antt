-- What two devices hold, as a pair.
use Rattle.std.proofs.Common.{◌≡◌, ◌≢◌, inl, inr, ℕ, ◌≤◌, List, Option, Some, None, refl, sym, subst, arith}
use Rattle.std.specs.Prelude.{Result, Ok, Err, IfErr, IsErrAnd}
use Rattle.std.proofs.lemmas.Bool.{cases_lt}
use Rattle.bc_model.specs.Sector.{Image, Gives, values_of}
use Rattle.bc_disk.specs.Disk.{DiskFacts, IfTold, IsKept}
use Rattle.bc_disk.specs.Device.{next_count}
use Rattle.bc_disk.specs.Gens.{Gens}
use Rattle.bc_disk.specs.declared.disk.Device.TheVariants as device
use Rattle.bc_disk.specs.declared.geometry.Geometry.{Geometry}
use Rattle.bc_entries.specs.Journal.{Journal}
use Rattle.bc_image.specs.Pair.{Pair, super_bytes}
use Rattle.bc_image.proofs.Supers.{cache_read, backing_read}
use Rattle.bc_pair.specs.Found.{pair_of}
use Rattle.bc_record.specs.Sectors.{Has}
use Rattle.bc_record.proofs.Parts.{bytes_in-has}
use Rattle.bc_super.specs.Cache.{IsCacheRefused}
use Rattle.bc_super.specs.Super.{IsRefused}
use Rattle.bc_super.specs.Reading.{IsSuperBytes, ReadsRefused, ReadsCacheRefused, IsCause, IsCacheCause}
use Rattle.bc_super.specs.declared.backing.BackingSuper.{BackingSuper}
use Rattle.bc_super.specs.declared.cache.CacheSuper.{CacheSuper}
use Rattle.bc_super.specs.declared.error.SuperError.{SuperError}
use Rattle.bc_super.specs.declared.error.SuperError.TheVariants as super
use Rattle.bc_replay.specs.declared.error.OpenError.{OpenError}
use Rattle.bc_replay.specs.declared.error.OpenError.TheVariants as errors
use Rattle.bc_replay.specs.Behind.{HasBehind, IsBehindFirst, IsBehindCause}
use Rattle.bc_replay.specs.Causes.{OfHeld, RefusesBacking, RefusesCache, ReadsSupers, IsSupersCause, IsOpenCause, CountsFault, RisesWith}
use Rattle.bc_replay.specs.First.{IsBackingRefused, IsCacheDeviceRefused, IsFirstHead}
use Rattle.bc_replay.specs.Heads.{HasSupers, HasHeads}
use Rattle.bc_replay.proofs.Behind.{told_back}

-- an error that is passed on
pub passed_on : {T : Type 0} (r : Result T OpenError) (e : OpenError) (Q : OpenError → Type 0) → IsErrAnd r (λ x. x ≡ e) → Q e → IfErr r Q
passed_on (Ok x) e Q is holds = tt
passed_on (Err x) e Q is holds = subst Q (sym is) holds

bytes_are : (d : DiskFacts) (image : Image) (bytes : List ℕ) → d.holds ≡ Some image → IsSuperBytes bytes d → super_bytes image ≡ bytes
bytes_are d image bytes told there =
    let has : Has image 8 (values_of bytes) = subst (λ (o : Option Image). IfTold o (λ held. Gives 8 (values_of bytes) (λ s v. v ≡ held s))) told there.read in
    bytes_in-has image 8 5 bytes there.whole has

if_held : (P : Image → Type 0) (o : Option Image) → ((image : Image) → o ≡ Some image → P image) → IfTold o P
if_held P None f = tt
if_held P (Some image) f = f image refl

told_of : (P : Image → Type 0) (o : Option Image) (image : Image) → o ≡ Some image → IfTold o P → P image
told_of P o image is p = subst (λ (x : Option Image). IfTold x P) is p

pub of_both : (P : Pair → Type 0) (cache backing : DiskFacts) → ((c b : Image) → cache.holds ≡ Some c → backing.holds ≡ Some b → P (pair_of cache backing c b)) → OfHeld P cache backing
of_both P cache backing f =
    if_held (λ c. IfTold backing.holds (λ b. P (pair_of cache backing c b))) cache.holds
    (λ c tells. if_held (λ b. P (pair_of cache backing c b)) backing.holds (λ b told. f c b tells told))

read_refused : (d : DiskFacts) (image : Image) (why : SuperError) → d.holds ≡ Some image → ReadsRefused d why → IsRefused (super_bytes image) d.sectors why
read_refused d image why told (bytes, there, is) = subst (λ (bs : List ℕ). IsRefused bs d.sectors why) (sym (bytes_are d image bytes told there)) is

read_cache_refused : (d : DiskFacts) (image : Image) (why : SuperError) → d.holds ≡ Some image → ReadsCacheRefused d why → IsCacheRefused (super_bytes image) d.sectors why
read_cache_refused d image why told (bytes, there, is) = subst (λ (bs : List ℕ). IsCacheRefused bs d.sectors why) (sym (bytes_are d image bytes told there)) is

backing_why : (d : DiskFacts) (image : Image) (why : SuperError) → d.holds ≡ Some image → 16 ≤ d.sectors → why ≢ super.Fault → IsCause d why → IsRefused (super_bytes image) d.sectors why
backing_why d image super.DeviceSmall told large unless cause = absurd (omega (arith, large, cause))
backing_why d image super.Fault told large unless cause = absurd (unless refl)
backing_why d image why told large unless cause = read_refused d image why told cause

cache_why : (d : DiskFacts) (image : Image) (why : SuperError) → d.holds ≡ Some image → 16 ≤ d.sectors → why ≢ super.Fault → IsCacheCause d why → IsCacheRefused (super_bytes image) d.sectors why
cache_why d image super.DeviceSmall told large unless (inl small) = absurd (omega (arith, large, small))
cache_why d image super.DeviceSmall told large unless (inr cause) = read_cache_refused d image super.DeviceSmall told cause
cache_why d image super.Fault told large unless cause = absurd (unless refl)
cache_why d image why told large unless cause = read_cache_refused d image why told cause

module _ (cache backing : DiskFacts) (c b : Image) (tells : cache.holds ≡ Some c) (told : backing.holds ≡ Some b) where
  abbrev pair : Pair
  pair = pair_of cache backing c b

  pub backing_refused : (why : SuperError) → RefusesBacking backing why → IsBackingRefused pair why
  backing_refused why (unless, cause, small) = elim (cases_lt backing.sectors 16) [
    | inl low ↦ inl (low, small low)
    | inr large ↦ inr (large, backing_why backing b why told large unless cause)
  ]

  cache_refused : (why : SuperError) → RefusesCache cache why → IsCacheDeviceRefused pair why
  cache_refused why (unless, cause, small) = elim (cases_lt cache.sectors 16) [
    | inl low ↦ inl (low, small low)
    | inr large ↦ inr (large, cache_why cache c why tells large unless cause)
  ]

  first_super : (old new : ℕ) (e : OpenError) → IsSupersCause cache backing old new e → (e ≢ errors.Fault device.Cache) → (e ≢ errors.Fault device.Backing) → IsFirstHead pair e
  first_super old new (errors.Super device.Backing why) (inl own) n m = inl (backing_refused why own.0)
  first_super old new (errors.Super device.Backing why) (inr (s, gives, calls, inl other)) n m = absurd other
  first_super old new (errors.Super device.Backing why) (inr (s, gives, calls, inr (k, given, misfit))) n m =
      inr (s, k, backing_read backing pair s told refl gives.0 gives.1, cache_read cache pair k tells refl given.0 given.1, misfit.0, misfit.1, misfit.2)
  first_super old new (errors.Super device.Cache why) (inl own) n m = absurd own.0
  first_super old new (errors.Super device.Cache why) (inr (s, gives, calls, inl own)) n m = inl (s, backing_read backing pair s told refl gives.0 gives.1, cache_refused why own)
  first_super old new (errors.Super device.Cache why) (inr (s, gives, calls, inr (k, given, misfit))) n m =
      inr (s, k, backing_read backing pair s told refl gives.0 gives.1, cache_read cache pair k tells refl given.0 given.1, misfit.0, misfit.1)
  first_super old new (errors.Fault device.Cache) cause n m = absurd (n refl)
  first_super old new (errors.Fault device.Backing) cause n m = absurd (m refl)
  first_super old new e (inl own) n m = absurd own.0
  first_super old new e (inr (s, gives, calls, inl own)) n m = absurd own
  first_super old new e (inr (s, gives, calls, inr (k, given, misfit))) n m = absurd misfit

  has_supers : (s : BackingSuper) (k : CacheSuper) (g : Geometry) → ReadsSupers cache backing s k g → HasSupers pair s k g
  has_supers s k g reads = record {
    backing = backing_read backing pair s told refl reads.backing_super.0 reads.backing_super.1;
    cache = cache_read cache pair k tells refl reads.cache_super.0 reads.cache_super.1;
    fit = reads.fit;
    geometry = reads.geometry;
  }

  first_behind : (s : BackingSuper) (k : CacheSuper) (g : Geometry) (e : OpenError) → ReadsSupers cache backing s k g → IsBehindFirst g s.uuid e c → IsFirstHead pair e
  first_behind s k g errors.NoJournal reads first = (s, k, g, has_supers s k g reads, first)
  first_behind s k g (errors.JournalGap from to) reads first = (s, k, g, has_supers s k g reads, first)
  first_behind s k g (errors.JournalEnd seq) reads first = (s, k, g, has_supers s k g reads, first)
  first_behind s k g (errors.Prio why) reads first = (s, k, g, has_supers s k g reads, first)
  first_behind s k g errors.Uuid reads first = (s, k, g, has_supers s k g reads, first)
  first_behind s k g (errors.Super d why) reads first = absurd first
  first_behind s k g (errors.Node bucket why) reads first = absurd first
  first_behind s k g (errors.PointerRange word) reads first = absurd first
  first_behind s k g (errors.TwoUses bucket) reads first = absurd first
  first_behind s k g (errors.NoSpare found) reads first = absurd first
  first_behind s k g (errors.Fault d) reads first = absurd first
  first_behind s k g errors.Memory reads first = absurd first

  heads : (s : BackingSuper) (k : CacheSuper) (g : Geometry) (j : Journal) (gens : Gens) → ReadsSupers cache backing s k g → HasBehind g c s.uuid j gens → HasHeads pair s k g j gens
  heads s k g j gens reads has = record { supers = has_supers s k g reads; journal = has.journal; chain = has.chain; uuids = has.uuids }

module _ (cache backing : DiskFacts) where
  first_of : (old new : ℕ) (e : OpenError) → e ≢ errors.Fault device.Cache → e ≢ errors.Fault device.Backing → IsSupersCause cache backing old new e → OfHeld (λ p. IsFirstHead p e) cache backing
  first_of old new e n m cause = of_both (λ p. IsFirstHead p e) cache backing (λ c b tells told. first_super cache backing c b tells told old new e cause n m)

  pub supers_cause : (old new : ℕ) (e : OpenError) → IsSupersCause cache backing old new e → IsOpenCause cache backing e
  supers_cause old new (errors.Fault d) cause = tt
  supers_cause old new errors.Memory cause = tt
  supers_cause old new e cause = first_of old new e (λ is. cc) (λ is. cc) cause

  behind_of : (mid : DiskFacts) (s : BackingSuper) (k : CacheSuper) (g : Geometry) (e : OpenError) → ReadsSupers cache backing s k g → IsKept cache mid → IfTold mid.holds (IsBehindFirst g s.uuid e) → OfHeld (λ p. IsFirstHead p e) cache backing
  behind_of mid s k g e reads kept cause =
      let here = told_back (IsBehindFirst g s.uuid e) cache mid kept cause in
      of_both (λ p. IsFirstHead p e) cache backing (λ c b tells told. first_behind cache backing c b tells told s k g e reads (told_of (IsBehindFirst g s.uuid e) cache.holds c tells here))

  pub behind_cause : (mid : DiskFacts) (s : BackingSuper) (k : CacheSuper) (g : Geometry) (e : OpenError) → ReadsSupers cache backing s k g → IsKept cache mid → IsBehindCause mid g s.uuid e → IsOpenCause cache backing e
  behind_cause mid s k g (errors.Fault d) reads kept cause = tt
  behind_cause mid s k g errors.Memory reads kept cause = tt
  behind_cause mid s k g (errors.Super d why) reads kept cause = absurd cause
  behind_cause mid s k g e reads kept cause = behind_of mid s k g e reads kept cause

  pub heads_held : (mid : DiskFacts) (s : BackingSuper) (k : CacheSuper) (g : Geometry) (j : Journal) (gens : Gens) → ReadsSupers cache backing s k g → IsKept cache mid → IfTold mid.holds (λ image. HasBehind g image s.uuid j gens)
      → OfHeld (λ p. HasHeads p s k g j gens) cache backing
  heads_held mid s k g j gens reads kept behind =
      let here = told_back (λ image. HasBehind g image s.uuid j gens) cache mid kept behind in
      of_both (λ p. HasHeads p s k g j gens) cache backing (λ c b tells told. heads cache backing c b tells told s k g j gens reads (told_of (λ image. HasBehind g image s.uuid j gens) cache.holds c tells here))

-- a fault of the cache device alone, behind two good calls
pub counts : (T : Type 0) (d : DiskFacts) (g : Geometry) (uuid : List ℕ) (e : OpenError) (cache mid last backing after : DiskFacts) → IsBehindCause d g uuid e → mid.faults ≡ cache.faults → after.faults ≡ backing.faults
    → RisesWith {T = T} (Err e) mid.faults last.faults → CountsFault e cache last backing after
counts T d g uuid (errors.Fault device.Cache) cache mid last backing after cause same other rises = (subst (λ n. last.faults ≡ next_count n) same rises, other)
counts T d g uuid (errors.Fault device.Backing) cache mid last backing after cause same other rises = absurd cause
counts T d g uuid e cache mid last backing after cause same other rises = (subst (λ n. last.faults ≡ n) same rises, other)
