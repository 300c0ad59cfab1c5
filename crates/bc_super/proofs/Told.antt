-- A device that tells what it holds has the bytes of one superblock.
use Rattle.std.proofs.Common.{◌≡◌, inl, inr, ℕ, ◌<◌, ◌≤◌, List, Option, Some, None, refl, sym, ◌∙◌, subst}
use Rattle.bc_model.specs.Sector.{Value, Image, at_run, unless, values_of, Gives}
use Rattle.bc_disk.specs.Disk.{DiskFacts, BothTold, IfTold, Overwritten}
use Rattle.bc_super.specs.Cache.{IsCacheRefused, IsCacheSuper}
use Rattle.bc_super.specs.Reading.{IsCacheCause, IsCause, IsSuperBytes, ReadsCache, ReadsSuper}
use Rattle.bc_super.specs.Super.{IsBackingSuper, IsRefused}
use Rattle.bc_super.specs.declared.backing.BackingSuper.{BackingSuper}
use Rattle.bc_super.specs.declared.cache.CacheSuper.{CacheSuper}
use Rattle.bc_super.specs.declared.error.SuperError.{SuperError}
use Rattle.bc_super.specs.declared.error.SuperError.TheVariants as errors
use Rattle.bc_super.proofs.Sectors.{five_read}

-- values that an image has already
held_over : (values : List Value) (held : Image) → Gives 8 values (λ s v. v ≡ held s) → Overwritten 8 values held held
held_over values held gives s = by (at_run 8 values s) refl
  where
    by : (o : Option Value) → at_run 8 values s ≡ o → held s ≡ unless o (held s)
    by None is = refl
    by (Some v) is = sym (gives s v is)

-- what is read of a device that holds the same as another is what is read of that one
pub super_before : (bytes : List ℕ) (old new : DiskFacts) → BothTold (λ (a b : Image). (s : ℕ) → b s ≡ a s) old.holds new.holds → IsSuperBytes bytes new → IsSuperBytes bytes old
super_before bytes old new both is = record { whole = is.whole; read = by old.holds new.holds both is.read }
  where
    by : (a b : Option Image) → BothTold (λ (a b : Image). (s : ℕ) → b s ≡ a s) a b → IfTold b (λ held. Gives 8 (values_of bytes) (λ s v. v ≡ held s)) → IfTold a (λ held. Gives 8 (values_of bytes) (λ s v. v ≡ held s))
    by None b both read = tt
    by (Some held) None both read = absurd both
    by (Some held) (Some now) both read = λ s v is. read s v is ∙ both s

pub super_after : (bytes : List ℕ) (old new : DiskFacts) → BothTold (λ (a b : Image). (s : ℕ) → b s ≡ a s) old.holds new.holds → IsSuperBytes bytes old → IsSuperBytes bytes new
super_after bytes old new both is = record { whole = is.whole; read = by old.holds new.holds both is.read }
  where
    by : (a b : Option Image) → BothTold (λ (a b : Image). (s : ℕ) → b s ≡ a s) a b → IfTold a (λ held. Gives 8 (values_of bytes) (λ s v. v ≡ held s)) → IfTold b (λ held. Gives 8 (values_of bytes) (λ s v. v ≡ held s))
    by None None both read = tt
    by None (Some held) both read = absurd both
    by (Some held) None both read = absurd both
    by (Some held) (Some now) both read = λ s v is. read s v is ∙ sym (both s)

pub same_bytes : (d : DiskFacts) (held : Image) → d.holds ≡ Some held → (xs ys : List ℕ) → IsSuperBytes xs d → IsSuperBytes ys d → xs ≡ ys
same_bytes d held told xs ys first second = by d.holds told first.read second.read
  where
    by : (o : Option Image) → o ≡ Some held → IfTold o (λ held. Gives 8 (values_of xs) (λ s v. v ≡ held s)) → IfTold o (λ held. Gives 8 (values_of ys) (λ s v. v ≡ held s)) → xs ≡ ys
    by None is x y = absurd (cc)
    by (Some now) is x y = five_read xs ys now now first.whole second.whole (held_over (values_of ys) now y) x

-- what is read of a device that holds the same, and has as many sectors, is the same
module _ (d e : DiskFacts) (size : e.sectors ≡ d.sectors) (both : BothTold (λ (a b : Image). (s : ℕ) → b s ≡ a s) d.holds e.holds) where
  pub reads_after : (s : BackingSuper) → ReadsSuper d s → ReadsSuper e s
  reads_after s read = (read.0, super_after read.0 d e both read.1, subst (λ n. IsBackingSuper read.0 n s) (sym size) read.2)

  pub reads_before : (s : BackingSuper) → ReadsSuper e s → ReadsSuper d s
  reads_before s read = (read.0, super_before read.0 d e both read.1, subst (λ n. IsBackingSuper read.0 n s) size read.2)

  pub reads_cache_after : (s : CacheSuper) → ReadsCache d s → ReadsCache e s
  reads_cache_after s read = (read.0, super_after read.0 d e both read.1, subst (λ n. IsCacheSuper read.0 n s) (sym size) read.2)

  refused_after : (why : SuperError) → (bytes : List ℕ) × IsSuperBytes bytes d × IsRefused bytes d.sectors why → (bytes : List ℕ) × IsSuperBytes bytes e × IsRefused bytes e.sectors why
  refused_after why read = (read.0, super_after read.0 d e both read.1, subst (λ n. IsRefused read.0 n why) (sym size) read.2)

  cache_refused_after : (why : SuperError) → (bytes : List ℕ) × IsSuperBytes bytes d × IsCacheRefused bytes d.sectors why → (bytes : List ℕ) × IsSuperBytes bytes e × IsCacheRefused bytes e.sectors why
  cache_refused_after why read = (read.0, super_after read.0 d e both read.1, subst (λ n. IsCacheRefused read.0 n why) (sym size) read.2)

  pub cause_after : (why : SuperError) → IsCause d why → IsCause e why
  cause_after errors.DeviceSmall is = subst (λ n. n < 16) (sym size) is
  cause_after errors.Fault is = subst (λ n. 16 ≤ n) (sym size) is
  cause_after why is = refused_after why is

  pub cache_cause_after : (why : SuperError) → IsCacheCause d why → IsCacheCause e why
  cache_cause_after errors.DeviceSmall (inl few) = inl (subst (λ n. n < 16) (sym size) few)
  cache_cause_after errors.DeviceSmall (inr is) = inr (cache_refused_after errors.DeviceSmall is)
  cache_cause_after errors.Fault is = subst (λ n. 16 ≤ n) (sym size) is
  cache_cause_after why is = cache_refused_after why is
