-- What a refusal of superblocks says of two devices, and that no other step refuses them.
use Rattle.std.proofs.Common.{◌≡◌, inl, inr, ℕ, ◌<◌, ◌≤◌, List, Option, Some, None, sym, subst}
use Rattle.bc_model.specs.Sector.{Image}
use Rattle.bc_disk.specs.Disk.{BothTold, DiskFacts}
use Rattle.bc_disk.specs.Gens.{Gens}
use Rattle.bc_disk.specs.declared.disk.Device.TheVariants as device
use Rattle.bc_disk.specs.declared.geometry.Geometry.{Geometry}
use Rattle.bc_entries.specs.Journal.{Journal}
use Rattle.bc_key.specs.declared.key.Key.{Key}
use Rattle.bc_super.specs.declared.backing.BackingSuper.{BackingSuper}
use Rattle.bc_super.specs.declared.cache.CacheSuper.{CacheSuper}
use Rattle.bc_super.proofs.Told.{cause_after, cache_cause_after, reads_before, reads_cache_after}
use Rattle.bc_walk.specs.Rule.{Rule}
use Rattle.bc_walk.specs.declared.visit.Visit.{Visit}
use Rattle.bc_replay.specs.declared.error.OpenError.{OpenError}
use Rattle.bc_replay.specs.declared.error.OpenError.TheVariants as errors
use Rattle.bc_replay.specs.Behind.{IsBehindCause}
use Rattle.bc_replay.specs.Causes.{EndsAtSupers, GivesBacking, GivesCache, IsBackingCause, IsCacheCauseOf, IsReadOnce, IsSupersCause}
use Rattle.bc_replay.specs.Judge.{IsJudgedCause}
use Rattle.bc_replay.specs.Replay.{IsIndexCause}

module _ (cache backing : DiskFacts) (old new : ℕ) where
  pub supers_end : (e : OpenError) → IsSupersCause cache backing old new e → EndsAtSupers cache backing old new e
  supers_end (errors.Super d why) cause = cause
  supers_end e cause = tt

  pub behind_end : (d : DiskFacts) (g : Geometry) (uuid : List ℕ) (e : OpenError) → IsBehindCause d g uuid e → EndsAtSupers cache backing old new e
  behind_end d g uuid (errors.Super k why) cause = absurd cause
  behind_end d g uuid e cause = tt

  pub index_end : (d : DiskFacts) (g : Geometry) (j : Journal) (e : OpenError) → IsIndexCause d g j e → EndsAtSupers cache backing old new e
  index_end d g j (errors.Super k why) cause = absurd cause
  index_end d g j e cause = tt

  pub judged_end : (r : Rule) (gens : Gens) (uuid_bucket : Key) (seen : List Visit) (index : List Key) (word : Option ℕ) (e : OpenError) → IsJudgedCause r gens uuid_bucket seen index word e → EndsAtSupers cache backing old new e
  judged_end r gens uuid_bucket seen index word (errors.Super k why) cause = absurd cause
  judged_end r gens uuid_bucket seen index word e cause = tt

-- ---- devices that hold what others held

abbrev Same : Option Image → Option Image → Type 0
Same x y = BothTold (λ (a b : Image). (s : ℕ) → b s ≡ a s) x y

turned : (x y : Option Image) → Same x y → Same y x
turned None None both = tt
turned None (Some b) both = absurd both
turned (Some a) None both = absurd both
turned (Some a) (Some b) both = λ s. sym (both s)

module _ (d e : DiskFacts) (size : e.sectors ≡ d.sectors) (both : Same d.holds e.holds) where
  gives_backing : (b : BackingSuper) → GivesBacking e b → GivesBacking d b
  gives_backing b gives = (subst (λ n. 16 ≤ n) size gives.0, reads_before d e size both b gives.1)

  gives_cache : (c : CacheSuper) → GivesCache e c → GivesCache d c
  gives_cache c gives = (subst (λ n. 16 ≤ n) size gives.0, reads_cache_after e d (sym size) (turned d.holds e.holds both) c gives.1)

  backing_before : (x : OpenError) → IsBackingCause e x → IsBackingCause d x
  backing_before (errors.Super device.Backing why) (other, cause, small) =
      (other, cause_after e d (sym size) (turned d.holds e.holds both) why cause, (λ few. small (subst (λ n. n < 16) (sym size) few)))
  backing_before (errors.Fault device.Backing) cause = tt
  backing_before (errors.Super device.Cache why) cause = absurd cause
  backing_before (errors.Fault device.Cache) cause = absurd cause
  backing_before x cause = absurd cause

  cache_before : (x : OpenError) → IsCacheCauseOf e x → IsCacheCauseOf d x
  cache_before (errors.Super device.Cache why) (other, cause, small) =
      (other, cache_cause_after e d (sym size) (turned d.holds e.holds both) why cause, (λ few. small (subst (λ n. n < 16) (sym size) few)))
  cache_before (errors.Fault device.Cache) cause = tt
  cache_before (errors.Super device.Backing why) cause = absurd cause
  cache_before (errors.Fault device.Backing) cause = absurd cause
  cache_before x cause = absurd cause

-- why superblocks of two devices aren't had is why those of devices that held the same weren't
module _ (cache cache' backing backing' : DiskFacts) (size : cache'.sectors ≡ cache.sectors) (kept : Same cache.holds cache'.holds) (size' : backing'.sectors ≡ backing.sectors) (kept' : Same backing.holds backing'.holds) (old new : ℕ) where
  pub cause_before : (e : OpenError) → IsSupersCause cache' backing' old new e → IsSupersCause cache backing old new e
  cause_before e (inl own) = inl (backing_before backing backing' size' kept' e own.0, own.1)
  cause_before e (inr (b, gives, calls, why)) = inr (
    b,
    gives_backing backing backing' size' kept' b gives,
    subst (λ n. IsReadOnce n old new) size calls,
    elim why [
      | inl own ↦ inl (cache_before cache cache' size kept e own)
      | inr two ↦ inr (two.0, gives_cache cache cache' size kept two.0 two.1, two.2)
    ],
  )

  pub end_before : (e : OpenError) → EndsAtSupers cache' backing' old new e → EndsAtSupers cache backing old new e
  end_before (errors.Super d why) cause = cause_before (errors.Super d why) cause
  end_before e cause = tt
