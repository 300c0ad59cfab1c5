-- A pair that is read, opened and closed: what holds once the parts were read, and why it isn't.
use Rattle.std.proofs.Common.{◌≡◌, inl, inr, ℕ, Option, Some, None, Err, refl, sym, ap, ◌∙◌, subst, arith}
use Rattle.bc_disk.specs.Device.{next_count}
use Rattle.bc_disk.specs.Disk.{BothTold, DiskFacts, IfTold, IsKept, StandsFor}
use Rattle.bc_disk.specs.Stands.{settled_model}
use Rattle.bc_disk.specs.declared.disk.Device.TheVariants as device
use Rattle.bc_open.specs.bc_entered.Laws.{IsSameImage}
use Rattle.bc_image.specs.Pair.{Pair}
use Rattle.bc_loaded.specs.Loaded.{IsLoadCause}
use Rattle.bc_model.specs.Sector.{Image}
use Rattle.bc_open.specs.Left.{IsStill, LeavesThePair, ShowsOn}
use Rattle.bc_open.specs.Open.{HasFailed}
use Rattle.bc_open.proofs.States.{everywhere, if_held, told_of}
use Rattle.bc_replay.specs.Causes.{OfHeld, RisesWith}
use Rattle.bc_replay.specs.declared.error.OpenError.{OpenError}
use Rattle.bc_replay.specs.declared.error.OpenError.TheVariants as errors
use Rattle.bc_replay.specs.declared.held.Survey.{Survey}
use Rattle.bc_super.specs.declared.backing.BackingSuper.{BackingSuper}
use Rattle.bc_session.specs.Idle.{IsClosingOf, IsIdleStop}
use Rattle.bc_session.specs.Open.{IsStopOf}
use Rattle.bc_session.specs.declared.closing.CloseError.{CloseError}
use Rattle.bc_session.specs.declared.closing.CloseError.TheVariants as closings
use Rattle.bc_session.specs.declared.idle.Idled.{Idled}
use Rattle.bc_session.specs.declared.opening.NotOpened.{NotOpened}
use Rattle.bc_session.proofs.Ready.{stands_still, still_stands}

-- ---- a device that kept what it held

same_told : (x y : Option Image) → BothTold IsSameImage x y → x ≡ y
same_told None None both = refl
same_told None (Some b) both = absurd both
same_told (Some a) None both = absurd both
same_told (Some a) (Some b) both = ap (λ (i : Image). Some i) (sym (everywhere a b both))

module _ (old new : DiskFacts) (kept : IsKept old new) where
  pub still_kept : IsStill old → IsStill new
  still_kept still = if_held (λ held. (image : Image) → new.may_leave image
      → IsSameImage held image) new.holds (λ held is image may.
      told_of (λ h. (i : Image) → old.may_leave i → IsSameImage h i) old.holds held
      (same_told old.holds new.holds kept.holds ∙ is) still image ((kept.leaves image).0 may))

  pub stands_kept : StandsFor old (settled_model old) → StandsFor new (settled_model new)
  stands_kept stands = still_stands new (still_kept (stands_still old stands))

  module _ (backing : DiskFacts) (P : Pair → Type 0) where
    abbrev Held : Option Image → ℕ → Type 0
    Held o n = IfTold o (λ c. IfTold backing.holds (λ d. P (record {
      cache = c;
      cache_sectors = n;
      backing = d;
      backing_sectors = backing.sectors;
    })))

    pub held_on : OfHeld P old backing → OfHeld P new backing
    held_on so = subst (λ n. Held new.holds n) (sym kept.sectors)
        (subst (λ (o : Option Image). Held o old.sectors)
        (same_told old.holds new.holds kept.holds) so)

    held_back : OfHeld P new backing → OfHeld P old backing
    held_back so = subst (λ n. Held old.holds n) kept.sectors
        (subst (λ (o : Option Image). Held o new.sectors)
        (sym (same_told old.holds new.holds kept.holds)) so)

  pub left_back : (cache' backing backing' : DiskFacts) → LeavesThePair new cache' backing backing'
      → LeavesThePair old cache' backing backing'
  left_back cache' backing backing' leaves still rests =
      held_back backing (ShowsOn cache' backing') (leaves (still_kept still) rests)

-- ---- why it isn't opened and closed

module _ {C B : Type 0} (cache_facts : C → DiskFacts) (backing_facts : B → DiskFacts) (s : Survey)
    (b : BackingSuper) (before cache : C) (backing : B)
    (kept : IsKept (cache_facts before) (cache_facts cache)) (r : Idled C B) where
  abbrev Stop : OpenError → Type 0
  Stop e = IsIdleStop cache_facts backing_facts s before backing r e

  -- the parts weren't read
  pub load_stop : (T : Type 0) (e : OpenError) → r.cache ≡ cache → r.backing ≡ backing
      → IsLoadCause s (cache_facts before) e
      → RisesWith {T = T} (Err e) (cache_facts before).faults (cache_facts cache).faults → Stop e
  load_stop T (errors.Fault device.Cache) same_cache same cause rises = (
    ap (λ (c : C). (cache_facts c).faults) same_cache ∙ rises,
    ap (λ (d : B). (backing_facts d).faults) same,
  )
  load_stop T (errors.Fault device.Backing) same_cache same cause rises = absurd cause
  load_stop T errors.Memory same_cache same cause rises = (
    ap (λ (c : C). (cache_facts c).faults) same_cache ∙ rises,
    ap (λ (d : B). (backing_facts d).faults) same,
  )
  load_stop T (errors.JournalEnd seq) same_cache same cause rises = (
    inr cause,
    record {
      kept = subst (λ (c : C). IsKept (cache_facts before) (cache_facts c)) (sym same_cache) kept;
      faults = ap (λ (c : C). (cache_facts c).faults) same_cache ∙ rises;
      backing_same = same;
    },
  )
  load_stop T e same_cache same cause rises = (
    cause,
    record {
      kept = subst (λ (c : C). IsKept (cache_facts before) (cache_facts c)) (sym same_cache) kept;
      faults = ap (λ (c : C). (cache_facts c).faults) same_cache ∙ rises;
      backing_same = same;
    },
  )

  module _ (good : (cache_facts cache).faults ≡ (cache_facts before).faults) where
    -- no run was started
    module _ (n : NotOpened C B) (same_cache : r.cache ≡ n.cache) (same : r.backing ≡ n.backing)
      where
        cache_faults : (m : ℕ) → (cache_facts n.cache).faults ≡ m → (cache_facts r.cache).faults ≡ m
        cache_faults m is = ap (λ (c : C). (cache_facts c).faults) same_cache ∙ is

        backing_faults : (m : ℕ) → (backing_facts n.backing).faults ≡ m
            → (backing_facts r.backing).faults ≡ m
        backing_faults m is = ap (λ (d : B). (backing_facts d).faults) same ∙ is

        pub open_stop : (e : OpenError) → IsStopOf cache_facts backing_facts s b cache backing n e
            → Stop e
        open_stop (errors.Fault device.Cache) (failed, calls, faults) = (
          cache_faults _ (failed.faults ∙ ap next_count good),
          backing_faults _ faults,
        )
        open_stop (errors.Fault device.Backing) (is, failed) = (
          cache_faults _ (ap (λ (c : C). (cache_facts c).faults) is ∙ good),
          subst (λ (d : B). HasFailed 5 (backing_facts backing) (backing_facts d)) (sym same)
              (record {
                calls = (
                  failed.calls.0,
                  failed.calls.1,
                  (let few = failed.calls.2 in omega (arith, few)),
                  failed.calls.3,
                );
                faults = failed.faults;
              }),
        )
        open_stop errors.Memory (stayed, faults) =
            (cache_faults _ (stayed.faults ∙ good), backing_faults _ faults)
        open_stop (errors.JournalEnd seq) (odd, is, still) = (
          inl odd,
          record {
            kept = subst (λ (c : C). IsKept (cache_facts before) (cache_facts c))
                (sym (same_cache ∙ is)) kept;
            faults = cache_faults _ (ap (λ (c : C). (cache_facts c).faults) is ∙ good);
            backing_same = same ∙ still;
          },
        )
        open_stop e stop = absurd stop

    -- the run wasn't closed
    abbrev pub CausedBy : CloseError → Type 0
    CausedBy closings.Fault = HasFailed 5 (backing_facts backing) (backing_facts r.backing)
    CausedBy (closings.Halted d) = ⊥
    CausedBy closings.Memory = (backing_facts r.backing).faults ≡ (backing_facts backing).faults

    pub close_stop : (why : CloseError) (e : OpenError)
        → (cache_facts r.cache).faults ≡ (cache_facts cache).faults → CausedBy why
        → IsClosingOf why e → Stop e
    close_stop closings.Fault e faults cause is =
        subst Stop (sym is) (faults ∙ good, cause)
    close_stop (closings.Halted d) e faults cause is = absurd is
    close_stop closings.Memory e faults cause is = subst Stop (sym is) (faults ∙ good, cause)
