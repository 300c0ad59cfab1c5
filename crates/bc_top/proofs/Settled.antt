-- What a barrier and a read behind it leave of a device, and what a fault of its superblock says.
use Rattle.std.proofs.Common.{◌≡◌, ◌≢◌, inl, inr, ℕ, ◌<◌, ◌≤◌, Option, Some, None, refl, sym, ap, ◌∙◌, subst}
use Rattle.std.specs.Prelude.{Ok, Err, option_map}
use Rattle.bc_model.specs.Sector.{Image}
use Rattle.bc_disk.specs.Device.{HasRisen, next_count, quiet}
use Rattle.bc_disk.specs.Disk.{Allows, DiskFacts, BothTold, IfTold, IsCounted, IsKept, IsSettled}
use Rattle.bc_disk.specs.declared.disk.Device.TheVariants as device
use Rattle.bc_disk.specs.declared.disk.Failed.{Failed}
use Rattle.bc_super.specs.Reading.{IsCause, ReadsSuper, call_of}
use Rattle.bc_super.specs.declared.backing.BackingSuper.{BackingSuper}
use Rattle.bc_super.specs.declared.error.SuperError.{SuperError}
use Rattle.bc_super.specs.declared.error.SuperError.TheVariants as fault
use Rattle.bc_super.proofs.Told.{cause_after, reads_after}
use Rattle.std.proofs.lemmas.Bool.{cases_lt}
use Rattle.bc_replay.specs.Causes.{IsReadOnce, RefusesBacking, refusal}
use Rattle.bc_replay.specs.declared.error.OpenError.{OpenError}
use Rattle.bc_replay.specs.declared.error.OpenError.TheVariants as errors
use Rattle.bc_replay.proofs.Refusals.{once}
use Rattle.bc_top.specs.Opened.{IsLoneCause, IsOpened, IsOpeningCause, IsSameDevice, LeavesLess, SameImage, StandsStill}
use Rattle.bc_disk.specs.Stream.{StreamFacts}
use Rattle.bc_top.specs.Stops.{open_stop}
use Rattle.bc_top.specs.Top.{AskMore, IsServeCause, WasRead}
use Rattle.bc_top.specs.declared.stop.Stop.{Stop}
use Rattle.bc_top.specs.declared.stop.Stop.TheVariants as stop
use Rattle.bc_sound_reads.proofs.of_bc_serve.Failing.{next_rises}

pub next_risen : (old new : ℕ) → new ≡ next_count old → HasRisen old new
next_risen old new is = subst (HasRisen old) (sym is) (next_rises old)

at_least : (sectors : ℕ) → (sectors < 16 → ⊥) → 16 ≤ sectors
at_least sectors never = elim (cases_lt sectors 16)
    [ inl few ↦ absurd (never few) | inr many ↦ many ]

-- a refusal that isn't a fault is no failed call
quiet_call : (T : Type 0) (e : SuperError) (b c : DiskFacts) → e ≢ fault.Fault → IsCounted
    (call_of {T = T} (Err e)) b c → c.faults ≡ b.faults
quiet_call T fault.Fault b c other counted = absurd (other refl)
quiet_call T e b c other counted = counted.1

pub both_same : (a b c : Option Image) → BothTold SameImage a b → BothTold SameImage b c → BothTold
    SameImage a c
both_same None None None first second = tt
both_same None None (Some z) first second = second
both_same None (Some y) c first second = absurd first
both_same (Some x) None c first second = absurd first
both_same (Some x) (Some y) None first second = second
both_same (Some x) (Some y) (Some z) first second = λ s. second s ∙ first s

module _ (a b c : DiskFacts) where
  -- after a barrier and a call that changed nothing
  pub same_settled : IsSettled a b → IsKept b c → IsSameDevice a c
  same_settled settled kept = record {
    sectors = kept.sectors ∙ settled.sectors;
    holds = both_same a.holds b.holds c.holds settled.holds kept.holds;
    leaves = by b.holds c.holds settled.leaves kept.holds;
  }
    where
      by : (y z : Option Image) → IfTold y (λ held. (image : Image) → b.may_leave image → (s : ℕ) →
          image s ≡ held s) → BothTold SameImage y z → LeavesLess z a.may_leave c.may_leave
      by y None leaves both = tt
      by None (Some held) leaves both = absurd both
      by (Some before) (Some held) leaves both = λ image can. inr
          (λ s. leaves image ((kept.leaves image).0 can) s ∙ sym (both s))

  -- and the device stands for the model of what it holds
  pub stands : IsSettled a b → IsKept b c → StandsStill c
  stands settled kept = record {
    sectors = refl;
    content = by b.holds c.holds settled.leaves
        kept.holds;
    calls = refl;
    faults = refl;
  }
    where
      by : (y z : Option Image) → IfTold y (λ held. (image : Image) → b.may_leave image → (s : ℕ) →
          image s ≡ held s) → BothTold SameImage y z → Allows (option_map quiet z) z c.may_leave
      by y None leaves both = tt
      by None (Some held) leaves both = absurd both
      by (Some before) (Some held) leaves both = (
        (λ s. inl refl),
        (λ image can s. inl
            (leaves image ((kept.leaves image).0 can) s ∙ sym (both s))),
      )

  -- the second call failed, and no other
  abbrev SecondFails : Type 0
  SecondFails = (c.faults ≡ next_count a.faults) × (c.calls ≡ next_count (next_count a.calls))

  lone_told : (e : SuperError) → StandsStill c → (e ≡ fault.Fault → SecondFails)
      → (e ≢ fault.Fault → RefusesBacking c e × (c.faults ≡ a.faults)
      × IsReadOnce c.sectors (next_count a.calls) c.calls × StandsStill c) → IsLoneCause
      (refusal device.Backing e) a c
  lone_told fault.Fault stands fails still = ((fails refl).0, inr ((fails refl).1, stands))
  lone_told e stands fails still = still (λ is. absurd (cc))

  -- what the counts say of a fault that was answered
  second_fails : (T : Type 0) (e : SuperError) → IsCounted {E = Failed} (Ok tt) a b
      → IsCounted (call_of {T = T} (Err e)) b c → e ≡ fault.Fault → SecondFails
  second_fails T e good counted is =
      let failed = subst (λ (x : SuperError). IsCounted (call_of {T = T} (Err x)) b c) is counted in
      (failed.1 ∙ ap (λ n. next_count n) good.1, failed.0 ∙ ap (λ n. next_count n) good.0)

  -- the device was made stable and its superblock read
  pub opened : (s : BackingSuper) → IsSettled a b → IsCounted {E = Failed} (Ok tt) a b → IsKept b c
      → (16 ≤ b.sectors → IsCounted (call_of {T = BackingSuper} (Ok s)) b c) → (b.sectors < 16 → ⊥)
      → ReadsSuper b s → IsOpened s a c
  opened s settled good kept counted large reads = record {
    sectors = kept.sectors ∙ settled.sectors;
    holds = both_same a.holds b.holds c.holds settled.holds kept.holds;
    calls = (counted (at_least b.sectors large)).0 ∙ ap (λ n. next_count n) good.0;
    faults = (counted (at_least b.sectors large)).1 ∙ good.1;
    reads = reads_after b c kept.sectors kept.holds s reads;
    still = stands settled kept;
  }

  -- or it was read and refused
  pub open_failed : (e : SuperError) → IsSettled a b → IsCounted {E = Failed} (Ok tt) a b → IsKept b
      c → (16 ≤ b.sectors → IsCounted (call_of {T = BackingSuper} (Err e)) b c) →
      (b.sectors < 16 → (c.faults ≡ b.faults) × (c.calls ≡ b.calls)) →
      (b.sectors < 16 → e ≡ fault.DeviceSmall) → IsCause b e
      → IsLoneCause (refusal device.Backing e) a c
  open_failed e settled good kept counted untouched small cause = lone_told e (stands settled kept)
      (λ is. second_fails BackingSuper e good
      (counted (subst (λ (x : SuperError). IsCause b x) is cause)) is)
      (λ other. (
        (
          other,
          cause_after b c kept.sectors kept.holds e cause,
          (λ few. small (subst (λ n. n < 16) kept.sectors few)),
        ),
        elim (cases_lt b.sectors 16) [
          | inl few ↦ (untouched few).0
          | inr many ↦ quiet_call
              BackingSuper e b c other (counted many)
        ] ∙ good.1,
        subst (λ n. IsReadOnce n (next_count a.calls) c.calls) (sym kept.sectors)
            (subst (λ n. IsReadOnce b.sectors n c.calls) good.0
            (once BackingSuper (Err e) b c (λ few. (untouched few).1) counted)),
        stands settled kept,
      ))

-- a device of which a crash leaves what it holds is one still behind calls that changed nothing
pub still_kept : (b c : DiskFacts) → IsKept b c → StandsStill b → StandsStill c
still_kept b c kept still = record {
  sectors = refl;
  content = by b.holds c.holds still.content
      kept.holds;
  calls = refl;
  faults = refl;
}
  where
    by : (y z : Option Image) → Allows (option_map quiet y) y b.may_leave → BothTold SameImage y z →
        Allows (option_map quiet z) z c.may_leave
    by None None allows both = tt
    by None (Some held) allows both = absurd both
    by (Some before) None allows both = absurd both
    by (Some before) (Some held) allows both = (
      (λ s. inl refl),
      (λ image can s. elim (allows.1 image ((kept.leaves image).0 can) s)
          [ inl is ↦ inl (is ∙ sym (both s)) | inr never ↦ absurd never ]),
    )

-- after a call that changed nothing
pub same_kept : (a b : DiskFacts) → IsKept a b → IsSameDevice a b
same_kept a b kept = record {
  sectors = kept.sectors;
  holds = kept.holds;
  leaves = by b.holds;
}
  where
    by : (z : Option Image) → LeavesLess z a.may_leave b.may_leave
    by None = tt
    by (Some held) = λ image can. inl ((kept.leaves image).0 can)

-- a device that wasn't called
pub same_self : (d : DiskFacts) → IsSameDevice d d
same_self d = record { sectors = refl; holds = by d.holds; leaves = less d.holds }
  where
    by : (z : Option Image) → BothTold SameImage z z
    by None = tt
    by (Some held) = λ s. refl

    less : (z : Option Image) → LeavesLess z d.may_leave d.may_leave
    less None = tt
    less (Some held) = λ image can. inl can

-- why a pair isn't opened is why its trace isn't served
module _ (source left : StreamFacts) (cache cache' backing backing' : DiskFacts)
    (read : WasRead source left) where
  told_so : (error : OpenError) → IsOpeningCause cache cache' backing backing' (open_stop error) →
      IsServeCause (open_stop error) source left cache cache' backing backing'
  told_so errors.Memory cause = inr (read, inr cause)
  told_so error cause = (read, cause)

  told_as : (why : Stop) (error : OpenError) → why ≡ open_stop error → IsOpeningCause cache cache'
      backing backing' why → IsServeCause why source left cache cache' backing backing'
  told_as why error is cause = subst (λ (x : Stop). IsServeCause x source left cache cache' backing
      backing') (sym is) (told_so error (subst (IsOpeningCause cache cache' backing backing') is
      cause))

  pub open_cause : (why : Stop) → (why ≡ stop.Unserved → AskMore read.0)
      → IsOpeningCause cache cache' backing backing' why
      → IsServeCause why source left cache cache' backing backing'
  open_cause why asked (inl lone) = told_as why lone.0 lone.1 (inl lone)
  open_cause why asked (inr (asks, inl refused)) = told_as why refused.0 refused.1
      (inr (asks, inl refused))
  open_cause why asked (inr (asks, inr none)) =
      subst (λ (x : Stop). IsServeCause x source left cache cache' backing backing') (sym none.0) (
        (read.0, read.1, read.2, asked none.0),
        subst (IsOpeningCause cache cache' backing backing') none.0 (inr (asks, inr none)),
      )
