-- What the status of a command on a pair tells.
use Rattle.std.proofs.Common.{◌≡◌, ◌≢◌, ◌⊎◌, inl, inr, ℕ, Option, Some, None, refl, sym, subst}
use Rattle.std.specs.Prelude.{Result, Ok, Err, IfErr, String}
use Rattle.std.specs.declared.alloc.Global.{Global}
use Rattle.bc_model.specs.Sector.{Image}
use Rattle.bc_disk.specs.Disk.{BothTold, DiskFacts, IfTold, IsKept}
use Rattle.bc_disk.specs.Stream.{StreamFacts}
use Rattle.bc_disk.specs.declared.disk.Device.TheVariants as device
use Rattle.bc_pair.specs.Causes.{AdoptLeaves, AreKept, FaultRose, KeepsOthers, UnlessFault}
use Rattle.bc_pair.specs.declared.error.PairError.{PairError}
use Rattle.bc_pair.specs.declared.error.PairError.TheVariants as errors
use Rattle.bc_output.specs.declared.status.Status.{Status}
use Rattle.bc_output.specs.declared.status.Status.TheVariants as statuses
use Rattle.bc_top.specs.Ended.{HasStopped}
use Rattle.bc_top.specs.Pairs.{EndsPrinting, EndsSilently, IsStopped}
use Rattle.bc_top.specs.Opened.{IsSameDevice}
use Rattle.bc_top.specs.Stops.{IsRefusal}
use Rattle.bc_top.specs.Top.{AreSame, OneHasRisen}
use Rattle.bc_top.proofs.Statuses.{fault_stops}
use Rattle.bc_top.proofs.Settled.{same_kept, same_self}

-- a device of which nothing was written
pub keeps_kept : (a b : DiskFacts) → IsKept a b → KeepsOthers a b
keeps_kept a b kept = record { sectors = kept.sectors; holds = by a.holds b.holds kept.holds; leaves = less b.holds }
  where
    by : (x y : Option Image) → BothTold (λ (a z : Image). (s : ℕ) → z s ≡ a s) x y → BothTold (λ (a z : Image). (s : ℕ) → s ≢ 8 → z s ≡ a s) x y
    by None None both = tt
    by None (Some y) both = both
    by (Some x) None both = both
    by (Some x) (Some y) both = λ s other. both s

    less : (y : Option Image) → IfTold y (λ _. (image : Image) → b.may_leave image → (before : Image) × a.may_leave before × ((s : ℕ) → s ≢ 8 → image s ≡ before s))
    less None = tt
    less (Some y) = λ image can. (image, (kept.leaves image).0 can, λ s other. refl)

pub same_both : (cache cache' backing backing' : DiskFacts) → AreKept cache cache' backing backing' → AreSame cache cache' backing backing'
same_both cache cache' backing backing' kept = (same_kept cache cache' kept.0, same_kept backing backing' kept.1)

-- a refusal to adopt a pair wrote nothing
pub adopt_unwritten : {C B : Type 0} (cache_facts : C → DiskFacts) (backing_facts : B → DiskFacts) (cache cache' : C) (backing backing' : B) (answer : Result (Unit {0}) PairError) (status : Status) (old new : StreamFacts)
    → IfErr answer (λ e. AdoptLeaves cache_facts backing_facts e cache cache' backing backing') → EndsSilently answer status old new → IsRefusal status → AreSame (cache_facts cache) (cache_facts cache') (backing_facts backing) (backing_facts backing')
adopt_unwritten cache_facts backing_facts cache cache' backing backing' (Ok u) status old new leaves ends refused = let zero = ends.0 in absurd (never refused)
  where
    never : IsRefusal status → ⊥
    never (inl two) = let zero = ends.0 in cc
    never (inr (inl three)) = let zero = ends.0 in cc
    never (inr (inr (inl four))) = let zero = ends.0 in cc
    never (inr (inr (inr five))) = let zero = ends.0 in cc
adopt_unwritten cache_facts backing_facts cache cache' backing backing' (Err (errors.Superblock d why)) status old new leaves ends refused = same_both _ _ _ _ leaves
adopt_unwritten cache_facts backing_facts cache cache' backing backing' (Err errors.Memory) status old new leaves ends refused = same_both _ _ _ _ leaves
adopt_unwritten cache_facts backing_facts cache cache' backing backing' (Err (errors.Fault d)) status old new leaves ends refused = absurd (never refused)
  where
    never : IsRefusal status → ⊥
    never (inl two) = let six = ends.0 in cc
    never (inr (inl three)) = let six = ends.0 in cc
    never (inr (inr (inl four))) = let six = ends.0 in cc
    never (inr (inr (inr five))) = let six = ends.0 in cc

pub printing_stops : (answer : Result (String Global) PairError) (status : Status) (old new : StreamFacts) → EndsPrinting answer status old new → status ≡ statuses.Sink → HasStopped old new
printing_stops (Ok text) status old new (inl done) is = absurd (let zero = done.0 in cc)
printing_stops (Ok text) status old new (inr cut) is = fault_stops cut.1.0 _ old new cut.1.1
printing_stops (Err (errors.Superblock d why)) status old new ends is = absurd (let four = ends.0 in cc)
printing_stops (Err (errors.Fault d)) status old new ends is = absurd (let six = ends.0 in cc)
printing_stops (Err errors.Memory) status old new ends is = absurd (let nine = ends.0 in cc)

-- ---- why they end so

-- a refusal of a pair has no status but these
never_another : (e : PairError) (status : Status) (old new : StreamFacts) → IsStopped e status old new
    → (status ≡ statuses.Source) ⊎ (status ≡ statuses.Sink) → ⊥
never_another (errors.Superblock d why) status old new ends (inl is) = let four = ends.0 in cc
never_another (errors.Superblock d why) status old new ends (inr is) = let four = ends.0 in cc
never_another (errors.Fault d) status old new ends (inl is) = let six = ends.0 in cc
never_another (errors.Fault d) status old new ends (inr is) = let six = ends.0 in cc
never_another errors.Memory status old new ends (inl is) = let nine = ends.0 in cc
never_another errors.Memory status old new ends (inr is) = let nine = ends.0 in cc

-- and where it is one of a device a count of that rose
stopped_rose : (cache cache' backing backing' : DiskFacts) (e : PairError) (status : Status)
    (old new : StreamFacts) → FaultRose e cache cache' backing backing' → IsStopped e status old new
    → status ≡ statuses.Device → OneHasRisen cache cache' backing backing'
stopped_rose cache cache' backing backing' (errors.Superblock d why) status old new rose ends is =
    absurd (let four = ends.0 in cc)
stopped_rose cache cache' backing backing' (errors.Fault device.Cache) status old new rose ends is =
    inl rose.0
stopped_rose cache cache' backing backing' (errors.Fault device.Backing) status old new rose ends is =
    inr rose.1
stopped_rose cache cache' backing backing' errors.Memory status old new rose ends is =
    absurd (let nine = ends.0 in cc)

pub silent_never : (answer : Result (Unit {0}) PairError) (status : Status) (old new : StreamFacts)
    → EndsSilently answer status old new → (status ≡ statuses.Source) ⊎ (status ≡ statuses.Sink) → ⊥
silent_never (Ok u) status old new ends (inl is) = let zero = ends.0 in cc
silent_never (Ok u) status old new ends (inr is) = let zero = ends.0 in cc
silent_never (Err e) status old new ends other = never_another e status old new ends other

pub silent_rose : (cache cache' backing backing' : DiskFacts) (answer : Result (Unit {0}) PairError)
    (status : Status) (old new : StreamFacts)
    → IfErr answer (λ e. FaultRose e cache cache' backing backing') → EndsSilently answer status old new
    → status ≡ statuses.Device → OneHasRisen cache cache' backing backing'
silent_rose cache cache' backing backing' (Ok u) status old new rose ends is =
    absurd (let zero = ends.0 in cc)
silent_rose cache cache' backing backing' (Err e) status old new rose ends is =
    stopped_rose cache cache' backing backing' e status old new rose ends is

pub printing_never : (answer : Result (String Global) PairError) (status : Status) (old new : StreamFacts)
    → EndsPrinting answer status old new → status ≡ statuses.Source → ⊥
printing_never (Ok text) status old new (inl done) is = let zero = done.0 in cc
printing_never (Ok text) status old new (inr cut) is = let eight = cut.0 in cc
printing_never (Err e) status old new ends is = never_another e status old new ends (inl is)

pub printing_rose : (cache cache' backing backing' : DiskFacts) (answer : Result (String Global) PairError)
    (status : Status) (old new : StreamFacts)
    → IfErr answer (λ e. FaultRose e cache cache' backing backing') → EndsPrinting answer status old new
    → status ≡ statuses.Device → OneHasRisen cache cache' backing backing'
printing_rose cache cache' backing backing' (Ok text) status old new rose (inl done) is =
    absurd (let zero = done.0 in cc)
printing_rose cache cache' backing backing' (Ok text) status old new rose (inr cut) is =
    absurd (let eight = cut.0 in cc)
printing_rose cache cache' backing backing' (Err e) status old new rose ends is =
    stopped_rose cache cache' backing backing' e status old new rose ends is

-- a pair that was refused, and not made, was left as it was
pub format_unwritten : {C B : Type 0} (cache_facts : C → DiskFacts) (backing_facts : B → DiskFacts)
    (cache cache' : C) (backing backing' : B) (answer : Result (Unit {0}) PairError) (status : Status)
    (old new : StreamFacts)
    → IfErr answer (λ e. UnlessFault e ((cache' ≡ cache) × (backing' ≡ backing)))
    → EndsSilently answer status old new → IsRefusal status
    → AreSame (cache_facts cache) (cache_facts cache') (backing_facts backing) (backing_facts backing')
format_unwritten {C} {B} cache_facts backing_facts cache cache' backing backing' answer status old new =
    by answer
  where
    left : (cache' ≡ cache) × (backing' ≡ backing)
        → AreSame (cache_facts cache) (cache_facts cache') (backing_facts backing) (backing_facts backing')
    left is = (
      subst (λ (x : C). IsSameDevice (cache_facts cache) (cache_facts x)) (sym is.0)
          (same_self (cache_facts cache)),
      subst (λ (x : B). IsSameDevice (backing_facts backing) (backing_facts x)) (sym is.1)
          (same_self (backing_facts backing)),
    )

    by : (answer : Result (Unit {0}) PairError)
        → IfErr answer (λ e. UnlessFault e ((cache' ≡ cache) × (backing' ≡ backing)))
        → EndsSilently answer status old new → IsRefusal status
        → AreSame (cache_facts cache) (cache_facts cache') (backing_facts backing) (backing_facts backing')
    by (Ok u) untouched ends (inl is) = absurd (let zero = ends.0 in cc)
    by (Ok u) untouched ends (inr (inl is)) = absurd (let zero = ends.0 in cc)
    by (Ok u) untouched ends (inr (inr (inl is))) = absurd (let zero = ends.0 in cc)
    by (Ok u) untouched ends (inr (inr (inr is))) = absurd (let zero = ends.0 in cc)
    by (Err (errors.Superblock d why)) untouched ends refused = left untouched
    by (Err errors.Memory) untouched ends refused = left untouched
    by (Err (errors.Fault d)) untouched ends (inl is) = absurd (let six = ends.0 in cc)
    by (Err (errors.Fault d)) untouched ends (inr (inl is)) = absurd (let six = ends.0 in cc)
    by (Err (errors.Fault d)) untouched ends (inr (inr (inl is))) = absurd (let six = ends.0 in cc)
    by (Err (errors.Fault d)) untouched ends (inr (inr (inr is))) = absurd (let six = ends.0 in cc)

-- a command that isn't a trace's, where no device failed and the sink took all
abbrev pub EndsQuietly : Status → Type 0
EndsQuietly status = (status ≡ statuses.Done) ⊎ (status ≡ statuses.Usage) ⊎ (status ≡ statuses.Superblock) ⊎ (status ≡ statuses.Memory)

module _ (cache cache' backing backing' : DiskFacts) (still : OneHasRisen cache cache' backing backing' → ⊥) where
  stopped_quietly : (e : PairError) (status : Status) (old new : StreamFacts) → FaultRose e cache cache' backing backing' → IsStopped e status old new → EndsQuietly status
  stopped_quietly (errors.Superblock d why) status old new rose ends = inr (inr (inl ends.0))
  stopped_quietly (errors.Fault device.Cache) status old new rose ends = absurd (still (inl rose.0))
  stopped_quietly (errors.Fault device.Backing) status old new rose ends = absurd (still (inr rose.1))
  stopped_quietly errors.Memory status old new rose ends = inr (inr (inr ends.0))

  pub silent_ends : (answer : Result (Unit {0}) PairError) (status : Status) (old new : StreamFacts) → IfErr answer (λ e. FaultRose e cache cache' backing backing') → EndsSilently answer status old new → EndsQuietly status
  silent_ends (Ok u) status old new rose ends = inl ends.0
  silent_ends (Err e) status old new rose ends = stopped_quietly e status old new rose ends

  pub printing_ends : (answer : Result (String Global) PairError) (status : Status) (old new : StreamFacts) → IfErr answer (λ e. FaultRose e cache cache' backing backing') → EndsPrinting answer status old new → (HasStopped old new → ⊥) → EndsQuietly status
  printing_ends (Ok text) status old new rose (inl done) takes = inl done.0
  printing_ends (Ok text) status old new rose (inr cut) takes = absurd (takes (fault_stops cut.1.0 _ old new cut.1.1))
  printing_ends (Err e) status old new rose ends takes = stopped_quietly e status old new rose ends
