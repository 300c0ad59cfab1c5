-- What a status of 0 says.
use Rattle.std.specs.Prelude.{◌≡◌, ◌⊎◌, Option, Some, None, IsNone, IfSome, refl}
use Rattle.std.proofs.Common.{sym, ◌∙◌, inl, inr}
use Rattle.bc_prog.specs.Refusal.{status_of as refusal_status}
use Rattle.bc_prog.specs.declared.refusal.Refusal.{Refusal}
use Rattle.bc_prog.specs.declared.refusal.Refusal.TheVariants as refusals
use Rattle.bc_disk.specs.Stream.{StreamFacts}
use Rattle.bc_output.specs.declared.status.Status.{Status}
use Rattle.bc_output.specs.declared.status.Status.TheVariants as statuses
use Rattle.bc_disk.specs.Disk.{DiskFacts}
use Rattle.bc_prog.specs.Done.{HasAskedNothing}
use Rattle.bc_top.specs.Cached.{HasNotOpened}
use Rattle.bc_top.specs.Idle.{HasOpened}
use Rattle.bc_top.specs.Stops.{open_stop, status_of}
use Rattle.bc_top.specs.Top.{LacksMemory}
use Rattle.bc_top.specs.declared.stop.Stop.{Stop}
use Rattle.bc_top.specs.declared.stop.Stop.TheVariants.{Usage, Trace, Source, Fault, Superblock, Image, Unserved, Memory}

stops_above_zero : (stop : Stop) → status_of stop ≡ statuses.Done → ⊥
stops_above_zero Usage zero = cc
stops_above_zero (Trace error) zero = cc
stops_above_zero Source zero = cc
stops_above_zero (Fault device) zero = cc
stops_above_zero (Superblock device number) zero = cc
stops_above_zero (Image number) zero = cc
stops_above_zero Unserved zero = cc
stops_above_zero Memory zero = cc

-- a run began, or a pair was opened and closed
pub began : {A C B : Type 0} {P : A → Type 0} (cache_facts : C → DiskFacts) (facts : B → DiskFacts)
    (pass : Option A) (status : Status) (source left : StreamFacts) (cache cache' : C)
    (backing backing' : B) (old new : StreamFacts)
    → (IsNone pass → ((stop : Stop) × (status ≡ status_of stop))
    ⊎ HasOpened cache_facts facts status source left cache cache' backing backing' old new
    ⊎ HasNotOpened cache_facts facts status source left cache cache' backing backing' old new)
    → IfSome pass P → status ≡ statuses.Done
    → ((a : A) × P a) ⊎ HasAskedNothing source left old new
began cache_facts facts (Some pass) status source left cache cache' backing backing' old new stopped
    run zero = inl (pass, run)
began cache_facts facts None status source left cache cache' backing backing' old new stopped run zero =
    elim (stopped refl) [
      | inl it ↦ absurd (stops_above_zero it.0 (sym it.1 ∙ zero))
      | inr (inl opened) ↦ inr (
        opened.trace,
        elim opened.ends [
          | inl done ↦ done.1
          | inr failed ↦ absurd (stops_above_zero (open_stop failed.0) (sym failed.2 ∙ zero))
        ],
      )
      | inr (inr unopened) ↦ absurd (stops_above_zero (open_stop unopened.ends.0)
          (sym unopened.ends.2 ∙ zero))
    ]

-- a refusal that isn't one of memory
pub refused : (refusal : Refusal) (status : Status) → (refusal ≡ refusals.Memory → ⊥) → status ≡ refusal_status refusal → (status ≡ statuses.Usage) ⊎ ((status ≡ statuses.Device) ⊎ (status ≡ statuses.Memory))
refused refusals.Usage status other ended = inl ended
refused (refusals.NotOpened device) status other ended = inr (inl ended)
refused refusals.Memory status other ended = absurd (other refl)

-- words that spell no command, or for which there was no memory
pub unknown : {C B : Type 0} {cache cache' : C} {backing backing' : B} {old new : StreamFacts} (status : Status) → (status ≡ statuses.Usage) ⊎ LacksMemory status cache cache' backing backing' old new → (status ≡ statuses.Usage) ⊎ ((status ≡ statuses.Device) ⊎ (status ≡ statuses.Memory))
unknown status (inl two) = inl two
unknown status (inr lacks) = inr (inr lacks.status_is)
