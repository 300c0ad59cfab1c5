-- A pair that was opened for a run, or tested for an opening.
use Rattle.std.specs.Prelude.{◌≡◌}
use Rattle.bc_disk.specs.Disk.{DiskFacts}
use Rattle.bc_super.specs.Division.{IsPassThrough}
use Rattle.bc_top.specs.Idle.{IsTested}
use Rattle.bc_top.specs.Opened.{IsOpened}
use Rattle.bc_top.specs.declared.serve.Opening.{Opening}
use Rattle.bc_top.specs.declared.serve.Opening.TheVariants.{Alone, Cached}

abbrev pub IsReady : {C B : Type 0} → (C → DiskFacts) → (B → DiskFacts) → C → C → B → B → Opening
    → Type 0
IsReady cache_facts backing_facts cache cache' backing backing' (Alone b) = IsPassThrough b
    × IsOpened b (backing_facts backing) (backing_facts backing') × (cache' ≡ cache)
IsReady cache_facts backing_facts cache cache' backing backing' (Cached b s) =
    IsTested b s (cache_facts cache) (cache_facts cache') (backing_facts backing)
    (backing_facts backing')

-- the pair has a cache
abbrev pub IsCached : Opening → Type 0
IsCached (Alone b) = ⊥
IsCached (Cached b s) = Unit {0}
