-- Why no run began: each cause needs a fault of what was handed in.
use Rattle.std.proofs.Common.{◌≡◌, ◌≢◌, inl, inr, ℕ, ◌+◌, ◌*◌, ◌<◌, List, Option, Some, None, refl, sym, subst, arith}
use Rattle.bc_disk.specs.Device.{HasRisen, next_count}
use Rattle.bc_disk.specs.Disk.{DiskFacts}
use Rattle.bc_disk.specs.Stream.{StreamFacts, BothToldText}
use Rattle.bc_disk.specs.declared.disk.Device.{Device}
use Rattle.bc_disk.specs.declared.disk.Device.TheVariants as device
use Rattle.bc_script.specs.Trace.{IsCause as IsScriptCause, IsFirstRefused, TakesAtMost}
use Rattle.bc_script.specs.declared.script.ScriptError.{ScriptError}
use Rattle.bc_script.specs.declared.script.TraceError.{TraceError}
use Rattle.bc_script.specs.declared.script.TraceError.TheVariants as trace
use Rattle.bc_script.proofs.OneReading.{read_or_refused}
use Rattle.bc_super.specs.Super.{IsBackingSuper}
use Rattle.bc_super.specs.Reading.{IsSuperBytes, ReadsSuper, ReadsRefused, IsCause}
use Rattle.bc_super.specs.declared.backing.BackingSuper.{BackingSuper}
use Rattle.bc_super.specs.declared.error.SuperError.{SuperError}
use Rattle.bc_super.specs.declared.error.SuperError.TheVariants as errors
use Rattle.bc_super.proofs.Readings.{apart, one_super}
use Rattle.bc_super.proofs.Told.{same_bytes, super_before}
use Rattle.bc_super.specs.Division.{IsPassThrough}
use Rattle.bc_replay.specs.declared.error.OpenError.{OpenError}
use Rattle.bc_replay.specs.declared.error.OpenError.TheVariants as opening
use Rattle.bc_output.specs.declared.status.Status.TheVariants as statuses
use Rattle.bc_top.specs.Opened.{IsLoneCause, IsOpeningCause, IsPairCause, IsSameDevice, AsksForNone}
use Rattle.bc_top.specs.Stops.{open_stop, status_of, trace_stop}
use Rattle.bc_top.specs.Top.{SpellsTrace, IsServeCause, OneHasRisen}
use Rattle.bc_top.specs.declared.stop.Stop.{Stop}
use Rattle.bc_top.specs.declared.stop.Stop.TheVariants as stop
use Rattle.bc_top.proofs.Settled.{next_risen}

-- a source that spells a trace isn't refused
pub never_refused : (source left : StreamFacts) (e : ScriptError) → SpellsTrace source → IsScriptCause source left (trace.Script e) → ⊥
never_refused source left e spells cause = by source.text left.text spells.1 cause.0
  where
    by : (a b : Option (List ℕ)) → a ≡ Some spells.0 → BothToldText (λ text left. IsFirstRefused text e × TakesAtMost (81 * e.line + 4095) text left) a b → ⊥
    by None b is both = absurd (cc)
    by (Some text) None is both = absurd both
    by (Some text) (Some rest) is both =
        let is_text : text ≡ spells.0 = cc in
        read_or_refused spells.0 spells.2.0 e spells.2.1 spells.2.2.few (subst (λ (t : List ℕ). IsFirstRefused t e) is_text both.0)

module _ (cache cache' old new : DiskFacts) (asks : AsksForNone old) (same : IsSameDevice old new) where
  -- what was read is the superblock that asks for no cache
  read_there : (bytes : List ℕ) → IsSuperBytes bytes new → IsBackingSuper bytes new.sectors asks.2.0
  read_there bytes stands =
      let theirs = asks.2.1 in
      subst (λ n. IsBackingSuper bytes n asks.2.0) (sym same.sectors)
      (subst (λ (bs : List ℕ). IsBackingSuper bs old.sectors asks.2.0) (same_bytes old asks.0 asks.1 theirs.0 bytes theirs.1 (super_before bytes old new same.holds stands)) theirs.2)

  by_reading : (e : SuperError) → ReadsRefused new e → ⊥
  by_reading e read = apart read.0 new.sectors asks.2.0 e (read_there read.0 read.1) read.2

  is_large : new.sectors < 16 → ⊥
  is_large few =
      let begins = asks.2.1.2.usable.data_offset in
      let low = begins.0 in
      let high = begins.1 in
      let size = same.sectors in
      omega arith

  not_cause : (e : SuperError) → e ≢ errors.Fault → IsCause new e → ⊥
  not_cause errors.DeviceSmall other why = is_large why
  not_cause errors.Fault other why = other refl
  not_cause e other why = by_reading e why

  -- whatever superblock was read before, it asks for no cache
  pub asks_the_same : (s : BackingSuper) → ReadsSuper old s → (IsPassThrough s → ⊥) → ⊥
  asks_the_same s read never =
      let theirs = asks.2.1 in
      let there = subst (λ (bs : List ℕ). IsBackingSuper bs old.sectors asks.2.0) (same_bytes old asks.0 asks.1 theirs.0 read.0 theirs.1 read.1) theirs.2 in
      never (subst IsPassThrough (one_super read.0 old.sectors asks.2.0 s there read.2) asks.2.2)

  not_lone : (error : OpenError) → (HasRisen old.faults new.faults → ⊥) → IsLoneCause error old new → ⊥
  not_lone (opening.Fault device.Backing) still cause = still (next_risen old.faults new.faults cause.0)
  not_lone (opening.Super device.Backing why) still refuses = not_cause why refuses.0.0 refuses.0.1
  not_lone error still cause = absurd cause

  not_opened : (why : Stop) → (HasRisen old.faults new.faults → ⊥) → IsOpeningCause cache cache' old new why → ⊥
  not_opened why still (inl lone) = not_lone lone.0 still lone.2
  not_opened why still (inr stops) = let asked = stops.0 in asks_the_same asked.0 asked.1 asked.2

  -- with such a device and a source that spells a trace only want of memory is left
  pub only_memory : (source left : StreamFacts) (why : Stop) → SpellsTrace source → (HasRisen source.faults left.faults → ⊥) → (HasRisen old.faults new.faults → ⊥)
      → IsServeCause why source left cache cache' old new → status_of why ≡ statuses.Memory
  only_memory source left stop.Usage spells quiet still cause = absurd cause
  only_memory source left (stop.Trace e) spells quiet still cause = absurd (never_refused source left e spells cause.0)
  only_memory source left stop.Source spells quiet still cause = absurd (quiet cause.0)
  only_memory source left stop.Memory spells quiet still cause = refl
  only_memory source left why spells quiet still cause = absurd (not_opened why still cause.1)

-- a trace that isn't read is why it isn't served
pub unread : (source left : StreamFacts) (cache backing : DiskFacts) (e : TraceError) → IsScriptCause source left e
    → IsServeCause (trace_stop e) source left cache cache backing backing
unread source left cache backing (trace.Script e) cause = (cause, (refl, refl))
unread source left cache backing trace.Fault cause = (cause, (refl, refl))
unread source left cache backing trace.Memory cause = inl (cause, (refl, refl))

-- a call that ended with a fault of a device has a count that rose
module _ (cache cache' backing backing' : DiskFacts) where
  lone_rose : (e : OpenError) (d : Device) → stop.Fault d ≡ open_stop e → IsLoneCause e backing backing'
      → OneHasRisen cache cache' backing backing'
  lone_rose (opening.Fault device.Backing) d is cause = inr (next_risen backing.faults backing'.faults cause.0)
  lone_rose (opening.Super device.Backing why) d is cause = absurd (cc)
  lone_rose e d is cause = absurd cause

  pair_rose : (calls : ℕ) (e : OpenError) (d : Device) → stop.Fault d ≡ open_stop e
      → IsPairCause cache cache' backing backing' calls e → OneHasRisen cache cache' backing backing'
  pair_rose calls (opening.Fault device.Cache) d is cause = inl (next_risen cache.faults cache'.faults cause.0)
  pair_rose calls (opening.Fault device.Backing) d is cause = inr (next_risen backing.faults backing'.faults cause.1)
  pair_rose calls (opening.Super at why) d is cause = absurd (cc)
  pair_rose calls e d is cause = absurd (cc)

  opening_rose : (d : Device) → IsOpeningCause cache cache' backing backing' (stop.Fault d)
      → OneHasRisen cache cache' backing backing'
  opening_rose d (inl lone) = lone_rose lone.0 d lone.1 lone.2
  opening_rose d (inr (asked, inl refused)) = pair_rose (next_count (next_count backing.calls)) refused.0 d refused.1 refused.2
  opening_rose d (inr (asked, inr none)) = absurd (let is = none.0 in cc)

  pub device_rose : (source left : StreamFacts) (why : Stop)
      → IsServeCause why source left cache cache' backing backing' → status_of why ≡ statuses.Device
      → OneHasRisen cache cache' backing backing'
  device_rose source left stop.Usage cause is = absurd cause
  device_rose source left (stop.Trace e) cause is = absurd (let no : statuses.Trace ≡ statuses.Device = is in cc)
  device_rose source left (stop.Superblock d number) cause is = absurd (let no : statuses.Superblock ≡ statuses.Device = is in cc)
  device_rose source left (stop.Image number) cause is = absurd (let no : statuses.Image ≡ statuses.Device = is in cc)
  device_rose source left stop.Unserved cause is = absurd (let no : statuses.Image ≡ statuses.Device = is in cc)
  device_rose source left stop.Source cause is = absurd (let no : statuses.Source ≡ statuses.Device = is in cc)
  device_rose source left stop.Memory cause is = absurd (let no : statuses.Memory ≡ statuses.Device = is in cc)
  device_rose source left (stop.Fault d) cause is = opening_rose d cause.1

-- a call that ended with a fault of the source has a count of that which rose
pub source_rose : (source left : StreamFacts) (cache cache' backing backing' : DiskFacts) (why : Stop)
    → IsServeCause why source left cache cache' backing backing' → status_of why ≡ statuses.Source
    → HasRisen source.faults left.faults
source_rose source left cache cache' backing backing' stop.Usage cause is = absurd cause
source_rose source left cache cache' backing backing' (stop.Trace e) cause is =
    absurd (let no : statuses.Trace ≡ statuses.Source = is in cc)
source_rose source left cache cache' backing backing' (stop.Superblock d number) cause is =
    absurd (let no : statuses.Superblock ≡ statuses.Source = is in cc)
source_rose source left cache cache' backing backing' (stop.Image number) cause is =
    absurd (let no : statuses.Image ≡ statuses.Source = is in cc)
source_rose source left cache cache' backing backing' stop.Unserved cause is =
    absurd (let no : statuses.Image ≡ statuses.Source = is in cc)
source_rose source left cache cache' backing backing' (stop.Fault d) cause is =
    absurd (let no : statuses.Device ≡ statuses.Source = is in cc)
source_rose source left cache cache' backing backing' stop.Source cause is = cause.0
source_rose source left cache cache' backing backing' stop.Memory cause is =
    absurd (let no : statuses.Memory ≡ statuses.Source = is in cc)

-- no call ends by the sink before its command is done
pub never_sink : (why : Stop) → status_of why ≡ statuses.Sink → ⊥
never_sink stop.Usage is = absurd (let no : statuses.Usage ≡ statuses.Sink = is in cc)
never_sink (stop.Trace e) is = absurd (let no : statuses.Trace ≡ statuses.Sink = is in cc)
never_sink (stop.Superblock d number) is =
    absurd (let no : statuses.Superblock ≡ statuses.Sink = is in cc)
never_sink (stop.Image number) is = absurd (let no : statuses.Image ≡ statuses.Sink = is in cc)
never_sink stop.Unserved is = absurd (let no : statuses.Image ≡ statuses.Sink = is in cc)
never_sink (stop.Fault d) is = absurd (let no : statuses.Device ≡ statuses.Sink = is in cc)
never_sink stop.Source is = absurd (let no : statuses.Source ≡ statuses.Sink = is in cc)
never_sink stop.Memory is = absurd (let no : statuses.Memory ≡ statuses.Sink = is in cc)
