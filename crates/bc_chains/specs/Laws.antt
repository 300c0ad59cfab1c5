-- When the core allows it that a set of a chain is written, and who changes it.
use Rattle.std.specs.Prelude.{◌≡◌, ◌≢◌, ℕ, false, List}
use Rattle.bc_disk.specs.declared.disk.Device.TheVariants.{Cache}
use Rattle.bc_disk.specs.declared.geometry.Geometry.{Geometry}
use Rattle.bc_events.specs.Columns.{call_by}
use Rattle.bc_events.specs.Run as core
use Rattle.bc_events.specs.declared.event.Deed.TheVariants as deed
use Rattle.bc_events.specs.declared.event.Event.{Event}
use Rattle.bc_events.specs.declared.event.Failure.TheVariants as failure
use Rattle.bc_events.specs.declared.event.Written.TheVariants as written
use Rattle.bc_facts.specs.Seen.{seen_prio}
use Rattle.bc_machine.specs.World.{IsCourseOf, IsOrigin, Origin, World, is_call_of, replay}
use Rattle.bc_model.specs.declared.values.Values.{Values}
use Rattle.bc_model.specs.Sector.{values_of}
use Rattle.bc_prio.specs.Set.{IsSet}
use Rattle.bc_shares.specs.Touched.{touches_buckets}
use Rattle.bc_chains.specs.Written.{IsDivided, IsForChain, IsMade}

abbrev pub write_by : (i at q part : ℕ) → Values → Event
write_by i at q part values =
    record { seat = i; deed = deed.CacheWrite at (written.Priorities q part) values }

abbrev pub lost_by : (i at q part : ℕ) → Values → Event
lost_by i at q part values = record {
  seat = i;
  deed = deed.DeviceFault (failure.CacheWrite at (written.Priorities q part) values);
}

-- The write may be, as the one call that may come late too; and so may one that fails. Behind it
-- the set is made, and those of other buckets are as they were.
pub record AllowsSet (x : World) (o : Origin) (g : Geometry) (i q part : ℕ) (bytes : List ℕ)
    (values : Values) : Type 0 where
  pub may : core.IsSeat i → (replay o x.log).machine.whole.flow.late i ≡ false
      → core.IsEnabled o.opening (replay o x.log)
      (write_by i (o.opening.machine.layout.first q) q part values)
  pub may_fail : core.IsSeat i → (replay o x.log).machine.whole.flow.late i ≡ false
      → core.IsEnabled o.opening (replay o x.log)
      (lost_by i (o.opening.machine.layout.first q) q part values)
  pub made : IsMade q part (seen_prio g part bytes) o (core.after o.opening (replay o x.log)
      (write_by i (o.opening.machine.layout.first q) q part values))
  pub others : (r : ℕ) → r ≢ q → (core.after o.opening (replay o x.log)
      (write_by i (o.opening.machine.layout.first q) q part values)).machine.whole.store.made r
      ≡ (replay o x.log).machine.whole.store.made r

abbrev pub LawWrite : Type 0
LawWrite = (x : World) (o : Origin) (g : Geometry) (i q part : ℕ) (bytes : List ℕ)
    (values : Values) → IsOrigin x o → IsCourseOf o x.log → IsDivided g o (replay o x.log)
    → IsForChain i q o (replay o x.log) → IsSet g part bytes → values ≡ values_of bytes
    → AllowsSet x o g i q part bytes values

-- What was written to buckets for a chain stays, while others neither change the buckets nor call
-- the cache device.
abbrev pub LawMade : Type 0
LawMade = (w : core.Opening) (st : core.State) (e : Event) → touches_buckets e.deed ≡ false
    → is_call_of Cache (call_by e.deed) ≡ false → (q : ℕ)
    → (core.after w st e).machine.whole.store.made q ≡ st.machine.whole.store.made q
