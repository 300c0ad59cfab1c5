-- That each kind of event may be done with a cache.
use Rattle.std.specs.Prelude.{◌≡◌, ℕ, false, List}
use Rattle.bc_meta.specs.Facts.{In}
use Rattle.bc_leaves.specs.Parts as parts
use Rattle.bc_known.specs.Laws.{IsSound}
use Rattle.bc_events.specs.declared.event.Deed.{Deed}
use Rattle.bc_events.specs.declared.event.Deed.TheVariants as deed
use Rattle.bc_events.specs.declared.event.Event.{Event}
use Rattle.bc_events.specs.Run.{Opening, start, IsRun}

pub data Kind : Type 0 where
  Claim Release Look Pin Unpin Take Raise Ready CacheRead CacheWrite CacheBarrier BackingRead BackingWrite BackingBarrier InsertWrite Insert Candidate Settle Seal Sealed Install Mark Answer FlushFrom FlushDone Durable LineFrom LineDone DeviceFault : Kind

abbrev pub kind_of : Deed → Kind
kind_of (deed.Claim first count how) = Claim
kind_of deed.Release = Release
kind_of (deed.Look leaf) = Look
kind_of (deed.Pin at count full) = Pin
kind_of (deed.Unpin kind) = Unpin
kind_of (deed.Take purpose bucket) = Take
kind_of (deed.Raise bucket) = Raise
kind_of (deed.Ready back named) = Ready
kind_of (deed.CacheRead at first values) = CacheRead
kind_of (deed.CacheWrite at what values) = CacheWrite
kind_of deed.CacheBarrier = CacheBarrier
kind_of (deed.BackingRead first values) = BackingRead
kind_of (deed.BackingWrite first of values) = BackingWrite
kind_of deed.BackingBarrier = BackingBarrier
kind_of (deed.InsertWrite leaf keys of first values) = InsertWrite
kind_of (deed.Insert leaf keys form) = Insert
kind_of (deed.Candidate candidate first count at) = Candidate
kind_of (deed.Settle leaf candidate keys) = Settle
kind_of (deed.Seal last_seq bucket rest new_root chain) = Seal
kind_of deed.Sealed = Sealed
kind_of (deed.Install change come gone) = Install
kind_of (deed.Mark form) = Mark
kind_of (deed.Answer of first values) = Answer
kind_of (deed.FlushFrom of) = FlushFrom
kind_of (deed.FlushDone of) = FlushDone
kind_of (deed.Durable of first count) = Durable
kind_of (deed.LineFrom of) = LineFrom
kind_of (deed.LineDone of) = LineDone
kind_of (deed.DeviceFault failure) = DeviceFault

abbrev pub HasKind : List Event → Kind → Type 0
HasKind es k = (e : Event) × In e es × (kind_of e.deed ≡ k)

-- a run with a cache, from a sound opening, in which there is an event of each kind
pub record DoesAll (w : Opening) (x : parts.State) (next_seq : ℕ) (es : List Event) : Type 0 where
  pub cached : w.machine.flow.plain ≡ false
  pub sound : IsSound w.machine x
  pub course : IsRun w (start w x next_seq) es
  pub each : (k : Kind) → HasKind es k

abbrev pub HasAllDeeds : Type 0
HasAllDeeds = (w : Opening) × (x : parts.State) × (next_seq : ℕ)
    × ((es : List Event) × DoesAll w x next_seq es)
