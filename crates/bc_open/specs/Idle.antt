-- A pair that is opened and closed.
use Rattle.std.specs.Prelude.{◌≡◌, ℕ, [], ◌∷◌}
use Rattle.bc_model.specs.Sector.{Value}
use Rattle.bc_disk.specs.Disk.{DiskFacts, IsKept}
use Rattle.bc_disk.specs.declared.geometry.Geometry.{Geometry}
use Rattle.bc_entered.specs.Enter.{HasEntered}
use Rattle.bc_image.specs.Pair.{Pair}
use Rattle.bc_image.specs.Reading.{Reading}
use Rattle.bc_image.specs.Uses.{IsLiveDirty}
use Rattle.bc_journal.specs.Journal.{Journal}
use Rattle.bc_recover.specs.Read.{IsReadOf}
use Rattle.bc_replay.specs.declared.held.Survey.{Survey}
use Rattle.bc_state.specs.State.{IsCached, super_in}
use Rattle.bc_super.specs.Writing.{IsBackingSector, IsStored, count_after}
use Rattle.bc_super.specs.declared.backing.BackingSuper.{BackingSuper}
use Rattle.bc_super.specs.declared.state.BackingState.{BackingState}
use Rattle.bc_super.specs.declared.state.BackingState.TheVariants as states

-- the state of a pair at rest: whether some live data of its cache is all that there is of it
abbrev pub IsStateOf : Geometry → Reading → BackingState → Type 0
IsStateOf g r states.Dirty = (bucket : ℕ) × IsLiveDirty g r bucket
IsStateOf g r states.Clean = (bucket : ℕ) → ¬ (IsLiveDirty g r bucket)
IsStateOf g r other = ⊥

-- what a crash may leave there once an opening has begun: `clean` only where the pair at rest is so
abbrev pub MayBeLeft : Survey → BackingState → Type 0
MayBeLeft s states.Dirty = Unit {0}
MayBeLeft s state =
    (p : Pair) → (h : IsReadOf s p) → IsStateOf h.view.geometry h.view.reading state

-- how often the backing device is called on the way to this state
abbrev pub calls_to : BackingState → ℕ
calls_to states.Dirty = 3
calls_to other = 5

-- The entry of the opening stands on the cache device; the backing device says the pair's state, and
-- else holds what it held. A crash leaves just what both hold. No call failed, and the backing device
-- was called no more than it needs.
pub record HasIdled {C : Type 0} (facts : C → DiskFacts) (s : Survey) (b : BackingSuper)
    (cache cache' : C) (backing backing' : DiskFacts) : Type 0 where
  -- once the inner nodes were read
  pub between : C
  pub kept : IsKept (facts cache) (facts between)
  pub good : (facts between).faults ≡ (facts cache).faults
  pub journal : Journal
  pub entered : HasEntered s.supers.geometry s.journal (facts between) (facts cache') journal
  pub state : BackingState
  pub cached : IsCached state
  pub is : (p : Pair) → (h : IsReadOf s p) → IsStateOf h.view.geometry h.view.reading state
  pub bytes : Value
  pub sector : IsBackingSector bytes (super_in state b)
  pub stored : IsStored 8 (bytes ∷ []) backing backing'
  pub calls : backing'.calls ≡ count_after (calls_to state) backing.calls
  pub faults : backing'.faults ≡ backing.faults
