-- Why a line is answered as it is, by what its seat did while it was served.
use Rattle.std.specs.Prelude.{◌≡◌, Bool, true, false, ◌||◌, List, [], ◌∷◌, ◌++◌, Option, Some, None, option_to_list}
use Rattle.bc_model.specs.declared.history.Entry.{Entry}
use Rattle.bc_disk.specs.declared.disk.Device.TheVariants.{Backing}
use Rattle.bc_events.specs.Columns.{Call, call_by, entry_by, halt_of}
use Rattle.bc_events.specs.declared.event.Deed.{Deed}
use Rattle.bc_events.specs.declared.event.Event.{Event}
use Rattle.bc_script.specs.declared.answer.Answer.{Answer}
use Rattle.bc_script.specs.declared.answer.Answer.TheVariants.{Silent, Done, Runs, Refused}
use Rattle.bc_script.specs.declared.answer.Refusal.TheVariants.{OutOfRange, NoBucket, Fault, Halted, Memory, JournalEnd, Node}

-- what these deeds put into the history, oldest entry first
abbrev pub entries_by : List Deed → List Entry
entries_by [] = []
entries_by (d ∷ ds) = option_to_list (entry_by d) ++ entries_by ds

-- a call of a device among them failed
abbrev pub is_failed : Option Call → Bool
is_failed None = false
is_failed (Some call) = call.failed

abbrev pub has_failed : List Deed → Bool
has_failed [] = false
has_failed (d ∷ ds) = is_failed (call_by d) || has_failed ds

-- no other device than the backing device was called
abbrev pub IsOfBacking : Option Call → Type 0
IsOfBacking None = Unit {0}
IsOfBacking (Some call) = call.device ≡ Backing

abbrev pub CallsBacking : List Deed → Type 0
CallsBacking [] = Unit {0}
CallsBacking (d ∷ ds) = IsOfBacking (call_by d) × CallsBacking ds

-- `fault` is said exactly where a call that the line made failed, and `halted` where a write or a
-- barrier of that device was the first that failed by then; of buckets, the journal and nodes a run
-- over the backing device alone says nothing
abbrev pub IsCaused : Answer → List Event → List Deed → Type 0
IsCaused Silent seen ds = has_failed ds ≡ false
IsCaused Done seen ds = has_failed ds ≡ false
IsCaused (Runs at values) seen ds = has_failed ds ≡ false
IsCaused (Refused OutOfRange) seen ds = has_failed ds ≡ false
IsCaused (Refused (Fault device)) seen ds = (device ≡ Backing) × (has_failed ds ≡ true)
IsCaused (Refused (Halted device)) seen ds =
    (halt_of seen ≡ Some device) × (has_failed ds ≡ false)
IsCaused (Refused Memory) seen ds = has_failed ds ≡ false
IsCaused (Refused (NoBucket purpose none_len own_len)) seen ds = ⊥
IsCaused (Refused JournalEnd) seen ds = ⊥
IsCaused (Refused (Node bucket why)) seen ds = ⊥
