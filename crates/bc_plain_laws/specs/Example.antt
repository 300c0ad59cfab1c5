-- Runs for which the premises of the laws are met, and two that show what they are needed for.
use Rattle.std.specs.Prelude.{◌≡◌, ℕ, List, [], ◌∷◌, reverse, None, Some}
use Rattle.bc_model.specs.Sector.{Value, Image, at_run, unless}
use Rattle.bc_model.specs.History.{IsLegal}
use Rattle.bc_disk.specs.Device.{Among, instead, besides}
use Rattle.bc_disk.specs.Disk.{DiskFacts}
use Rattle.bc_parts.specs.Machine.{IsRun}
use Rattle.bc_data.specs.Example.{zero_value, one_value}
use Rattle.bc_flight.specs.declared.claim.Share.TheVariants.{Exclusive}
use Rattle.bc_events.specs.Columns.{entries_of}
use Rattle.bc_events.specs.declared.event.LineNumber.{LineNumber}
use Rattle.bc_events.specs.declared.event.Deed.{Deed}
use Rattle.bc_events.specs.declared.event.Deed.TheVariants.{Claim, BackingWrite, BackingBarrier, Answer}
use Rattle.bc_events.specs.declared.event.Event.{Event}
use Rattle.bc_hand.specs.bc_machine.declared.part.BackingPart.{BackingPart}
use Rattle.bc_hand.specs.bc_machine.declared.part.CorePart.TheVariants as part
use Rattle.bc_hand.specs.bc_machine.World.{no_device, opening, IsBacking}
use Rattle.bc_hand.specs.Seats.{core}
use Rattle.bc_plain_laws.specs.Promises.{LeavesLastWrites}
use Rattle.bc_plain_laws.specs.Laws.{EndsFirmly, IsPlainRun, last}

-- ---- devices

-- one of one sector that tells what it holds, and what a crash may leave
pub record Shown : Type 0 where
  pub held : Image
  pub left : ℕ → List Value
  pub calls : ℕ

abbrev pub shown_facts : Shown → DiskFacts
shown_facts x = record {
  sectors = 1;
  holds = Some x.held;
  may_leave = λ image. (s : ℕ) → Among (image s) (x.left s);
  calls = x.calls;
  faults = 0;
}

-- a run over the backing device alone has no cache device, of whatever type
abbrev pub none_used : Unit {0} → DiskFacts
none_used x = no_device

-- one that tells nothing
abbrev pub untold : Unit {0} → DiskFacts
untold x = record {
  sectors = 0;
  holds = None;
  may_leave = λ image. Unit {0};
  calls = 0;
  faults = 0;
}

abbrev pub fresh : Shown
fresh = record { held = λ s. zero_value; left = λ s. zero_value ∷ []; calls = 0 }

-- what is held once the value was written
abbrev pub with_one : Image
with_one s = unless (at_run 0 (one_value ∷ []) s) zero_value

-- without a barrier a crash may undo that
abbrev pub undoable : Shown
undoable = record {
  held = with_one;
  left = λ s. besides (at_run 0 (one_value ∷ []) s) (zero_value ∷ []);
  calls = 1;
}

abbrev pub kept : Shown
kept = record {
  held = with_one;
  left = λ s. instead (at_run 0 (one_value ∷ []) s) (zero_value ∷ []);
  calls = 2;
}

-- ---- runs

abbrev pub a_line : LineNumber
a_line = record { worker = 1; line = 3 }

-- by the seat of the first worker
abbrev pub by_worker : List Deed → List Event
by_worker [] = []
by_worker (d ∷ ds) = record { seat = 16; deed = d } ∷ by_worker ds

abbrev pub a_write : List Event
a_write = by_worker (Claim 0 1 Exclusive ∷ BackingWrite 0 (Some a_line) (one_value ∷ []) ∷ [])

abbrev pub a_firm_write : List Event
a_firm_write = by_worker (Claim 0 1 Exclusive ∷ BackingWrite 0 (Some a_line) (one_value ∷ [])
    ∷ BackingBarrier ∷ [])

-- an answer with values that nobody wrote
abbrev pub an_answer : List Event
an_answer = by_worker (Answer a_line 0 (one_value ∷ []) ∷ [])

-- a run from the one device to the other
pub record HasRun (before after_ : Shown) (es : List Event) : Type 0 where
  pub first : BackingPart Shown
  pub left : BackingPart Shown
  pub first_is : first.disk ≡ before
  pub left_is : left.disk ≡ after_
  pub run : IsPlainRun none_used shown_facts (part.Backing first ∷ []) es
  pub stands : IsBacking none_used shown_facts left
      (last none_used shown_facts (part.Backing first ∷ []) es)

-- the premises are met by a run of no event, and by one that ends firmly
pub record LawRuns : Type 0 where
  pub none : HasRun fresh fresh []
  pub firm : HasRun fresh kept a_firm_write
  pub ends : EndsFirmly a_firm_write

-- Without its barrier a run may leave a device that isn't stable. And with a cache that tells
-- nothing, whatever is said may be a run.
pub record LawTeeth : Type 0 where
  pub run : HasRun fresh undoable a_write
  pub unstable : LeavesLastWrites 0 fresh.held (entries_of a_write) (shown_facts undoable) → ⊥
  pub backing : BackingPart Shown
  pub disk : backing.disk ≡ fresh
  pub course : IsRun (core untold shown_facts)
      (opening untold shown_facts (part.Cache tt ∷ part.Backing backing ∷ [])) an_answer
  pub wrong : IsLegal fresh.held (reverse (entries_of an_answer)) → ⊥
