-- Every run of the parts is one of the records, and of the whole machine of the metadata.
use Rattle.std.specs.Prelude.{◌≡◌, ℕ, Bool, List, [], ◌∷◌, Option, Some, None}
use Rattle.bc_meta.specs.Entries.{Entry}
use Rattle.bc_meta.specs.Tree.{Owner, NodeSets, IsNamed, Keeps}
use Rattle.bc_meta.specs.Layout.{Layout}
use Rattle.bc_meta.specs.Records.{Records, RecordsAllow, ReadsRight, IsReadable, HasRoom, opened_records, records_after}
use Rattle.bc_meta.specs.Places.{PlacesAllow}
use Rattle.bc_meta.specs.Acts.{Act, ChainsAllow, IfEvent, event_of}
use Rattle.bc_meta.specs.Laws.{Opening, IsSound, opened, reached}
use Rattle.bc_meta.specs.Events as event
use Rattle.bc_meta.specs.Acts as acts
use Rattle.bc_leaves.specs.Parts.{State}
use Rattle.bc_leaves.specs.Events.{Event}
use Rattle.bc_leaves.specs.After.{records_fold, fold, all_events}
use Rattle.bc_leaves.specs.Enabled.{IsRun}
use Rattle.bc_leaves.specs.Fits.{Fits}

-- a run of the records alone: each event is allowed by what they may read as
abbrev pub IsRecordsRun : Records → List event.Event → Type 0
IsRecordsRun r [] = Unit {0}
IsRecordsRun r (e ∷ es) = RecordsAllow r e × IsRecordsRun (records_after r e) es

-- what a run of the parts comes to
pub record Agrees (st : State) (es : List Event) : Type 0 where
  pub allowed : IsRecordsRun st.records (all_events st es)
  pub ends : (fold st es).records ≡ records_fold st.records (all_events st es)
  pub fits : Fits (fold st es)
  -- whatever a crash leaves of the nodes: the durable entry's tree reads right, and the sealed
  -- one's
  pub reads : ReadsRight (fold st es).records

-- Where the parts fit readable records, no event that they allow is one that the records don't.
abbrev pub LawTree : Type 0
LawTree =
    (owners : ℕ → Owner) (all : List Entry) (c : NodeSets) (newest : Entry) (older : List Entry) (ring : ℕ
    → List Entry) (bucket : ℕ) (unused : ℕ → Bool)
    → IsReadable all c newest older → HasRoom all newest older ring
    → Keeps unused c newest.level newest.root
    → IsNamed owners c newest.level newest.root newest.word
    → (st : State) → st.records ≡ opened_records owners c newest older ring bucket unused → Fits st
    → (es : List Event) → IsRun st es → Agrees st es

-- ---- the whole machine

-- an act of the metadata, and what it is to the parts
pub record Step : Type 0 where
  pub act : Act
  pub events : List Event

abbrev pub to_list : Option event.Event → List event.Event
to_list None = []
to_list (Some e) = e ∷ []

abbrev pub acts_of : List Step → List Act
acts_of [] = []
acts_of (x ∷ xs) = x.act ∷ acts_of xs

abbrev pub parts_of : State → List Step → State
parts_of st [] = st
parts_of st (x ∷ xs) = parts_of (fold st x.events) xs

-- The parts allow each act, and so do the places and the chains; nobody asks what the records may
-- read as.
abbrev pub IsJoint : Layout → acts.State → State → List Step → Type 0
IsJoint w m st [] = Unit {0}
IsJoint w m st (x ∷ xs) =
    (to_list (event_of w x.act) ≡ all_events st x.events) × IsRun st x.events
    × IfEvent (PlacesAllow w m.places) (event_of w x.act) × ChainsAllow w m x.act
    × IsJoint w (acts.after w m x.act) (fold st x.events) xs

pub record Joins (w : Layout) (o : Opening) (st : State) (steps : List Step) : Type 0 where
  pub run : acts.IsRun w (opened w o) (acts_of steps)
  pub ends : (parts_of st steps).records ≡ (reached w o (acts_of steps)).places.records
  pub fits : Fits (parts_of st steps)

abbrev pub LawJoint : Type 0
LawJoint =
    (w : Layout) (o : Opening) (st : State) (steps : List Step) → IsSound w o → st.records
    ≡ (opened w o).places.records
    → Fits st → IsJoint w (opened w o) st steps → Joins w o st steps
