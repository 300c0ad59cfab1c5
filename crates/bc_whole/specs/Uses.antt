-- That each kind of act may be done.
use Rattle.std.specs.Prelude.{◌≡◌, List}
use Rattle.bc_meta.specs.Facts.{In}
use Rattle.bc_leaves.specs.Parts as parts
use Rattle.bc_whole.specs.State.{Opening, Write, OfData, OfEntry, OfSet, OfParent, OfLeaf, OfInner, OfPriorities, Outside, Act, Alone, Keyed, WriteCache, FailCache, CacheBarrier, Seal, MakeDurable, BeginBucket, Take, LetGo, ReadyChain, KeepSpare, BeginChange, Install, ForgetDrafts, Event}
use Rattle.bc_whole.specs.Run.{IsRun, start}
use Rattle.bc_whole.specs.Laws.{IsSound}

-- by what is done, and of a write that is done well by what is written
pub data Kind : Type 0 where
  Quiet Keys : Kind
  Data Entry Set ParentSet Leaf Inner Priorities Elsewhere : Kind
  Fault Barrier Sealed Durable NextBucket Taken Released : Kind
  Chain Spare Change Installed Drafts : Kind

abbrev pub kind_of_write : Write → Kind
kind_of_write (OfData q place) = Data
kind_of_write OfEntry = Entry
kind_of_write (OfSet i set) = Set
kind_of_write (OfParent i set) = ParentSet
kind_of_write (OfLeaf i leaf set) = Leaf
kind_of_write (OfInner i inner set) = Inner
kind_of_write (OfPriorities q part set) = Priorities
kind_of_write (Outside place) = Elsewhere

abbrev pub kind_of : Act → Kind
kind_of (Alone act) = Quiet
kind_of (Keyed act slot keys) = Keys
kind_of (WriteCache write values) = kind_of_write write
kind_of (FailCache write values) = Fault
kind_of CacheBarrier = Barrier
kind_of (Seal last_seq rest root chain) = Sealed
kind_of MakeDurable = Durable
kind_of (BeginBucket b) = NextBucket
kind_of (Take purpose b) = Taken
kind_of (LetGo b room) = Released
kind_of (ReadyChain room spare) = Chain
kind_of (KeepSpare spare) = Spare
kind_of (BeginChange low high gone come old new unused) = Change
kind_of (Install unused steps) = Installed
kind_of ForgetDrafts = Drafts

abbrev pub HasKind : List Event → Kind → Type 0
HasKind es k = (e : Event) × In e es × (kind_of e.act ≡ k)

-- a run from a sound opening in which there is an act of each kind
pub record DoesAll (w : Opening) (x : parts.State) (es : List Event) : Type 0 where
  pub sound : IsSound w x
  pub course : IsRun w (start w x) es
  pub each : (k : Kind) → HasKind es k

abbrev pub HasAllActs : Type 0
HasAllActs = (w : Opening) × (x : parts.State) × ((es : List Event) × DoesAll w x es)
