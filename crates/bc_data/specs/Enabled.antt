-- When an act may be done: by what its seat noted, by what the state has in the parts that it
-- holds, and by lasting facts, never by what a crash may leave.
use Rattle.std.specs.Prelude.{◌≡◌, ◌⊎◌, ◌≢◌, ℕ, ◌+◌, ◌<◌, ◌≤◌, Bool, true, false, List, [], ◌∷◌, Option, Some, None}
use Rattle.bc_model.specs.Sector.{Value, at_run, Gives}
use Rattle.bc_disk.specs.Device.{Among}
use Rattle.bc_books.specs.Index.{Clean, Dirty, Pointer, Key, within, run_place, hit, names}
use Rattle.bc_books.specs.Shelves.{Owner, Fresh, Own, Kept, Spent, IsHeldBy}
use Rattle.bc_books.specs.Books.{Setup, Books, Step, Put, Take, LetGo, Pin, Unpin, Keep, BeginNode, MakeNode, SealChain, Sealed}
use Rattle.bc_books.specs.After as books
use Rattle.bc_data.specs.Seats.{Claim, Candidate, Covers, Apart, new_claim}
use Rattle.bc_data.specs.Data.{Opening, Stage, Ready, Safe, State, Note, Look, CacheRead, BackingRead, Payload, Data, Metadata, JournalEntry, Route, Around, Copy, Form, DropKeys, CleanKeys, MoveKeys, StaleKeys, Speech, Answer, BeginFlush, EndFlush, Acknowledge, Fault, CacheFault, BackingFault, BarrierFault, ReadFault, Act, MakeClaim, Release, Learn, CacheWrite, CacheBarrier, BackingWrite, BackingBarrier, InsertWrite, Insert, NoteCandidate, Settle, PinPlaces, UnpinPlaces, UnpinDead, Shelve, Say, Fail, index_of, claim_of}

-- each sector that these keys cover has P with where they let it point
abbrev pub Hits : List Key → (ℕ → Option Pointer → Type 0) → Type 0
Hits keys P = (s : ℕ) (o : Option Pointer) → hit keys s ≡ Some o → P s o

-- each sector of the run has P with its place
abbrev pub Points : ℕ → ℕ → ℕ → (ℕ → ℕ → Type 0) → Type 0
Points first place count P = (s p : ℕ) → run_place first place count s ≡ Some p → P s p

-- the backing device has what it shows
abbrev pub IsBacked : Option Pointer → Type 0
IsBacked None = Unit {0}
IsBacked (Some r) = r.kind ≡ Clean

-- what an act does to the books
abbrev pub steps_of : (ℕ → Candidate) → ℕ → Act → List Step
steps_of x i (InsertWrite line leaf keys first values) = Put leaf keys ∷ []
steps_of x i (Insert form leaf keys) = Put leaf keys ∷ []
steps_of x i (NoteCandidate number first count place) = Keep number place count ∷ []
steps_of x i (Settle number leaf keys) =
    Put leaf keys ∷ Unpin (x number).place (x number).count ∷ []
steps_of x i (PinPlaces place count) = Pin i place count ∷ []
steps_of x i (UnpinPlaces place count) = Unpin place count ∷ []
steps_of x i (UnpinDead number) = Unpin (x number).place (x number).count ∷ []
steps_of x i (Shelve step) = step ∷ []
steps_of x i act = []

-- When an act is heard: always, before a halt, or also as the one device call of another seat that
-- may come late.
pub data Moment : Type 0 where
  Always Calls Runs : Moment

abbrev pub note_moment : Note → Moment
note_moment (Look leaf) = Runs
note_moment (CacheRead first values) = Calls
note_moment (BackingRead first values) = Calls

abbrev pub moment : Act → Moment
moment Release = Always
moment (Learn note) = note_moment note
moment (CacheWrite payload place values) = Calls
moment CacheBarrier = Calls
moment (BackingWrite route first values) = Calls
moment BackingBarrier = Calls
moment (UnpinPlaces place count) = Always
moment (UnpinDead number) = Always
moment (Fail fault) = Calls
moment act = Runs

abbrev pub IsHeard : Bool → Bool → Moment → Type 0
IsHeard halted late Always = Unit {0}
IsHeard halted late Calls = (halted ≡ false) ⊎ (late ≡ false)
IsHeard halted late Runs = halted ≡ false

-- where metadata may be written: into buckets of superblock, journal, uuid table or nodes, and into
-- those that the seat holds, while no entry names them
pub record IsSpare (w : Setup) (k : Books) (i t : ℕ) : Type 0 where
  pub fresh : k.owner t ≡ Fresh
  pub unnamed : k.chains.of (w.bucket t) ≡ None
  pub apart : ((w.fixed (w.bucket t) ≡ true) ⊎ (k.node (w.bucket t) ≡ true))
      ⊎ IsHeldBy i (k.shelf (w.bucket t))

-- data goes to places that the seat pinned; an entry is written once a barrier has made what it
-- names durable
abbrev pub MayWrite : Setup → Books → ℕ → Payload → ℕ → Type 0
MayWrite w k i Data t = k.owner t ≡ Own i
MayWrite w k i Metadata t = IsSpare w k i t
MayWrite w k i JournalEntry t = IsSpare w k i t

abbrev pub IsSendable : Stage → Payload → Type 0
IsSendable stage JournalEntry = stage ≡ Ready
IsSendable stage payload = Unit {0}

pub record CanWrite (w : Opening) (st : State) (i : ℕ) (payload : Payload) (place : ℕ)
    (values : List Value) : Type 0 where
  pub places : Gives place values (λ t v. MayWrite w.books st.books i payload t)
  pub sendable : IsSendable st.stage payload

-- No key stands over the sector in any index that a crash may still leave: none was seen and what
-- was seen is durable, or it was dropped and the drop is durable. In a plain run there are no keys.
abbrev pub IsBare : Bool → Claim → ℕ → ℕ → Type 0
IsBare plain c durable s = (plain ≡ true)
    ⊎ (((c.looked ≡ true) × (c.sight s ≡ None) × (c.keys ≤ durable))
    ⊎ ((c.gone s ≡ true) × (c.gone_keys ≤ durable)))

-- a write around the cache, the claim's only one
pub record CanBypass (plain : Bool) (c : Claim) (durable first : ℕ) (values : List Value) :
    Type 0 where
  pub some : values ≢ []
  pub exclusive : c.exclusive ≡ true
  pub first_write : c.wrote ≡ false
  pub bare : Gives first values (λ s v. Covers c s × IsBare plain c durable s)

-- A copy of what the seat read between two looks. What a crash leaves is no older than the first of
-- them, so what the copy goes over is never shown.
pub record CanCopy (c : Claim) (durable first : ℕ) (values : List Value) : Type 0 where
  pub checked : Gives first values (λ s v. Covers c s × (c.checked s ≡ Some v))
  pub known : c.checked_keys ≤ durable

abbrev pub CanPutBack : Opening → State → ℕ → Route → ℕ → List Value → Type 0
CanPutBack w st i (Around line) first values =
    CanBypass w.plain (claim_of st i) st.books.journal.durable first values
CanPutBack w st i Copy first values =
    CanCopy (claim_of st i) st.books.journal.durable first values

-- the place is the seat's, its version is the present one, and the seat wrote the value there
pub record IsPlacedAt (w : Opening) (st : State) (i : ℕ) (r : Pointer) (v : Value) : Type 0 where
  pub version : r.version ≡ st.books.generations.version (w.books.bucket r.place)
  pub own : st.books.owner r.place ≡ Own i
  pub placed : (st.seats i).placed r.place ≡ Some v

-- of one sector of a write: a dirty key points to where its value was placed
pub record IsFitting (w : Opening) (st : State) (i s : ℕ) (o : Option Pointer) (v : Value) :
    Type 0 where
  pub covers : Covers (claim_of st i) s
  pub key : Pointer
  pub is : o ≡ Some key
  pub dirty : key.kind ≡ Dirty
  pub placed : IsPlacedAt w st i key v

-- keys and values cover the same sectors
abbrev pub Fits : Opening → State → ℕ → ℕ → Option (Option Pointer) → Option Value → Type 0
Fits w st i s None None = Unit {0}
Fits w st i s None (Some v) = ⊥
Fits w st i s (Some o) None = ⊥
Fits w st i s (Some o) (Some v) = IsFitting w st i s o v

-- of one sector of a move: its key is the one that was seen, and not raised since; what was read
-- there was placed
pub record IsMoved (w : Opening) (st : State) (i s : ℕ) (o : Option Pointer) : Type 0 where
  pub looked : (claim_of st i).looked ≡ true
  pub covers : Covers (claim_of st i) s
  pub old : Pointer
  pub new : Pointer
  pub value : Value
  pub now : index_of st s ≡ Some old
  pub seen : (claim_of st i).sight s ≡ Some old
  pub live : st.books.generations.version (w.books.bucket old.place) ≡ old.version
  pub read : (claim_of st i).from_cache s ≡ Some value
  pub is : o ≡ Some new
  pub kind : new.kind ≡ old.kind
  pub placed : IsPlacedAt w st i new value

-- of one sector of a drop: the backing device has what it shows
pub record IsDropped (st : State) (i s : ℕ) (o : Option Pointer) : Type 0 where
  pub exclusive : (claim_of st i).exclusive ≡ true
  pub covers : Covers (claim_of st i) s
  pub is : o ≡ None
  pub backed : IsBacked (index_of st s)

-- of one sector that was written back: its copy is durable, and its key stays but for its kind
pub record IsCleaned (st : State) (i s : ℕ) (o : Option Pointer) : Type 0 where
  pub covers : Covers (claim_of st i) s
  pub firm : (claim_of st i).firm s ≡ true
  pub old : Pointer
  pub now : index_of st s ≡ Some old
  pub dirty : old.kind ≡ Dirty
  pub is : o ≡ Some (record { kind = Clean; place = old.place; version = old.version })

-- of one sector whose bucket was raised since its key came in: so the key isn't dirty
pub record IsPast (w : Opening) (st : State) (s : ℕ) (o : Option Pointer) : Type 0 where
  pub is : o ≡ None
  pub old : Pointer
  pub now : index_of st s ≡ Some old
  pub past : old.version < st.books.generations.version (w.books.bucket old.place)

abbrev pub MayInsert : Opening → State → ℕ → Form → ℕ → Option Pointer → Type 0
MayInsert w st i DropKeys s o = IsDropped st i s o
MayInsert w st i CleanKeys s o = IsCleaned st i s o
MayInsert w st i MoveKeys s o = IsMoved w st i s o
MayInsert w st i StaleKeys s o = IsPast w st s o

-- read from the backing device, which has what is shown, under a shared claim
pub record IsRead (c : Claim) (s : ℕ) (v : Value) : Type 0 where
  pub shared : c.exclusive ≡ false
  pub looked : c.looked ≡ true
  pub backed : IsBacked (c.sight s)
  pub read : c.from_backing s ≡ Some v

-- what a candidate may hold: what was so read, or written around the cache
pub record MayKeep (st : State) (i s p : ℕ) : Type 0 where
  pub covers : Covers (claim_of st i) s
  pub value : Value
  pub placed : (st.seats i).placed p ≡ Some value
  pub source : IsRead (claim_of st i) s value ⊎ ((claim_of st i).through s ≡ Some value)

-- these keys name places of this owner alone, or of nobody any more
abbrev pub IsUsing : (ℕ → Owner) → List Key → Owner → Type 0
IsUsing owner keys x = (t : ℕ) → names keys t ≡ true → (owner t ≡ x) ⊎ (owner t ≡ Spent)

-- of one sector of a candidate: nothing is keyed there, and the key names its place, clean
pub record MaySettle (w : Opening) (st : State) (x : Candidate) (s : ℕ) (o : Option Pointer) :
    Type 0 where
  pub bare : index_of st s ≡ None
  pub place : ℕ
  pub at : run_place x.first x.place x.count s ≡ Some place
  pub is : o ≡ Some (record {
    kind = Clean;
    place = place;
    version = st.books.generations.version (w.books.bucket place);
  })

-- a value that may be answered: read from the backing device, which has what is shown; or from the
-- cache, from a bucket that wasn't raised since the look
abbrev pub IsKnown : Opening → State → Claim → ℕ → Value → Type 0
IsKnown w st c s v = ((c.from_backing s ≡ Some v) × IsBacked (c.sight s))
    ⊎ ((r : Pointer) × (c.sight s ≡ Some r)
    × (st.books.generations.version (w.books.bucket r.place) ≡ r.version)
    × (c.from_cache s ≡ Some v))

-- a step of the books alone, and of this seat; an entry is done once it is written and a barrier
-- came behind
abbrev pub IsShelving : Stage → ℕ → Step → Type 0
IsShelving stage i (Put leaf keys) = ⊥
IsShelving stage i (Take j p b) = j ≡ i
IsShelving stage i (LetGo j b room) = j ≡ i
IsShelving stage i (Pin j place count) = ⊥
IsShelving stage i (Unpin place count) = ⊥
IsShelving stage i (Keep c place count) = ⊥
IsShelving stage i (BeginNode j b) = j ≡ i
IsShelving stage i (MakeNode j b) = j ≡ i
IsShelving stage i (SealChain j versions chain) = j ≡ i
IsShelving stage i Sealed = stage ≡ Safe
IsShelving stage i step = Unit {0}

abbrev pub CanLearn : State → ℕ → Note → Type 0
CanLearn st i (Look leaf) = (s : ℕ) → Covers (claim_of st i) s → st.books.index.leaf s ≡ leaf
CanLearn st i (CacheRead first values) = ((claim_of st i).looked ≡ true)
    × Gives first values (λ s v. Covers (claim_of st i) s
    × ((r : Pointer) × ((claim_of st i).sight s ≡ Some r) × Among v (st.cache.reads r.place)))
CanLearn st i (BackingRead first values) = ((claim_of st i).looked ≡ true)
    × Gives first values (λ s v. Covers (claim_of st i) s × Among v (st.backing.reads s))

-- what was written before the flush began is durable: the insertions, and what is on the backing
-- device
pub record CanEndFlush (st : State) (i line : ℕ) : Type 0 where
  pub going : (st.seats i).flush.going ≡ true
  pub its_line : (st.seats i).flush.line ≡ line
  pub keys : (st.seats i).flush.keys ≤ st.books.journal.durable
  pub firm : (st.seats i).flush.firm ≡ true

-- so it is with the seat's last write
pub record CanAcknowledge (st : State) (i line first count : ℕ) : Type 0 where
  pub exclusive : (claim_of st i).exclusive ≡ true
  pub wrote : (claim_of st i).wrote ≡ true
  pub its_line : (st.seats i).last.line ≡ line
  pub its_first : (st.seats i).last.first ≡ first
  pub its_count : count ≤ (st.seats i).last.count
  pub keys : (st.seats i).last.keys ≤ st.books.journal.durable
  pub firm : (st.seats i).last.firm ≡ true

abbrev pub CanSay : Opening → State → ℕ → Speech → Type 0
CanSay w st i (Answer line first values) = ((claim_of st i).looked ≡ true)
    × Gives first values (λ s v. Covers (claim_of st i) s × IsKnown w st (claim_of st i) s v)
CanSay w st i (BeginFlush line) = Unit {0}
CanSay w st i (EndFlush line) = CanEndFlush st i line
CanSay w st i (Acknowledge line first count) = CanAcknowledge st i line first count

abbrev pub CanFail : Opening → State → ℕ → Fault → Type 0
CanFail w st i (CacheFault payload place values) = CanWrite w st i payload place values
CanFail w st i (BackingFault route first values) = CanPutBack w st i route first values
CanFail w st i BarrierFault = Unit {0}
CanFail w st i ReadFault = Unit {0}

-- sectors of the backing device that no other claim forbids, and no second claim
pub record CanClaim (w : Opening) (st : State) (i first count : ℕ) (exclusive : Bool) : Type 0 where
  pub none : (claim_of st i).count ≡ 0
  pub inside : first + count ≤ w.books.size
  pub apart : (k : ℕ) → k ≢ i → Apart (new_claim first count exclusive) (claim_of st k)

-- a write through the cache, the claim's only one
pub record CanInsertWrite (w : Opening) (st : State) (i : ℕ) (keys : List Key) (first : ℕ)
    (values : List Value) : Type 0 where
  pub some : values ≢ []
  pub exclusive : (claim_of st i).exclusive ≡ true
  pub first_write : (claim_of st i).wrote ≡ false
  pub using : IsUsing st.books.owner keys (Own i)
  pub fits : (s : ℕ) → Fits w st i s (hit keys s) (at_run first values s)
  pub not_plain : w.plain ≡ false

pub record CanInsert (w : Opening) (st : State) (i : ℕ) (form : Form) (keys : List Key) :
    Type 0 where
  pub using : IsUsing st.books.owner keys (Own i)
  pub hits : Hits keys (MayInsert w st i form)
  pub not_plain : w.plain ≡ false

pub record CanNote (st : State) (i number first count place : ℕ) : Type 0 where
  pub free : (st.candidates number).stands ≡ false
  pub own : (t : ℕ) → within place count t ≡ true → st.books.owner t ≡ Own i
  pub values : Points first place count (MayKeep st i)

pub record CanSettle (w : Opening) (st : State) (number : ℕ) (keys : List Key) : Type 0 where
  pub stands : (st.candidates number).stands ≡ true
  pub alive : (st.candidates number).alive ≡ true
  pub firm : (st.candidates number).firm ≡ true
  pub using : IsUsing st.books.owner keys (Kept number)
  pub hits : Hits keys (MaySettle w st (st.candidates number))
  pub not_plain : w.plain ≡ false

-- beside the moment, and what the books ask
abbrev pub CanAct : Opening → State → ℕ → Act → Type 0
CanAct w st i (MakeClaim first count exclusive) = CanClaim w st i first count exclusive
CanAct w st i Release = Unit {0}
CanAct w st i (Learn note) = CanLearn st i note
CanAct w st i (CacheWrite payload place values) = CanWrite w st i payload place values
CanAct w st i CacheBarrier = Unit {0}
CanAct w st i (BackingWrite route first values) = CanPutBack w st i route first values
CanAct w st i BackingBarrier = Unit {0}
CanAct w st i (InsertWrite line leaf keys first values) = CanInsertWrite w st i keys first values
CanAct w st i (Insert form leaf keys) = CanInsert w st i form keys
CanAct w st i (NoteCandidate number first count place) = CanNote st i number first count place
CanAct w st i (Settle number leaf keys) = CanSettle w st number keys
CanAct w st i (PinPlaces place count) = Unit {0}
CanAct w st i (UnpinPlaces place count) = (t : ℕ) → within place count t ≡ true
    → (st.books.owner t ≡ Own i) ⊎ (st.books.owner t ≡ Spent)
CanAct w st i (UnpinDead number) = ((st.candidates number).stands ≡ true)
    × ((st.candidates number).alive ≡ false)
CanAct w st i (Shelve step) = IsShelving st.stage i step
CanAct w st i (Say speech) = CanSay w st i speech
CanAct w st i (Fail fault) = CanFail w st i fault

pub record IsEnabled (w : Opening) (st : State) (i : ℕ) (act : Act) : Type 0 where
  pub heard : IsHeard st.halted (st.late i) (moment act)
  pub steps : books.IsRun w.books st.books (steps_of st.candidates i act)
  pub can : CanAct w st i act
