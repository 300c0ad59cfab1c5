-- The state of what seats do with data, and the acts that change it.
use Rattle.std.specs.Prelude.{ℕ, Bool, false, Option, List, []}
use Rattle.bc_model.specs.Sector.{Value, Image}
use Rattle.bc_model.specs.declared.history.Entry.{Entry}
use Rattle.bc_disk.specs.Device.{Content, quiet}
use Rattle.bc_books.specs.Index.{Pointer, Key, latest}
use Rattle.bc_books.specs.Books.{Setup, Books, Step}
use Rattle.bc_books.specs.Books as books
use Rattle.bc_data.specs.Seats.{Claim, Seat, Candidate, no_seat, no_candidate}

-- what the opening found
pub record Opening : Type 0 where
  pub books : Setup
  -- the run uses the backing device alone
  pub plain : Bool
  -- what the two devices hold, and what they show
  pub cache : Image
  pub backing : Image
  pub image : Image

-- how far the sealed entry has come: it is sealed, a barrier of the cache device came behind that,
-- it is written, a barrier came behind that. What its keys point to is durable from Ready on
pub data Stage : Type 0 where
  Nothing Fixed Ready Sent Safe : Stage

pub record State : Type 0 where
  pub books : Books
  pub stage : Stage
  pub cache : Content
  pub backing : Content
  pub seats : ℕ → Seat
  pub candidates : ℕ → Candidate
  pub history : List Entry
  pub halted : Bool
  -- the seat has made its last device call
  pub late : ℕ → Bool

-- what a seat alone learns
pub data Note : Type 0 where
  -- where each sector of its claim points, in the leaf that they lie in
  Look : (leaf : ℕ) → Note
  CacheRead : (first : ℕ) → (values : List Value) → Note
  BackingRead : (first : ℕ) → (values : List Value) → Note

-- what a write of the cache device holds
pub data Payload : Type 0 where
  Data Metadata JournalEntry : Payload

-- why the backing device is written: a line's write, or a copy of what the cache has
pub data Route : Type 0 where
  Around : (line : ℕ) → Route
  Copy : Route

-- why keys come in that change no value
pub data Form : Type 0 where
  DropKeys CleanKeys MoveKeys StaleKeys : Form

-- what a seat says to the outside
pub data Speech : Type 0 where
  Answer : (line first : ℕ) → (values : List Value) → Speech
  BeginFlush : (line : ℕ) → Speech
  EndFlush : (line : ℕ) → Speech
  -- a forced write is durable
  Acknowledge : (line first count : ℕ) → Speech

pub data Fault : Type 0 where
  CacheFault : (payload : Payload) → (place : ℕ) → (values : List Value) → Fault
  BackingFault : (route : Route) → (first : ℕ) → (values : List Value) → Fault
  BarrierFault : Fault
  ReadFault : Fault

-- what a seat does; acts are grouped by what they change
pub data Act : Type 0 where
  MakeClaim : (first count : ℕ) → (exclusive : Bool) → Act
  Release : Act
  Learn : (note : Note) → Act
  CacheWrite : (payload : Payload) → (place : ℕ) → (values : List Value) → Act
  CacheBarrier : Act
  BackingWrite : (route : Route) → (first : ℕ) → (values : List Value) → Act
  BackingBarrier : Act
  -- keys come in that name what was written: the point of the write in the history
  InsertWrite : (line leaf : ℕ) → (keys : List Key) → (first : ℕ) → (values : List Value) → Act
  Insert : (form : Form) → (leaf : ℕ) → (keys : List Key) → Act
  -- places are kept for a key that may come later, and the key comes
  NoteCandidate : (number first count place : ℕ) → Act
  Settle : (number leaf : ℕ) → (keys : List Key) → Act
  PinPlaces : (place count : ℕ) → Act
  UnpinPlaces : (place count : ℕ) → Act
  -- the places of a candidate that was killed
  UnpinDead : (number : ℕ) → Act
  -- a step of the books alone
  Shelve : (step : Step) → Act
  Say : (speech : Speech) → Act
  Fail : (fault : Fault) → Act

pub record Event : Type 0 where
  pub seat : ℕ
  pub act : Act

-- where a sector points now, and the seat's claim
abbrev pub index_of : State → ℕ → Option Pointer
index_of st = latest st.books.index

abbrev pub claim_of : State → ℕ → Claim
claim_of st i = (st.seats i).claim

abbrev pub start : Opening → State
start w = record {
  books = books.opened w.books;
  stage = Nothing;
  cache = quiet w.cache;
  backing = quiet w.backing;
  seats = λ i. no_seat;
  candidates = λ c. no_candidate;
  history = [];
  halted = false;
  late = λ i. false;
}
