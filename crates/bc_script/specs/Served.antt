-- Which answers, and which entries of the history, serve a trace. A history stands here in the order of time, its
-- oldest entry first.
use Rattle.std.specs.Prelude.{◌≡◌, ◌≢◌, ◌⊎◌, ℕ, zero, suc, ◌+◌, ◌<◌, ◌≤◌, ◌==◌, if◌then◌else◌, List, [], ◌∷◌, ◌++◌, map, length, slice_get, Option, Some, None}
use Rattle.std.specs.List.{AllByRecursion}
use Rattle.bc_model.specs.Sector.{Value}
use Rattle.bc_model.specs.Values.{patterns}
use Rattle.bc_model.specs.Pieces.{Piece, pieces, AreReads, ServedUpTo}
use Rattle.bc_model.specs.declared.history.Entry.{Entry}
use Rattle.bc_model.specs.declared.history.Entry.TheVariants.{Write as WriteEntry, FlushFrom, FlushDone, Durable, Tried}
use Rattle.bc_disk.specs.declared.disk.Device.{Device}
use Rattle.bc_disk.specs.declared.disk.Device.TheVariants.{Cache, Backing}
use Rattle.bc_script.specs.declared.line.Action.{Action}
use Rattle.bc_script.specs.declared.line.Action.TheVariants.{Write, ForcedWrite, Read, Flush, Round}
use Rattle.bc_script.specs.declared.line.Line.{Line}
use Rattle.bc_script.specs.declared.line.Line.TheVariants as line
use Rattle.bc_script.specs.declared.answer.Answer.{Answer}
use Rattle.bc_script.specs.declared.answer.Answer.TheVariants.{Silent, Done, Runs, Refused}
use Rattle.bc_script.specs.declared.answer.Refusal.{Refusal}
use Rattle.bc_script.specs.declared.answer.Refusal.TheVariants.{OutOfRange, NoBucket, Fault, Halted, Memory, JournalEnd, Node}

-- the last sector of the range is below the size, or it isn't
abbrev pub IsInside : ℕ → ℕ → ℕ → Type 0
IsInside size first count = first + count ≤ size

abbrev pub IsOutside : ℕ → ℕ → ℕ → Type 0
IsOutside size first count = size < first + count

-- ---- lines of writing

-- one Write for each of these pieces, with the patterns of the stamp
abbrev pub writes : ℕ → ℕ → ℕ → List Piece → List Entry
writes worker number stamp pieces = map (λ p. WriteEntry worker number p.first (patterns stamp p.first p.count)) pieces

-- what a failed write of the refused piece may leave: where the backing device failed it may have been tried
abbrev pub MayTry : Device → ℕ → Piece → List Entry → Type 0
MayTry Cache stamp p tried = tried ≡ []
MayTry Backing stamp p tried = (tried ≡ []) ⊎ (tried ≡ Tried p.first (patterns stamp p.first p.count) ∷ [])

-- the pieces before the refused one have their Writes
abbrev pub ServesPartWrite : ℕ → ℕ → ℕ → ℕ → ℕ → ℕ → List Entry → Type 0
ServesPartWrite size worker number first count stamp entries = IsInside size first count
    × (served : List Piece) × (refused : Piece) × ServedUpTo first count served refused × (entries ≡ writes worker number stamp served)

-- a refused line of writing
abbrev pub ServesRefusedWrite : ℕ → ℕ → ℕ → ℕ → ℕ → ℕ → Refusal → List Entry → Type 0
ServesRefusedWrite size worker number first count stamp OutOfRange entries = IsOutside size first count × (entries ≡ [])
ServesRefusedWrite size worker number first count stamp (Fault device) entries = IsInside size first count
    × (served : List Piece) × (refused : Piece) × (tried : List Entry) × ServedUpTo first count served refused
    × MayTry device stamp refused tried × (entries ≡ writes worker number stamp served ++ tried)
ServesRefusedWrite size worker number first count stamp (NoBucket purpose none_len own_len) entries = ServesPartWrite size worker number first count stamp entries
ServesRefusedWrite size worker number first count stamp (Halted device) entries = ServesPartWrite size worker number first count stamp entries
ServesRefusedWrite size worker number first count stamp Memory entries = ServesPartWrite size worker number first count stamp entries
ServesRefusedWrite size worker number first count stamp JournalEnd entries = ServesPartWrite size worker number first count stamp entries
ServesRefusedWrite size worker number first count stamp (Node bucket why) entries = ServesPartWrite size worker number first count stamp entries

abbrev pub ServesWrite : ℕ → ℕ → ℕ → ℕ → ℕ → ℕ → Answer → List Entry → Type 0
ServesWrite size worker number first count stamp Silent entries = ⊥
ServesWrite size worker number first count stamp Done entries = IsInside size first count × (entries ≡ writes worker number stamp (pieces first count))
ServesWrite size worker number first count stamp (Runs at values) entries = ⊥
ServesWrite size worker number first count stamp (Refused refusal) entries = ServesRefusedWrite size worker number first count stamp refusal entries

-- ---- lines of forced writing

-- one Write for each of these pieces, and behind it the Durable that acknowledges it
abbrev pub forced_writes : ℕ → ℕ → ℕ → List Piece → List Entry
forced_writes worker number stamp [] = []
forced_writes worker number stamp (p ∷ ps) = WriteEntry worker number p.first (patterns stamp p.first p.count) ∷ Durable worker number p.first p.count ∷ forced_writes worker number stamp ps

-- what the refused piece may leave: where a device failed, now or before, its Write may stand without its Durable
abbrev pub MayBegin : Refusal → ℕ → ℕ → ℕ → Piece → List Entry → Type 0
MayBegin (Fault device) worker number stamp p begun = MayTry device stamp p begun ⊎ (begun ≡ WriteEntry worker number p.first (patterns stamp p.first p.count) ∷ [])
MayBegin (Halted device) worker number stamp p begun = (begun ≡ []) ⊎ (begun ≡ WriteEntry worker number p.first (patterns stamp p.first p.count) ∷ [])
MayBegin _ worker number stamp p begun = begun ≡ []

abbrev pub ServesPartForced : ℕ → ℕ → ℕ → ℕ → ℕ → ℕ → Refusal → List Entry → Type 0
ServesPartForced size worker number first count stamp refusal entries = IsInside size first count
    × (served : List Piece) × (refused : Piece) × (begun : List Entry) × ServedUpTo first count served refused
    × MayBegin refusal worker number stamp refused begun × (entries ≡ forced_writes worker number stamp served ++ begun)

abbrev pub ServesRefusedForced : ℕ → ℕ → ℕ → ℕ → ℕ → ℕ → Refusal → List Entry → Type 0
ServesRefusedForced size worker number first count stamp OutOfRange entries = IsOutside size first count × (entries ≡ [])
ServesRefusedForced size worker number first count stamp refusal entries = ServesPartForced size worker number first count stamp refusal entries

abbrev pub ServesForced : ℕ → ℕ → ℕ → ℕ → ℕ → ℕ → Answer → List Entry → Type 0
ServesForced size worker number first count stamp Silent entries = ⊥
ServesForced size worker number first count stamp Done entries = IsInside size first count × (entries ≡ forced_writes worker number stamp (pieces first count))
ServesForced size worker number first count stamp (Runs at values) entries = ⊥
ServesForced size worker number first count stamp (Refused refusal) entries = ServesRefusedForced size worker number first count stamp refusal entries

-- ---- lines of reading

-- a refused line of reading has the Reads of the pieces before the refused one
abbrev pub ServesPartRead : ℕ → ℕ → ℕ → ℕ → ℕ → List Entry → Type 0
ServesPartRead size worker number first count entries = IsInside size first count
    × (served : List Piece) × (refused : Piece) × (values : List Value) × ServedUpTo first count served refused × AreReads worker number served values entries

abbrev pub ServesRefusedRead : ℕ → ℕ → ℕ → ℕ → ℕ → Refusal → List Entry → Type 0
ServesRefusedRead size worker number first count OutOfRange entries = IsOutside size first count × (entries ≡ [])
ServesRefusedRead size worker number first count (NoBucket purpose none_len own_len) entries = ServesPartRead size worker number first count entries
ServesRefusedRead size worker number first count (Fault device) entries = ServesPartRead size worker number first count entries
ServesRefusedRead size worker number first count (Halted device) entries = ServesPartRead size worker number first count entries
ServesRefusedRead size worker number first count Memory entries = ServesPartRead size worker number first count entries
ServesRefusedRead size worker number first count JournalEnd entries = ServesPartRead size worker number first count entries
ServesRefusedRead size worker number first count (Node bucket why) entries = ServesPartRead size worker number first count entries

-- what is answered are the values of the Reads, from the first sector of the line on
abbrev pub ServesRead : ℕ → ℕ → ℕ → ℕ → ℕ → Answer → List Entry → Type 0
ServesRead size worker number first count Silent entries = ⊥
ServesRead size worker number first count Done entries = ⊥
ServesRead size worker number first count (Runs at values) entries = IsInside size first count × (at ≡ first) × AreReads worker number (pieces first count) values entries
ServesRead size worker number first count (Refused refusal) entries = ServesRefusedRead size worker number first count refusal entries

-- ---- flushes and rounds

-- a refused flush may have begun
abbrev pub MayHaveBegun : ℕ → ℕ → List Entry → Type 0
MayHaveBegun worker number entries = (entries ≡ []) ⊎ (entries ≡ FlushFrom worker number ∷ [])

abbrev pub ServesRefusedFlush : ℕ → ℕ → Refusal → List Entry → Type 0
ServesRefusedFlush worker number OutOfRange entries = ⊥
ServesRefusedFlush worker number (NoBucket purpose none_len own_len) entries = MayHaveBegun worker number entries
ServesRefusedFlush worker number (Fault device) entries = MayHaveBegun worker number entries
ServesRefusedFlush worker number (Halted device) entries = MayHaveBegun worker number entries
ServesRefusedFlush worker number Memory entries = MayHaveBegun worker number entries
ServesRefusedFlush worker number JournalEnd entries = MayHaveBegun worker number entries
ServesRefusedFlush worker number (Node bucket why) entries = MayHaveBegun worker number entries

abbrev pub ServesFlush : ℕ → ℕ → Answer → List Entry → Type 0
ServesFlush worker number Silent entries = ⊥
ServesFlush worker number Done entries = entries ≡ FlushFrom worker number ∷ FlushDone worker number ∷ []
ServesFlush worker number (Runs at values) entries = ⊥
ServesFlush worker number (Refused refusal) entries = ServesRefusedFlush worker number refusal entries

-- a round has no entries, done or refused, and no range
abbrev pub IsOfRange : Refusal → Type 0
IsOfRange OutOfRange = Unit {0}
IsOfRange _ = ⊥

abbrev pub ServesRound : Answer → List Entry → Type 0
ServesRound Silent entries = ⊥
ServesRound Done entries = entries ≡ []
ServesRound (Runs at values) entries = ⊥
ServesRound (Refused refusal) entries = (entries ≡ []) × (IsOfRange refusal → ⊥)

-- ---- lines

abbrev pub ServesAction : ℕ → ℕ → ℕ → Action → Answer → List Entry → Type 0
ServesAction size worker number (Write first count stamp) answer entries = ServesWrite size worker number first count stamp answer entries
ServesAction size worker number (ForcedWrite first count stamp) answer entries = ServesForced size worker number first count stamp answer entries
ServesAction size worker number (Read first count) answer entries = ServesRead size worker number first count answer entries
ServesAction size worker number Flush answer entries = ServesFlush worker number answer entries
ServesAction size worker number (Round round) answer entries = ServesRound answer entries

-- over a device of this size the answer and the entries serve the line that has this number in its trace
abbrev pub ServesLine : ℕ → ℕ → Line → Answer → List Entry → Type 0
ServesLine size number line.Silent answer entries = (answer ≡ Silent) × (entries ≡ [])
ServesLine size number (line.Request worker phase action) answer entries = ServesAction size worker number action answer entries

-- ---- traces

-- an entry of the history, with the number of the line that it is of
pub record Marked : Type 0 where
  pub number : ℕ
  pub entry : Entry

abbrev pub entries_of : List Marked → List Entry
entries_of marked = map (λ m. m.entry) marked

-- the entries of one line, in their order
abbrev pub own : ℕ → List Marked → List Entry
own number [] = []
own number (m ∷ ms) = if m.number == number then m.entry ∷ own number ms else own number ms

-- each of the lines, of which the first has this number, is served by its own entries
abbrev pub ServesEach : ℕ → ℕ → List Line → List Answer → List Marked → Type 0
ServesEach size number [] [] marked = Unit {0}
ServesEach size number (l ∷ lines) (answer ∷ answers) marked = ServesLine size number l answer (own number marked) × ServesEach size (suc number) lines answers marked
ServesEach size number [] (answer ∷ answers) marked = ⊥
ServesEach size number (l ∷ lines) [] marked = ⊥

-- the line of this number, counted from 1
abbrev pub line_at : List Line → ℕ → Option Line
line_at lines zero = None
line_at lines (suc n) = slice_get lines n

-- requests of two workers in one phase are served beside each other
abbrev pub AreBeside : Option Line → Option Line → Type 0
AreBeside (Some (line.Request worker phase action)) (Some (line.Request other later asked)) = (worker ≢ other) × (phase ≡ later)
AreBeside _ _ = ⊥

-- an entry may stand before another where its line does, or where both lines are served beside each other
abbrev pub MayPrecede : List Line → Marked → Marked → Type 0
MayPrecede lines m n = (m.number ≤ n.number) ⊎ AreBeside (line_at lines m.number) (line_at lines n.number)

abbrev pub MayStandBefore : List Line → Marked → List Marked → Type 0
MayStandBefore lines m [] = Unit {0}
MayStandBefore lines m (n ∷ ns) = MayPrecede lines m n × MayStandBefore lines m ns

abbrev pub AreInOrder : List Line → List Marked → Type 0
AreInOrder lines [] = Unit {0}
AreInOrder lines (m ∷ ms) = MayStandBefore lines m ms × AreInOrder lines ms

-- its line is one of so many
abbrev pub IsOfLine : ℕ → Marked → Type 0
IsOfLine count m = (1 ≤ m.number) × (m.number ≤ count)

-- The answers and the history serve the trace: each entry is of one of the lines, each line is served by its own
-- entries, and the entries of a worker's lines, and of phases, stand in the order of these.
pub record Served (size : ℕ) (lines : List Line) (answers : List Answer) (history : List Entry) : Type 0 where
  pub marked : List Marked
  pub entries : entries_of marked ≡ history
  pub known : AllByRecursion (IsOfLine (length lines)) marked
  pub serves : ServesEach size 1 lines answers marked
  pub order : AreInOrder lines marked

-- ---- traces of one worker

-- the entries of the lines stand one behind the other; the first of the lines has this number
abbrev pub ServedFrom : ℕ → ℕ → List Line → List Answer → List Entry → Type 0
ServedFrom size number [] [] history = history ≡ []
ServedFrom size number (l ∷ lines) (answer ∷ answers) history = (front : List Entry) × (later : List Entry)
    × (history ≡ front ++ later) × ServesLine size number l answer front × ServedFrom size (suc number) lines answers later
ServedFrom size number [] (answer ∷ answers) history = ⊥
ServedFrom size number (l ∷ lines) [] history = ⊥

-- all requests are of this worker
abbrev pub IsOf : ℕ → Line → Type 0
IsOf worker line.Silent = Unit {0}
IsOf worker (line.Request other phase action) = other ≡ worker
