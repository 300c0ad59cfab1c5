-- What an act leaves: for each component a short function, which leaves it alone but at the acts
-- that it names.
use Rattle.std.specs.Prelude.{ℕ, suc, Bool, true, false, ◌||◌, List, [], ◌∷◌, length, Option, Some, None, if◌then◌else◌, ◌==◌}
use Rattle.bc_model.specs.Sector.{Value, at_run}
use Rattle.bc_model.specs.declared.history.Entry.{Entry}
use Rattle.bc_model.specs.declared.history.Entry.TheVariants.{Write, Read, FlushFrom, FlushDone, Durable, Tried}
use Rattle.bc_disk.specs.Device.{Content, written, failed, settled}
use Rattle.bc_books.specs.Index.{Pointer, Key, latest, within, put, hit}
use Rattle.bc_books.specs.Books.{Books, Step, Seal, SealChain, Sealed}
use Rattle.bc_books.specs.After as books
use Rattle.bc_data.specs.Seats.{Claim, Last, Flush, Seat, Candidate, nothing, new_claim, with_write, put_seat, noted, unless_run, killed, firmed}
use Rattle.bc_data.specs.Data.{Opening, Stage, Nothing, Fixed, Ready, Sent, Safe, State, Note, Look, CacheRead, BackingRead, Payload, Data, JournalEntry, Route, Around, Copy, Form, DropKeys, Speech, Answer, BeginFlush, EndFlush, Acknowledge, Fault, CacheFault, BackingFault, ReadFault, Act, MakeClaim, Release, Learn, CacheWrite, CacheBarrier, BackingWrite, BackingBarrier, InsertWrite, Insert, NoteCandidate, Settle, PinPlaces, UnpinDead, Shelve, Say, Fail, Event}
use Rattle.bc_data.specs.Enabled.{Moment, Calls, moment, steps_of, IsEnabled}

-- the sealed entry
abbrev pub at_barrier : Stage → Stage
at_barrier Fixed = Ready
at_barrier Sent = Safe
at_barrier stage = stage

abbrev pub stage_at_step : Stage → Step → Stage
stage_at_step stage Seal = Fixed
stage_at_step stage (SealChain i versions chain) = Fixed
stage_at_step stage Sealed = Nothing
stage_at_step stage step = stage

abbrev pub stage_after : Stage → Act → Stage
stage_after stage (CacheWrite JournalEntry place values) = Sent
stage_after stage CacheBarrier = at_barrier stage
stage_after stage (Shelve step) = stage_at_step stage step
stage_after stage act = stage

-- the devices
abbrev pub cache_at_fault : Content → Fault → Content
cache_at_fault d (CacheFault payload place values) = failed place values d
cache_at_fault d fault = d

abbrev pub cache_after : Content → Act → Content
cache_after d (CacheWrite payload place values) = written place values d
cache_after d CacheBarrier = settled d
cache_after d (Fail fault) = cache_at_fault d fault
cache_after d act = d

abbrev pub backing_at_fault : Content → Fault → Content
backing_at_fault d (BackingFault route first values) = failed first values d
backing_at_fault d fault = d

abbrev pub backing_after : Content → Act → Content
backing_after d (BackingWrite route first values) = written first values d
backing_after d BackingBarrier = settled d
backing_after d (Fail fault) = backing_at_fault d fault
backing_after d act = d

-- the history
abbrev pub with_route : ℕ → Route → ℕ → List Value → List Entry → List Entry
with_route i (Around line) first values H = Write i line first values ∷ H
with_route i Copy first values H = H

abbrev pub spoken : ℕ → Speech → Entry
spoken i (Answer line first values) = Read i line first values
spoken i (BeginFlush line) = FlushFrom i line
spoken i (EndFlush line) = FlushDone i line
spoken i (Acknowledge line first count) = Durable i line first count

abbrev pub history_at_fault : Fault → List Entry → List Entry
history_at_fault (BackingFault (Around line) first values) H = Tried first values ∷ H
history_at_fault fault H = H

abbrev pub history_after : ℕ → List Entry → Act → List Entry
history_after i H (BackingWrite route first values) = with_route i route first values H
history_after i H (InsertWrite line leaf keys first values) = Write i line first values ∷ H
history_after i H (Say speech) = spoken i speech ∷ H
history_after i H (Fail fault) = history_at_fault fault H
history_after i H act = H

-- what the seat noted is still there, where the bucket was not raised since the look
abbrev pub unless_raised : (ℕ → ℕ) → (ℕ → ℕ) → Option Pointer → Option Value → Option Value
unless_raised bucket version None v = None
unless_raised bucket version (Some r) v =
    if version (bucket r.place) == r.version then v else None

-- A look forgets what was read, but keeps what it may be checked against.
abbrev pub at_look : Opening → Books → ℕ → Claim → Claim
at_look w k leaf c = record c {
  looked = true;
  keys = k.index.changed leaf;
  sight = latest k.index;
  from_cache = nothing;
  from_backing = nothing;
  checked = λ s.
      unless_raised w.books.bucket k.generations.version (c.sight s) (c.from_cache s);
  checked_keys = c.keys;
}

abbrev pub learnt : Opening → Books → Claim → Note → Claim
learnt w k c (Look leaf) = at_look w k leaf c
learnt w k c (CacheRead first values) =
    record c { from_cache = λ s. noted (at_run first values s) (c.from_cache s) }
learnt w k c (BackingRead first values) =
    record c { from_backing = λ s. noted (at_run first values s) (c.from_backing s) }

abbrev pub last_write : ℕ → ℕ → List Value → ℕ → Bool → Last
last_write line first values keys firm =
    record { line = line; first = first; count = length values; keys = keys; firm = firm }

abbrev pub copied : ℕ → List Value → Claim → Claim
copied first values c =
    record c { back = λ s. unless_run (at_run first values s) (c.back s) true }

abbrev pub routed : Books → Seat → Route → ℕ → List Value → Seat
routed k x (Around line) first values = record x {
  claim = with_write x.claim (at_run first values);
  last = last_write line first values k.journal.durable false;
}
routed k x Copy first values = record x { claim = copied first values x.claim }

abbrev pub is_hit : Option (Option Pointer) → Bool
is_hit None = false
is_hit (Some o) = true

abbrev pub gone_after : Form → List Key → (ℕ → Bool) → ℕ → Bool
gone_after DropKeys keys old s = is_hit (hit keys s) || old s
gone_after form keys old s = old s

abbrev pub gone_keys_after : Form → ℕ → ℕ → ℕ
gone_keys_after DropKeys new old = new
gone_keys_after form new old = old

abbrev pub with_keys : ℕ → Form → List Key → Claim → Claim
with_keys count form keys c = record c {
  gone = gone_after form keys c.gone;
  gone_keys = gone_keys_after form (suc count) c.gone_keys;
}

abbrev pub placed_after : Payload → ℕ → List Value → (ℕ → Option Value) → ℕ → Option Value
placed_after Data place values old t = noted (at_run place values t) (old t)
placed_after payload place values old t = old t

abbrev pub flush_after : ℕ → Flush → Speech → Flush
flush_after count old (BeginFlush line) =
    record { going = true; line = line; keys = count; firm = false }
flush_after count old (EndFlush line) = record old { going = false }
flush_after count old speech = old

abbrev pub claim_at_fault : Claim → Fault → Claim
claim_at_fault c (BackingFault (Around line) first values) = with_write c nothing
claim_at_fault c fault = c

-- the seat that acts
abbrev pub seat_after : Opening → Books → Seat → Act → Seat
seat_after w k x (MakeClaim first count exclusive) =
    record x { claim = new_claim first count exclusive }
seat_after w k x Release = record x { claim = new_claim 0 0 false }
seat_after w k x (Learn note) = record x { claim = learnt w k x.claim note }
seat_after w k x (CacheWrite payload place values) =
    record x { placed = placed_after payload place values x.placed }
seat_after w k x (BackingWrite route first values) = routed k x route first values
seat_after w k x (InsertWrite line leaf keys first values) = record x {
  claim = with_write x.claim nothing;
  last = last_write line first values (suc k.index.count) true;
}
seat_after w k x (Insert form leaf keys) =
    record x { claim = with_keys k.index.count form keys x.claim }
seat_after w k x (PinPlaces place count) =
    record x { placed = λ t. if within place count t then None else x.placed t }
seat_after w k x (Say speech) = record x { flush = flush_after k.index.count x.flush speech }
seat_after w k x (Fail fault) = record x { claim = claim_at_fault x.claim fault }
seat_after w k x act = x

abbrev pub seats_after : Opening → Books → (ℕ → Seat) → ℕ → Act → ℕ → Seat
seats_after w k seats i BackingBarrier = λ j. firmed (seats j)
seats_after w k seats i act = put_seat seats i (seat_after w k (seats i) act)

abbrev pub candidates_after : (ℕ → Candidate) → Act → ℕ → Candidate
candidates_after x (MakeClaim first count exclusive) = λ c. killed first count exclusive (x c)
candidates_after x BackingBarrier = λ c. record (x c) { firm = true }
candidates_after x (NoteCandidate number first count place) = put x number (record {
  first = first;
  count = count;
  place = place;
  stands = true;
  alive = true;
  firm = false;
})
candidates_after x (Settle number leaf keys) = put x number (record (x number) { stands = false })
candidates_after x (UnpinDead number) = put x number (record (x number) { stands = false })
candidates_after x act = x

-- a read that fails is tried again; another fault halts
abbrev pub halted_at_fault : Fault → Bool → Bool
halted_at_fault ReadFault old = old
halted_at_fault fault old = true

abbrev pub halted_after : Bool → Act → Bool
halted_after old (Fail fault) = halted_at_fault fault old
halted_after old act = old

-- a call after the halt, or the failed one, is the seat's last
abbrev pub late_after : (ℕ → Bool) → ℕ → Moment → Bool → ℕ → Bool
late_after late i Calls halted = put late i (halted || late i)
late_after late i m halted = late

abbrev pub after : Opening → State → ℕ → Act → State
after w st i act = record {
  books = books.fold w.books st.books (steps_of st.candidates i act);
  stage = stage_after st.stage act;
  cache = cache_after st.cache act;
  backing = backing_after st.backing act;
  seats = seats_after w st.books st.seats i act;
  candidates = candidates_after st.candidates act;
  history = history_after i st.history act;
  halted = halted_after st.halted act;
  late = late_after st.late i (moment act) (halted_after st.halted act);
}

-- each event is enabled after those before it
abbrev pub IsCourse : Opening → State → List Event → Type 0
IsCourse w st [] = Unit {0}
IsCourse w st (e ∷ es) =
    IsEnabled w st e.seat e.act × IsCourse w (after w st e.seat e.act) es

-- the state that the events leave
abbrev pub course : Opening → State → List Event → State
course w st [] = st
course w st (e ∷ es) = course w (after w st e.seat e.act) es
