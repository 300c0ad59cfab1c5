-- Events of the core: a bucket is taken, and a place pinned.
use Rattle.std.proofs.Common.{◌≡◌, ℕ, ◌-◌, Bool, true, false, List, [], ◌∷◌, ◌++◌, Option, Some, None, refl, sym, subst, arith}
use Rattle.bc_alloc.specs.declared.purpose.Purpose.TheVariants as list
use Rattle.bc_alloc.specs.Reserves.{Reserves}
use Rattle.bc_books.specs.Shelves.{Open, Plain}
use Rattle.bc_books.specs.Books.{Books, Take, Pin}
use Rattle.bc_books.specs.Enabled.{CanStep, CanPin}
use Rattle.bc_books.specs.After as books
use Rattle.bc_events.specs.Run.{Opening, State, IsSeat, IsRunning, start, IsEnabled, IsRun, after, run}
use Rattle.bc_events.specs.declared.event.Deed.TheVariants as deed
use Rattle.bc_events.specs.declared.event.Event.{Event}
use Rattle.bc_fill.specs.declared.fill.Open as fill
use Rattle.bc_fill.specs.declared.fill.Placed.{Placed}
use Rattle.bc_known.specs.Known.{AreLaid}
use Rattle.bc_known.proofs.Law.{order_at}
use Rattle.bc_shares.specs.Shares.{books_of}
use Rattle.bc_shares.proofs.Law.{at_state}
use Rattle.bc_whole.specs.State as whole
use Rattle.bc_places.specs.Stands.{StandFor, IsCutInto}
use Rattle.bc_places.specs.Steps.{fills, shut_steps, take_events}
use Rattle.bc_places.specs.Laws.{AreSpread, LawPlaces}
use Rattle.bc_places.proofs.Steps.{Pinned, Taken, taken}

abbrev takes : ℕ → ℕ → Event
takes i b = record { seat = i; deed = deed.Take list.Plain b }

abbrev pins : ℕ → ℕ → ℕ → Bool → Event
pins i at count full = record { seat = i; deed = deed.Pin at count full }

may_take : (w : Opening) (st : State) (i b : ℕ) → IsSeat i → IsRunning st
    → CanStep w.machine.flow.books (books_of st.machine) (Take i Plain b) → IsEnabled w st (takes i b)
may_take w st i b seat runs can = record {
  seat = seat;
  course = (
    record {
      data_allows = (record { heard = runs; steps = (can, tt); can = refl }, tt);
      asks = refl;
    },
    tt,
  );
  fit = tt;
  its_line = tt;
  plain = λ _. (tt, tt);
}

may_pin : (w : Opening) (st : State) (i at count : ℕ) (full : Bool) → IsSeat i → IsRunning st
    → CanPin w.machine.flow.books.bucket (books_of st.machine).shelf (books_of st.machine).owner i at count
    → (books_of st.machine).shelf (w.machine.flow.books.bucket at) ≡ Open
    → IsEnabled w st (pins i at count full)
may_pin w st i at count false seat runs can shut = record {
  seat = seat;
  course = (
    record {
      data_allows = (record { heard = runs; steps = (can, tt); can = tt }, tt);
      asks = refl;
    },
    tt,
  );
  fit = tt;
  its_line = tt;
  plain = λ _. (tt, tt);
}
may_pin w st i at count true seat runs can shut = record {
  seat = seat;
  course = (
    record {
      data_allows = (record { heard = runs; steps = (can, tt); can = tt }, tt);
      asks = refl;
    },
    (
      record {
        data_allows = (record { heard = runs; steps = (shut, tt); can = tt }, tt);
        asks = refl;
      },
      tt,
    ),
  );
  fit = tt;
  its_line = tt;
  plain = λ _. (tt, (tt, tt));
}

books_pinned : (w : Opening) (st : State) (i at count : ℕ) (full : Bool)
    → books_of (after w st (pins i at count full)).machine
    ≡ books.fold w.machine.flow.books
    (books.after w.machine.flow.books (books_of st.machine) (Pin i at count))
    (shut_steps full (w.machine.flow.books.bucket at))
books_pinned w st i at count false = refl
books_pinned w st i at count true = refl

-- the sectors of the layout's buckets
spread_by : (size count : ℕ) (w : whole.Opening) → IsCutInto size count w → AreLaid w
    → AreSpread w.before size count w.flow.books
spread_by size count w cut laid = λ q t below lo hi.
    let n = cut.buckets in
    let first = cut.first q in
    let sectors = cut.sectors in
    laid.sector q t (omega (arith, n, below)) (omega (arith, first, lo)) (omega (arith, first, sectors, hi))

-- the events that a place is, one of which may be missing
record Course (w : Opening) (st : State) (seat size : ℕ) (p : Placed) (gs : List fill.Open)
    (q : Reserves) (o : Option ℕ) : Type 0 where
  course : IsRun w st (take_events seat w.machine.before o ++ pins seat p.ptr.offset p.count (fills size p) ∷ [])
  stand : StandFor w.machine.before size gs q
      (books_of (run w st (take_events seat w.machine.before o ++ pins seat p.ptr.offset p.count (fills size p) ∷ [])).machine)

pin_last : (w : Opening) (st : State) (seat size : ℕ) (p : Placed) (gs : List fill.Open) (q : Reserves)
    → IsSeat seat → IsRunning st
    → Pinned w.machine.flow.books (books_of st.machine) w.machine.before seat size p gs q
    → Course w st seat size p gs q None
pin_last w st seat size p gs q is runs x = record {
  course = (may_pin w st seat p.ptr.offset p.count (fills size p) is runs x.can x.shuts, tt);
  stand = subst (λ (k : Books). StandFor w.machine.before size gs q k)
      (sym (books_pinned w st seat p.ptr.offset p.count (fills size p))) x.stand;
}

all_events : (w : Opening) (st : State) (seat size : ℕ) (p : Placed) (gs : List fill.Open) (q : Reserves)
    (o : Option ℕ) → IsSeat seat → IsRunning st
    → Taken w.machine.flow.books (books_of st.machine) w.machine.before seat size o p gs q
    → Course w st seat size p gs q o
all_events w st seat size p gs q None is runs x = pin_last w st seat size p gs q is runs x.pins
all_events w st seat size p gs q (Some n) is runs x =
    let event = takes seat (n - w.machine.before) in
    let rest = pin_last w (after w st event) seat size p gs q is runs x.pins in
    record {
      course = (may_take w st seat (n - w.machine.before) is runs x.course.0, rest.course);
      stand = rest.stand;
    }

pub law_places : LawPlaces
law_places w x next_seq seat count es fs gs r q b d p sound course is runs cut may h places =
    let st = run w (start w x next_seq) es in
    let order = order_at w.machine x st.machine.whole sound (at_state w x next_seq es sound course).at in
    let laid = spread_by b.size r.count w.machine cut sound.laid in
    let all = all_events w st seat b.size p gs q p.opened is runs
    (taken w.machine.flow.books (books_of st.machine) w.machine.before seat count fs gs r q b
    places.between d p p.opened order laid may h places.opening places.cut) in
    record { course = all.course; stand = all.stand }
