-- The run of events up to the data that a write of a line puts into a raised bucket.
use Rattle.std.proofs.Common.{◌≡◌, ◌==◌, ℕ, List, [], ◌∷◌, ◌++◌, take, drop, Some, None, refl, sym, ap, ◌∙◌, subst, arith, if◌then◌else◌, lit<}
use Rattle.std.proofs.lemmas.List.{take-append-drop}
use Rattle.bc_model.specs.Sector.{Value, at_run}
use Rattle.bc_books.specs.Index.{run_place}
use Rattle.bc_books.specs.Shelves.{Own}
use Rattle.bc_events.specs.Run.{IsRun, State, after, run}
use Rattle.bc_events.specs.declared.event.Event.{Event}
use Rattle.bc_events_example.proofs.Events.{events, leads}
use Rattle.bc_events_example.proofs.Leads.{going, idle, opening}
use Rattle.bc_events_example.proofs.Stored.{t20}
use Rattle.bc_fill.specs.Fresh.{IsOf}
use Rattle.bc_fill.specs.declared.fill.Placed.{Placed}
use Rattle.bc_key.specs.declared.ptr.Ptr.{Ptr}
use Rattle.bc_insert.specs.bc_machine.Frame.{by_test}
use Rattle.bc_insert.specs.bc_machine.World.{Origin}
use Rattle.bc_shares.specs.Shares.{books_of}
use Rattle.bc_whole.proofs.Built.{s0}
use Rattle.bc_known_example.proofs.Opened.{sound}
use Rattle.bc_whole.proofs.Start.{held}
use Rattle.bc_whole.proofs.Stored.{nine}
use Rattle.bc_insert.specs.bc_place.Named.{IsFilled}
use Rattle.bc_insert.specs.bc_place.Place.{IsOwn}
use Rattle.bc_insert.specs.bc_place.Written.{HasWritten, IsWrittenAt}
use Rattle.bc_place_example.specs.Example.{HasExample, HasPlace}

-- a run's beginning is a run
prefix : (xs ys : List Event) (st : State) → IsRun opening st (xs ++ ys) → IsRun opening st xs
prefix [] ys st on = tt
prefix (x ∷ xs) ys st on = (on.0, prefix xs ys (after opening st x) on.1)

abbrev begun : List Event
begun = take 19 events

course : IsRun opening (idle s0 7) begun
course = prefix begun (drop 19 events) (idle s0 7)
    (subst (λ es. IsRun opening (idle s0 7) es) (sym (take-append-drop 19 events)) leads.course)

abbrev there : State
there = going t20 9

leads_there : run opening (idle s0 7) begun ≡ there
leads_there = refl

abbrev origin : Origin
origin = record { opening = opening; parts = held; next_seq = 7 }

abbrev ptr : Ptr
ptr = record {
  dev = 0;
  offset = 28;
  generation = 45;
  dev_fits = lit< tt;
  offset_fits = lit< tt;
  generation_fits = lit< tt;
}

abbrev place : Placed
place = record { ptr = ptr; count = 2; opened = None }

two : (P : ℕ → Type 0) → P 28 → P 29 → (t : ℕ) → IsOf place t → P t
two P a b t of = by_test t 28 (λ c. P t) (λ is. subst P (sym is) a)
    (λ ne. subst P (let low = of.0 in let high = of.1 in omega (arith, low, high, ne)) b)

own : IsOwn 1 place origin there
own = record {
  some = omega arith;
  own = two (λ t. (books_of there.machine).owner t ≡ Own 1) refl refl;
  bucket = two (λ t. opening.machine.flow.books.bucket t ≡ opening.machine.flow.books.bucket 28)
      refl refl;
  lies = record { bucket = omega arith; low = omega arith; high = omega arith };
  generation = refl;
}

first_written : IsWrittenAt 1 28 nine there
first_written = record { own = refl; placed = refl }

same_value : (v w : Value) → Some v ≡ Some w → v ≡ w
same_value v w e = cc

same_place : (t u : ℕ) → Some t ≡ Some u → t ≡ u
same_place t u e = cc

none_some : {A : Type 0} (x : A) → None ≡ Some x → ⊥
none_some x e = absurd (cc)

written : HasWritten 1 (λ t. if t == 28 then Some nine else None) origin there
written t v = by_test t 28 (λ c. (if c then Some nine else None) ≡ Some v → IsWrittenAt 1 t v there)
    (λ is some. subst (λ u. IsWrittenAt 1 u v there) (sym is)
    (subst (λ x. IsWrittenAt 1 28 x there) (same_value nine v some) first_written))
    (λ ne none. absurd (none_some v none))

filled : IsFilled 1 0 (λ s. if s == 0 then Some nine else None) place origin there
filled = record {
  own = own;
  holds = λ s t v. by_test s 0 (λ c. run_place 0 28 2 s ≡ Some t
      → (if c then Some nine else None) ≡ Some v → IsWrittenAt 1 t v there)
      (λ is at some. subst (λ u. IsWrittenAt 1 u v there)
      (same_place 28 t (ap (λ n. run_place 0 28 2 n) (sym is) ∙ at))
      (subst (λ x. IsWrittenAt 1 28 x there) (same_value nine v some) first_written))
      (λ ne at none. absurd (none_some v none));
}

-- its first sector alone
abbrev first : Placed
first = record place { count = 1 }

one : (P : ℕ → Type 0) → P 28 → (t : ℕ) → IsOf first t → P t
one P a t of =
    subst P (let low = of.0 in let high = of.1 in let e : 28 ≡ t = omega (arith, low, high) in e) a

own_first : IsOwn 1 first origin there
own_first = record {
  some = omega arith;
  own = one (λ t. (books_of there.machine).owner t ≡ Own 1) refl;
  bucket = one (λ t. opening.machine.flow.books.bucket t ≡ opening.machine.flow.books.bucket 28)
      refl;
  lies = record { bucket = omega arith; low = omega arith; high = omega arith };
  generation = refl;
}

first_filled : IsFilled 1 0 (at_run 0 (nine ∷ [])) first origin there
first_filled = record {
  own = own_first;
  holds = λ s t v. by_test 0 s (λ c. (if c then Some 28 else None) ≡ Some t
      → (if c then Some nine else None) ≡ Some v → IsWrittenAt 1 t v there)
      (λ is at some. subst (λ u. IsWrittenAt 1 u v there) (same_place 28 t at)
      (subst (λ x. IsWrittenAt 1 28 x there) (same_value nine v some) first_written))
      (λ ne at none. absurd (none_some v none));
}

has_place : HasPlace origin there
has_place = record {
  seat = 1;
  place = place;
  two = refl;
  own = own;
  value = nine;
  written = written;
  filled = filled;
  ready = record { filled = (first_filled, tt); apart = (tt, tt) };
}

pub has_example : HasExample
has_example = (
  origin,
  begun,
  record {
    cached = refl;
    sound = sound;
    course = course;
    place = subst (HasPlace origin) (sym leads_there) has_place;
  },
)
