-- Runs of events put together, each between two states that are named.
use Rattle.std.proofs.Common.{◌≡◌, ℕ, ◌+◌, List, [], ◌∷◌, ◌++◌, Some, None, refl, sym, subst}
use Rattle.bc_books.specs.Index.{put}
use Rattle.bc_whole.specs.State as whole
use Rattle.bc_whole.proofs.Start as start
use Rattle.bc_known.specs.Acts.{Act}
use Rattle.bc_known.specs.Run as machine
use Rattle.bc_known_example.proofs.Leads as known
use Rattle.bc_events.specs.declared.event.Deed.{Deed}
use Rattle.bc_events.specs.declared.event.Event.{Event}
use Rattle.bc_events.specs.Run.{Opening, State, by, IsFit, IsOf, line_of, CanDo, IsEnabled, IsRun, after, run}
use Rattle.bc_events.specs.Example.{line}

-- seat 1 is of worker 7
abbrev pub opening : Opening
opening = record { machine = start.opening; worker = λ i. 6 + i }

-- with the seq of the next new node, before the line and while it goes on
abbrev pub idle : whole.State → ℕ → State
idle s n = record { machine = known.at s n; line = λ i. None }

abbrev pub going : whole.State → ℕ → State
going s n = record { machine = known.at s n; line = put (λ i. None) 1 (Some (line 5)) }

abbrev pub one : Deed → Event
one deed = record { seat = 1; deed = deed }

-- what is asked besides the acts
pub does : {acts : List Act} (st : State) (deed : Deed)
    → machine.IsRun start.opening st.machine (by 1 acts) → IsFit opening st 1 deed
    → IsOf opening 1 (line_of deed) → CanDo opening st (one deed) acts
does st deed course fit its = record {
  seat = refl;
  course = course;
  fit = fit;
  its_line = its;
  plain = λ e. absurd (cc);
}

pub record Leads (st : State) (es : List Event) (last : State) : Type 0 where
  pub course : IsRun opening st es
  pub is : run opening st es ≡ last

pub stay : {st : State} → Leads st [] st
stay = record { course = tt; is = refl }

pub go : {es : List Event} {last : State} (st : State) (e : Event) (next : State)
    → IsEnabled opening st e → after opening st e ≡ next
    → Leads next es last → Leads st (e ∷ es) last
go {es} {last} st e next on is rest = record {
  course = (on, subst (λ (x : State). IsRun opening x es) (sym is) rest.course);
  is = subst (λ (x : State). run opening x es ≡ last) (sym is) rest.is;
}

pub then : (xs ys : List Event) {st mid last : State} → Leads st xs mid → Leads mid ys last
    → Leads st (xs ++ ys) last
then [] ys {st} {mid} {last} a b = subst (λ (x : State). Leads x ys last) (sym a.is) b
then (x ∷ xs) ys {st} {mid} {last} a b =
    let rest : Leads (after opening st x) (xs ++ ys) last =
    then xs ys (record { course = a.course.1; is = a.is }) b in record {
      course = (a.course.0, rest.course);
      is = rest.is;
    }
