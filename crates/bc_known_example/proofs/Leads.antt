-- Runs put together of acts, each between two states that are named.
use Rattle.std.proofs.Common.{◌≡◌, ℕ, List, [], ◌∷◌, ◌++◌, refl, sym, subst}
use Rattle.bc_whole.specs.State as whole
use Rattle.bc_whole.proofs.Start.{opening}
use Rattle.bc_known.specs.Acts.{State, Act, Event, after}
use Rattle.bc_known.specs.Run.{IsEnabled, IsRun, run}

-- with the seq of the next new node
abbrev pub at : whole.State → ℕ → State
at s n = record { whole = s; next_seq = n }

-- by seat 1
abbrev pub one : Act → Event
one act = record { seat = 1; act = act }

pub record Leads (st : State) (es : List Event) (last : State) : Type 0 where
  pub course : IsRun opening st es
  pub is : run opening st es ≡ last

pub stay : {st : State} → Leads st [] st
stay = record { course = tt; is = refl }

pub go : {es : List Event} {last : State} (st : State) (e : Event) (next : State)
    → IsEnabled opening st e.seat e.act → after opening st e.seat e.act ≡ next
    → Leads next es last → Leads st (e ∷ es) last
go {es} {last} st e next on is rest = record {
  course = (on, subst (λ (x : State). IsRun opening x es) (sym is) rest.course);
  is = subst (λ (x : State). run opening x es ≡ last) (sym is) rest.is;
}

pub then : (xs ys : List Event) {st mid last : State} → Leads st xs mid → Leads mid ys last
    → Leads st (xs ++ ys) last
then [] ys {st} {mid} {last} a b = subst (λ (x : State). Leads x ys last) (sym a.is) b
then (x ∷ xs) ys {st} {mid} {last} a b =
    let rest : Leads (after opening st x.seat x.act) (xs ++ ys) last =
    then xs ys (record { course = a.course.1; is = a.is }) b in record {
      course = (a.course.0, rest.course);
      is = rest.is;
    }
