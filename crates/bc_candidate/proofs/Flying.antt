-- What deeds on candidates leave of the claims and candidates in hand.
use Rattle.std.proofs.Common.{◌≡◌, ◌≢◌, ℕ, ◌+◌, true, false, [], ◌∷◌, ◌++◌, Some, refl, sym, ap, ◌∙◌, subst, arith, if◌then◌else◌}
use Rattle.std.specs.Prelude.{◌==◌}
use Rattle.bc_data.specs.Seats.{Seat, put_seat}
use Rattle.bc_data.specs.Seats as seated
use Rattle.bc_events.specs.declared.event.Deed.TheVariants as deed
use Rattle.bc_events.specs.declared.event.UnpinKind.TheVariants as unpin
use Rattle.bc_flight.specs.Candidates.{AreNumbered, first_of, without_first}
use Rattle.bc_flight.specs.Flight.{InFlight, claim_of}
use Rattle.bc_flight.specs.declared.candidate.Candidate.{Candidate}
use Rattle.bc_flight.specs.declared.candidate.Wanted.TheVariants.{Dead}
use Rattle.bc_place.specs.bc_hand.Seats.{by}
use Rattle.bc_place.specs.bc_machine.Frame.{by_test}
use Rattle.bc_place.specs.bc_machine.World.{AreCandidatesOf, IsCandidateOf, IsFlightOf, World, after, claim_in, data_of, kept_of}
use Rattle.bc_candidate.proofs.Numbers.{one_less, one_more}

-- a seat that is put where it is
pub put_same : (all : ℕ → Seat) (i n : ℕ) → put_seat all i (all i) n ≡ all n
put_same all i n = by_test n i (λ b. (if b then all i else all n) ≡ all n)
    (λ is. ap all (sym is)) (λ ne. refl)

pub put_here : {A : Type 0} (f : ℕ → A) (i : ℕ) (x : A) → (if i == i then x else f i) ≡ x
put_here f i x = by_test i i (λ b. (if b then x else f i) ≡ x) (λ is. refl)
    (λ ne. absurd (ne refl))

put_there : {A : Type 0} (f : ℕ → A) (i n : ℕ) (x : A) → n ≢ i
    → (if n == i then x else f n) ≡ f n
put_there f i n x ne = by_test n i (λ b. (if b then x else f n) ≡ f n)
    (λ is. absurd (ne is)) (λ no. refl)

-- ---- one is noted

abbrev pub just_noted : (first count at : ℕ) → seated.Candidate
just_noted first count at = record {
  first = first;
  count = count;
  place = at;
  stands = true;
  alive = true;
  firm = false;
}

pub flight_noted : (f g : InFlight) (x : World) (i first count at : ℕ) (c : Candidate)
    → AreNumbered 0 f.next f.candidates → IsFlightOf f x
    → IsCandidateOf (kept_of (just_noted first count at)) c → c.number ≡ f.next
    → g.seats ≡ f.seats → g.claims ≡ f.claims → g.candidates ≡ f.candidates ++ c ∷ []
    → g.next ≡ f.next + 1
    → IsFlightOf g (after x (by i (deed.Candidate f.next first count at)))
flight_noted f g x i first count at c numbers on one is seats claims candidates next = record {
  seats = seats ∙ on.seats;
  claims = λ n. ap (claim_of n) claims ∙ on.claims n
      ∙ sym (ap (λ (s : Seat). claim_in n s.claim) (put_same (data_of x).seats i n));
  candidates = subst (λ cs. AreCandidatesOf cs (λ n. kept_of
      ((data_of (after x (by i (deed.Candidate f.next first count at)))).candidates n)))
      (sym candidates)
      (one_more f.next f.candidates c (λ n. kept_of ((data_of x).candidates n)) _ numbers is
      (λ n ne. ap kept_of (put_there (data_of x).candidates f.next n
      (just_noted first count at) ne))
      (subst (λ n. IsCandidateOf (kept_of (if n == f.next then just_noted first count at
      else (data_of x).candidates n)) c) (sym is)
      (subst (λ k. IsCandidateOf (kept_of k) c)
      (sym (put_here (data_of x).candidates f.next (just_noted first count at))) one))
      on.candidates);
  next = let was = on.next in omega (arith, next, was);
}

-- ---- one is dropped

pub flight_dropped : (f g : InFlight) (x : World) (i : ℕ) (c : Candidate)
    → AreNumbered 0 f.next f.candidates → IsFlightOf f x → first_of Dead f.candidates ≡ Some c
    → g.seats ≡ f.seats → g.claims ≡ f.claims → g.candidates ≡ without_first Dead f.candidates
    → g.next ≡ f.next
    → IsFlightOf g (after x (by i (deed.Unpin (unpin.Dead c.number))))
flight_dropped f g x i c numbers on is seats claims candidates next = record {
  seats = seats ∙ on.seats;
  claims = λ n. ap (claim_of n) claims ∙ on.claims n
      ∙ sym (ap (λ (s : Seat). claim_in n s.claim) (put_same (data_of x).seats i n));
  candidates = subst (λ cs. AreCandidatesOf cs (λ n. kept_of
      ((data_of (after x (by i (deed.Unpin (unpin.Dead c.number))))).candidates n)))
      (sym candidates)
      (one_less f.next f.candidates c (λ n. kept_of ((data_of x).candidates n)) _ numbers is
      (λ n ne. ap kept_of (put_there (data_of x).candidates c.number n
      (record ((data_of x).candidates c.number) { stands = false }) ne))
      (ap (λ (k : seated.Candidate). k.stands) (put_here (data_of x).candidates c.number
      (record ((data_of x).candidates c.number) { stands = false })))
      on.candidates);
  next = next ∙ on.next;
}
