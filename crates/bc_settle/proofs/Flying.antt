-- What the deed leaves of the claims and candidates in hand.
use Rattle.std.proofs.Common.{◌≡◌, ◌≢◌, ℕ, false, List, Some, refl, sym, ap, ◌∙◌, subst, if◌then◌else◌}
use Rattle.std.specs.Prelude.{◌==◌}
use Rattle.bc_data.specs.Seats.{Seat, put_seat}
use Rattle.bc_data.specs.Seats as seated
use Rattle.bc_events.specs.declared.event.Deed.TheVariants as deed
use Rattle.bc_flight.specs.Candidates.{AreNumbered, first_of}
use Rattle.bc_flight.specs.Flight.{InFlight, claim_of}
use Rattle.bc_flight.specs.declared.candidate.Candidate.{Candidate}
use Rattle.bc_flight.specs.declared.candidate.Wanted.TheVariants.{Due}
use Rattle.bc_key.specs.declared.key.Key.{Key}
use Rattle.bc_candidate.proofs.Flying.{put_here, put_same}
use Rattle.bc_candidate.specs.bc_hand.Seats.{by}
use Rattle.bc_candidate.specs.bc_machine.Frame.{by_test}
use Rattle.bc_candidate.specs.bc_machine.World.{AreCandidatesOf, IsFlightOf, World, after, claim_in, data_of, kept_of}
use Rattle.bc_settle.specs.Next.{HasTakenDue}
use Rattle.bc_settle.proofs.Oldest.{one_less}

put_there : {A : Type 0} (f : ℕ → A) (i n : ℕ) (x : A) → n ≢ i
    → (if n == i then x else f n) ≡ f n
put_there f i n x ne = by_test n i (λ b. (if b then x else f n) ≡ f n)
    (λ is. absurd (ne is)) (λ no. refl)

pub flight_settled : (f g : InFlight) (x : World) (i before leaf : ℕ) (c : Candidate)
    (keys : List Key) → AreNumbered 0 f.next f.candidates → IsFlightOf f x
    → first_of (Due before) f.candidates ≡ Some c → HasTakenDue before f g
    → IsFlightOf g (after x (by i (deed.Settle leaf c.number keys)))
flight_settled f g x i before leaf c keys numbers on is taken = record {
  seats = taken.seats ∙ on.seats;
  claims = λ n. ap (claim_of n) taken.claims ∙ on.claims n
      ∙ sym (ap (λ (s : Seat). claim_in n s.claim) (put_same (data_of x).seats i n));
  candidates = subst (λ cs. AreCandidatesOf cs (λ n. kept_of
      ((data_of (after x (by i (deed.Settle leaf c.number keys)))).candidates n)))
      (sym taken.candidates)
      (one_less (Due before) f.next f.candidates c (λ n. kept_of ((data_of x).candidates n)) _
      numbers is
      (λ n ne. ap kept_of (put_there (data_of x).candidates c.number n
      (record ((data_of x).candidates c.number) { stands = false }) ne))
      (ap (λ (k : seated.Candidate). k.stands) (put_here (data_of x).candidates c.number
      (record ((data_of x).candidates c.number) { stands = false })))
      on.candidates);
  next = taken.next ∙ on.next;
}
