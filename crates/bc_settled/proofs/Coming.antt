-- What the steps of a settling come to, one behind the other.
use Rattle.std.proofs.Common.{◌≡◌, inl, inr, ℕ, ◌+◌, ◌^◌, ◌<◌, arith, List, [], ◌∷◌, ◌++◌, Option, Some, None, refl, sym, ap, subst}
use Rattle.bc_disk.specs.Disk.{DiskFacts}
use Rattle.bc_events.specs.declared.event.Deed.{Deed}
use Rattle.bc_fetch.specs.Fetch.{HasReadOne, node_read}
use Rattle.bc_fetch.specs.declared.error.LeafError.TheVariants as leaf
use Rattle.bc_firm.proofs.Lasting.{law_kept}
use Rattle.bc_flight.specs.declared.candidate.Candidate.{Candidate}
use Rattle.bc_key.specs.Key.{start_of}
use Rattle.bc_parts.specs.Seat.{PartsView}
use Rattle.bc_seats.specs.Seats.{Waited}
use Rattle.bc_settle.specs.Settle.{CanSettleIn, HasSettledOr}
use Rattle.bc_settle.specs.bc_candidate.bc_deed.Asked.{IsHaltedOr}
use Rattle.bc_settle.specs.bc_candidate.bc_deed.Flushed.{HasDone}
use Rattle.bc_settle.specs.bc_firm.Firm.{AreFirm}
use Rattle.bc_settle.specs.bc_hand.Seats.{Did, IsCoreSeat, Works, world}
use Rattle.bc_settle.specs.bc_hand.declared.error.StepError.{StepError}
use Rattle.bc_settle.specs.bc_hand.declared.hand.Hand.{Hand}
use Rattle.bc_settle.specs.bc_machine.World.{data_of, kept_of}
use Rattle.bc_settle.specs.bc_machine.declared.part.CorePart.{CorePart}
use Rattle.bc_settle.specs.declared.outcome.Outcome.{Outcome}
use Rattle.bc_settle.specs.declared.outcome.Outcome.TheVariants as outcome
use Rattle.bc_settle.proofs.of_bc_insert.of_bc_deed.Sequence.{done_both, done_first, done_one}
use Rattle.bc_settle.proofs.of_bc_insert.of_bc_hand.Knowing.{View, m}
use Rattle.bc_settle.proofs.Oldest.{due_found}
use Rattle.bc_settled.specs.Next.{HasSeenDue, HasStoppedBehind, HasTried, HasTriedIn}
use Rattle.bc_settled.specs.declared.come.Come.{Come}
use Rattle.bc_settled.specs.declared.come.Come.TheVariants as come
use Rattle.bc_settled.proofs.Hands.{stood_as}

module _ {C B : Type 0} (cache_facts : C → DiskFacts) (backing_facts : B → DiskFacts) where
  pub waited_done : (v w : View cache_facts backing_facts) → IsCoreSeat cache_facts backing_facts w
      → Waited (m cache_facts backing_facts) v w → HasDone cache_facts backing_facts [] v w
  waited_done v w seat waited =
      done_one cache_facts backing_facts None v w (record { is = waited; seat = seat })

  pub none_both : (u v w : View cache_facts backing_facts)
      → HasDone cache_facts backing_facts [] u v
      → HasDone cache_facts backing_facts [] v w → HasDone cache_facts backing_facts [] u w
  none_both u v w a b = done_both cache_facts backing_facts [] [] u v w a b

  -- two waits
  pub twice : (u v w : View cache_facts backing_facts)
      → IsCoreSeat cache_facts backing_facts v → Waited (m cache_facts backing_facts) u v
      → IsCoreSeat cache_facts backing_facts w → Waited (m cache_facts backing_facts) v w
      → HasDone cache_facts backing_facts [] u w
  twice u v w sv a sw b = none_both u v w (waited_done u v sv a) (waited_done v w sw b)

  then_waited : (ds : List Deed) (u v w : View cache_facts backing_facts)
      → HasDone cache_facts backing_facts ds u v → HasDone cache_facts backing_facts [] v w
      → HasDone cache_facts backing_facts ds u w
  then_waited ds u v w a b = subst (λ (l : List Deed). HasDone cache_facts backing_facts l u w)
      (append_nil ds) (done_both cache_facts backing_facts ds [] u v w a b)
    where
      append_nil : (xs : List Deed) → xs ++ [] ≡ xs
      append_nil [] = refl
      append_nil (x ∷ xs) = ap (λ (l : List Deed). x ∷ l) (append_nil xs)

  pub read_then : (u v w : View cache_facts backing_facts)
      → HasReadOne cache_facts backing_facts u v → HasDone cache_facts backing_facts [] v w
      → HasReadOne cache_facts backing_facts u w
  read_then u v w (inl nothing) then = inl (none_both u v w nothing then)
  read_then u v w (inr one) then =
      inr (one.0, then_waited (node_read one.0 ∷ []) u v w one.1 then)

  then_read : (u v w : View cache_facts backing_facts)
      → HasDone cache_facts backing_facts [] u v → HasReadOne cache_facts backing_facts v w
      → HasReadOne cache_facts backing_facts u w
  then_read u v w first (inl nothing) = inl (none_both u v w first nothing)
  then_read u v w first (inr one) =
      inr (one.0, done_both cache_facts backing_facts [] (node_read one.0 ∷ []) u v w first one.1)

  -- what is firm stays so on the way to a leaf
  lasts : (v w : View cache_facts backing_facts) (ds : List Deed) (n : ℕ)
      → HasDone cache_facts backing_facts ds v w → AreFirm n (world cache_facts backing_facts v)
      → AreFirm n (world cache_facts backing_facts w)
  lasts v w ds n done firm = (law_kept cache_facts backing_facts).done v w ds n done firm

  pub firm_seen : (n : ℕ) (o : Option Candidate) (u v : View cache_facts backing_facts)
      → HasSeenDue cache_facts backing_facts n o u v
      → AreFirm n (world cache_facts backing_facts u)
      → AreFirm n (world cache_facts backing_facts v)
  firm_seen n o u v seen firm =
      lasts seen.at v [] n seen.then (lasts u seen.at [] n seen.way firm)

  pub firm_then : (n : ℕ) (u v w : View cache_facts backing_facts)
      → HasReadOne cache_facts backing_facts u v → HasDone cache_facts backing_facts [] v w
      → AreFirm n (world cache_facts backing_facts u)
      → AreFirm n (world cache_facts backing_facts w)
  firm_then n u v w (inl nothing) then firm =
      lasts v w [] n then (lasts u v [] n nothing firm)
  firm_then n u v w (inr one) then firm =
      lasts v w [] n then (lasts u v (node_read one.0 ∷ []) n one.1 firm)

  -- the sectors of one that is due
  pub in_range : (n : ℕ) (c : Candidate) (u v : View cache_facts backing_facts)
      → HasSeenDue cache_facts backing_facts n (Some c) u v → start_of c.key + c.key.size < 2 ^ 64
  in_range n c u v seen =
      let fl = seen.stood (world cache_facts backing_facts seen.at) (inl refl) in
      let is = (due_found n
      (λ k. kept_of ((data_of (world cache_facts backing_facts seen.at)).candidates k))
      seen.flight.candidates c (sym seen.is) fl.candidates.each).is in
      let inside = is.inside in
      let end = c.key.end_fits in omega (arith, inside, end)

  -- ---- what the step says

  pub tried : (p : PartsView (CorePart C B)) (before number parts slot : ℕ)
      (v w : View cache_facts backing_facts) (h new : Hand C B)
      (works : Works cache_facts backing_facts p v h) (cached : _)
      (can : CanSettleIn h parts slot number cached) (what : Outcome)
      → HasSettledOr cache_facts backing_facts what before number slot cached can.flight can.buckets
      h new v w
      → HasTried cache_facts backing_facts before number (come.Tried what) v w
  tried p before number parts slot v w h new works cached can outcome.NoneDue done = record {
    stood = stood_as cache_facts backing_facts p v h works parts slot number cached can;
    none = done.none;
    waited = done.waited;
  }
  tried p before number parts slot v w h new works cached can (outcome.Settled n) done = record {
    stood = stood_as cache_facts backing_facts p v h works parts slot number cached can;
    candidate = done.candidate;
    due = done.due;
    number_is = done.number_is;
    key = done.key;
    named = done.named;
    did = done.did;
  }
  tried p before number parts slot v w h new works cached can (outcome.Left n why) done = record {
    stood = stood_as cache_facts backing_facts p v h works parts slot number cached can;
    candidate = done.candidate;
    due = done.due;
    number_is = done.number_is;
    reason = done.reason;
    waited = done.waited;
  }

  -- ---- from an empty hand

  pub tried_in : (before number : ℕ) (what : Come) (due : Candidate)
      (u v w x y z : View cache_facts backing_facts)
      → HasSeenDue cache_facts backing_facts before (Some due) u v
      → HasReadOne cache_facts backing_facts v w → HasDone cache_facts backing_facts [] w x
      → HasTried cache_facts backing_facts before number what x y
      → HasDone cache_facts backing_facts [] y z
      → HasTriedIn cache_facts backing_facts before what u z
  tried_in before number what due u v w x y z was read took what_came then = record {
    due = due;
    seen = v;
    was_due = was;
    leaf = number;
    at = x;
    way = read_then v w x read took;
    tried = y;
    what_came = what_came;
    then = then;
  }

  pub stopped_in : (before : ℕ) (e : StepError) (o : Option Candidate)
      (u v w x y z : View cache_facts backing_facts)
      → HasSeenDue cache_facts backing_facts before o u v
      → HasReadOne cache_facts backing_facts v w → HasDone cache_facts backing_facts [] w x
      → Did cache_facts backing_facts None x y → IsHaltedOr e y.seen
      → HasDone cache_facts backing_facts [] y z
      → HasStoppedBehind cache_facts backing_facts before (leaf.Step e) u z
  stopped_in before e o u v w x y z was read took did why then = record {
    cause = e;
    is = refl;
    at = y;
    way = then_read u v y (none_both u was.at v was.way was.then)
        (read_then v x y (read_then v w x read took)
        (done_first cache_facts backing_facts None x y did));
    why = why;
    then = then;
  }
