-- A barrier behind a look at the number of the next candidate.
use Rattle.std.proofs.Common.{◌≡◌, ℕ, Bool, Option, Some, None, refl, sym, ap, ◌∙◌, subst, arith}
use Rattle.std.specs.Prelude.{is_none, if◌then◌else◌}
use Rattle.bc_deed.proofs.May.{did_nothing, failed_between}
use Rattle.bc_deed.proofs.of_bc_hand.Between.{did_between}
use Rattle.bc_deed.proofs.of_bc_hand.Knowing.{View, m}
use Rattle.bc_deed.specs.Asked.{HasFailed}
use Rattle.bc_deed.specs.bc_hand.Seats.{Did, IsCoreSeat, Works, kinds, numbers, world}
use Rattle.bc_deed.specs.bc_hand.declared.error.StepError.{StepError}
use Rattle.bc_deed.specs.bc_hand.declared.hand.Hand.{Hand}
use Rattle.bc_deed.specs.bc_machine.World.{IsFlight, World, candidates_noted}
use Rattle.bc_deed.specs.bc_machine.declared.part.CorePart.{CorePart}
use Rattle.bc_disk.specs.Disk.{DiskFacts}
use Rattle.bc_events.specs.declared.event.Deed.{Deed}
use Rattle.bc_events.specs.declared.event.Deed.TheVariants as deed
use Rattle.bc_flight.specs.Flight.{InFlight}
use Rattle.bc_parts.specs.Seat.{Holds, PartsView}
use Rattle.bc_seats.proofs.Between.{seen_alike, waited_both}
use Rattle.bc_seats.specs.Seats.{Waited}
use Rattle.bc_firm.specs.Firm.{HasMadeFirm}
use Rattle.bc_firm.proofs.Lasting.{behind_barrier, law_count, noted_fold}

-- ---- the hand once the claims went back to where they came from

module _ {C B : Type 0} where
  same_numbers : (h l n : Hand C B) (f : InFlight) (taken : Bool)
      → l ≡ record h { flight = None } → taken ≡ is_none h.flight
      → n ≡ record l { flight = if taken then None else Some f } → numbers n ≡ numbers h
  same_numbers h l n f taken l_is t_is n_is =
      ap (λ (x : Hand C B). numbers x) n_is
      ∙ ap (λ (x : Hand C B). numbers (record x { flight = if taken then None else Some f })) l_is
      ∙ ap (λ b. numbers (record h { flight = if b then None else Some f })) t_is
      ∙ go h.flight
    where
      go : (o : Option InFlight)
          → numbers (record h { flight = if is_none o then None else Some f })
          ≡ numbers (record h { flight = o })
      go None = refl
      go (Some g) = refl

  pub same_kinds : (h l n : Hand C B) (f : InFlight) (taken : Bool)
      → l ≡ record h { flight = None } → taken ≡ is_none h.flight
      → n ≡ record l { flight = if taken then None else Some f } → kinds n ≡ kinds h
  same_kinds h l n f taken l_is t_is n_is =
      ap (λ (x : Hand C B). kinds x) n_is
      ∙ ap (λ (x : Hand C B). kinds (record x { flight = if taken then None else Some f })) l_is
      ∙ ap (λ b. kinds (record h { flight = if b then None else Some f })) t_is
      ∙ go h.flight
    where
      go : (o : Option InFlight)
          → kinds (record h { flight = if is_none o then None else Some f })
          ≡ kinds (record h { flight = o })
      go None = refl
      go (Some g) = refl

module _ {C B : Type 0} (cache_facts : C → DiskFacts) (backing_facts : B → DiskFacts) where
  pub same_parts : (p : PartsView (CorePart C B)) (u v : View cache_facts backing_facts)
      (h l n : Hand C B) (f : InFlight) (taken : Bool) → Works cache_facts backing_facts p u h
      → Works cache_facts backing_facts p v n → l ≡ record h { flight = None }
      → taken ≡ is_none h.flight → n ≡ record l { flight = if taken then None else Some f }
      → v.parts ≡ u.parts
  same_parts p u v h l n f taken before behind l_is t_is n_is = behind.parts
      ∙ same_numbers h l n f taken l_is t_is n_is ∙ sym before.parts

module _ {C B : Type 0} (cache_facts : C → DiskFacts) (backing_facts : B → DiskFacts)
    (u v1 v2 w : View cache_facts backing_facts) (seat : IsCoreSeat cache_facts backing_facts w)
    (first_ : Waited (m cache_facts backing_facts) u v1)
    (still : (k : ℕ) → Holds u.parts k → Holds v1.parts k)
    (back : Waited (m cache_facts backing_facts) v1 v2) (parts : v2.parts ≡ u.parts) where
  waited : Waited (m cache_facts backing_facts) u v2
  waited = waited_both (m cache_facts backing_facts) u v1 v2 still first_ back

  stays : (k : ℕ) → Holds u.parts k → Holds v2.parts k
  stays k holds = subst (λ ks. Holds ks k) (sym parts) holds

  nothing : Waited (m cache_facts backing_facts) w w
  nothing = (did_nothing cache_facts backing_facts w seat).is

  pub failed_then : (e : StepError) (d : Deed) → HasFailed cache_facts backing_facts e d v2 w
      → HasFailed cache_facts backing_facts e d u w
  failed_then e d h = failed_between cache_facts backing_facts e d u v2 w w stays waited h nothing
      refl refl seat

  pub made_firm : v2.seen ≡ v1.seen → (f : InFlight) (n : ℕ) → n ≡ f.next
      → IsFlight f (world cache_facts backing_facts v1)
      → Did cache_facts backing_facts (Some deed.BackingBarrier) v2 w
      → HasMadeFirm cache_facts backing_facts n u w
  made_firm seen f n is on did =
      let count : n ≡ candidates_noted (world cache_facts backing_facts v1).log = is
      ∙ law_count f (world cache_facts backing_facts v1) on in
      let same = seen_alike (m cache_facts backing_facts) v1 v2 back.same seen in
      let then_ : n ≡ candidates_noted (world cache_facts backing_facts v2).log = count
      ∙ ap (λ (x : World). candidates_noted x.log) (sym same) in
      let up = noted_fold (candidates_noted (world cache_facts backing_facts u).log)
      (world cache_facts backing_facts u) first_.since.others (omega arith) in
      let at = ap (λ (x : World). candidates_noted x.log) first_.since.is in
      record {
        did = did_between cache_facts backing_facts (Some deed.BackingBarrier) u v2 w w stays waited
            did nothing refl refl seat;
        seen = omega (arith, up, at, count);
        firm = behind_barrier cache_facts backing_facts v2 w n did (omega (arith, then_));
      }
