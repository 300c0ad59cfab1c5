-- What events leave of a seat's claim, as it is from an opening.
use Rattle.std.proofs.Common.{◌≡◌, ◌≢◌, ℕ, Some, refl, sym, ap, ◌∙◌, subst, arith}
use Rattle.std.specs.Prelude.{if◌then◌else◌}
use Rattle.bc_disk.specs.Disk.{DiskFacts}
use Rattle.bc_seats.specs.Seats.{Since, Waited}
use Rattle.bc_seats.proofs.Knowing.{still}
use Rattle.bc_books.specs.Books.{Books}
use Rattle.bc_data.specs.Seats.{Claim, Seat, put_seat}
use Rattle.bc_data.specs.Data as flow
use Rattle.bc_data.specs.Data.{Act, BackingBarrier, Look, CacheRead}
use Rattle.bc_data.specs.After.{at_look, learnt, seat_after, seats_after}
use Rattle.bc_events.specs.Run as core
use Rattle.bc_events.specs.declared.event.Deed.{Deed}
use Rattle.bc_events.specs.declared.event.Deed.TheVariants as deed
use Rattle.bc_events.specs.declared.event.Event.{Event}
use Rattle.bc_looks.specs.bc_machine.World.{World, Origin, IsOrigin, IsCourseOf, replay}
use Rattle.bc_looks.specs.bc_machine.Frame.{by_test, Keeps, in_acts}
use Rattle.bc_looks.specs.bc_machine.Standing.{origin_before}
use Rattle.bc_looks.proofs.of_bc_machine.Noting.{any_acts}
use Rattle.bc_deed.specs.bc_hand.Seats.{by, world, IsCoreSeat, Did}
use Rattle.bc_deed.proofs.of_bc_hand.Knowing.{View, m}
use Rattle.bc_sight.specs.Sight.{but_firm, claim_from, OfClaim}

-- ---- other seats

foreign_act : (w : flow.Opening) (k : Books) (seats : ℕ → Seat) (i : ℕ) (act : Act) (j : ℕ) → j ≢ i
    → but_firm (seats_after w k seats i act j).claim ≡ but_firm (seats j).claim
foreign_act w k seats i BackingBarrier j ne = refl
foreign_act w k seats i act j ne = by_test j i
    (λ b. but_firm (if b then seat_after w k (seats i) act else seats j).claim ≡ but_firm (seats j).claim)
    (λ is. absurd (ne is)) (λ _. refl)

abbrev SameClaim : ℕ → flow.State → flow.State → Type 0
SameClaim j a b = but_firm (b.seats j).claim ≡ but_firm (a.seats j).claim

foreign_keeps : (i j : ℕ) → j ≢ i → Keeps (λ act. Unit {0}) i (SameClaim j)
foreign_keeps i j ne = record {
  same = λ a. refl;
  both = λ a b d x y. y ∙ x;
  one = λ w st act any. foreign_act w st.books st.seats i act j ne;
}

foreign_event : (w : core.Opening) (st : core.State) (e : Event) (j : ℕ) → j ≢ e.seat
    → but_firm ((core.after w st e).machine.whole.flow.seats j).claim
    ≡ but_firm (st.machine.whole.flow.seats j).claim
foreign_event w st e j ne = in_acts (λ act. Unit {0}) e.seat (SameClaim j) (foreign_keeps e.seat j ne)
    w.machine st.machine (core.acts w st e) (any_acts e.seat (core.acts w st e))

-- ---- its own seat

put_own : (seats : ℕ → Seat) (i : ℕ) (x : Seat) → put_seat seats i x i ≡ x
put_own seats i x = by_test i i (λ b. (if b then x else seats i) ≡ x) (λ is. refl) (λ ne. absurd (ne refl))

pub looked_claim : (w : core.Opening) (st : core.State) (i leaf : ℕ)
    → but_firm ((core.after w st (by i (deed.Look leaf))).machine.whole.flow.seats i).claim
    ≡ but_firm (at_look w.machine.flow st.machine.whole.flow.books leaf
    (st.machine.whole.flow.seats i).claim)
looked_claim w st i leaf = ap (λ (x : Seat). but_firm x.claim)
    (put_own st.machine.whole.flow.seats i _)

pub cached_claim : (w : core.Opening) (st : core.State) (i at first : ℕ) (values : _)
    → but_firm ((core.after w st (by i (deed.CacheRead at (Some first) values))).machine.whole.flow.seats i).claim
    ≡ but_firm (learnt w.machine.flow st.machine.whole.flow.books
    (st.machine.whole.flow.seats i).claim (CacheRead first values))
cached_claim w st i at first values = ap (λ (x : Seat). but_firm x.claim)
    (put_own st.machine.whole.flow.seats i _)

-- ---- in each view of a seat

module _ {C B : Type 0} (cache_facts : C → DiskFacts) (backing_facts : B → DiskFacts) where
  -- of the claim of seat i in the state x
  abbrev pub ClaimAt : (Origin → Claim → Type 0) → ℕ → World → Type 0
  ClaimAt P i x = (o : Origin) → IsOrigin x o → IsCourseOf o x.log → P o (claim_from o x.log i)

  pub claim_since : (v : View cache_facts backing_facts) (x : World)
      → IsCoreSeat cache_facts backing_facts v → (P : Origin → Claim → Type 0)
      → Since (m cache_facts backing_facts) v x
      → OfClaim cache_facts backing_facts v P → ClaimAt P v.first x
  claim_since v x seat P since h = still (m cache_facts backing_facts) v x (ClaimAt P v.first)
      (λ y e may foreign before o is course. subst (P o)
      (sym (foreign_event o.opening (replay o y.log) e v.first
      (λ same. foreign.0 v.first (omega arith) seat.seat.live (sym same))))
      (before o (origin_before y e o is) course.2)) since h

  -- what it knows goes on while others act
  pub claim_waited : (v w : View cache_facts backing_facts) → IsCoreSeat cache_facts backing_facts v
      → (P : Origin → Claim → Type 0) → Waited (m cache_facts backing_facts) v w
      → OfClaim cache_facts backing_facts v P → OfClaim cache_facts backing_facts w P
  claim_waited v w seat P waited h =
      subst (λ i. ClaimAt P i (world cache_facts backing_facts w)) (sym waited.same.first)
      (claim_since v (world cache_facts backing_facts w) seat P waited.since h)

  -- and what a deed of its own makes of it
  pub claim_committed : (v w : View cache_facts backing_facts) (d : Deed)
      → IsCoreSeat cache_facts backing_facts v → (P Q : Origin → Claim → Type 0)
      → (did : Did cache_facts backing_facts (Some d) v w)
      → ((o : Origin) → IsOrigin did.is.before o → IsCourseOf o did.is.before.log
      → P o (claim_from o did.is.before.log v.first)
      → Q o (but_firm ((core.after o.opening (replay o did.is.before.log) (by v.first d)).machine.whole.flow.seats v.first).claim))
      → OfClaim cache_facts backing_facts v P → OfClaim cache_facts backing_facts w Q
  claim_committed v w d seat P Q did makes h =
      subst (λ i. ClaimAt Q i (world cache_facts backing_facts w)) (sym did.is.same.first)
      (subst (ClaimAt Q v.first) (sym did.is.state)
      (λ o is course. let before = origin_before did.is.before (by v.first d) o is in
      makes o before course.2 (claim_since v did.is.before seat P did.is.since h o before course.2)))
