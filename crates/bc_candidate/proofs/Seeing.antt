-- What a seat sees under its claim and wrote to places goes on, whatever others do.
use Rattle.std.proofs.Common.{◌≡◌, ◌≢◌, inl, inr, ℕ, Some, refl, sym, ap, ◌∙◌, subst, arith}
use Rattle.std.specs.Prelude.{if◌then◌else◌}
use Rattle.bc_books.specs.Books.{Books}
use Rattle.bc_data.specs.After.{seat_after, seats_after}
use Rattle.bc_data.specs.Data as flow
use Rattle.bc_data.specs.Data.{Act, BackingBarrier}
use Rattle.bc_data.specs.Enabled.{IsBacked, MayKeep}
use Rattle.bc_data.specs.Seats.{Claim, Seat}
use Rattle.bc_disk.specs.Disk.{DiskFacts}
use Rattle.bc_events.specs.Run as core
use Rattle.bc_events.specs.declared.event.Deed.{Deed}
use Rattle.bc_events.specs.declared.event.Event.{Event}
use Rattle.bc_fill.specs.declared.fill.Placed.{Placed}
use Rattle.bc_place.proofs.Keeping.{Lasts, keeps_waited, made_by, waited_by}
use Rattle.bc_place.proofs.of_bc_hand.Knowing.{View, m}
use Rattle.bc_place.proofs.of_bc_machine.Noting.{any_acts}
use Rattle.bc_place.specs.bc_hand.Seats.{Did, IsCoreSeat, by}
use Rattle.bc_place.specs.bc_machine.Frame.{Keeps, by_test, in_acts}
use Rattle.bc_place.specs.bc_machine.Standing.{origin_before}
use Rattle.bc_place.specs.bc_machine.World.{replay}
use Rattle.bc_seats.specs.Seats.{Waited}
use Rattle.bc_sight.proofs.Claims.{claim_committed, claim_waited}
use Rattle.bc_sight.specs.Sight.{Knows, but_firm}
use Rattle.bc_candidate.specs.Noted.{IsKeepable, KeepsAll, KeepsClaim}

-- the same claim but for which copies are firm, and the same at places
pub record SameSeat (a b : Seat) : Type 0 where
  pub claim : but_firm b.claim ≡ but_firm a.claim
  pub placed : (t : ℕ) → b.placed t ≡ a.placed t

pub same_as : (a b : Seat) → b ≡ a → SameSeat a b
same_as a b is = record {
  claim = ap (λ (x : Seat). but_firm x.claim) is;
  placed = λ t. ap (λ (x : Seat). x.placed t) is;
}

-- ---- other seats

foreign_act : (w : flow.Opening) (k : Books) (seats : ℕ → Seat) (i : ℕ) (act : Act) (j : ℕ) → j ≢ i
    → SameSeat (seats j) (seats_after w k seats i act j)
foreign_act w k seats i BackingBarrier j ne = record { claim = refl; placed = λ t. refl }
foreign_act w k seats i act j ne = by_test j i
    (λ b. SameSeat (seats j) (if b then seat_after w k (seats i) act else seats j))
    (λ is. absurd (ne is)) (λ _. record { claim = refl; placed = λ t. refl })

abbrev SameOf : ℕ → flow.State → flow.State → Type 0
SameOf j a b = SameSeat (a.seats j) (b.seats j)

foreign_keeps : (i j : ℕ) → j ≢ i → Keeps (λ act. Unit {0}) i (SameOf j)
foreign_keeps i j ne = record {
  same = λ a. record { claim = refl; placed = λ t. refl };
  both = λ a b d x y. record {
    claim = y.claim ∙ x.claim;
    placed = λ t. y.placed t ∙ x.placed t;
  };
  one = λ w st act any. foreign_act w st.books st.seats i act j ne;
}

pub foreign_event : (w : core.Opening) (st : core.State) (e : Event) (j : ℕ) → j ≢ e.seat
    → SameSeat (st.machine.whole.flow.seats j) ((core.after w st e).machine.whole.flow.seats j)
foreign_event w st e j ne = in_acts (λ act. Unit {0}) e.seat (SameOf j) (foreign_keeps e.seat j ne)
    w.machine st.machine (core.acts w st e) (any_acts e.seat (core.acts w st e))

-- ---- what may be kept

pub keep_same : (a b : flow.State) (i s t : ℕ) → SameSeat (a.seats i) (b.seats i)
    → MayKeep a i s t → MayKeep b i s t
keep_same a b i s t same h = record {
  covers = let first = ap (λ (c : Claim). c.first) same.claim in
      let count = ap (λ (c : Claim). c.count) same.claim in
      let low = h.covers.0 in
      let high = h.covers.1 in (omega (arith, first, low), omega (arith, first, count, high));
  value = h.value;
  placed = same.placed t ∙ h.placed;
  source = elim h.source [
    | inl r ↦ inl (record {
      shared = ap (λ (c : Claim). c.exclusive) same.claim ∙ r.shared;
      looked = ap (λ (c : Claim). c.looked) same.claim ∙ r.looked;
      backed = subst IsBacked (sym (ap (λ (c : Claim). c.sight s) same.claim)) r.backed;
      read = ap (λ (c : Claim). c.from_backing s) same.claim ∙ r.read;
    })
    | inr through ↦ inr (ap (λ (c : Claim). c.through s) same.claim ∙ through)
  ];
}

pub keepable_lasts : (first : ℕ) (p : Placed) → Lasts (λ i. IsKeepable i first p)
keepable_lasts first p x e i ne h o is course s t at =
    let before = origin_before x e o is in
    keep_same (replay o x.log).machine.whole.flow
    (core.after o.opening (replay o x.log) e).machine.whole.flow i s t
    (foreign_event o.opening (replay o x.log) e i (λ same. ne (sym same)))
    (h o before course.2 s t at)

module _ {C B : Type 0} (cache_facts : C → DiskFacts) (backing_facts : B → DiskFacts) where
  pub claim_kept_waited : (v w : View cache_facts backing_facts)
      → IsCoreSeat cache_facts backing_facts v → Waited (m cache_facts backing_facts) v w
      → KeepsClaim cache_facts backing_facts v w
  claim_kept_waited v w seat waited = record {
    keepable = λ first p. waited_by cache_facts backing_facts (λ i. IsKeepable i first p)
        (keepable_lasts first p) v w seat waited;
    sight = λ leaf buckets read. claim_waited cache_facts backing_facts v w seat
        (λ o c. Knows o leaf buckets read c) waited;
  }

  pub all_waited : (v w : View cache_facts backing_facts) → IsCoreSeat cache_facts backing_facts v
      → Waited (m cache_facts backing_facts) v w → KeepsAll cache_facts backing_facts v w
  all_waited v w seat waited = record {
    places = keeps_waited cache_facts backing_facts v w seat waited;
    claim = claim_kept_waited v w seat waited;
  }

  -- a deed that leaves the seat's own claim and what it wrote as they are
  pub claim_kept_deed : (v w : View cache_facts backing_facts) (d : Deed)
      → IsCoreSeat cache_facts backing_facts v
      → ((w : core.Opening) (st : core.State) → SameSeat (st.machine.whole.flow.seats v.first)
      ((core.after w st (by v.first d)).machine.whole.flow.seats v.first))
      → Did cache_facts backing_facts (Some d) v w → KeepsClaim cache_facts backing_facts v w
  claim_kept_deed v w d seat same did = record {
    keepable = λ first p. made_by cache_facts backing_facts (λ i. IsKeepable i first p)
        (λ i. IsKeepable i first p) (keepable_lasts first p) v w d seat did
        (λ o st on h s t at. keep_same st.machine.whole.flow
        (core.after o.opening st (by v.first d)).machine.whole.flow v.first s t
        (same o.opening st) (h s t at));
    sight = λ leaf buckets read. claim_committed cache_facts backing_facts v w d seat
        (λ o c. Knows o leaf buckets read c) (λ o c. Knows o leaf buckets read c) did
        (λ o is course h. subst (λ c. Knows o leaf buckets read c)
        (sym (same o.opening (replay o did.is.before.log)).claim) h);
  }
