-- Taking a bucket and pinning a place, one behind the other.
use Rattle.std.proofs.Common.{◌≡◌, ◌≢◌, inl, inr, ℕ, ◌+◌, ◌-◌, ◌<◌, ◌≤◌, Bool, true, false, List, [], ◌∷◌, ◌++◌, Option, Some, None, refl, sym, ap, ◌∙◌, subst, arith}
use Rattle.std.specs.Prelude.{◌==◌, Result, Ok, Err, if◌then◌else◌}
use Rattle.std.proofs.lemmas.List.{append-nil}
use Rattle.bc_alloc.specs.declared.purpose.NoBucket.{NoBucket}
use Rattle.bc_alloc.specs.declared.purpose.Purpose.TheVariants as list
use Rattle.bc_deed.specs.Asked.{IsHalted}
use Rattle.bc_deed.specs.Flushed.{HasDone}
use Rattle.bc_deed.proofs.Sequence.{done_both, done_first}
use Rattle.bc_disk.specs.Disk.{DiskFacts}
use Rattle.bc_events.specs.Columns.{halt_of}
use Rattle.bc_events.specs.Run as core
use Rattle.bc_events.specs.declared.event.Deed.{Deed}
use Rattle.bc_events.specs.declared.event.Deed.TheVariants as deed
use Rattle.bc_fill.specs.declared.fill.Placed.{Placed}
use Rattle.bc_deed.specs.bc_hand.Seats.{Did, IsCoreSeat, world}
use Rattle.bc_deed.specs.bc_hand.declared.hand.Hand.{Hand}
use Rattle.bc_deed.specs.bc_hand.declared.error.StepError.{StepError}
use Rattle.bc_deed.specs.bc_hand.declared.error.StepError.TheVariants as error
use Rattle.bc_deed.proofs.of_bc_hand.Between.{did_between}
use Rattle.bc_deed.proofs.of_bc_hand.Knowing.{View, m}
use Rattle.bc_deed.specs.bc_machine.Frame.{by_test}
use Rattle.bc_deed.specs.bc_machine.World.{FromEach, Origin, World}
use Rattle.bc_deed.specs.bc_machine.declared.part.BucketsPart.{BucketsPart}
use Rattle.bc_parts.specs.Seat.{Holds}
use Rattle.bc_seats.specs.Seats.{Kept, Waited}
use Rattle.bc_seats.proofs.Between.{same_both, seen_alike}
use Rattle.bc_seats.proofs.Knowing.{waited}
use Rattle.bc_place.specs.Place.{HasGiven, HasHalted, HasNoBucket, HasOpened, HasPinned, HasPlaced, IsOwn, IsUpTo, taken_by, taking}

-- which bucket was opened for a place, is nothing that its seat has to know of it
pub own_opened : (i : ℕ) (x : Option ℕ) (p : Placed) (o : Origin) (st : core.State) → IsOwn i p o st
    → IsOwn i (record p { opened = x }) o st
own_opened i x p o st h = record {
  some = h.some;
  own = h.own;
  bucket = h.bucket;
  lies = record { bucket = h.lies.bucket; low = h.lies.low; high = h.lies.high };
  generation = h.generation;
}

up_to_opened : (count : ℕ) (x : Option ℕ) (p : Placed) (full : Bool) → IsUpTo count p full
    → IsUpTo count (record p { opened = x }) full
up_to_opened count x p full h =
    record { device = h.device; some = h.some; few = h.few; most = h.most; rest = h.rest }

-- a deed that changes the buckets alone
pub buckets_changed : (k : ℕ) → (if k == 0 then false else (if k == 1 then false
    else (if k == 2 then true else (if k == 3 then false else (if k == 4 then false
    else (if k == 5 then false else false)))))) ≡ (k == 2)
buckets_changed k = only 0 (λ is. cc) (only 1 (λ is. cc) (same (k == 2)))
  where
    off : (b : Bool) → (if b then false else false) ≡ false
    off true = refl
    off false = refl

    none : (a b c : Bool) → (if a then false else (if b then false else (if c then false else false)))
        ≡ false
    none true b c = refl
    none false true c = refl
    none false false c = off c

    same : (b : Bool) → (if b then true else (if k == 3 then false else (if k == 4 then false
        else (if k == 5 then false else false)))) ≡ b
    same true = refl
    same false = none (k == 3) (k == 4) (k == 5)

    only : (n : ℕ) {rest : Bool} → n ≢ 2 → rest ≡ (k == 2)
        → (if k == n then false else rest) ≡ (k == 2)
    only n {rest} ne is = by_test k n (λ b. (if b then false else rest) ≡ (k == 2))
        (λ at. sym (by_test k 2 (λ b. b ≡ false) (λ two. absurd (ne (sym at ∙ two)))
        (λ no. refl))) (λ no. is)

-- a hand whose buckets were borrowed and returned
pub same_but_buckets : {C B : Type 0} (a b c : Hand C B) (o : Option BucketsPart)
    → b ≡ record a { buckets = None } → c ≡ record b { buckets = o }
    → c ≡ record a { buckets = c.buckets }
same_but_buckets a b c o lent back = back ∙ ap (λ (h : Hand _ _). record h { buckets = o }) lent
    ∙ ap (λ (x : Option BucketsPart). record a { buckets = x })
    (sym (ap (λ (h : Hand _ _). h.buckets) back))

module _ {C B : Type 0} (cache_facts : C → DiskFacts) (backing_facts : B → DiskFacts) where
  pub kept_both : (u v w : View cache_facts backing_facts) (changed : ℕ → Bool)
      → Kept (m cache_facts backing_facts) u v changed
      → Kept (m cache_facts backing_facts) v w changed
      → Kept (m cache_facts backing_facts) u w changed
  kept_both u v w changed a b = record {
    seat = b.seat;
    same = same_both (m cache_facts backing_facts) u v w a.same b.same;
    parts = b.parts ∙ a.parts;
    rest = λ k p holds off on. b.rest k p (subst (λ ks. Holds ks k) (sym a.parts) holds) off
        (a.rest k p holds off on);
  }

  -- ---- inside

  pub promise_left : (before : ℕ) (opened : Option ℕ) (v w : View cache_facts backing_facts)
      → Did cache_facts backing_facts (taking before opened) v w → 2 ≤ v.promises → 0 < w.promises
  promise_left before None v w did two = let left = did.is.promises in omega (arith, left, two)
  promise_left before (Some k) v w did two = let left = did.is.promises in omega (arith, left, two)

  -- a bucket takes at most one deed
  pub opened_left : (before : ℕ) (r : Result (Option ℕ) NoBucket)
      (v w : View cache_facts backing_facts) → HasOpened cache_facts backing_facts before r v w
      → v.promises ≤ w.promises + 1
  opened_left before (Ok None) v w h = let same = h.is.promises in omega (arith, same)
  opened_left before (Ok (Some k)) v w h = let same = h.is.promises in omega (arith, same)
  opened_left before (Err none) v w h = let same = h.1.is.promises in omega (arith, same)

  pub given_place : (before count : ℕ) (opened : Option ℕ) (p : Placed)
      (u v w : View cache_facts backing_facts)
      → Did cache_facts backing_facts (taking before opened) u v
      → HasPinned cache_facts backing_facts count p v w
      → HasGiven cache_facts backing_facts before count (record p { opened = opened }) u w
  given_place before count None p u v w a b = record {
    full = b.full;
    is = up_to_opened count None p b.full b.is;
    done = done_both cache_facts backing_facts [] (deed.Pin p.ptr.offset p.count b.full ∷ []) u v w
        (done_first cache_facts backing_facts None u v a)
        (done_first cache_facts backing_facts (Some (deed.Pin p.ptr.offset p.count b.full)) v w
        b.did);
  }
  given_place before count (Some k) p u v w a b = record {
    full = b.full;
    is = up_to_opened count (Some k) p b.full b.is;
    done = done_both cache_facts backing_facts (deed.Take list.Plain (k - before) ∷ [])
        (deed.Pin p.ptr.offset p.count b.full ∷ []) u v w
        (done_first cache_facts backing_facts (Some (deed.Take list.Plain (k - before))) u v a)
        (done_first cache_facts backing_facts (Some (deed.Pin p.ptr.offset p.count b.full)) v w
        b.did);
  }

  pub own_given : (opened : Option ℕ) (p : Placed) (w : View cache_facts backing_facts)
      → FromEach (world cache_facts backing_facts w) (IsOwn w.first p)
      → FromEach (world cache_facts backing_facts w) (IsOwn w.first (record p { opened = opened }))
  own_given opened p w h o is course =
      own_opened w.first opened p o _ (h o is course)

  pub halted_first : (e : StepError) (v w : View cache_facts backing_facts) → IsHalted e w.seen
      → Did cache_facts backing_facts None v w → HasHalted cache_facts backing_facts e v w
  halted_first (error.Fault device) v w halted did = absurd halted
  halted_first (error.Halted device) v w halted did =
      (halted, inl (done_first cache_facts backing_facts None v w did))
  halted_first error.Memory v w halted did = absurd halted

  pub halted_behind : (e : StepError) (before : ℕ) (opened : Option ℕ)
      (u v w : View cache_facts backing_facts)
      → Did cache_facts backing_facts (taking before opened) u v → IsHalted e w.seen
      → Did cache_facts backing_facts None v w → HasHalted cache_facts backing_facts e u w
  halted_behind (error.Fault device) before opened u v w first halted did = absurd halted
  halted_behind (error.Halted device) before None u v w first halted did = (
    halted,
    inl (done_both cache_facts backing_facts [] [] u v w
        (done_first cache_facts backing_facts None u v first)
        (done_first cache_facts backing_facts None v w did)),
  )
  halted_behind (error.Halted device) before (Some k) u v w first halted did = (
    halted,
    inr (
      k - before,
      done_both cache_facts backing_facts (deed.Take list.Plain (k - before) ∷ []) [] u v w
          (done_first cache_facts backing_facts (Some (deed.Take list.Plain (k - before))) u v first)
          (done_first cache_facts backing_facts None v w did),
    ),
  )
  halted_behind error.Memory before opened u v w first halted did = absurd halted

  -- ---- between borrowing the buckets and returning them

  pub done_between : (ds : List Deed) (u v w x : View cache_facts backing_facts)
      → Waited (m cache_facts backing_facts) u v → HasDone cache_facts backing_facts ds v w
      → Waited (m cache_facts backing_facts) w x → HasDone cache_facts backing_facts ds u x
  done_between ds u v w x first done last =
      subst (λ es. HasDone cache_facts backing_facts es u x) (append-nil ds)
      (done_both cache_facts backing_facts ds [] u w x
      (done_both cache_facts backing_facts [] ds u v w
      (waited (m cache_facts backing_facts) u v first) done)
      (waited (m cache_facts backing_facts) w x last))

  -- what is known in the state that the seat has seen goes on where it has seen no more
  pub known_returned : (w x : View cache_facts backing_facts) (P : ℕ → Origin → core.State → Type 0)
      → Waited (m cache_facts backing_facts) w x → x.seen ≡ w.seen
      → FromEach (world cache_facts backing_facts w) (P w.first)
      → FromEach (world cache_facts backing_facts x) (P x.first)
  known_returned w x P last seen h = subst (λ i. FromEach (world cache_facts backing_facts x) (P i))
      (sym last.same.first)
      (subst (λ (y : World). FromEach y (P w.first))
      (sym (seen_alike (m cache_facts backing_facts) w x last.same seen)) h)

  pub placed_between : (before count : ℕ) (r : Result Placed NoBucket)
      (u v w x : View cache_facts backing_facts) → ((k : ℕ) → Holds u.parts k → Holds v.parts k)
      → Waited (m cache_facts backing_facts) u v
      → HasPlaced cache_facts backing_facts before count r v w
      → Waited (m cache_facts backing_facts) w x → x.seen ≡ w.seen → x.heard ≡ w.heard
      → IsCoreSeat cache_facts backing_facts x
      → HasPlaced cache_facts backing_facts before count r u x
  placed_between before count (Ok p) u v w x still first h last seen told seat = record {
    full = h.full;
    is = h.is;
    done = done_between (taken_by before p.opened ++ deed.Pin p.ptr.offset p.count h.full ∷ []) u v w
        x first h.done last;
  }
  placed_between before count (Err none) u v w x still first h last seen told seat = (
    h.0,
    did_between cache_facts backing_facts None u v w x still first h.1 last seen told seat,
    known_returned w x (λ i. HasNoBucket) last seen h.2,
  )

  pub halted_between : (e : StepError) (u v w x : View cache_facts backing_facts)
      → Waited (m cache_facts backing_facts) u v → HasHalted cache_facts backing_facts e v w
      → Waited (m cache_facts backing_facts) w x → x.seen ≡ w.seen
      → HasHalted cache_facts backing_facts e u x
  halted_between (error.Fault device) u v w x first h last seen = absurd h
  halted_between (error.Halted device) u v w x first (halted, inl done) last seen =
      (ap halt_of seen ∙ halted, inl (done_between [] u v w x first done last))
  halted_between (error.Halted device) u v w x first (halted, inr (q, done)) last seen = (
    ap halt_of seen ∙ halted,
    inr (q, done_between (deed.Take list.Plain q ∷ []) u v w x first done last),
  )
  halted_between error.Memory u v w x first h last seen = absurd h
