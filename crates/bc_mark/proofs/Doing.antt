-- When a step of a round may be done, and what the buckets stand for behind it.
use Rattle.std.proofs.Common.{◌≡◌, ◌≢◌, ℕ, ◌≤◌, ◌==◌, Bool, true, false, Some, refl, sym, ◌∙◌, arith}
use Rattle.std.specs.Prelude.{if◌then◌else◌}
use Rattle.std.proofs.lemmas.Bool.{lt-ltb}
use Rattle.bc_alloc.proofs.Times.{by_test}
use Rattle.bc_books.specs.Books as book
use Rattle.bc_books.specs.Books.{Step}
use Rattle.bc_books.specs.Enabled.{CanStep}
use Rattle.bc_disk.specs.Disk.{DiskFacts}
use Rattle.bc_events.specs.declared.event.Deed.TheVariants as deed
use Rattle.bc_events.specs.declared.event.MarkForm.{MarkForm}
use Rattle.bc_events.specs.declared.event.MarkForm.TheVariants as mark
use Rattle.bc_parts.specs.Seat.{Holds}
use Rattle.bc_place.proofs.Knowing.{buckets_since, few, known_committed, may_from}
use Rattle.bc_place.proofs.Parts.{order_course}
use Rattle.bc_place.proofs.of_bc_hand.Knowing.{View, m}
use Rattle.bc_place.specs.bc_hand.Seats.{Did, IsCoreSeat, MayDo, world}
use Rattle.bc_place.specs.bc_machine.Containers.{AreBucketsOf}
use Rattle.bc_place.specs.bc_machine.World.{AreBuckets, FromEach, IsCourseOf, IsOrigin, Origin, World, are_plain, replay}
use Rattle.bc_place.specs.bc_machine.declared.part.BucketsPart.{BucketsPart}
use Rattle.bc_rounds.proofs.Rounds.{law_begun, law_dropped, law_ended}
use Rattle.bc_rounds.specs.Rounds.{HasBegun, HasDropped}
use Rattle.bc_seats.specs.Seats.{Since}
use Rattle.bc_shares.specs.Shares.{BucketsShare, books_of}
use Rattle.bc_mark.specs.Steps.{IsOver, MayEnd}
use Rattle.bc_mark.proofs.Lasting.{Firm, OfBuckets, since_held}

-- what it is to the books
abbrev step_of : MarkForm → Step
step_of mark.Begin = book.Begin
step_of (mark.Walk leaf) = book.Walk leaf
step_of mark.End = book.End
step_of mark.Drop = book.Drop

-- it changes the buckets alone
pub buckets_changed : (k : ℕ) → (if k == 0 then false else (if k == 1 then false
    else (if k == 2 then true else (if k == 3 then false else (if k == 4 then false
    else (if k == 5 then false else false)))))) ≡ (k == 2)
buckets_changed k = only 0 (λ is. cc) (only 1 (λ is. cc) (same (k == 2)))
  where
    off : (b : Bool) → (if b then false else false) ≡ false
    off true = refl
    off false = refl

    none : (a b c : Bool) → (if a then false else (if b then false else (if c then false else
        false)))
        ≡ false
    none true b c = refl
    none false true c = refl
    none false false c = off c

    same : (b : Bool) → (if b then true else (if k == 3 then false else (if k == 4 then false
        else (if k == 5 then false else false)))) ≡ b
    same true = refl
    same false = none (k == 3) (k == 4) (k == 5)

    only : (n : ℕ) {rest : Bool} → n ≢ 2 → rest ≡ (k == 2)
        → (if k == n then false else rest) ≡ (k == 2)
    only n {rest} ne is = by_test k n (λ b. (if b then false else rest) ≡ (k == 2))
        (λ at. sym (by_test k 2 (λ b. b ≡ false) (λ two. absurd (ne (sym at ∙ two)))
        (λ no. refl))) (λ no. is)

-- what has to hold for the end, whatever more becomes durable
pub record Over (next : ℕ) (o : Origin) (x : BucketsShare) (durable : ℕ) : Type 0 where
  pub all : o.opening.machine.flow.books.size ≤ next
  pub firm : x.round.upto ≤ durable

over_firm : (next : ℕ) → Firm (Over next)
over_firm next = record {
  more = λ o x a b low h. record {
    all = h.all;
    firm = let was = h.firm in omega (arith, was, low);
  };
}

module _ {C B : Type 0} (cache_facts : C → DiskFacts) (backing_facts : B → DiskFacts)
    (v : View cache_facts backing_facts) (seat : IsCoreSeat cache_facts backing_facts v)
    (cached : are_plain cache_facts backing_facts v.run.start ≡ false) where
  -- it may be done where the books allow its step
  pub may_mark : (form : MarkForm)
      → ((o : Origin) (x : World) → Since (m cache_facts backing_facts) v x → IsOrigin x o
      → IsCourseOf o x.log
      → CanStep o.opening.machine.flow.books (books_of (replay o x.log).machine) (step_of form))
      → MayDo cache_facts backing_facts v (deed.Mark form)
  may_mark mark.Begin can = may_from cache_facts backing_facts v cached (deed.Mark mark.Begin) refl
      (λ o x since is course running. (
        record {
          seat = lt-ltb v.first 320 (few cache_facts backing_facts v seat);
          course = (
            record {
              data_allows = (
                record { heard = running; steps = (can o x since is course, tt); can = tt },
                tt,
              );
              asks = refl;
            },
            tt,
          );
          fit = tt;
          its_line = tt;
          plain = λ plain. (tt, tt);
        },
        tt,
        tt,
      ))
  may_mark (mark.Walk leaf) can = may_from cache_facts backing_facts v cached
      (deed.Mark (mark.Walk leaf)) refl
      (λ o x since is course running. (
        record {
          seat = lt-ltb v.first 320 (few cache_facts backing_facts v seat);
          course = (
            record {
              data_allows = (
                record { heard = running; steps = (can o x since is course, tt); can = tt },
                tt,
              );
              asks = refl;
            },
            tt,
          );
          fit = tt;
          its_line = tt;
          plain = λ plain. (tt, tt);
        },
        tt,
        tt,
      ))
  may_mark mark.End can = may_from cache_facts backing_facts v cached (deed.Mark mark.End) refl
      (λ o x since is course running. (
        record {
          seat = lt-ltb v.first 320 (few cache_facts backing_facts v seat);
          course = (
            record {
              data_allows = (
                record { heard = running; steps = (can o x since is course, tt); can = tt },
                tt,
              );
              asks = refl;
            },
            tt,
          );
          fit = tt;
          its_line = tt;
          plain = λ plain. (tt, tt);
        },
        tt,
        tt,
      ))
  may_mark mark.Drop can = may_from cache_facts backing_facts v cached (deed.Mark mark.Drop) refl
      (λ o x since is course running. (
        record {
          seat = lt-ltb v.first 320 (few cache_facts backing_facts v seat);
          course = (
            record {
              data_allows = (
                record { heard = running; steps = (can o x since is course, tt); can = tt },
                tt,
              );
              asks = refl;
            },
            tt,
          );
          fit = tt;
          its_line = tt;
          plain = λ plain. (tt, tt);
        },
        tt,
        tt,
      ))

  module _ (holds : Holds v.parts 2) (p : BucketsPart)
      (on : AreBuckets p (world cache_facts backing_facts v)) where
    pub on_since : (x : World) → Since (m cache_facts backing_facts) v x → AreBuckets p x
    on_since x since = buckets_since cache_facts backing_facts v seat holds p on x since

    -- the part tells whether a round is open
    going_at : (going : Bool) → p.round.going ≡ going → (o : Origin) (x : World)
        → Since (m cache_facts backing_facts) v x → IsOrigin x o → IsCourseOf o x.log
        → (books_of (replay o x.log).machine).round.going ≡ going
    going_at going is o x since origin course = (on_since x since o origin course).round.going ∙ is

    -- ---- a round begins

    pub may_begin : p.round.going ≡ false → MayDo cache_facts backing_facts v (deed.Mark mark.Begin)
    may_begin none = may_mark mark.Begin (going_at false none)

    pub stand_begun : (w : View cache_facts backing_facts)
        → Did cache_facts backing_facts (Some (deed.Mark mark.Begin)) v w → (q : BucketsPart)
        → HasBegun p q → AreBuckets q (world cache_facts backing_facts w)
    stand_begun w did q is = known_committed cache_facts backing_facts v w (deed.Mark mark.Begin)
        (λ o st. AreBucketsOf o.opening.machine (books_of st.machine) q) did
        (λ o origin course. law_begun o.opening.machine
        (books_of (replay o did.is.before.log).machine) p q
        (on_since did.is.before did.is.since o origin course) is)

    -- ---- it is given up

    pub may_drop : p.round.going ≡ true → MayDo cache_facts backing_facts v (deed.Mark mark.Drop)
    may_drop going = may_mark mark.Drop (going_at true going)

    pub stand_dropped : (w : View cache_facts backing_facts)
        → Did cache_facts backing_facts (Some (deed.Mark mark.Drop)) v w → (q : BucketsPart)
        → HasDropped p q → AreBuckets q (world cache_facts backing_facts w)
    stand_dropped w did q is = known_committed cache_facts backing_facts v w (deed.Mark mark.Drop)
        (λ o st. AreBucketsOf o.opening.machine (books_of st.machine) q) did
        (λ o origin course. law_dropped o.opening.machine
        (books_of (replay o did.is.before.log).machine) p q
        (on_since did.is.before did.is.since o origin course) is)

    -- ---- it ends

    module _ (going : p.round.going ≡ true)
        (may : FromEach (world cache_facts backing_facts v) (MayEnd p)) where
      over_since : (x : World) → Since (m cache_facts backing_facts) v x
          → FromEach x (OfBuckets (Over p.round.next))
      over_since x since = since_held cache_facts backing_facts (Over p.round.next)
          (over_firm p.round.next) v seat holds x since (λ o is course. record {
            all = (may o is course).all;
            firm = (may o is course).firm;
          })

      pub may_end : MayDo cache_facts backing_facts v (deed.Mark mark.End)
      may_end = may_mark mark.End (λ o x since is course.
          let over = over_since x since o is course in
          let round = (on_since x since o is course).round in record {
            going = going_at true going o x since is course;
            walked = λ s inside. round.walked s
                (let all = over.all in omega (arith, inside, all));
            firm = over.firm;
          })

      pub stand_ended : (w : View cache_facts backing_facts)
          → Did cache_facts backing_facts (Some (deed.Mark mark.End)) v w → (q : BucketsPart)
          → IsOver p q → AreBuckets q (world cache_facts backing_facts w)
      stand_ended w did q is = known_committed cache_facts backing_facts v w (deed.Mark mark.End)
          (λ o st. AreBucketsOf o.opening.machine (books_of st.machine) q) did
          (λ o origin course.
          let was = on_since did.is.before did.is.since o origin course in
          law_ended o.opening.machine (books_of (replay o did.is.before.log).machine) p q
          (order_course o origin.sound did.is.before.log course)
          (going_at true going o did.is.before did.is.since origin course) was
          (is was.round.long))
