-- When the core allows a deed: from what the seat noted, and what its parts stand for.
use Rattle.std.proofs.Common.{◌≡◌, ◌≢◌, ◌⊎◌, inl, inr, ℕ, ◌+◌, ◌<◌, ◌≤◌, Bool, true, false, List, [], ◌∷◌, length, Option, Some, None, refl, sym, ap, ◌∙◌, subst, arith}
use Rattle.std.specs.Prelude.{◌==◌, Result, Ok, Err, IfOk, IfErr, if◌then◌else◌}
use Rattle.std.proofs.lemmas.Bool.{lt-ltb}
use Rattle.std.proofs.lemmas.List.{append-nil}
use Rattle.bc_model.specs.Sector.{Value, Gives}
use Rattle.bc_model.proofs.Runs.{at_range}
use Rattle.bc_disk.specs.Disk.{DiskFacts}
use Rattle.bc_parts.specs.Seat.{PartsView, Run, Holds}
use Rattle.bc_seats.specs.Seats.{Since, Waited, Kept}
use Rattle.bc_books.specs.Index.{Pointer}
use Rattle.bc_data.specs.Data as flow
use Rattle.bc_data.specs.Enabled as flow_ask
use Rattle.bc_data.specs.Enabled.{IsBacked}
use Rattle.bc_whole.specs.Together.{is_quiet}
use Rattle.bc_known.specs.Acts.{Alone}
use Rattle.bc_events.specs.Acts.{acts_of}
use Rattle.bc_events.specs.Run.{Opening, IsSome, CanDo, IsFit, IsOf, line_of}
use Rattle.bc_events.specs.declared.event.LineNumber.{LineNumber}
use Rattle.bc_events.specs.declared.event.Deed.{Deed}
use Rattle.bc_events.specs.declared.event.Deed.TheVariants as deed
use Rattle.bc_events.specs.declared.event.Failure.TheVariants as failure
use Rattle.bc_disk.specs.declared.disk.Device.TheVariants as which
use Rattle.bc_hand.specs.bc_machine.declared.part.CorePart.{CorePart}
use Rattle.bc_hand.specs.bc_machine.declared.part.CorePart.TheVariants as part
use Rattle.bc_hand.specs.bc_machine.Plain.{worker_of}
use Rattle.bc_hand.specs.bc_machine.World.{World, CanFollow, EndsItsChange, IsNumbered, data_of, are_plain, opening, after, IsBackingOf, IsBacking}
use Rattle.bc_hand.specs.bc_machine.Standing.{leads_each}
use Rattle.bc_hand.proofs.of_bc_machine.Viewing.{opening_stays, plain_view}
use Rattle.bc_hand.specs.bc_machine.Note.{note_of}
use Rattle.bc_hand.specs.declared.hand.Hand.{Hand}
use Rattle.bc_hand.specs.Seats.{by, world, note, IsCoreSeat, AtDeed, MayDo, Did, Works}
use Rattle.bc_hand.proofs.Knowing.{View, m, framed, opening_seen, is_plain_at, note_waited}
use Rattle.bc_hand.proofs.Lending.{stand_kept}
use Rattle.bc_hand.specs.bc_machine.Frame.{Range, by_test}
use Rattle.bc_model.specs.declared.values.Values.{Values}
use Rattle.bc_seats.proofs.Knowing.{held}
use Rattle.bc_events.specs.Columns.{halt_of}
use Rattle.bc_hand.specs.bc_machine.declared.part.BackingPart.{BackingPart}
use Rattle.bc_hand.specs.declared.error.StepError.{StepError}
use Rattle.bc_hand.specs.declared.error.StepError.TheVariants as error
use Rattle.bc_hand.proofs.Between.{did_between}
use Rattle.bc_deed.specs.Asked.{HasFailed, HasFailedOr, IsLast, IsWithin, MayWrite, size_of}
use Rattle.bc_disk.specs.Disk.{IsRead}
use Rattle.bc_deed.proofs.Devices.{may_have_read}

-- a hand whose backing device was borrowed and returned
pub same_but_backing : {C B : Type 0} (a b c : Hand C B) (o : Option (BackingPart B))
    → b ≡ record a { backing = None } → c ≡ record b { backing = o }
    → c ≡ record a { backing = c.backing }
same_but_backing a b c o lent back = back ∙ ap (λ (h : Hand _ _). record h { backing = o }) lent
    ∙ ap (λ (p : Option (BackingPart _)). record a { backing = p })
    (sym (ap (λ (h : Hand _ _). h.backing) back))

pub map_if_ok : {A E : Type 0} {P Q : A → Type 0} (r : Result A E) → ((a : A) → P a → Q a) → IfOk r P
    → IfOk r Q
map_if_ok (Ok a) f h = f a h
map_if_ok (Err e) f h = tt

pub map_if_err : {A E : Type 0} {P Q : E → Type 0} (r : Result A E) → ((e : E) → P e → Q e) → IfErr r P
    → IfErr r Q
map_if_err (Ok a) f h = tt
map_if_err (Err e) f h = f e h

-- ---- deeds that are one act of the data

pub can_alone : (y : World) (i : ℕ) (d : Deed) (act : flow.Act) → i < 320
    → acts_of y.opening.machine y.now.machine i d ≡ Some (Alone act ∷ []) → is_quiet act ≡ true
    → flow_ask.IsEnabled y.opening.machine.flow (data_of y) i act → IsFit y.opening y.now i d
    → IsOf y.opening i (line_of d) → EndsItsChange y.now.machine.whole.parts d → IsNumbered y.log d
    → CanFollow y (by i d)
can_alone y i d act low is quiet on fit of names number = record {
  enabled = subst (λ o. IsSome o (CanDo y.opening y.now (by i d))) (sym is) (record {
    seat = lt-ltb i 320 low;
    course = (record { data_allows = (on, tt); asks = quiet }, tt);
    fit = fit;
    its_line = of;
    plain = λ _. (tt, tt);
  });
  names = names;
  number = number;
}

-- ---- parts that a deed doesn't change

or_off : (b rest : Bool) → rest ≡ false → (if b then false else rest) ≡ false
or_off true rest off = refl
or_off false rest off = off

pub none_changed : (k : ℕ) → (if k == 0 then false else (if k == 1 then false
    else (if k == 2 then false else (if k == 3 then false else (if k == 4 then false
    else (if k == 5 then false else false)))))) ≡ false
none_changed k = or_off (k == 0) _ (or_off (k == 1) _ (or_off (k == 2) _ (or_off (k == 3) _
    (or_off (k == 4) _ (or_off (k == 5) _ refl)))))

-- one that changes the claims alone, and the backing device alone
pub claims_changed : (k : ℕ) → (if k == 0 then false else (if k == 1 then true
    else (if k == 2 then false else (if k == 3 then false else (if k == 4 then false
    else (if k == 5 then false else false)))))) ≡ (k == 1)
claims_changed k = by_test k 1 (λ b. (if k == 0 then false else (if b then true
    else (if k == 2 then false else (if k == 3 then false else (if k == 4 then false
    else (if k == 5 then false else false)))))) ≡ b)
    (λ is. subst (λ n. (if n == 0 then false else true) ≡ true) (sym is) refl)
    (λ ne. or_off (k == 0) _ (or_off (k == 2) _ (or_off (k == 3) _ (or_off (k == 4) _ (or_off (k == 5) _ refl)))))

pub backing_changed : (k : ℕ) → (if k == 0 then false else (if k == 1 then false
    else (if k == 2 then false else (if k == 3 then false else (if k == 4 then false
    else (if k == 5 then true else false)))))) ≡ (k == 5)
backing_changed k = only 0 (λ is. cc) (only 1 (λ is. cc) (only 2 (λ is. cc) (only 3 (λ is. cc)
    (only 4 (λ is. cc) (same (k == 5))))))
  where
    same : (b : Bool) → (if b then true else false) ≡ b
    same true = refl
    same false = refl

    only : (n : ℕ) {rest : Bool} → n ≢ 5 → rest ≡ (k == 5) → (if k == n then false else rest) ≡ (k == 5)
    only n {rest} ne is = by_test k n (λ b. (if b then false else rest) ≡ (k == 5))
        (λ at. sym (by_test k 5 (λ b. b ≡ false) (λ five. absurd (ne (sym at ∙ five))) (λ no. refl)))
        (λ no. is)

pub other_number : (n k : ℕ) → k ≢ n → (k == n) ≡ false
other_number n k ne = by_test k n (λ b. b ≡ false) (λ is. absurd (ne is)) (λ no. refl)

pub its_number : (n k : ℕ) → (k == n) ≡ true → n ≡ k
its_number n k yes_ = by_test k n (λ b. b ≡ true → n ≡ k) (λ is _. sym is) (λ ne f. absurd (cc)) yes_

covers_in : (r q : Range) (first count s : ℕ) → r ≡ q → IsWithin r first count
    → (first ≤ s) × (s < first + count) → (q.first ≤ s) × (s < q.first + q.count)
covers_in r q first count s is within at = subst (λ (z : Range). (z.first ≤ s) × (s < z.first + z.count)) is
    (let a = within.0 in let b = within.1 in let c = at.0 in let d = at.1 in (omega arith, omega arith))

module _ {C B : Type 0} (cache_facts : C → DiskFacts) (backing_facts : B → DiskFacts) where
  pub plain_seen : (v : View cache_facts backing_facts)
      → (world cache_facts backing_facts v).opening.machine.flow.plain
      ≡ are_plain cache_facts backing_facts v.run.start
  plain_seen v = ap (λ (o : Opening). o.machine.flow.plain)
      (opening_stays (opening cache_facts backing_facts v.run.start) v.seen)

  pub size_at : (v : View cache_facts backing_facts) (d : Deed) (x y : World)
      → AtDeed cache_facts backing_facts v d x y
      → y.opening.machine.flow.books.size ≡ size_of cache_facts backing_facts v.run.start
  size_at v d x y at = at.size ∙ ap (λ (o : Opening). o.machine.flow.books.size)
      (opening_stays (opening cache_facts backing_facts v.run.start) v.seen)

  line_at : (v : View cache_facts backing_facts) (d : Deed) (x y : World) (of : LineNumber)
      → AtDeed cache_facts backing_facts v d x y → worker_of v.first ≡ of.worker
      → y.opening.worker v.first ≡ of.worker
  line_at v d x y of at is = at.worker ∙ ap (λ (o : Opening). o.worker v.first)
      (opening_stays (opening cache_facts backing_facts v.run.start) v.seen) ∙ is

  pub low : (v : View cache_facts backing_facts) → IsCoreSeat cache_facts backing_facts v → v.first < 320
  low v seat = let live = seat.seat.live in let most = seat.numbers in omega arith

  -- ---- what seats say

  pub may_begin_flush : (v : View cache_facts backing_facts) (of : LineNumber)
      → IsCoreSeat cache_facts backing_facts v → worker_of v.first ≡ of.worker
      → MayDo cache_facts backing_facts v (deed.FlushFrom of)
  may_begin_flush v of seat line = λ x y at told. can_alone y v.first (deed.FlushFrom of)
      (flow.Say (flow.BeginFlush of.line)) (low v seat) refl refl
      (record { heard = at.running refl; steps = tt; can = tt }) tt (line_at v (deed.FlushFrom of) x y of at line) tt tt

  pub may_end_flush : (v : View cache_facts backing_facts) (of : LineNumber)
      → IsCoreSeat cache_facts backing_facts v → worker_of v.first ≡ of.worker
      → are_plain cache_facts backing_facts v.run.start ≡ true
      → (note cache_facts backing_facts v).flush.going ≡ true
      → (note cache_facts backing_facts v).flush.line ≡ of.line
      → (note cache_facts backing_facts v).flush.firm ≡ true
      → MayDo cache_facts backing_facts v (deed.FlushDone of)
  may_end_flush v of seat line plain going its firm = λ x y at told. can_alone y v.first (deed.FlushDone of)
      (flow.Say (flow.EndFlush of.line)) (low v seat) refl refl
      (let none = (at.bare told (at.plain ∙ plain)).flushes v.first in record {
        heard = at.running refl;
        steps = tt;
        can = record {
          going = at.note.flush.0 ∙ going;
          its_line = at.note.flush.1 ∙ its;
          keys = omega arith;
          firm = at.note.flush.2 firm;
        };
      }) tt (line_at v (deed.FlushDone of) x y of at line) tt tt

  pub may_acknowledge : (v : View cache_facts backing_facts) (of : LineNumber) (first count : ℕ)
      → IsCoreSeat cache_facts backing_facts v → worker_of v.first ≡ of.worker
      → are_plain cache_facts backing_facts v.run.start ≡ true
      → (note cache_facts backing_facts v).range.exclusive ≡ true
      → (note cache_facts backing_facts v).wrote ≡ true
      → IsLast (note cache_facts backing_facts v).last of.line first count
      → MayDo cache_facts backing_facts v (deed.Durable of first count)
  may_acknowledge v of first count seat line plain alone wrote last = λ x y at told.
      can_alone y v.first (deed.Durable of first count)
      (flow.Say (flow.Acknowledge of.line first count)) (low v seat) refl refl
      (let none = (at.bare told (at.plain ∙ plain)).writes v.first in
      let less = last.its_count in let same = at.note.last.2 in record {
        heard = at.running refl;
        steps = tt;
        can = record {
          exclusive = ap (λ r. r.exclusive) at.note.range ∙ alone;
          wrote = at.note.wrote ∙ wrote;
          its_line = at.note.last.0 ∙ last.its_line;
          its_first = at.note.last.1 ∙ last.its_first;
          its_count = omega arith;
          keys = omega arith;
          firm = at.note.last.3 last.firm;
        };
      }) tt (line_at v (deed.Durable of first count) x y of at line) tt tt

  pub may_begin_line : (v : View cache_facts backing_facts) (of : LineNumber)
      → IsCoreSeat cache_facts backing_facts v → worker_of v.first ≡ of.worker
      → MayDo cache_facts backing_facts v (deed.LineFrom of)
  may_begin_line v of seat line = λ x y at told. record {
    enabled = record {
      seat = lt-ltb v.first 320 (low v seat);
      course = tt;
      fit = at.running refl;
      its_line = line_at v (deed.LineFrom of) x y of at line;
      plain = λ _. tt;
    };
    names = tt;
    number = tt;
  }

  pub may_end_line : (v : View cache_facts backing_facts) (of : LineNumber)
      → IsCoreSeat cache_facts backing_facts v → worker_of v.first ≡ of.worker
      → (world cache_facts backing_facts v).now.line v.first ≡ Some of
      → MayDo cache_facts backing_facts v (deed.LineDone of)
  may_end_line v of seat line begun = λ x y at told. record {
    enabled = record {
      seat = lt-ltb v.first 320 (low v seat);
      course = tt;
      fit = (at.running refl, at.line ∙ begun);
      its_line = line_at v (deed.LineDone of) x y of at line;
      plain = λ _. tt;
    };
    names = tt;
    number = tt;
  }

  -- nothing is cached, so the backing device has what is shown
  backed : (w : Opening) (o : Option Pointer) (s : ℕ) → (o ≡ None) ⊎ (o ≡ w.machine.flow.books.index s)
      → w.machine.flow.books.index s ≡ None → IsBacked o
  backed w o s (inl is) none = subst IsBacked (sym is) tt
  backed w o s (inr is) none = subst IsBacked (sym (is ∙ none)) tt

  -- a plain run is seen as it is alone, and nothing was cached as it began
  none_cached : (v : View cache_facts backing_facts) (x y : World) (d : Deed) (s : ℕ)
      → are_plain cache_facts backing_facts v.run.start ≡ true → AtDeed cache_facts backing_facts v d x y
      → Since (m cache_facts backing_facts) v x → y.opening.machine.flow.books.index s ≡ None
  none_cached v x y d s plain at since =
      let alone = plain_view x y (is_plain_at cache_facts backing_facts v x since ∙ plain) at.view in
      ap (λ (z : World). z.opening.machine.flow.books.index s) alone
      ∙ ap (λ (o : Opening). o.machine.flow.books.index s) (opening_seen cache_facts backing_facts v x since)

  pub may_answer : (v : View cache_facts backing_facts) (of : LineNumber) (first : ℕ) (values : Values)
      → IsCoreSeat cache_facts backing_facts v → worker_of v.first ≡ of.worker
      → are_plain cache_facts backing_facts v.run.start ≡ true
      → (note cache_facts backing_facts v).looked ≡ true
      → IsWithin (note cache_facts backing_facts v).range first (length values)
      → Gives first values (λ s y. (note cache_facts backing_facts v).read s ≡ Some y)
      → MayDo cache_facts backing_facts v (deed.Answer of first values)
  may_answer v of first values seat line plain looked within read = λ x y at told.
      can_alone y v.first (deed.Answer of first values)
      (flow.Say (flow.Answer of.line first values)) (low v seat) refl refl
      (let bare = at.bare told (at.plain ∙ plain) in record {
        heard = at.running refl;
        steps = tt;
        can = (
          at.note.looked ∙ looked,
          λ s value is. (
            covers_in (note cache_facts backing_facts v).range (note_of y v.first).range first (length values) s
                (sym at.note.range) within (at_range first values s value is),
            inl (
              at.note.read s ∙ read s value is,
              backed y.opening _ s (bare.sights v.first s)
                  (none_cached v x y (deed.Answer of first values) s plain at at.since),
            ),
          ),
        );
      }) tt (line_at v (deed.Answer of first values) x y of at line) tt tt

  -- ---- calls of the backing device

  pub may_barrier : (v : View cache_facts backing_facts) → IsCoreSeat cache_facts backing_facts v
      → v.heard ≡ None → MayDo cache_facts backing_facts v deed.BackingBarrier
  may_barrier v seat untold = λ x y at told. can_alone y v.first deed.BackingBarrier flow.BackingBarrier (low v seat)
      refl refl (record { heard = inr (at.late untold); steps = tt; can = tt }) tt tt tt tt

  pub may_fail_barrier : (v : View cache_facts backing_facts) → IsCoreSeat cache_facts backing_facts v
      → v.heard ≡ None → MayDo cache_facts backing_facts v (deed.DeviceFault (failure.Barrier which.Backing))
  may_fail_barrier v seat untold = λ x y at told. can_alone y v.first
      (deed.DeviceFault (failure.Barrier which.Backing)) (flow.Fail flow.BarrierFault) (low v seat)
      refl refl (record { heard = inr (at.late untold); steps = tt; can = tt }) tt tt tt tt

  pub may_fail_read : (v : View cache_facts backing_facts) → IsCoreSeat cache_facts backing_facts v
      → v.heard ≡ None → MayDo cache_facts backing_facts v (deed.DeviceFault (failure.Read which.Backing))
  may_fail_read v seat untold = λ x y at told. can_alone y v.first
      (deed.DeviceFault (failure.Read which.Backing)) (flow.Fail flow.ReadFault) (low v seat)
      refl refl (record { heard = inr (at.late untold); steps = tt; can = tt }) tt tt tt tt

  pub may_read : (v : View cache_facts backing_facts) (b : BackingPart B) (first : ℕ) (values : Values)
      → IsCoreSeat cache_facts backing_facts v → v.heard ≡ None → Holds v.parts 5
      → IsBacking {C = C} cache_facts backing_facts b (world cache_facts backing_facts v)
      → (note cache_facts backing_facts v).looked ≡ true
      → IsWithin (note cache_facts backing_facts v).range first (length values)
      → IsRead (b.offset + first) values (backing_facts b.disk)
      → MayDo cache_facts backing_facts v (deed.BackingRead first values)
  may_read v b first values seat untold holds on looked within is = λ x y at told.
      can_alone y v.first (deed.BackingRead first values) (flow.Learn (flow.BackingRead first values))
      (low v seat) refl refl (record {
        heard = inr (at.late untold);
        steps = tt;
        can = (
          at.note.looked ∙ looked,
          λ s value here. (
            covers_in (note cache_facts backing_facts v).range (note_of y v.first).range first (length values) s
                (sym at.note.range) within (at_range first values s value here),
            may_have_read cache_facts backing_facts b b y v.first ((at.stand 5 (part.Backing b) holds (refl, on)).1 y at.view)
                refl refl first values told is s value here,
          ),
        );
      }) tt tt tt tt

  bypass : (v : View cache_facts backing_facts) (x y : World) (d : Deed) (first : ℕ) (values : Values)
      → AtDeed cache_facts backing_facts v d x y → 0 < length values
      → are_plain cache_facts backing_facts v.run.start ≡ true
      → MayWrite (note cache_facts backing_facts v) first (length values)
      → flow_ask.CanBypass y.opening.machine.flow.plain ((data_of y).seats v.first).claim
      (data_of y).books.journal.durable first values
  bypass v x y d first values at some plain may = record {
    some = λ is. let none = ap (λ (l : List Value). length l) is in absurd (omega arith);
    exclusive = ap (λ r. r.exclusive) at.note.range ∙ may.exclusive;
    first_write = at.note.wrote ∙ may.first_write;
    bare = λ s value here. (
      covers_in (note cache_facts backing_facts v).range (note_of y v.first).range first (length values) s
          (sym at.note.range) may.covered (at_range first values s value here),
      inl (at.plain ∙ plain),
    );
  }

  pub may_write : (v : View cache_facts backing_facts) (first : ℕ) (of : LineNumber) (values : Values)
      → IsCoreSeat cache_facts backing_facts v → v.heard ≡ None → worker_of v.first ≡ of.worker
      → are_plain cache_facts backing_facts v.run.start ≡ true → 0 < length values → MayWrite (note cache_facts backing_facts v) first (length values)
      → MayDo cache_facts backing_facts v (deed.BackingWrite first (Some of) values)
  may_write v first of values seat untold line plain some may = λ x y at told.
      can_alone y v.first (deed.BackingWrite first (Some of) values)
      (flow.BackingWrite (flow.Around of.line) first values) (low v seat) refl refl (record {
        heard = inr (at.late untold);
        steps = tt;
        can = bypass v x y (deed.BackingWrite first (Some of) values) first values at some plain may;
      }) tt (line_at v (deed.BackingWrite first (Some of) values) x y of at line) tt tt

  pub may_fail_write : (v : View cache_facts backing_facts) (first : ℕ) (of : LineNumber) (values : Values)
      → IsCoreSeat cache_facts backing_facts v → v.heard ≡ None → worker_of v.first ≡ of.worker
      → are_plain cache_facts backing_facts v.run.start ≡ true → 0 < length values → MayWrite (note cache_facts backing_facts v) first (length values)
      → MayDo cache_facts backing_facts v (deed.DeviceFault (failure.BackingWrite first (Some of) values))
  may_fail_write v first of values seat untold line plain some may = λ x y at told.
      can_alone y v.first (deed.DeviceFault (failure.BackingWrite first (Some of) values))
      (flow.Fail (flow.BackingFault (flow.Around of.line) first values)) (low v seat) refl refl (record {
        heard = inr (at.late untold);
        steps = tt;
        can = bypass v x y (deed.DeviceFault (failure.BackingWrite first (Some of) values)) first values at some plain may;
      }) tt (line_at v (deed.DeviceFault (failure.BackingWrite first (Some of) values)) x y of at line) tt tt

  -- how many sectors the data are
  pub size_is : (v : View cache_facts backing_facts) (b : BackingPart B)
      → IsBacking {C = C} cache_facts backing_facts b (world cache_facts backing_facts v)
      → b.size ≡ size_of cache_facts backing_facts v.run.start
  size_is v b on = (on (world cache_facts backing_facts v) (inl refl)).size
      ∙ ap (λ (o : Opening). o.machine.flow.books.size)
      (opening_stays (opening cache_facts backing_facts v.run.start) v.seen)

  -- ---- behind a commit

  pub kept_as : (v w : View cache_facts backing_facts) (a b : ℕ → Bool) → ((k : ℕ) → a k ≡ b k)
      → Kept (m cache_facts backing_facts) v w a → Kept (m cache_facts backing_facts) v w b
  kept_as v w a b same kept = record {
    seat = kept.seat;
    same = kept.same;
    parts = kept.parts;
    rest = λ k p holds off on. kept.rest k p holds (same k ∙ off) on;
  }

  -- who holds the part that a deed changes, holds each that it changes
  pub holds_only : (parts : List ℕ) (n : ℕ) (changed : ℕ → Bool) → ((k : ℕ) → changed k ≡ (k == n))
      → Holds parts n → (k : ℕ) → changed k ≡ true → Holds parts k
  holds_only parts n changed same holds k on =
      subst (Holds parts) (its_number n k (sym (same k) ∙ on)) holds

  -- the run of a seat that works is the one of the parts
  pub plain_by : (p : PartsView (CorePart C B)) (v : View cache_facts backing_facts) → v.run ≡ p.run
      → are_plain cache_facts backing_facts p.run.start ≡ true
      → are_plain cache_facts backing_facts v.run.start ≡ true
  plain_by p v run plain = ap (λ (r : Run (CorePart C B)). are_plain cache_facts backing_facts r.start) run ∙ plain

  pub works_kept : (p : PartsView (CorePart C B)) (v w : View cache_facts backing_facts) (h : Hand C B)
      (changed : ℕ → Bool) → Works cache_facts backing_facts p v h → IsCoreSeat cache_facts backing_facts w
      → Kept (m cache_facts backing_facts) v w changed → ((k : ℕ) → changed k ≡ false)
      → Works cache_facts backing_facts p w h
  works_kept p v w h changed works seat kept off = record {
    run = kept.same.run ∙ works.run;
    seat = seat;
    parts = kept.parts ∙ works.parts;
    stand = stand_kept cache_facts backing_facts v w h changed kept
        (λ k holds. subst (λ ks. Holds ks k) (sym works.parts) holds) (λ k holds. off k) works.stand;
  }

  -- the data of a part lie on its device
  pub on_disk : (v : View cache_facts backing_facts) (b : BackingPart B)
      → IsBacking {C = C} cache_facts backing_facts b (world cache_facts backing_facts v)
      → b.offset + b.size ≤ (backing_facts b.disk).sectors
  on_disk v b on = let h = on (world cache_facts backing_facts v) (inl refl) in
      subst (λ n. b.offset + b.size ≤ n) (sym h.stands.sectors) h.inside

  -- nothing was done
  pub did_nothing : (v : View cache_facts backing_facts) → IsCoreSeat cache_facts backing_facts v
      → Did cache_facts backing_facts None v v
  did_nothing v seat = record {
    is = record {
      same = record { run = refl; first = refl; end = refl };
      promises = refl;
      own = refl;
      since = record { others = []; is = refl; follow = tt; foreign = λ k d lt. absurd (omega (arith, lt)) };
      grown = record { more = []; seen = sym (append-nil v.seen); rest = λ n low high. refl };
      heard = λ none. none;
    };
    seat = seat;
  }

  -- a part that a deed changed, behind its commit
  pub committed_backing : (v w : View cache_facts backing_facts) (b new : BackingPart B) (d : Deed)
      → IsCoreSeat cache_facts backing_facts v
      → Holds v.parts 5 → IsBacking {C = C} cache_facts backing_facts b (world cache_facts backing_facts v)
      → Did cache_facts backing_facts (Some d) v w
      → ((x : World) → IsBackingOf {C = C} cache_facts backing_facts b x
      → IsBackingOf {C = C} cache_facts backing_facts new (after x (by v.first d)))
      → IsBacking {C = C} cache_facts backing_facts new (world cache_facts backing_facts w)
  committed_backing v w b new d seat holds on did step = subst (IsBacking {C = C} cache_facts backing_facts new)
      (sym did.is.state) (leads_each did.is.before (by v.first d) (IsBackingOf {C = C} cache_facts backing_facts b)
      (IsBackingOf {C = C} cache_facts backing_facts new) (λ y view on. step y on)
      (held (m cache_facts backing_facts) (framed cache_facts backing_facts) v did.is.before 5
      (part.Backing b) seat.seat did.is.since holds (refl, on)).1)

  -- ---- a step between borrowing a part and returning it

  pub failed_between : (error : StepError) (d : Deed) (u v w x : View cache_facts backing_facts)
      → ((k : ℕ) → Holds u.parts k → Holds v.parts k) → Waited (m cache_facts backing_facts) u v
      → HasFailed cache_facts backing_facts error d v w → Waited (m cache_facts backing_facts) w x
      → x.seen ≡ w.seen → x.heard ≡ w.heard → IsCoreSeat cache_facts backing_facts x
      → HasFailed cache_facts backing_facts error d u x
  failed_between (error.Fault device) d u v w x still first h last seen told seat =
      (h.0, did_between cache_facts backing_facts (Some d) u v w x still first h.1 last seen told seat)
  failed_between (error.Halted device) d u v w x still first h last seen told seat =
      (ap halt_of seen ∙ h.0, did_between cache_facts backing_facts None u v w x still first h.1 last seen told seat)
  failed_between error.Memory d u v w x still first h last seen told seat = absurd h

  pub failed_or_between : (error : StepError) (d : Deed) (u v w x : View cache_facts backing_facts)
      → ((k : ℕ) → Holds u.parts k → Holds v.parts k) → Waited (m cache_facts backing_facts) u v
      → HasFailed cache_facts backing_facts error d v w → Waited (m cache_facts backing_facts) w x
      → x.seen ≡ w.seen → x.heard ≡ w.heard → IsCoreSeat cache_facts backing_facts x
      → HasFailedOr cache_facts backing_facts error d u x
  failed_or_between (error.Fault device) d u v w x still first h last seen told seat =
      (h.0, did_between cache_facts backing_facts (Some d) u v w x still first h.1 last seen told seat)
  failed_or_between (error.Halted device) d u v w x still first h last seen told seat =
      (ap halt_of seen ∙ h.0, did_between cache_facts backing_facts None u v w x still first h.1 last seen told seat)
  failed_or_between error.Memory d u v w x still first h last seen told seat = absurd h

  -- what holds of a note holds behind waiting
  pub size_waited : (v u : View cache_facts backing_facts) (b : BackingPart B)
      → Waited (m cache_facts backing_facts) v u
      → IsBacking {C = C} cache_facts backing_facts b (world cache_facts backing_facts u)
      → b.size ≡ size_of cache_facts backing_facts v.run.start
  size_waited v u b waited on = size_is u b on
      ∙ ap (λ (r : Run (CorePart C B)). size_of cache_facts backing_facts r.start) waited.same.run

  pub may_write_waited : (v u : View cache_facts backing_facts) (first count : ℕ)
      → IsCoreSeat cache_facts backing_facts v → Waited (m cache_facts backing_facts) v u
      → MayWrite (note cache_facts backing_facts v) first count
      → MayWrite (note cache_facts backing_facts u) first count
  may_write_waited v u first count seat waited may =
      let firm = note_waited cache_facts backing_facts v u seat waited in record {
        exclusive = ap (λ r. r.exclusive) firm.range ∙ may.exclusive;
        first_write = firm.wrote ∙ may.first_write;
        covered = subst (λ r. IsWithin r first count) (sym firm.range) may.covered;
      }
