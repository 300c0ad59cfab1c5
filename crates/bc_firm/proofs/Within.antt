-- Claims and candidates have sectors of the backing device alone.
use Rattle.std.proofs.Common.{◌≡◌, ℕ, ◌+◌, ◌<◌, ◌≤◌, Bool, true, false, List, [], ◌∷◌, Some, refl, sym, subst, arith}
use Rattle.std.specs.Prelude.{◌==◌, if◌then◌else◌}
use Rattle.bc_books.specs.Index.{run_place}
use Rattle.bc_data.specs.Data as flow
use Rattle.bc_data.specs.Seats.{Candidate, Seat, new_claim, put_seat}
use Rattle.bc_deed.specs.bc_hand.Seats.{by}
use Rattle.bc_deed.specs.bc_machine.Frame.{Claims, Range, SameFlight, by_test, range_at, range_of, stays_event}
use Rattle.bc_deed.specs.bc_machine.World.{IsCourseOf, Kept, Origin, World, kept_of, replay, touches_flight}
use Rattle.bc_events.specs.Acts.{claimed, is_exclusive}
use Rattle.bc_events.specs.Run as core
use Rattle.bc_events.specs.declared.event.Deed.{Deed}
use Rattle.bc_events.specs.declared.event.Deed.TheVariants as deed
use Rattle.bc_events.specs.declared.event.Event.{Event}
use Rattle.bc_events.specs.declared.event.UnpinKind.TheVariants as unpin
use Rattle.bc_known.specs.Run as machine
use Rattle.bc_firm.specs.Laws.{LawInside}

module _ (size : ℕ) where
  abbrev Fits : Range → Type 0
  Fits r = r.first + r.count ≤ size

  -- a candidate that stands has no sector behind the last one
  abbrev HasInside : Kept → Type 0
  HasInside k = (s t : ℕ) → k.stands ≡ true → run_place k.first k.place k.count s ≡ Some t
      → s < size

  record IsWithin (a : flow.State) : Type 0 where
    pub claims : (n : ℕ) → Fits (range_at a.seats n)
    pub candidates : (c : ℕ) → HasInside (kept_of (a.candidates c))

  same_within : (a b : flow.State) → SameFlight a b → IsWithin a → IsWithin b
  same_within a b same h = record {
    claims = λ n. subst Fits (sym (same.ranges n)) (h.claims n);
    candidates = λ c. subst HasInside (sym (same.candidates c)) (h.candidates c);
  }

  put_within : (seats : ℕ → Seat) (i : ℕ) (x : Seat) → Fits (range_of x.claim)
      → ((n : ℕ) → Fits (range_at seats n)) → (n : ℕ) → Fits (range_at (put_seat seats i x) n)
  put_within seats i x one rest n = by_test n i
      (λ b. Fits (range_of (if b then x else seats n).claim)) (λ _. one) (λ _. rest n)

  same_seat : (seats : ℕ → Seat) (i : ℕ) → ((n : ℕ) → Fits (range_at seats n)) → (n : ℕ)
      → Fits (range_at (put_seat seats i (seats i)) n)
  same_seat seats i rest n = put_within seats i (seats i) (rest i) rest n

  not_true : false ≡ true → ⊥
  not_true is = cc

  -- one that stands no more
  gone : (xs : ℕ → Candidate) (number : ℕ) → ((c : ℕ) → HasInside (kept_of (xs c))) → (c : ℕ)
      → HasInside (kept_of (if c == number then (record (xs number) { stands = false }) else xs c))
  gone xs number rest c = by_test c number
      (λ b. HasInside (kept_of (if b then (record (xs number) { stands = false }) else xs c)))
      (λ _ s t is at. absurd (not_true is)) (λ _. rest c)

  module _ (o : Origin) (cached : o.opening.machine.flow.plain ≡ false)
      (size_is : o.opening.machine.flow.books.size ≡ size) (st : core.State) (i : ℕ)
      (h : IsWithin st.machine.whole.flow) where
    abbrev then_ : Deed → flow.State
    then_ d = (core.after o.opening st (by i d)).machine.whole.flow

    abbrev On : Deed → Type 0
    On d = core.IsEnabled o.opening st (by i d)

    claim_within : (leaf first count : ℕ) (exclusive : Bool) (b : Bool) → b ≡ false
        → machine.IsRun o.opening.machine st.machine
        (core.by i (claimed b leaf first count exclusive))
        → IsWithin (machine.run o.opening.machine st.machine
        (core.by i (claimed b leaf first count exclusive))).whole.flow
    claim_within leaf first count exclusive true is on = absurd (cc)
    claim_within leaf first count exclusive false is on = record {
      claims = put_within st.machine.whole.flow.seats i
          (record (st.machine.whole.flow.seats i) { claim = new_claim first count exclusive })
          (let inside = on.0.data_allows.0.can.inside in omega (arith, inside, size_is)) h.claims;
      candidates = λ c s t. h.candidates c s t;
    }

    note_within : (candidate first count at : ℕ) → On (deed.Candidate candidate first count at)
        → IsWithin (then_ (deed.Candidate candidate first count at))
    note_within candidate first count at on = record {
      claims = same_seat st.machine.whole.flow.seats i h.claims;
      candidates = λ c. by_test c candidate
          (λ b. HasInside (kept_of (if b then (record {
            first = first;
            count = count;
            place = at;
            stands = true;
            alive = true;
            firm = false;
          }) else st.machine.whole.flow.candidates c)))
          (λ _ s t is there.
          (let covers = (on.course.0.data_allows.0.can.values s t there).covers in
          let high = covers.1 in
          let claim = h.claims i in omega (arith, high, claim)))
          (λ _. h.candidates c);
    }

    deed_within : (x : World) → x.opening ≡ o.opening → x.now ≡ st → (d : Deed) → On d
        → IsWithin (then_ d)
    deed_within x w_is st_is (deed.Claim first count how) on =
        claim_within (st.machine.whole.flow.books.index.leaf first) first count (is_exclusive how)
        o.opening.machine.flow.plain cached on.course
    deed_within x w_is st_is deed.Release on = record {
      claims = put_within st.machine.whole.flow.seats i
          (record (st.machine.whole.flow.seats i) { claim = new_claim 0 0 false }) (omega arith)
          h.claims;
      candidates = h.candidates;
    }
    deed_within x w_is st_is (deed.Candidate candidate first count at) on =
        note_within candidate first count at on
    deed_within x w_is st_is (deed.Settle leaf candidate keys) on = record {
      claims = same_seat st.machine.whole.flow.seats i h.claims;
      candidates = gone st.machine.whole.flow.candidates candidate h.candidates;
    }
    deed_within x w_is st_is (deed.Unpin (unpin.Dead candidate)) on = record {
      claims = same_seat st.machine.whole.flow.seats i h.claims;
      candidates = gone st.machine.whole.flow.candidates candidate h.candidates;
    }
    deed_within x w_is st_is d on = by_frame x w_is st_is d refl
      where
        by_frame : (x : World) → x.opening ≡ o.opening → x.now ≡ st → (d : Deed)
            → touches_flight d ≡ false → IsWithin (then_ d)
        by_frame x w_is st_is d off = same_within st.machine.whole.flow (then_ d)
            (subst (λ (w : core.Opening). SameFlight st.machine.whole.flow
            (core.after w st (by i d)).machine.whole.flow) w_is
            (subst (λ (a : core.State). SameFlight a.machine.whole.flow
            (core.after x.opening a (by i d)).machine.whole.flow) st_is
            (stays_event Claims x (by i d) off))) h

  within_at : (x : World) (o : Origin) → o.opening.machine.flow.plain ≡ false
      → o.opening.machine.flow.books.size ≡ size → (es : List Event) → IsCourseOf o es
      → IsWithin (replay o es).machine.whole.flow
  within_at x o cached size_is [] on = record {
    claims = λ n. omega arith;
    candidates = λ c s t is at. absurd (not_true is);
  }
  within_at x o cached size_is (e ∷ es) on =
      deed_within o cached size_is (replay o es) e.seat
      (within_at x o cached size_is es on.2)
      (record x { opening = o.opening; now = replay o es }) refl refl e.deed on.0.enabled

pub law_inside : LawInside
law_inside x o is course c s t stands at =
    (within_at o.opening.machine.flow.books.size x o is.cached refl x.log course).candidates c s t
    stands at
