-- The laws on claims.
use Rattle.std.proofs.Common.{◌≡◌, ◌≢◌, inl, inr, ℕ, Bool, true, false, Option, Some, None, [], ◌∷◌, refl, sym, ◌∙◌, subst, arith}
use Rattle.bc_model.proofs.Cases.{by_test}
use Rattle.bc_model.specs.Sector.{Value, at_run}
use Rattle.bc_books.specs.Index.{Pointer}
use Rattle.bc_data.specs.Enabled.{Fits}
use Rattle.bc_flight.specs.Claims.{is_exclusive}
use Rattle.bc_flight.specs.declared.claim.Share.{Share}
use Rattle.bc_flight.specs.declared.claim.Share.TheVariants.{Shared, Exclusive}
use Rattle.bc_data.specs.Seats.{Claim, Apart, Covers, new_claim}
use Rattle.bc_data.specs.Data as flow
use Rattle.bc_data.specs.After as flow_step
use Rattle.bc_data.specs.Example.{plain_pair, one_value}
use Rattle.bc_data.proofs.Asked.{other}
use Rattle.bc_meta.specs.Layout.{Layout}
use Rattle.bc_meta.specs.Laws as meta
use Rattle.bc_leaves.specs.Parts as parts
use Rattle.bc_whole.proofs.Kept.{truthful}
use Rattle.bc_known.proofs.Law.{inv_at}
use Rattle.bc_known.specs.Run as machine
use Rattle.bc_events.specs.Acts.{claimed}
use Rattle.bc_events.specs.Example.{unused_cache, written, by_seat_1}
use Rattle.bc_events.specs.Run.{Opening, State, start, by, IsEnabled, run}
use Rattle.bc_events.specs.declared.event.Deed.{Deed}
use Rattle.bc_events.specs.declared.event.Deed.TheVariants as deed
use Rattle.bc_events.specs.declared.event.Failure.TheVariants as failure
use Rattle.bc_events.proofs.Example as example
use Rattle.bc_always.specs.Claims.{claimed_by, value_of, LawAlone, claim_by_2, released, HasTwoSeats, LawClaims, LawApart, LawTwoSeats}
use Rattle.bc_always.proofs.Raise.{at_state}

none_some : (v : Value) → None ≡ Some v → ⊥
none_some v e = cc

-- both rows of a claim begin with it
first_act : (w : Opening) (st : State) (i first count leaf : ℕ) (exclusive plain : Bool)
    → machine.IsRun w.machine st.machine (by i (claimed plain leaf first count exclusive))
    → (k : ℕ) → k ≢ i → Apart (new_claim first count exclusive) (claimed_by st k)
first_act w st i first count leaf exclusive false on = on.0.data_allows.0.can.apart
first_act w st i first count leaf exclusive true on = on.0.data_allows.0.can.apart

pub law_claims : LawClaims
law_claims w st i first count how on =
    first_act w st i first count (st.machine.whole.flow.books.index.leaf first) (is_exclusive how)
    w.machine.flow.plain on.course

pub law_apart : LawApart
law_apart w x n es sound on i k ne =
    let st = (run w (start w x n) es).machine.whole in
    let inv = inv_at w.machine x st sound (at_state w x n es sound on).at in
    (truthful w.machine x st.flow sound.whole inv.flow).apart i k ne

-- the sectors that keys and values cover are the seat's
fitting : (w : flow.Opening) (st : flow.State) (i s : ℕ) (v : Value) (o : Option (Option Pointer))
    (q : Option Value) → q ≡ Some v → Fits w st i s o q → Covers (flow.claim_of st i) s
fitting w st i s v None None e fits = absurd (none_some v e)
fitting w st i s v None (Some x) e fits = absurd fits
fitting w st i s v (Some o) None e fits = absurd (none_some v e)
fitting w st i s v (Some o) (Some x) e fits = fits.covers

-- a seat's exclusive claim is apart from another's that has the sector
only_one : (a b : Claim) (s : ℕ) → a.exclusive ≡ true → Covers a s → Apart a b → Covers b s → ⊥
only_one a b s alone mine (inl both) its = let shared = both.0 in absurd (cc)
only_one a b s alone mine (inr none) its = none s mine its

-- of a write the seat's claim is exclusive, and has the sector
record IsMine (st : State) (i s : ℕ) : Type 0 where
  alone : (claimed_by st i).exclusive ≡ true
  covers : Covers (claimed_by st i) s

is_mine : (w : Opening) (st : State) (i : ℕ) (d : Deed)
    → IsEnabled w st (record { seat = i; deed = d }) → (s : ℕ) (v : Value)
    → value_of d s ≡ Some v → IsMine st i s
is_mine w st i (deed.InsertWrite leaf keys of first values) on s v e =
    let can = on.course.0.data_allows.0.can in record {
      alone = can.exclusive;
      covers = fitting w.machine.flow st.machine.whole.flow i s v _ (at_run first values s) e
          (can.fits s);
    }
is_mine w st i (deed.BackingWrite first None values) on s v e = absurd (none_some v e)
is_mine w st i (deed.BackingWrite first (Some of) values) on s v e =
    let can = on.course.0.data_allows.0.can in
    record { alone = can.exclusive; covers = (can.bare s v e).0 }
is_mine w st i (deed.DeviceFault (failure.BackingWrite first (Some of) values)) on s v e =
    let can = on.course.0.data_allows.0.can in
    record { alone = can.exclusive; covers = (can.bare s v e).0 }
is_mine w st i (deed.DeviceFault (failure.BackingWrite first None values)) on s v e =
    absurd (none_some v e)
is_mine w st i (deed.DeviceFault f) on s v e = absurd (none_some v e)
is_mine w st i d on s v e = absurd (none_some v e)

pub law_alone : LawAlone
law_alone w x n es sound on i d may s v e k ne =
    let st = run w (start w x n) es in
    let mine = is_mine w st i d may s v e in
    only_one (claimed_by st i) (claimed_by st k) s mine.alone mine.covers
    (law_apart w x n es sound on i k (λ same. ne (sym same)))

-- ---- two seats

-- sector 0 is in both claims, and the first is exclusive
conflict : (c : Claim) → c.first ≡ 0 → c.count ≡ 1 → c.exclusive ≡ true → (exclusive : Bool)
    → Apart (new_claim 0 1 exclusive) c → ⊥
conflict c first count alone exclusive (inl both) = absurd (let shared = both.1 in cc)
conflict c first count alone exclusive (inr none) =
    none 0 (omega arith, omega arith) (omega arith, omega arith)

-- the data's states of the first seat's deeds
abbrev claimed_0 : flow.State
claimed_0 = flow_step.after plain_pair (flow.start plain_pair) 1 (flow.MakeClaim 0 1 true)

abbrev looked_0 : flow.State
looked_0 = flow_step.after plain_pair claimed_0 1 (flow.Learn (flow.Look 0))

abbrev written_0 : flow.State
written_0 = flow_step.after plain_pair looked_0 1
    (flow.BackingWrite (flow.Around 3) 0 (one_value ∷ []))

abbrev released_0 : flow.State
released_0 = flow_step.after plain_pair written_0 1 flow.Release

-- behind them no seat has a claim
none_left : (k : ℕ) → (flow.claim_of released_0 k).count ≡ 0
none_left k = by_test k 1 (λ _. (flow.claim_of released_0 k).count ≡ 0)
    (λ is. subst (λ j. (flow.claim_of released_0 j).count ≡ 0) (sym is) refl)
    (λ ne. other plain_pair written_0 1 k flow.Release ne
    ∙ (other plain_pair looked_0 1 k (flow.BackingWrite (flow.Around 3) 0 (one_value ∷ [])) ne
    ∙ (other plain_pair claimed_0 1 k (flow.Learn (flow.Look 0)) ne
    ∙ other plain_pair (flow.start plain_pair) 1 k (flow.MakeClaim 0 1 true) ne)))

module _ (layout : Layout) (before : ℕ) (store : meta.Opening) (x : parts.State) (n : ℕ) where
  abbrev w : Opening
  w = unused_cache layout before store

  release : IsEnabled w (run w (start w x n) (by_seat_1 written))
      (record { seat = 1; deed = deed.Release })
  release = record {
    seat = refl;
    course =
        (record { data_allows = (record { heard = tt; steps = tt; can = tt }, tt); asks = refl }, tt);
    fit = tt;
    its_line = tt;
    plain = λ _. (tt, tt);
  }

  second : (how : Share) → IsEnabled w (run w (start w x n) released) (claim_by_2 how)
  second how = record {
    seat = refl;
    course = (
      record {
        data_allows = (
          record {
            heard = refl;
            steps = tt;
            can = record {
              none = refl;
              inside = omega arith;
              apart = λ k ne. inr (λ s p q. let none = none_left k in let low = q.0 in
                  let high = q.1 in omega arith);
            };
          },
          tt,
        );
        asks = refl;
      },
      (
        record {
          data_allows = (record { heard = refl; steps = tt; can = λ s covers. refl }, tt);
          asks = refl;
        },
        tt,
      ),
    );
    fit = omega arith;
    its_line = tt;
    plain = λ _. (tt, (tt, tt));
  }

  two_seats : HasTwoSeats w x n
  two_seats = let on = (example.law_plain_runs layout before store x n).course in record {
    refused = λ how on. let st = run w (start w x n) (by_seat_1 written) in
        conflict (claimed_by st 1) refl refl refl (is_exclusive how)
        (law_claims w st 2 0 1 how on 1 (λ e. cc));
    shared = (on.0, (on.1.0, (on.1.1.0, (release, (second Shared, tt)))));
    exclusive = (on.0, (on.1.0, (on.1.1.0, (release, (second Exclusive, tt)))));
  }

pub law_two_seats : LawTwoSeats
law_two_seats = two_seats
