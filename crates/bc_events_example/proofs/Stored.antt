-- Data is written to the raised bucket, its key comes into the new leaf and is durable, and the
-- write is acknowledged as forced.
use Rattle.std.proofs.Common.{◌≡◌, ◌≢◌, ◌⊎◌, inl, inr, ℕ, ◌<◌, true, false, List, [], ◌∷◌, ◌++◌, Option, Some, None, refl, subst, arith, if◌then◌else◌, ◌||◌}
use Rattle.bc_model.specs.Sector.{Value, at_run}
use Rattle.bc_books.specs.Index.{Dirty, Pointer, within, hit, first_hit, names}
use Rattle.bc_books.specs.Index as books
use Rattle.bc_books.specs.Shelves.{Plain, Own, Spent, Fresh, IsForData, WasPinned}
use Rattle.bc_books.specs.Books as book
use Rattle.bc_books.specs.Enabled.{CanPut, IsLawful}
use Rattle.bc_books.proofs.Small.{in_one, in_two}
use Rattle.bc_books.proofs.Cases.{by_bool}
use Rattle.bc_data.specs.Seats.{Apart, new_claim}
use Rattle.bc_data.specs.Data as flow
use Rattle.bc_data.specs.Data.{claim_of}
use Rattle.bc_data.specs.Enabled.{IsSpare, MayWrite, Fits, CanInsertWrite}
use Rattle.bc_data.proofs.Asked.{hit_one, place_one}
use Rattle.bc_meta.proofs.Lists.{by_test}
use Rattle.bc_leaves.specs.Parts.{NoNode, AllFrom}
use Rattle.bc_leaves.specs.Enabled.{CanSealNext}
use Rattle.bc_leaves_runs.proofs.Example.{by_slots, dead, one_pending}
use Rattle.bc_whole.specs.State.{OfData, OfEntry, SameRoot, SameChain, NewRoot, NewChain, State}
use Rattle.bc_whole.specs.State as whole
use Rattle.bc_whole.specs.Run as whole_run
use Rattle.bc_whole.proofs.Toy.{stored_key}
use Rattle.bc_whole.proofs.Start.{opening, setup}
use Rattle.bc_whole.proofs.Built.{s0, building, at_one, new_gens}
use Rattle.bc_whole.proofs.Stored.{nine, book_key, data_pointer, all_still, stores}
use Rattle.bc_known.specs.Acts.{Alone, CacheBarrier, MakeDurable}
use Rattle.bc_known.specs.Run.{IsEnabled}
use Rattle.bc_known_example.proofs.Leads.{at}
use Rattle.bc_known_example.proofs.Stored.{take_act, pin_act, data_act, claim_act, key_act, keep_act, third_act, answer_act}
use Rattle.bc_leaves.specs.After.{has}
use Rattle.bc_events_example.proofs.Known.{t17, unused_1, unused_2, steps}

abbrev whole_claim : whole.Act
whole_claim = whole.Alone (flow.MakeClaim 0 1 true)

abbrev whole_key : whole.Act
whole_key = whole.Keyed (flow.InsertWrite 5 1 (book_key ∷ []) 0 (nine ∷ [])) 1 (stored_key ∷ [])

abbrev pub t18 : State
t18 = whole_run.after opening t17 1 (whole.Alone (flow.Shelve (book.Take 1 Plain 7)))

abbrev pub t19 : State
t19 = whole_run.after opening t18 1 (whole.Alone (flow.PinPlaces 28 2))

abbrev pub t20 : State
t20 = whole_run.after opening t19 1 (whole.WriteCache (OfData 7 28) (nine ∷ []))

abbrev pub t21 : State
t21 = whole_run.after opening t20 1 whole_claim

abbrev pub t22 : State
t22 = whole_run.after opening t21 1 whole_key

abbrev pub t23 : State
t23 = whole_run.after opening t22 1 (whole.Seal 1 [] SameRoot SameChain)

abbrev pub t24 : State
t24 = whole_run.after opening t23 1 whole.CacheBarrier

abbrev pub t25 : State
t25 = whole_run.after opening t24 1 (whole.WriteCache OfEntry ((3 ∷ []) ∷ []))

abbrev pub t26 : State
t26 = whole_run.after opening t25 1 whole.CacheBarrier

abbrev pub t27 : State
t27 = whole_run.after opening t26 1 whole.MakeDurable

abbrev pub t28 : State
t28 = whole_run.after opening t27 1 (whole.Alone (flow.Say (flow.Acknowledge 5 0 1)))

abbrev pub t29 : State
t29 = whole_run.after opening t28 1 (whole.Alone flow.Release)

pub on17 : IsEnabled opening (at t17 9) 1 take_act
on17 = record {
  data_allows = (record { heard = refl; steps = (inl refl, tt); can = refl }, tt);
  asks = refl;
}

pub on18 : IsEnabled opening (at t18 9) 1 pin_act
on18 = record {
  data_allows = (
    record {
      heard = refl;
      steps = (
        record {
          for_data = λ t. in_two 28 t (λ t. IsForData 1 (t18.flow.books.shelf (setup.bucket t)))
              (inl refl) (inl refl);
          fresh = λ t. in_two 28 t (λ t. t18.flow.books.owner t ≡ Fresh) refl refl;
        },
        tt,
      );
      can = tt;
    },
    tt,
  );
  asks = refl;
}

pub on19 : IsEnabled opening (at t19 9) 1 data_act
on19 = record {
  data_allows = (
    record {
      heard = inl refl;
      steps = tt;
      can = record {
        places =
            λ t v e. at_one 28 nine t v e (λ t. MayWrite setup t19.flow.books 1 flow.Data t) refl;
        sendable = tt;
      };
    },
    tt,
  );
  asks = record {
    some = λ e. cc;
    low = omega arith;
    high = omega arith;
    bucket = omega arith;
  };
}

-- what the seat did before its claim, by which no other seat has one
abbrev before : List whole.Act
before = building ++ (whole.BeginChange 0 8 (0 ∷ []) (1 ∷ []) (0 ∷ []) (1 ∷ []) unused_1
    ∷ whole.Seal 1 [] (NewRoot 1) (NewChain (4 ∷ []) new_gens) ∷ whole.CacheBarrier
    ∷ whole.WriteCache OfEntry ((2 ∷ []) ∷ []) ∷ whole.CacheBarrier ∷ whole.MakeDurable
    ∷ whole.Install unused_2 steps ∷ whole.ReadyChain (has (3 ∷ [])) (3 ∷ [])
    ∷ whole.Alone (flow.Shelve (book.MakeReady 7 (Some Plain)))
    ∷ whole.Alone (flow.Shelve (book.Take 1 Plain 7)) ∷ whole.Alone (flow.PinPlaces 28 2)
    ∷ whole.WriteCache (OfData 7 28) (nine ∷ []) ∷ [])

-- and so they have none
pub still_20 : (k : ℕ) → k ≢ 1 → (claim_of t20.flow k).count ≡ 0
still_20 k ne = all_still k ne s0 before

claims_apart : (k : ℕ) → k ≢ 1 → Apart (new_claim 0 1 true) (claim_of t20.flow k)
claims_apart k ne = inr (λ s a b. let n = still_20 k ne in let b0 = b.0 in let b1 = b.1 in
    omega arith)

pub on20 : IsEnabled opening (at t20 9) 1 claim_act
on20 = record {
  data_allows = (
    record {
      heard = refl;
      steps = tt;
      can = record { none = refl; inside = omega arith; apart = claims_apart };
    },
    tt,
  );
  asks = refl;
}

named : (t : ℕ) → names (book_key ∷ []) t ≡ true → within 28 1 t ≡ true
named t e = by_bool (within 28 1 t) (λ b. (b || false) ≡ true → b ≡ true) (λ _ _. refl)
    (λ _ x. absurd (cc)) e

can_put : CanPut setup t21.flow.books.index t21.flow.books.generations.version
    t21.flow.books.owner 1 (book_key ∷ [])
can_put = record {
  whole = ((omega arith), (λ s p e. place_one 0 28 s p (λ s p. setup.bucket p ≡ 7) refl e), tt);
  inside = λ s o h. hit_one 0 (Some Dirty) 28 301 s o (λ s o. (s < 8) × (t21.flow.books.index.leaf s
      ≡ 1)) ((omega arith), refl) h;
  lawful = λ s o h. hit_one 0 (Some Dirty) 28 301 s o
      (λ s o. IsLawful setup.bucket t21.flow.books.generations.version t21.flow.books.owner
      (books.latest t21.flow.books.index s) o) (inl (tt, refl)) h;
  named = λ t n. in_one 28 t (λ t. WasPinned (t21.flow.books.owner t)) tt (named t n);
}

-- key and value cover the same sector
both_one : (s : ℕ) (P : ℕ → Option (Option Pointer) → Option Value → Type 0)
    → P 0 (Some (Some data_pointer)) (Some nine) → P s None None
    → P s (hit (book_key ∷ []) s) (at_run 0 (nine ∷ []) s)
both_one s P h out = by_test 0 s (λ b. P s (first_hit book_key (if b then Some 28 else None) None)
    (if b then Some nine else None))
    (λ is. subst (λ n. P n (Some (Some data_pointer)) (Some nine)) is h) (λ _. out)

can_write : CanInsertWrite opening.flow t21.flow 1 (book_key ∷ []) 0 (nine ∷ [])
can_write = record {
  some = λ e. cc;
  exclusive = refl;
  first_write = refl;
  using = λ t n. in_one 28 t (λ t. (t21.flow.books.owner t ≡ Own 1)
      ⊎ (t21.flow.books.owner t ≡ Spent)) (inl refl) (named t n);
  fits = λ s. both_one s (Fits opening.flow t21.flow 1)
      (record {
        covers = ((omega arith), (omega arith));
        key = data_pointer;
        is = refl;
        dirty = refl;
        placed = record { version = refl; own = refl; placed = refl };
      }) tt;
  not_plain = refl;
}

pub on21 : IsEnabled opening (at t21 9) 1 key_act
on21 = record {
  data_allows = (record { heard = refl; steps = (can_put, tt); can = can_write }, tt);
  asks = (stores.1.1.1.1.0.together, refl, (((omega arith), (omega arith)), tt));
}

can_seal : CanSealNext t22.parts 1
can_seal = (
  refl,
  (omega arith),
  (omega arith),
  by_slots (λ i. (t22.parts.leaves i).role ≢ NoNode → AllFrom 1 (t22.parts.leaves i).pending)
      (λ n. dead n) (λ _ x m. one_pending 1 (record { number = 3; key = stored_key }) x
      (omega arith) m) (λ n. dead n) (λ n. dead n) (λ i a b c d. simp (a, b) (λ n. dead n)),
)

pub on22 : IsEnabled opening (at t22 9) 1 keep_act
on22 = record {
  data_allows = (record { heard = refl; steps = (refl, tt); can = tt }, tt);
  asks = (can_seal, tt);
}

pub on23 : IsEnabled opening (at t23 9) 1 CacheBarrier
on23 = record {
  data_allows = (record { heard = inl refl; steps = tt; can = tt }, tt);
  asks = tt;
}

pub on24 : IsEnabled opening (at t24 9) 1 third_act
on24 = record {
  data_allows = (
    record {
      heard = inl refl;
      steps = tt;
      can = record {
        places = λ t v e. at_one 2 (3 ∷ []) t v e (λ t. IsSpare setup t24.flow.books 1 t)
            (record { fresh = refl; unnamed = refl; apart = inl (inl refl) });
        sendable = refl;
      };
    },
    tt,
  );
  asks = (refl, (refl, (omega arith)));
}

pub on25 : IsEnabled opening (at t25 9) 1 CacheBarrier
on25 = record {
  data_allows = (record { heard = inl refl; steps = tt; can = tt }, tt);
  asks = tt;
}

pub on26 : IsEnabled opening (at t26 9) 1 MakeDurable
on26 = record {
  data_allows = (record { heard = refl; steps = (refl, tt); can = refl }, tt);
  asks = refl;
}

pub on27 : IsEnabled opening (at t27 9) 1 answer_act
on27 = record {
  data_allows = (
    record {
      heard = refl;
      steps = tt;
      can = record {
        exclusive = refl;
        wrote = refl;
        its_line = refl;
        its_first = refl;
        its_count = omega arith;
        keys = omega arith;
        firm = refl;
      };
    },
    tt,
  );
  asks = refl;
}

pub on28 : IsEnabled opening (at t28 9) 1 (Alone flow.Release)
on28 = record {
  data_allows = (record { heard = tt; steps = tt; can = tt }, tt);
  asks = refl;
}
