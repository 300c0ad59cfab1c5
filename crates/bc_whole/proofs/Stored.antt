-- The run goes on: data is written to the raised bucket, its key comes into the new leaf and is
-- durable, and the write is acknowledged as forced.
use Rattle.std.proofs.Common.{◌≡◌, ◌≢◌, ◌⊎◌, inl, inr, ℕ, ◌<◌, true, false, List, [], ◌∷◌, ◌++◌, Option, Some, None, refl, ◌∙◌, subst, arith, if◌then◌else◌, ◌||◌}
use Rattle.bc_model.specs.Sector.{Value, at_run}
use Rattle.bc_books.specs.Index.{Dirty, Pointer, within, hit, first_hit, run_place, names}
use Rattle.bc_books.specs.Index as books
use Rattle.bc_books.specs.Shelves.{Plain, Own, Spent, Fresh, IsForData, WasPinned}
use Rattle.bc_books.specs.Books.{Take}
use Rattle.bc_books.specs.Enabled.{CanPut, IsLawful}
use Rattle.bc_books.proofs.Small.{in_one, in_two}
use Rattle.bc_books.proofs.Cases.{by_bool}
use Rattle.bc_data.specs.Seats.{Apart, new_claim}
use Rattle.bc_data.specs.Data as flow
use Rattle.bc_data.specs.Data.{Data, claim_of, MakeClaim, InsertWrite, PinPlaces, Shelve, Say, Acknowledge}
use Rattle.bc_data.specs.Enabled.{IsSpare, MayWrite, Fits, CanInsertWrite}
use Rattle.bc_data.specs.After.{course}
use Rattle.bc_data.specs.After.{after as flow_after}
use Rattle.bc_data.proofs.Asked.{hit_one, place_one, other}
use Rattle.bc_meta.proofs.Lists.{by_test}
use Rattle.bc_leaves.specs.Parts.{NoNode, AllFrom}
use Rattle.bc_leaves.specs.Keys.{last_said}
use Rattle.bc_leaves.specs.Enabled.{CanSealNext, IsVacant}
use Rattle.bc_leaves.proofs.Pend.{front_miss}
use Rattle.bc_leaves.proofs.Said.{spoken_range}
use Rattle.bc_leaves_runs.proofs.Example.{by_slots, dead, one_pending}
use Rattle.bc_whole.specs.State.{State, Alone, Keyed, WriteCache, CacheBarrier, Seal, MakeDurable, OfData, OfEntry, SameRoot, SameChain, Act}
use Rattle.bc_whole.specs.Together.{SayTheSame, said_of, data_of}
use Rattle.bc_whole.specs.Run.{IsEnabled, IsRun, after, by, run}
use Rattle.bc_whole.proofs.Toy.{stored_key}
use Rattle.bc_whole.proofs.Start.{opening, setup}
use Rattle.bc_whole.proofs.Built.{barrier, s0, building, by_one, at_one, stays, not_one}
use Rattle.bc_whole.proofs.Grown.{s17, growing}

abbrev pub nine : Value
nine = 9 ∷ []

-- the key as the books have it, and where it points
abbrev pub book_key : books.Key
book_key = record { first = 0; count = 1; kind = Some Dirty; place = 28; version = 301 }

abbrev pub data_pointer : Pointer
data_pointer = record { kind = Dirty; place = 28; version = 301 }

abbrev pub take_act : Act
take_act = Alone (Shelve (Take 1 Plain 7))

abbrev pub pin_act : Act
pin_act = Alone (PinPlaces 28 2)

abbrev pub data_act : Act
data_act = WriteCache (OfData 7 28) (nine ∷ [])

abbrev pub claim_act : Act
claim_act = Alone (MakeClaim 0 1 true)

abbrev pub key_act : Act
key_act = Keyed (InsertWrite 5 1 (book_key ∷ []) 0 (nine ∷ [])) 1 (stored_key ∷ [])

abbrev pub keep_act : Act
keep_act = Seal 1 [] SameRoot SameChain

abbrev pub third_act : Act
third_act = WriteCache OfEntry ((3 ∷ []) ∷ [])

abbrev pub answer_act : Act
answer_act = Alone (Say (Acknowledge 5 0 1))

abbrev pub storing : List Act
storing = take_act ∷ pin_act ∷ data_act ∷ claim_act ∷ key_act ∷ keep_act ∷ CacheBarrier ∷ third_act
    ∷ CacheBarrier ∷ MakeDurable ∷ answer_act ∷ []

abbrev pub s18 : State
s18 = after opening s17 1 take_act

abbrev pub s19 : State
s19 = after opening s18 1 pin_act

abbrev pub s20 : State
s20 = after opening s19 1 data_act

abbrev pub s21 : State
s21 = after opening s20 1 claim_act

abbrev pub s22 : State
s22 = after opening s21 1 key_act

abbrev pub s23 : State
s23 = after opening s22 1 keep_act

abbrev pub s24 : State
s24 = after opening s23 1 CacheBarrier

abbrev pub s25 : State
s25 = after opening s24 1 third_act

abbrev pub s26 : State
s26 = after opening s25 1 CacheBarrier

abbrev pub s27 : State
s27 = after opening s26 1 MakeDurable

abbrev pub s28 : State
s28 = after opening s27 1 answer_act

pub on17 : IsEnabled opening s17 1 take_act
on17 = record {
  together = refl;
  flow = (
    record {
      heard = refl;
      steps = (inl refl, tt);
      can = refl;
    },
    tt,
  );
  store = tt;
}

pub on18 : IsEnabled opening s18 1 pin_act
on18 = record {
  together = refl;
  flow = (
    record {
      heard = refl;
      steps = (
        record {
          for_data = λ t. in_two 28 t (λ t. IsForData 1 (s18.flow.books.shelf (setup.bucket t)))
              (inl refl) (inl refl);
          fresh = λ t. in_two 28 t (λ t. s18.flow.books.owner t ≡ Fresh) refl refl;
        },
        tt,
      );
      can = tt;
    },
    tt,
  );
  store = tt;
}

-- no node lies in the bucket of the data
pub vacant_7 : IsVacant s19.parts 7
vacant_7 = (
  refl,
  by_slots (λ k. (s19.parts.leaves k).role ≢ NoNode → (s19.parts.leaves k).bucket ≢ 7)
      (λ n. dead n) (λ _ e. absurd (cc)) (λ n. dead n) (λ n. dead n) (λ k a b c d. simp (
        a,
        b,
        c,
        d,
      ) (λ n. dead n)),
  by_slots (λ k. (s19.parts.inner_nodes k).role ≢ NoNode → (s19.parts.inner_nodes k).bucket ≢ 7)
      (λ n. dead n) (λ _ e. absurd (cc)) (λ n. dead n) (λ n. dead n) (λ k a b c d. simp (
        a,
        b,
        c,
        d,
      ) (λ n. dead n)),
)

pub on19 : IsEnabled opening s19 1 data_act
on19 = record {
  together = tt;
  flow = (
    record {
      heard = inl refl;
      steps = tt;
      can = record {
        places =
            λ t v e. at_one 28 nine t v e (λ t. MayWrite setup s19.flow.books 1 Data t) refl;
        sendable =
            tt;
      };
    },
    tt,
  );
  store = (
    refl,
    (vacant_7, tt),
    ((omega arith), (omega arith), (omega arith), (omega arith)),
    (refl, not_one 7 3 refl),
    tt,
  );
}

-- seat 1 alone acts, so no other has a claim
still : (k : ℕ) → k ≢ 1 → (st : flow.State) (acts : List flow.Act)
    → (claim_of (course opening.flow st (by 1 acts)) k).count ≡ (claim_of st k).count
still k ne st [] = refl
still k ne st (act ∷ acts) = still k ne (flow_after opening.flow st 1 act) acts
    ∙ other opening.flow st 1 k act ne

pub all_still : (k : ℕ) → k ≢ 1 → (st : State) (acts : List Act)
    → (claim_of (run opening st (by_one acts)).flow k).count ≡ (claim_of st.flow k).count
all_still k ne st [] = refl
all_still k ne st (act ∷ acts) = all_still k ne (after opening st 1 act) acts ∙ still k ne st.flow
    (data_of opening st 1 act)

claims_apart : (k : ℕ) → k ≢ 1 → Apart (new_claim 0 1 true) (claim_of s20.flow k)
claims_apart k ne = inr (λ s a b. let n : (claim_of s20.flow k).count ≡ 0 = all_still k ne s0
    (building ++ (growing ++ (take_act ∷ pin_act ∷ data_act ∷ []))) in let b0 = b.0 in let b1 =
    b.1 in omega arith)

pub on20 : IsEnabled opening s20 1 claim_act
on20 = record {
  together = refl;
  flow = (
    record {
      heard = refl;
      steps = tt;
      can = record {
        none =
            refl;
        inside = omega arith;
        apart = claims_apart;
      };
    },
    tt,
  );
  store = tt;
}

-- both keys say the same
say_same : SayTheSame (stored_key ∷ []) (book_key ∷ [])
say_same s = by_test 0 s (λ b. last_said (stored_key ∷ []) s ≡ said_of (first_hit book_key
    (if b then Some 28 else None) None))
    (λ is. subst (λ (s : ℕ). last_said (stored_key ∷ []) s ≡ Some
    (Some (record { dirty = true; dev = 0; place = 28; generation = 45 }))) is refl)
    (λ ne. front_miss stored_key [] s (λ c. let r = spoken_range stored_key s c in let r1 : s < 1 =
    r.1 in absurd (omega arith)))

named : (t : ℕ) → names (book_key ∷ []) t ≡ true → within 28 1 t ≡ true
named t e = by_bool (within 28 1 t) (λ b. (b || false) ≡ true → b ≡ true) (λ _ _. refl)
    (λ _ x. absurd (cc)) e

pub can_put : CanPut setup s21.flow.books.index s21.flow.books.generations.version
    s21.flow.books.owner 1 (book_key ∷ [])
can_put = record {
  whole = ((omega arith), (λ s p e. place_one 0 28 s p (λ s p. setup.bucket p ≡ 7) refl e), tt);
  inside = λ s o h. hit_one 0 (Some Dirty) 28 301 s o (λ s o. (s < 8) × (s21.flow.books.index.leaf s
      ≡ 1)) ((omega arith), refl) h;
  lawful = λ s o h. hit_one 0 (Some Dirty) 28 301 s o
      (λ s o. IsLawful setup.bucket s21.flow.books.generations.version s21.flow.books.owner
      (books.latest s21.flow.books.index s) o) (inl (tt, refl)) h;
  named = λ t n. in_one 28 t (λ t. WasPinned (s21.flow.books.owner t)) tt (named t n);
}

-- key and value cover the same sector
both_one : (s : ℕ) (P : ℕ → Option (Option Pointer) → Option Value → Type 0)
    → P 0 (Some (Some data_pointer)) (Some nine) → P s None None
    → P s (hit (book_key ∷ []) s) (at_run 0 (nine ∷ []) s)
both_one s P h out = by_test 0 s (λ b. P s (first_hit book_key (if b then Some 28 else None) None)
    (if b then Some nine else None))
    (λ is. subst (λ n. P n (Some (Some data_pointer)) (Some nine)) is h) (λ _. out)

pub can_write : CanInsertWrite opening.flow s21.flow 1 (book_key ∷ []) 0 (nine ∷ [])
can_write = record {
  some = λ e. cc;
  exclusive = refl;
  first_write = refl;
  using = λ t n. in_one 28 t (λ t. (s21.flow.books.owner t ≡ Own 1)
      ⊎ (s21.flow.books.owner t ≡ Spent)) (inl refl) (named t n);
  fits = λ s. both_one s (Fits opening.flow s21.flow 1)
      (record {
        covers = ((omega arith), (omega arith));
        key = data_pointer;
        is = refl;
        dirty =
            refl;
        placed = record { version = refl; own = refl; placed = refl };
      }) tt;
  not_plain = refl;
}

on21 : IsEnabled opening s21 1 key_act
on21 = record {
  together = (refl, say_same);
  flow = (record { heard = refl; steps = (can_put, tt); can = can_write }, tt);
  store = (
    refl,
    ((refl, ((omega arith), (omega arith))), tt),
    tt,
    (
      refl,
      stays s21.store (5 ∷ 6
          ∷ []) refl,
    ),
    tt,
  );
}

can_seal : CanSealNext s22.parts 1
can_seal = (
  refl,
  (omega arith),
  (omega arith),
  by_slots (λ i. (s22.parts.leaves i).role ≢ NoNode → AllFrom 1 (s22.parts.leaves i).pending)
      (λ n. dead n) (λ _ x m. one_pending 1 (record { number = 3; key = stored_key }) x
      (omega arith) m) (λ n. dead n) (λ n. dead n) (λ i a b c d. simp (a, b, c, d) (λ n. dead n)),
)

on22 : IsEnabled opening s22 1 keep_act
on22 = record {
  together = tt;
  flow = (record { heard = refl; steps = (refl, tt); can = tt }, tt);
  store = (refl, (can_seal, tt), tt, (stays s22.store (5 ∷ 6 ∷ []) refl, refl), tt);
}

on23 : IsEnabled opening s23 1 CacheBarrier
on23 = barrier s23 1 (5 ∷ 6 ∷ []) (inl refl) refl refl

on24 : IsEnabled opening s24 1 third_act
on24 = record {
  together = tt;
  flow = (
    record {
      heard = inl refl;
      steps = tt;
      can = record {
        places = λ t v e. at_one 2
            (3 ∷ []) t v e (λ t. IsSpare setup s24.flow.books 1 t) (record {
              fresh = refl;
              unnamed = refl;
              apart = inl (inl refl);
            });
        sendable = refl;
      };
    },
    tt,
  );
  store = (refl, (refl, tt), (refl, (omega arith)), (refl, stays s24.store (5 ∷ 6 ∷ []) refl), tt);
}

on25 : IsEnabled opening s25 1 CacheBarrier
on25 = barrier s25 1 (5 ∷ 6 ∷ []) (inl refl) refl refl

on26 : IsEnabled opening s26 1 MakeDurable
on26 = record {
  together = tt;
  flow = (record { heard = refl; steps = (refl, tt); can = refl }, tt);
  store = (refl, (refl, tt), tt, tt, tt);
}

on27 : IsEnabled opening s27 1 answer_act
on27 = record {
  together = refl;
  flow = (
    record {
      heard = refl;
      steps = tt;
      can = record {
        exclusive = refl;
        wrote = refl;
        its_line = refl;
        its_first = refl;
        its_count = omega arith;
        keys = omega arith;
        firm = refl;
      };
    },
    tt,
  );
  store = tt;
}

pub stores : IsRun opening s17 (by_one storing)
stores = (on17, (on18, (on19, (on20, (on21, (on22, (on23, (on24, (on25, (on26, (on27, tt)))))))))))
