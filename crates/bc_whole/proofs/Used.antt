-- The run that rewrote a leaf goes on: a key is dropped, the write of its entry fails, and other
-- seats' calls come late.
use Rattle.std.proofs.Common.{◌≡◌, ◌≢◌, inl, inr, ℕ, ◌<◌, ◌≤◌, true, List, [], ◌∷◌, ◌++◌, Some, None, refl, subst, arith, if◌then◌else◌}
use Rattle.bc_model.specs.Sector.{Value}
use Rattle.bc_books.specs.Index.{first_hit, names}
use Rattle.bc_books.specs.Index as books
use Rattle.bc_books.specs.Enabled.{CanPut, IsLawful}
use Rattle.bc_data.specs.Seats.{Apart, new_claim}
use Rattle.bc_data.specs.Data.{claim_of, MakeClaim, Release, Insert, DropKeys}
use Rattle.bc_data.specs.Enabled.{IsSpare, MayInsert, CanInsert}
use Rattle.bc_data.proofs.Asked.{hit_one, place_one}
use Rattle.bc_meta.specs.Places.{IsOutside}
use Rattle.bc_meta.proofs.Lists.{by_test}
use Rattle.bc_leaves.specs.Parts.{NoNode, AllFrom}
use Rattle.bc_leaves.specs.Keys.{last_said}
use Rattle.bc_leaves.specs.Enabled.{CanSealNext}
use Rattle.bc_leaves.proofs.Pend.{front_miss}
use Rattle.bc_leaves.proofs.Said.{spoken_range}
use Rattle.bc_leaves_runs.proofs.Example.{by_slots, dead, one_pending}
use Rattle.bc_whole.specs.State.{State, Alone, Keyed, WriteCache, FailCache, CacheBarrier, Seal, OfEntry, Outside, SameRoot, SameChain, Act, Event}
use Rattle.bc_whole.specs.Together.{SayTheSame, said_of}
use Rattle.bc_whole.specs.Run.{IsEnabled, IsRun, after}
use Rattle.bc_whole.proofs.Toy.{layout, gap_key}
use Rattle.bc_whole.proofs.Start.{opening, setup}
use Rattle.bc_whole.proofs.Built.{s0, building, by_one, at_one, barrier, stays}
use Rattle.bc_whole.proofs.Grown.{growing}
use Rattle.bc_whole.proofs.Stored.{storing, all_still}
use Rattle.bc_whole.proofs.Rewritten.{v13, rewriting}

abbrev pub blank_value : Value
blank_value = []

abbrev gap_book : books.Key
gap_book = record { first = 5; count = 1; kind = None; place = 0; version = 0 }

abbrev gap_act : Act
gap_act = Keyed (Insert DropKeys 2 (gap_book ∷ [])) 2 (gap_key ∷ [])

abbrev last_act : Act
last_act = Seal 1 [] SameRoot SameChain

abbrev fault_act : Act
fault_act = FailCache OfEntry ((5 ∷ []) ∷ [])

-- a key is dropped, whose entry's write fails
abbrev pub dropping : List Act
dropping = Alone Release ∷ Alone (MakeClaim 5 1 true) ∷ gap_act ∷ last_act ∷ CacheBarrier
    ∷ fault_act ∷ []

-- other seats' late calls
abbrev pub late : List Event
late = record { seat = 2; act = WriteCache OfEntry ((5 ∷ []) ∷ []) } ∷ record {
  seat = 3;
  act = CacheBarrier;
}
    ∷ record { seat = 4; act = WriteCache (Outside 44) (blank_value ∷ []) } ∷ []

abbrev v14 : State
v14 = after opening v13 1 (Alone Release)

abbrev v15 : State
v15 = after opening v14 1 (Alone (MakeClaim 5 1 true))

abbrev v16 : State
v16 = after opening v15 1 gap_act

abbrev v17 : State
v17 = after opening v16 1 last_act

abbrev v18 : State
v18 = after opening v17 1 CacheBarrier

abbrev pub v19 : State
v19 = after opening v18 1 fault_act

abbrev v20 : State
v20 = after opening v19 2 (WriteCache OfEntry ((5 ∷ []) ∷ []))

abbrev v21 : State
v21 = after opening v20 3 CacheBarrier

-- ---- a key is dropped, and its entry fails

on13 : IsEnabled opening v13 1 (Alone Release)
on13 = record {
  together = refl;
  flow = (record { heard = tt; steps = tt; can = tt }, tt);
  store =
      tt;
}

claims_apart : (k : ℕ) → k ≢ 1 → Apart (new_claim 5 1 true) (claim_of v14.flow k)
claims_apart k ne = inr (λ s a b. let n : (claim_of v14.flow k).count ≡ 0 = all_still k ne s0
    (building ++ (growing ++ (storing ++ (rewriting ++ (Alone Release ∷ []))))) in let b0 = b.0 in
    let b1 = b.1 in omega arith)

on14 : IsEnabled opening v14 1 (Alone (MakeClaim 5 1 true))
on14 = record {
  together = refl;
  flow = (
    record {
      heard = refl;
      steps = tt;
      can = record {
        none =
            refl;
        inside = omega arith;
        apart = claims_apart;
      };
    },
    tt,
  );
  store = tt;
}

say_same : SayTheSame (gap_key ∷ []) (gap_book ∷ [])
say_same s = by_test 5 s (λ b. last_said (gap_key ∷ []) s ≡ said_of (first_hit gap_book
    (if b then Some 0 else None) None))
    (λ is. subst (λ (s : ℕ). last_said (gap_key ∷ []) s ≡ Some None) is refl)
    (λ ne. front_miss gap_key [] s (λ c. let r = spoken_range gap_key s c in let r0 : 5 ≤ s = r.0 in
    let r1 : s < 6 = r.1 in absurd (omega arith)))

no_name : (t : ℕ) → names (gap_book ∷ []) t ≡ true → ⊥
no_name t e = cc

can_put : CanPut setup v15.flow.books.index v15.flow.books.generations.version
    v15.flow.books.owner 2 (gap_book ∷ [])
can_put = record {
  whole = ((omega arith), (λ s p e. place_one 5 0 s p (λ s p. setup.bucket p ≡ 0) refl e), tt);
  inside = λ s o h. hit_one 5 None 0 0 s o (λ s o. (s < 8) × (v15.flow.books.index.leaf s ≡ 2))
      ((omega arith), refl) h;
  lawful = λ s o h. hit_one 5 None 0 0 s o
      (λ s o. IsLawful setup.bucket v15.flow.books.generations.version v15.flow.books.owner
      (books.latest v15.flow.books.index s) o) tt h;
  named = λ t n. absurd (no_name t n);
}

can_drop : CanInsert opening.flow v15.flow 1 DropKeys (gap_book ∷ [])
can_drop = record {
  using = λ t n. absurd (no_name t n);
  hits = λ s o h. hit_one 5 None 0 0 s o (MayInsert opening.flow v15.flow 1 DropKeys)
      (record {
        exclusive = refl;
        covers = ((omega arith), (omega arith));
        is = refl;
        backed =
            tt;
      }) h;
  not_plain = refl;
}

on15 : IsEnabled opening v15 1 gap_act
on15 = record {
  together = (refl, say_same);
  flow = (record { heard = refl; steps = (can_put, tt); can = can_drop }, tt);
  store = (
    refl,
    ((refl, ((omega arith), (omega arith))), tt),
    tt,
    (
      refl,
      stays v15.store (6 ∷ 10
          ∷ []) refl,
    ),
    tt,
  );
}

can_seal : CanSealNext v16.parts 1
can_seal = (
  refl,
  (omega arith),
  (omega arith),
  by_slots (λ i. (v16.parts.leaves i).role ≢ NoNode → AllFrom 1 (v16.parts.leaves i).pending)
      (λ n. dead n) (λ n. dead n) (λ _ x m. one_pending 1 (record { number = 4; key = gap_key }) x
      (omega arith) m) (λ n. dead n) (λ i a b c d. simp (a, b, c, d) (λ n. dead n)),
)

on16 : IsEnabled opening v16 1 last_act
on16 = record {
  together = tt;
  flow = (record { heard = refl; steps = (refl, tt); can = tt }, tt);
  store = (refl, (can_seal, tt), tt, (stays v16.store (6 ∷ 10 ∷ []) refl, refl), tt);
}

on17 : IsEnabled opening v17 1 CacheBarrier
on17 = barrier v17 1 (6 ∷ 10 ∷ []) (inl refl) refl refl

on18 : IsEnabled opening v18 1 fault_act
on18 = record {
  together = tt;
  flow = (
    record {
      heard = inl refl;
      steps = tt;
      can = record {
        places = λ t v e. at_one 4
            (5 ∷ []) t v e (λ t. IsSpare setup v18.flow.books 1 t) (record {
              fresh = refl;
              unnamed = refl;
              apart = inl (inl refl);
            });
        sendable = refl;
      };
    },
    tt,
  );
  store = (refl, (refl, tt), (refl, (omega arith)), (refl, stays v18.store (6 ∷ 10 ∷ []) refl), tt);
}

pub drops : IsRun opening v13 (by_one dropping)
drops = (on13, (on14, (on15, (on16, (on17, (on18, tt))))))

-- ---- late calls

on19 : IsEnabled opening v19 2 (WriteCache OfEntry ((5 ∷ []) ∷ []))
on19 = record {
  together = tt;
  flow = (
    record {
      heard = inr refl;
      steps = tt;
      can = record {
        places = λ t v e. at_one 4
            (5 ∷ []) t v e (λ t. IsSpare setup v19.flow.books 2 t) (record {
              fresh = refl;
              unnamed = refl;
              apart = inl (inl refl);
            });
        sendable = refl;
      };
    },
    tt,
  );
  store = (refl, (refl, tt), (refl, (omega arith)), (refl, stays v19.store (6 ∷ 10 ∷ []) refl), tt);
}

on20 : IsEnabled opening v20 3 CacheBarrier
on20 = barrier v20 3 (6 ∷ 10 ∷ []) (inr refl) refl refl

outside_44 : IsOutside layout 44 (blank_value ∷ [])
outside_44 b s lt ge below = by_test 44 s (λ t. (if t then Some blank_value else None) ≡ None)
    (λ is. absurd (omega arith)) (λ _. refl)

on21 : IsEnabled opening v21 4 (WriteCache (Outside 44) (blank_value ∷ []))
on21 = record {
  together = tt;
  flow = (
    record {
      heard = inr refl;
      steps = tt;
      can = record {
        places =
            λ t v e. at_one 44 blank_value t v e (λ t. IsSpare setup v21.flow.books 4 t)
            (record { fresh = refl; unnamed = refl; apart = inl (inl refl) });
        sendable = tt;
      };
    },
    tt,
  );
  store = (refl, (tt, tt), outside_44, (refl, stays v21.store (6 ∷ 10 ∷ []) refl), tt);
}

pub lates : IsRun opening v19 late
lates = (on19, (on20, (on21, tt)))
