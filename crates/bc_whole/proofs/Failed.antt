-- The run's end: the leaf gets a further set, a write of data fails, which halts the run, and
-- another seat's barrier comes late. And no torn record matches by chance there.
use Rattle.std.proofs.Common.{◌≡◌, ◌≢◌, inl, inr, ℕ, ◌≤◌, false, List, [], ◌∷◌, ◌++◌, refl, ap, arith, ◌==◌, ◌⊎◌, true}
use Rattle.bc_data.specs.Data as flow
use Rattle.bc_data.specs.Enabled.{IsSpare, MayWrite}
use Rattle.bc_meta.specs.Facts.{In}
use Rattle.bc_meta.specs.Places.{Places}
use Rattle.bc_meta.proofs.Lists.{by_test}
use Rattle.bc_leaves.specs.Parts.{Pending}
use Rattle.bc_leaves.specs.Enabled.{CanWriteSet}
use Rattle.bc_whole.specs.State.{State, WriteCache, FailCache, CacheBarrier, OfData, OfSet, Event, Act}
use Rattle.bc_whole.specs.Run.{IsEnabled, IsRun, after, run}
use Rattle.bc_whole.specs.Example.{HasExample}
use Rattle.bc_whole.proofs.Toy.{stored_key, entry_3, further_set}
use Rattle.bc_whole.proofs.Start.{opening, held, sound, setup}
use Rattle.bc_whole.proofs.Built.{barrier, s0, building, builds, by_one, at_one, stays, not_one}
use Rattle.bc_whole.proofs.Chance.{IsClear, no_chance, put_no, put_yes, in_four}
use Rattle.bc_whole.proofs.Grown.{growing, grows}
use Rattle.bc_whole.proofs.Stored.{s28, storing, stores, nine, book_key, data_pointer, vacant_7}

abbrev pub set_act : Act
set_act = WriteCache (OfSet 1 further_set) ((20 ∷ 5 ∷ []) ∷ [])

abbrev pub fail_act : Act
fail_act = FailCache (OfData 7 29) (nine ∷ [])

abbrev pub ending : List Event
ending = record { seat = 1; act = set_act } ∷ record { seat = 1; act = fail_act }
    ∷ record { seat = 2; act = CacheBarrier } ∷ []

abbrev pub s29 : State
s29 = after opening s28 1 set_act

abbrev pub s30 : State
s30 = after opening s29 1 fail_act

abbrev pub s31 : State
s31 = after opening s30 2 CacheBarrier

can_set : CanWriteSet s28.parts 1 further_set
can_set = (refl, refl, (λ e. absurd (cc)), up, (λ s. refl), refl)
  where
    up : (x : Pending) → In x (record { number = 3; key = stored_key } ∷ []) → x.number ≤ 3
    up x m = elim m [
      | inl e ↦ (let k = ap (λ (p : Pending). p.number) e in omega arith)
      | inr z ↦
          absurd z
    ]

pub on28 : IsEnabled opening s28 1 set_act
on28 = record {
  together = tt;
  flow = (
    record {
      heard = inl refl;
      steps = tt;
      can = record {
        places = λ t v e. at_one 21 (20 ∷ 5
            ∷ []) t v e (λ t. IsSpare setup s28.flow.books 1 t) (record {
              fresh = refl;
              unnamed = refl;
              apart = inl (inr refl);
            });
        sendable = tt;
      };
    },
    tt,
  );
  store = (
    refl,
    (can_set, tt),
    ((omega arith), (refl, refl, (omega arith), refl)),
    (refl, stays s28.store (5 ∷ 6 ∷ []) refl),
    tt,
  );
}

on29 : IsEnabled opening s29 1 fail_act
on29 = record {
  together = tt;
  flow = (
    record {
      heard = inl refl;
      steps = tt;
      can = record {
        places =
            λ t v e. at_one 29 nine t v e (λ t. MayWrite setup s29.flow.books 1 flow.Data t) refl;
        sendable = tt;
      };
    },
    tt,
  );
  store = (
    refl,
    (vacant_7, tt),
    ((omega arith), (omega arith), (omega arith), (omega arith)),
    (refl, not_one 7 3 refl),
    tt,
  );
}

on30 : IsEnabled opening s30 2 CacheBarrier
on30 = barrier s30 2 (5 ∷ 6 ∷ []) (inr refl) refl refl

pub ends : IsRun opening s28 ending
ends = (on28, (on29, (on30, tt)))

pub run_on : (st : State) (xs ys : List Event) → IsRun opening st xs → IsRun opening
    (run opening st xs) ys → IsRun opening st (xs ++ ys)
run_on st [] ys a b = b
run_on st (x ∷ xs) ys a b = (a.0, run_on (after opening st x.seat x.act) xs ys a.1 b)

abbrev pub whole : List Event
whole = by_one building ++ (by_one growing ++ (by_one storing ++ ending))

-- ---- what a crash may leave at the end

abbrev last : Places
last = s31.store.places

not_both : (false ≡ true) ⊎ (false ≡ true) → ⊥
not_both m = elim m [ inl e ↦ absurd (cc) | inr e ↦ absurd (cc) ]

clear : IsClear last (3 ∷ []) entry_3
clear = record {
  read = refl;
  sector_0 = refl;
  sector_1 = refl;
  sector_2 = refl;
  sector_3 = refl;
  blank_1 = λ at ge lt. in_four (λ at. last.device.leaves at ≡ []
      ∷ []) 4 at refl refl refl refl ge lt;
  second = inr (inl (refl, refl, refl));
  third = inl (refl, refl, refl);
  new = put_no _ 7 (put_no _ 7 (put_yes _ 6 (inr refl) (put_yes _ 5 (inl refl)
      (put_no _ 6 (put_no _ 5 (put_no _ 4 (put_no _ 4 (λ q e. absurd (cc)))))))));
  still_5 = not_both;
  still_6 = not_both;
}

other : (a b : ℕ) → (a == b) ≡ false → a ≢ b
other a b = by_test a b (λ t. t ≡ false → a ≢ b) (λ _ e. absurd (cc)) (λ ne _. ne)

pub has_example : HasExample
has_example = (
  opening,
  held,
  (
    whole,
    record {
      sound = sound;
      course = run_on s0 (by_one building) (by_one growing ++ (by_one storing ++ ending)) builds
          (run_on (run opening s0 (by_one building)) (by_one growing) (by_one storing
          ++ ending) grows (run_on (run opening (run opening s0 (by_one building))
          (by_one growing)) (by_one storing) ending stores ends));
      stored = record {
        sector = 0;
        written = record {
          seat = 1;
          line = 5;
          leaf = 1;
          slot = 1;
          keys = book_key ∷ [];
          values =
              nine ∷ [];
          stored = stored_key ∷ [];
          some = λ e. cc;
          event = inr
              (inr (inr (inr (inr (inr
              (inr (inr (inr (inr (inr
              (inr (inr (inr (inr (inr (inr (inr (inr (inr (inr (inl refl)))))))))))))))))))));
        };
        bare = refl;
        pointer = data_pointer;
        durable = refl;
        dirty = refl;
      };
      answered = record { seat = 1; line = 5; first = 0; count = 1; done = inl refl };
      chain = record { ready = refl; durable = refl; bucket = 7; raised = other 301 300 refl };
      tree = record { root = other 6 8 refl; over = refl; slot = 1; free = refl; ours = refl; sets = refl };
      fault = record {
        before = by_one building ++ (by_one growing ++ (by_one storing
            ++ (record { seat = 1; act = set_act } ∷ [])));
        seat = 1;
        write = OfData 7 29;
        values = nine ∷ [];
        late = 2;
        last = refl;
        running = λ e. cc;
        halted = refl;
        its_last = refl;
      };
      chance = no_chance last (3 ∷ []) entry_3 clear;
    },
  ),
)
