-- A key comes into the leaf that names another place than the key of the books, and is durable: a
-- crash then shows what was never written.
use Rattle.std.proofs.Common.{◌≡◌, ◌≢◌, inl, inr, ℕ, ◌≤◌, false, List, [], ◌∷◌, ◌++◌, Option, Some, None, refl, sym, subst, arith, ◌==◌, ◌⊎◌, true}
use Rattle.bc_model.specs.Sector.{Value, Image, at_run, unless}
use Rattle.bc_model.specs.History.{Allowed}
use Rattle.bc_disk.specs.Device.{Among, MayLeave, instead}
use Rattle.bc_data.specs.Data as flow
use Rattle.bc_data.specs.Enabled.{IsSpare}
use Rattle.bc_meta.specs.Facts.{In}
use Rattle.bc_meta.specs.Entries.{Entry, AreEntries}
use Rattle.bc_meta.specs.Places.{Places}
use Rattle.bc_meta.proofs.Lists.{by_test}
use Rattle.bc_leaves.specs.Parts.{NoNode, AllFrom}
use Rattle.bc_leaves.specs.Enabled.{CanSealNext}
use Rattle.bc_leaves_runs.proofs.Example.{by_slots, dead, one_pending}
use Rattle.bc_whole.specs.State.{State, Keyed, WriteCache, CacheBarrier, MakeDurable, OfEntry, Act}
use Rattle.bc_whole.specs.Together.{gen_from}
use Rattle.bc_whole.specs.Run.{IsEnabled, IsRun, after, run}
use Rattle.bc_whole.specs.Laws.{keys_in, shown}
use Rattle.bc_whole.specs.Teeth.{IsMisread, LawTeethKeys}
use Rattle.bc_whole.proofs.Toy.{false_key, entry_1, entry_2, false_entry}
use Rattle.bc_whole.proofs.Start.{opening, held, sound, setup, picture}
use Rattle.bc_whole.proofs.Built.{barrier, s0, building, builds, by_one, at_one, stays, prio_values, new_bytes, leaf_values, root_values}
use Rattle.bc_whole.proofs.Grown.{growing, grows}
use Rattle.bc_whole.proofs.Stored.{s21, take_act, pin_act, data_act, claim_act, keep_act, answer_act, book_key, nine, on17, on18, on19, on20, can_put, can_write}
use Rattle.bc_whole.proofs.Chance.{IsClear, no_chance, put_no, put_yes, in_four}
use Rattle.bc_whole.proofs.Failed.{run_on}

-- the data is placed
abbrev pub placing : List Act
placing = take_act ∷ pin_act ∷ data_act ∷ claim_act ∷ []

places : IsRun opening s0 (by_one building ++ (by_one growing ++ by_one placing))
places = run_on s0 (by_one building) (by_one growing ++ by_one placing) builds
    (run_on (run opening s0 (by_one building)) (by_one growing) (by_one placing) grows (
      on17,
      (on18, (on19, (on20, tt))),
    ))

abbrev false_insert : flow.Act
false_insert = flow.InsertWrite 5 1 (book_key ∷ []) 0 (nine ∷ [])

abbrev false_act : Act
false_act = Keyed false_insert 1 (false_key ∷ [])

abbrev fourth_act : Act
fourth_act = WriteCache OfEntry ((4 ∷ []) ∷ [])

abbrev pub keeping : List Act
keeping = keep_act ∷ CacheBarrier ∷ fourth_act ∷ CacheBarrier ∷ MakeDurable ∷ answer_act ∷ []

abbrev u22 : State
u22 = after opening s21 1 false_act

abbrev u23 : State
u23 = after opening u22 1 keep_act

abbrev u24 : State
u24 = after opening u23 1 CacheBarrier

abbrev u25 : State
u25 = after opening u24 1 fourth_act

abbrev u26 : State
u26 = after opening u25 1 CacheBarrier

abbrev u27 : State
u27 = after opening u26 1 MakeDurable

abbrev u28 : State
u28 = after opening u27 1 answer_act

can_seal : CanSealNext u22.parts 1
can_seal = (
  refl,
  (omega arith),
  (omega arith),
  by_slots (λ i. (u22.parts.leaves i).role ≢ NoNode → AllFrom 1 (u22.parts.leaves i).pending)
      (λ n. dead n) (λ _ x m. one_pending 1 (record { number = 3; key = false_key }) x
      (omega arith) m) (λ n. dead n) (λ n. dead n) (λ i a b c d. simp (a, b, c, d) (λ n. dead n)),
)

on22 : IsEnabled opening u22 1 keep_act
on22 = record {
  together = tt;
  flow = (record { heard = refl; steps = (refl, tt); can = tt }, tt);
  store = (refl, (can_seal, tt), tt, (stays u22.store (5 ∷ 6 ∷ []) refl, refl), tt);
}

on23 : IsEnabled opening u23 1 CacheBarrier
on23 = barrier u23 1 (5 ∷ 6 ∷ []) (inl refl) refl refl

on24 : IsEnabled opening u24 1 fourth_act
on24 = record {
  together = tt;
  flow = (
    record {
      heard = inl refl;
      steps = tt;
      can = record {
        places = λ t v e. at_one 2
            (4 ∷ []) t v e (λ t. IsSpare setup u24.flow.books 1 t) (record {
              fresh = refl;
              unnamed = refl;
              apart = inl (inl refl);
            });
        sendable = refl;
      };
    },
    tt,
  );
  store = (refl, (refl, tt), (refl, (omega arith)), (refl, stays u24.store (5 ∷ 6 ∷ []) refl), tt);
}

on25 : IsEnabled opening u25 1 CacheBarrier
on25 = barrier u25 1 (5 ∷ 6 ∷ []) (inl refl) refl refl

on26 : IsEnabled opening u26 1 MakeDurable
on26 = record {
  together = tt;
  flow = (record { heard = refl; steps = (refl, tt); can = refl }, tt);
  store = (refl, (refl, tt), tt, tt, tt);
}

on27 : IsEnabled opening u27 1 answer_act
on27 = record {
  together = refl;
  flow = (
    record {
      heard = refl;
      steps = tt;
      can = record {
        exclusive = refl;
        wrote = refl;
        its_line = refl;
        its_first = refl;
        its_count = omega arith;
        keys = omega arith;
        firm = refl;
      };
    },
    tt,
  );
  store = tt;
}

keeps : IsRun opening u22 (by_one keeping)
keeps = (on22, (on23, (on24, (on25, (on26, (on27, tt))))))

-- ---- what a crash leaves

abbrev last : Places
last = u28.store.places

not_both : (false ≡ true) ⊎ (false ≡ true) → ⊥
not_both m = elim m [ inl e ↦ absurd (cc) | inr e ↦ absurd (cc) ]

clear : IsClear last (4 ∷ []) false_entry
clear = record {
  read = refl;
  sector_0 = refl;
  sector_1 = refl;
  sector_2 = refl;
  sector_3 = refl;
  blank_1 = λ at ge lt. in_four (λ at. last.device.leaves at ≡ []
      ∷ []) 4 at refl refl refl refl ge lt;
  second = inr (inl (refl, refl, refl));
  third = inl (refl, refl, refl);
  new = put_no _ 7 (put_yes _ 6 (inr refl) (put_yes _ 5 (inl refl)
      (put_no _ 6 (put_no _ 5 (put_no _ 4 (put_no _ 4 (λ q e. absurd (cc))))))));
  still_5 = not_both;
  still_6 = not_both;
}

-- all that was written stands
abbrev left_image : Image
left_image s = unless (at_run 2 ((4 ∷ []) ∷ []) s) (unless (at_run 28 (nine ∷ []) s)
    (unless (at_run 1 ((2 ∷ []) ∷ []) s)
    (unless (at_run 24 root_values s) (unless (at_run 20 leaf_values s)
    (unless (at_run 16 prio_values s) (picture s))))))

newly : (o : Option Value) (v : Value) (vs : List Value) → Among v vs → Among (unless o v)
    (instead o vs)
newly None v vs i = i
newly (Some x) v vs i = inl refl

is_left : MayLeave u28.flow.cache left_image
is_left s = newly (at_run 2 ((4 ∷ []) ∷ []) s) _ _ (newly (at_run 28 (nine ∷ []) s) _ _
    (newly (at_run 1 ((2 ∷ []) ∷ []) s) _ _
    (newly (at_run 24 root_values s) _ _ (newly (at_run 20 leaf_values s) _ _
    (newly (at_run 16 prio_values s) _ _ (inl refl))))))

abbrev Three : List Entry
Three = false_entry ∷ entry_2 ∷ entry_1 ∷ []

by_three : (P : Entry → Type 0) → P false_entry → P entry_2 → P entry_1 → (x : Entry) → In x Three
    → P x
by_three P a b c x (inl e) = subst P (sym e) a
by_three P a b c x (inr (inl e)) = subst P (sym e) b
by_three P a b c x (inr (inr (inl e))) = subst P (sym e) c
by_three P a b c x (inr (inr (inr n))) = absurd n

differ : {A : Type 0} → (a b : ℕ) → (a == b) ≡ false → a ≡ b → A
differ {A} a b ne is = by_test a b (λ t. t ≡ false → A) (λ _ e. absurd (cc)) (λ n _. absurd
    (n is)) ne

are_entries : AreEntries Three false_entry (entry_2 ∷ entry_1 ∷ [])
are_entries = record {
  greatest = by_three (λ x. x.number ≤ 3) (omega arith) (omega arith) (omega arith);
  down = (
    refl,
    (omega arith),
    inl refl,
    by_three (λ x. x.number ≡ 3 → x ≡ false_entry) (λ _. refl) (differ 2 3 refl) (differ 1 3 refl),
    (
      refl,
      (omega arith),
      inr (inl refl),
      by_three (λ x. x.number ≡ 2 → x ≡ entry_2) (differ 3 2 refl) (λ _. refl) (differ 1 2 refl),
      (
        refl,
        (omega arith),
        inr (inr (inl refl)),
        by_three (λ x. x.number ≡ 1 → x ≡ entry_1)
            (differ 3 1 refl) (differ 2 1 refl) (λ _. refl),
        refl,
      ),
    ),
  );
}

-- the write was acknowledged as forced, and the place is blank
wrong : Allowed opening.flow.image u28.flow.history 0 (shown setup.bucket
    (gen_from 0 new_bytes)
    (keys_in opening u28 left_image false_entry (entry_2 ∷ entry_1 ∷ [])) left_image (λ s. []) 0) → ⊥
wrong h = elim h [ inl e ↦ absurd (cc) | inr e ↦ absurd (cc) ]

misread : IsMisread opening u28
misread = record {
  chance = no_chance last (4 ∷ []) false_entry clear;
  cache = left_image;
  backing = λ s. [];
  left = is_left;
  left_backing = λ s. inl refl;
  newest = false_entry;
  older = entry_2 ∷ entry_1 ∷ [];
  chain = record { buckets = 4 ∷ []; gens = new_bytes };
  entries = are_entries;
  chain_is = refl;
  sector = 0;
  wrong = wrong;
}

pub teeth_keys : LawTeethKeys
teeth_keys = (
  opening,
  held,
  by_one building ++ (by_one growing ++ by_one placing),
  1,
  false_insert,
  1,
  false_key ∷ [],
  (
    by_one keeping,
    record {
      sound = sound;
      course = places;
      flow = (record { heard = refl; steps = (can_put, tt); can = can_write }, tt);
      store = (
        refl,
        ((refl, ((omega arith), (omega arith))), tt),
        tt,
        (
          refl,
          stays s21.store (5 ∷ 6
              ∷ []) refl,
        ),
        tt,
      );
      ends = keeps;
      broken = misread;
    },
  ),
)
