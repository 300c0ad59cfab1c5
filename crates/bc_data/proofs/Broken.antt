-- The runs without a condition.
use Rattle.std.proofs.Common.{◌≡◌, inl, inr, ℕ, ◌≤◌, true, false, [], ◌∷◌, ◌++◌, Some, None, if◌then◌else◌, ◌==◌, refl, sym, subst, arith}
use Rattle.bc_model.proofs.Cases.{by_test}
use Rattle.bc_disk.specs.Device.{Among}
use Rattle.bc_books.specs.Index.{Clean, Pointer, put}
use Rattle.bc_books.specs.Shelves.{Priorities, Moving, Plain, Held, Fresh}
use Rattle.bc_books.specs.Books.{Take, Raise, MakeReady, ReadyChain, Seal, SealChain, Sealed, Begin, Walk, End}
use Rattle.bc_books.specs.Example.{small, key, gap, new_version}
use Rattle.bc_books.proofs.Small.{in_one, put_gap}
use Rattle.bc_books.proofs.Runs.{pin_one, unpinned_zero}
use Rattle.bc_data.specs.Seats.{Covers}
use Rattle.bc_data.specs.Data.{State, Look, CacheRead, Data, JournalEntry, Around, DropKeys, MoveKeys, Answer, MakeClaim, Learn, CacheWrite, CacheBarrier, BackingWrite, Insert, PinPlaces, Shelve, Say, claim_of}
use Rattle.bc_data.specs.Enabled.{MayWrite, IsBare, MayInsert, IsKnown, IsEnabled}
use Rattle.bc_data.specs.After.{after}
use Rattle.bc_data.specs.Example.{first_part, pair, zero_value, one_value, sealing}
use Rattle.bc_books.specs.Shelves.{IsForData}
use Rattle.bc_data.specs.Teeth.{taking, LawTeethAnswer, LawTeethMove}
use Rattle.bc_data.proofs.Does.{s27, on0, on1, on2, on3, on4, on5, on6, on7, on8, on9, on10, on11, on12, on13, on14, on15, on16, on17, on18, on19, on20, on21, on22, on23, on24, on25, on26}
use Rattle.bc_data.proofs.Asked.{at_place, run_one, hit_one, write_one, alone}

answer_on0 : IsEnabled pair s27 1 (Shelve Seal)
answer_on0 = record { heard = refl; steps = (refl, tt); can = tt }

abbrev answer0 : State
answer0 = after pair s27 1 (Shelve Seal)

answer_on1 : IsEnabled pair answer0 1 CacheBarrier
answer_on1 = record { heard = inl refl; steps = tt; can = tt }

abbrev answer1 : State
answer1 = after pair answer0 1 CacheBarrier

answer_on2 : IsEnabled pair answer1 1 (CacheWrite JournalEntry 9 (zero_value ∷ []))
answer_on2 = record {
  heard = inl refl;
  steps = tt;
  can = write_one answer1 JournalEntry 9 zero_value
      (record { fresh = refl; unnamed = refl; apart = inl (inl refl) }) refl;
}

abbrev answer2 : State
answer2 = after pair answer1 1 (CacheWrite JournalEntry 9 (zero_value ∷ []))

answer_on3 : IsEnabled pair answer2 1 CacheBarrier
answer_on3 = record { heard = inl refl; steps = tt; can = tt }

abbrev answer3 : State
answer3 = after pair answer2 1 CacheBarrier

answer_on4 : IsEnabled pair answer3 1 (Shelve Sealed)
answer_on4 = record { heard = refl; steps = (refl, tt); can = refl }

abbrev answer4 : State
answer4 = after pair answer3 1 (Shelve Sealed)

answer_on5 : IsEnabled pair answer4 1 (MakeClaim 0 1 false)
answer_on5 = record {
  heard = refl;
  steps = tt;
  can = record {
    none = refl;
    inside = omega arith;
    apart = alone
        (first_part ++ sealing) 0 1 false;
  };
}

abbrev answer5 : State
answer5 = after pair answer4 1 (MakeClaim 0 1 false)

answer_on6 : IsEnabled pair answer5 1 (Learn (Look 0))
answer_on6 = record { heard = refl; steps = tt; can = λ s q. refl }

abbrev answer6 : State
answer6 = after pair answer5 1 (Learn (Look 0))

answer_on7 : IsEnabled pair answer6 1 (Shelve Begin)
answer_on7 = record { heard = refl; steps = (refl, tt); can = tt }

abbrev answer7 : State
answer7 = after pair answer6 1 (Shelve Begin)

answer_on8 : IsEnabled pair answer7 1 (Shelve (Walk 0))
answer_on8 = record { heard = refl; steps = (refl, tt); can = tt }

abbrev answer8 : State
answer8 = after pair answer7 1 (Shelve (Walk 0))

answer_on9 : IsEnabled pair answer8 1 (Shelve End)
answer_on9 = record {
  heard = refl;
  steps =
      (record { going = refl; walked = λ s lt. refl; firm = omega arith }, tt);
  can = tt;
}

abbrev answer9 : State
answer9 = after pair answer8 1 (Shelve End)

answer_on10 : IsEnabled pair answer9 1 (Shelve (Raise 0))
answer_on10 = record {
  heard = refl;
  steps = (
    (
      record {
        unpinned = unpinned_zero _ (λ p. p) (λ p. p);
        not_held =
            ((λ e. cc), λ i h. let e = h.1 in cc);
        free = refl;
        near = omega arith;
      },
      refl,
    ),
    tt,
  );
  can = tt;
}

abbrev answer10 : State
answer10 = after pair answer9 1 (Shelve (Raise 0))

answer_on11 : IsEnabled pair answer10 1 (Shelve (Take 1 Priorities 6))
answer_on11 = record { heard = refl; steps = (inr (inl refl), tt); can = refl }

abbrev answer11 : State
answer11 = after pair answer10 1 (Shelve (Take 1 Priorities 6))

newer : (b : ℕ) → (300 ≤ new_version b) × (new_version b ≤ put (λ (b : ℕ). 300) 0 301 b)
newer b = by_test b 0 (λ z. (300 ≤ (if z then 301 else 300))
    × ((if z then 301 else 300) ≤ (if z then 301 else 300))) (λ _. (omega arith, omega arith))
    (λ _. (omega arith, omega arith))

held_six : (b : ℕ) → (b == 6) ≡ true → (answer11.books.shelf b ≡ Held 1 Priorities)
    × (answer11.books.chains.of b ≡ None)
held_six b = by_test b 6 (λ z. z ≡ true → (answer11.books.shelf b ≡ Held 1 Priorities)
    × (answer11.books.chains.of b ≡ None))
    (λ is _. subst (λ c. (answer11.books.shelf c ≡ Held 1 Priorities)
    × (answer11.books.chains.of c ≡ None)) (sym is) (refl, refl)) (λ _ e. absurd (cc))

answer_on12 : IsEnabled pair answer11 1 (Shelve (SealChain 1 new_version (λ b. b == 6)))
answer_on12 = record {
  heard = refl;
  steps = (
    record {
      none_waits = refl;
      order = newer;
      held = held_six;
      sets =
          ((λ j. 6), (λ i j x y e. omega arith), λ j lt. refl);
    },
    tt,
  );
  can = refl;
}

abbrev answer12 : State
answer12 = after pair answer11 1 (Shelve (SealChain 1 new_version (λ b. b == 6)))

answer_on13 : IsEnabled pair answer12 1 CacheBarrier
answer_on13 = record { heard = inl refl; steps = tt; can = tt }

abbrev answer13 : State
answer13 = after pair answer12 1 CacheBarrier

answer_on14 : IsEnabled pair answer13 1 (CacheWrite JournalEntry 9 (zero_value ∷ []))
answer_on14 = record {
  heard = inl refl;
  steps = tt;
  can = write_one answer13 JournalEntry 9 zero_value
      (record { fresh = refl; unnamed = refl; apart = inl (inl refl) }) refl;
}

abbrev answer14 : State
answer14 = after pair answer13 1 (CacheWrite JournalEntry 9 (zero_value ∷ []))

answer_on15 : IsEnabled pair answer14 1 CacheBarrier
answer_on15 = record { heard = inl refl; steps = tt; can = tt }

abbrev answer15 : State
answer15 = after pair answer14 1 CacheBarrier

answer_on16 : IsEnabled pair answer15 1 (Shelve Sealed)
answer_on16 = record { heard = refl; steps = (refl, tt); can = refl }

abbrev answer16 : State
answer16 = after pair answer15 1 (Shelve Sealed)

answer_on17 : IsEnabled pair answer16 1 (Shelve (ReadyChain (λ b. true)))
answer_on17 = record { heard = refl; steps = (omega arith, tt); can = tt }

abbrev answer17 : State
answer17 = after pair answer16 1 (Shelve (ReadyChain (λ b. true)))

answer_on18 : IsEnabled pair answer17 1 (Shelve (MakeReady 0 (Some Plain)))
answer_on18 = record { heard = refl; steps = ((refl, refl), tt); can = tt }

abbrev answer18 : State
answer18 = after pair answer17 1 (Shelve (MakeReady 0 (Some Plain)))

answer_on19 : IsEnabled pair answer18 2 (Shelve (Take 2 Plain 0))
answer_on19 = record { heard = refl; steps = (inl refl, tt); can = refl }

abbrev answer19 : State
answer19 = after pair answer18 2 (Shelve (Take 2 Plain 0))

answer_on20 : IsEnabled pair answer19 2 (PinPlaces 0 1)
answer_on20 = record {
  heard = refl;
  steps = (
    record {
      for_data = λ t. in_one 0 t (λ t. IsForData 2 (answer19.books.shelf (small.bucket t)))
          (inl refl);
      fresh = λ t. in_one 0 t (λ t. answer19.books.owner t ≡ Fresh) refl;
    },
    tt,
  );
  can = tt;
}

abbrev answer20 : State
answer20 = after pair answer19 2 (PinPlaces 0 1)

answer_on21 : IsEnabled pair answer20 2 (CacheWrite Data 0 (zero_value ∷ []))
answer_on21 = record {
  heard = inl refl;
  steps = tt;
  can = record {
    places = λ t v e. run_one 0 zero_value t v
        (λ t v. MayWrite small answer20.books 2 Data t) refl e;
    sendable = tt;
  };
}

abbrev answer21 : State
answer21 = after pair answer20 2 (CacheWrite Data 0 (zero_value ∷ []))

answer_on22 : IsEnabled pair answer21 1 (Learn (CacheRead 0 (zero_value ∷ [])))
answer_on22 = record {
  heard = inl refl;
  steps = tt;
  can = (
    refl,
    λ s v e. run_one 0 zero_value s v
        (λ s v. Covers (claim_of answer21 1) s
        × ((r : Pointer) × ((claim_of answer21 1).sight s ≡ Some r) × Among v
        (answer21.cache.reads r.place)))
        ((omega arith, omega arith), (at_place Clean 0, refl, inl refl)) e,
  );
}

abbrev answer22 : State
answer22 = after pair answer21 1 (Learn (CacheRead 0 (zero_value ∷ [])))

move_on0 : IsEnabled pair s27 1 (Shelve (Take 1 Moving 5))
move_on0 = record { heard = refl; steps = (inr (inl refl), tt); can = refl }

abbrev move0 : State
move0 = after pair s27 1 (Shelve (Take 1 Moving 5))

move_on1 : IsEnabled pair move0 1 (PinPlaces 5 1)
move_on1 = record { heard = refl; steps = (pin_one _ _ 5 (inr refl) refl, tt); can = tt }

abbrev move1 : State
move1 = after pair move0 1 (PinPlaces 5 1)

move_on2 : IsEnabled pair move1 1 (MakeClaim 0 1 true)
move_on2 = record {
  heard = refl;
  steps = tt;
  can = record {
    none = refl;
    inside = omega arith;
    apart = alone
        (first_part ++ taking) 0 1 true;
  };
}

abbrev move2 : State
move2 = after pair move1 1 (MakeClaim 0 1 true)

move_on3 : IsEnabled pair move2 1 (Learn (Look 0))
move_on3 = record { heard = refl; steps = tt; can = λ s q. refl }

abbrev move3 : State
move3 = after pair move2 1 (Learn (Look 0))

move_on4 : IsEnabled pair move3 1 (Learn (CacheRead 0 (one_value ∷ [])))
move_on4 = record {
  heard = inl refl;
  steps = tt;
  can = (
    refl,
    λ s v e. run_one 0 one_value s v
        (λ s v. Covers (claim_of move3 1) s
        × ((r : Pointer) × ((claim_of move3 1).sight s ≡ Some r) × Among v (move3.cache.reads r.place)))
        ((omega arith, omega arith), (at_place Clean 0, refl, inl refl)) e,
  );
}

abbrev move4 : State
move4 = after pair move3 1 (Learn (CacheRead 0 (one_value ∷ [])))

move_on5 : IsEnabled pair move4 1 (CacheWrite Data 5 (one_value ∷ []))
move_on5 = record { heard = inl refl; steps = tt; can = write_one move4 Data 5 one_value refl tt }

abbrev move5 : State
move5 = after pair move4 1 (CacheWrite Data 5 (one_value ∷ []))

move_on6 : IsEnabled pair move5 1 (Insert DropKeys 0 (gap 0 1 ∷ []))
move_on6 = record {
  heard = refl;
  steps =
      (put_gap small _ _ _ 0 0 (omega arith, refl) refl, tt);
  can = record {
    using = λ t e. absurd (cc);
    hits = λ s o e. hit_one 0 None 0 0 s o (MayInsert pair move5 1 DropKeys)
        (record {
          exclusive = refl;
          covers =
              (omega arith, omega arith);
          is = refl;
          backed = refl;
        }) e;
    not_plain = refl;
  };
}

abbrev move6 : State
move6 = after pair move5 1 (Insert DropKeys 0 (gap 0 1 ∷ []))

abbrev move7 : State
move7 = after pair move6 1 (Insert MoveKeys 0 (key 0 1 Clean 5 ∷ []))

move_on8 : IsEnabled pair move7 1 (Shelve Seal)
move_on8 = record { heard = refl; steps = (refl, tt); can = tt }

abbrev move8 : State
move8 = after pair move7 1 (Shelve Seal)

move_on9 : IsEnabled pair move8 1 CacheBarrier
move_on9 = record { heard = inl refl; steps = tt; can = tt }

abbrev move9 : State
move9 = after pair move8 1 CacheBarrier

move_on10 : IsEnabled pair move9 1 (CacheWrite JournalEntry 9 (zero_value ∷ []))
move_on10 = record {
  heard = inl refl;
  steps = tt;
  can = write_one move9 JournalEntry 9 zero_value
      (record { fresh = refl; unnamed = refl; apart = inl (inl refl) }) refl;
}

abbrev move10 : State
move10 = after pair move9 1 (CacheWrite JournalEntry 9 (zero_value ∷ []))

move_on11 : IsEnabled pair move10 1 CacheBarrier
move_on11 = record { heard = inl refl; steps = tt; can = tt }

abbrev move11 : State
move11 = after pair move10 1 CacheBarrier

move_on12 : IsEnabled pair move11 1 (Shelve Sealed)
move_on12 = record { heard = refl; steps = (refl, tt); can = refl }

abbrev move12 : State
move12 = after pair move11 1 (Shelve Sealed)

move_on13 : IsEnabled pair move12 1 (BackingWrite (Around 9) 0 (zero_value ∷ []))
move_on13 = record {
  heard = inl refl;
  steps = tt;
  can = record {
    some = λ e. cc;
    exclusive = refl;
    first_write = refl;
    bare = λ s v e. run_one 0 zero_value s v
        (λ s v. Covers (claim_of move12 1) s × IsBare pair.plain
        (claim_of move12 1) move12.books.journal.durable s)
        ((omega arith, omega arith), inr (inr (refl, omega arith))) e;
  };
}

abbrev move13 : State
move13 = after pair move12 1 (BackingWrite (Around 9) 0 (zero_value ∷ []))

move_on14 : IsEnabled pair move13 1 (Learn (Look 0))
move_on14 = record { heard = refl; steps = tt; can = λ s q. refl }

abbrev move14 : State
move14 = after pair move13 1 (Learn (Look 0))

move_on15 : IsEnabled pair move14 1 (Learn (CacheRead 0 (one_value ∷ [])))
move_on15 = record {
  heard = inl refl;
  steps = tt;
  can = (
    refl,
    λ s v e. run_one 0 one_value s v
        (λ s v. Covers (claim_of move14 1) s
        × ((r : Pointer) × ((claim_of move14 1).sight s ≡ Some r) × Among v
        (move14.cache.reads r.place)))
        ((omega arith, omega arith), (at_place Clean 5, refl, inl refl)) e,
  );
}

abbrev move15 : State
move15 = after pair move14 1 (Learn (CacheRead 0 (one_value ∷ [])))

move_on16 : IsEnabled pair move15 1 (Say (Answer 7 0 (one_value ∷ [])))
move_on16 = record {
  heard = refl;
  steps = tt;
  can = (
    refl,
    λ s v e. run_one 0 one_value s v
        (λ s v. Covers (claim_of move15 1) s × IsKnown pair move15 (claim_of move15 1) s v)
        ((omega arith, omega arith), inr (at_place Clean 5, refl, refl, refl)) e,
  );
}

abbrev move16 : State
move16 = after pair move15 1 (Say (Answer 7 0 (one_value ∷ [])))

pub law_teeth_answer : LawTeethAnswer
law_teeth_answer = record {
  run = (on0, (on1, (on2, (on3, (on4, (on5, (on6, (on7, (on8, (on9, (on10, (on11, (on12, (on13, (on14, (on15, (on16, (on17, (on18, (on19, (on20, (on21, (on22, (on23, (on24, (on25, (on26, (answer_on0, (answer_on1, (answer_on2, (answer_on3, (answer_on4, (answer_on5, (answer_on6, (answer_on7, (answer_on8, (answer_on9, (answer_on10, (answer_on11, (answer_on12, (answer_on13, (answer_on14, (answer_on15, (answer_on16, (answer_on17, (answer_on18, (answer_on19, (answer_on20, (answer_on21, (answer_on22, tt))))))))))))))))))))))))))))))))))))))))))))))))));
  looked = refl;
  covers = (omega arith, omega arith);
  seen = refl;
  read = refl;
  raised = refl;
  wrong = λ h. let e = h.0 0 zero_value refl in cc;
}

pub law_teeth_move : LawTeethMove
law_teeth_move = record {
  run = (on0, (on1, (on2, (on3, (on4, (on5, (on6, (on7, (on8, (on9, (on10, (on11, (on12, (on13, (on14, (on15, (on16, (on17, (on18, (on19, (on20, (on21, (on22, (on23, (on24, (on25, (on26, (move_on0, (move_on1, (move_on2, (move_on3, (move_on4, (move_on5, (move_on6, tt))))))))))))))))))))))))))))))))));
  looked = refl;
  covers = (omega arith, omega arith);
  seen = refl;
  live = refl;
  read = refl;
  placed = record { version = refl; own = refl; placed = refl };
  changed = refl;
  later = (move_on8, (move_on9, (move_on10, (move_on11, (move_on12, (move_on13, (move_on14, (move_on15, (move_on16, tt)))))))));
  wrong = λ h. let e = h.0 0 one_value refl in cc;
}
