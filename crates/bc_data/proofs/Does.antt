-- The example's run is one.
use Rattle.std.proofs.Common.{◌≡◌, ◌⊎◌, inl, inr, ℕ, ◌≤◌, true, false, [], ◌∷◌, ◌++◌, Some, None, if◌then◌else◌, ◌==◌, nat_le, refl, sym, subst, arith}
use Rattle.bc_model.proofs.Cases.{by_test}
use Rattle.bc_disk.specs.Device.{Among}
use Rattle.bc_books.specs.Index.{Clean, Dirty, Pointer, put}
use Rattle.bc_books.specs.Shelves.{Priorities, Moving, Tree, Plain, Held, Fresh, Own, Kept, Spent, IsPinned, WasPinned}
use Rattle.bc_books.specs.Books.{Regroup, Take, Shut, LetGo, BeginNode, MakeNode, DropNode, Raise, MakeReady, ReadyChain, Seal, SealChain, Sealed, Begin, Walk, End, Drop}
use Rattle.bc_books.specs.Example.{small, key, gap, new_version}
use Rattle.bc_books.proofs.Cases.{or_right}
use Rattle.bc_books.proofs.Small.{in_one, in_bucket, put_one, put_two, put_gap, sound_small}
use Rattle.bc_books.proofs.Runs.{pin_one, pin_two, each_one, unpinned_zero}
use Rattle.bc_data.specs.Seats.{Covers}
use Rattle.bc_data.specs.Data.{State, Look, CacheRead, BackingRead, Data, Metadata, JournalEntry, Around, Copy, DropKeys, CleanKeys, MoveKeys, StaleKeys, Answer, BeginFlush, EndFlush, Acknowledge, CacheFault, BackingFault, BarrierFault, ReadFault, MakeClaim, Release, Learn, CacheWrite, CacheBarrier, BackingWrite, BackingBarrier, InsertWrite, Insert, NoteCandidate, Settle, PinPlaces, UnpinPlaces, UnpinDead, Shelve, Say, Fail, claim_of, start}
use Rattle.bc_data.specs.Enabled.{MayWrite, IsBare, Fits, MayInsert, MayKeep, MaySettle, IsKnown, IsEnabled}
use Rattle.bc_data.specs.After.{after}
use Rattle.bc_data.specs.Example.{pair, zero_value, one_value, two_value, three_value, placing, writing, sealing, flushing, cleaning, filling, dropping, bypassing, killing, moving, collecting, chaining, forgetting, LawRuns}
use Rattle.bc_data.proofs.Asked.{at_place, run_one, run_two, place_one, hit_one, hit_two, both_two, using_one, using_two, write_one, alone, one_sector}

abbrev pub s0 : State
s0 = start pair

abbrev pub s1 : State
s1 = after pair s0 1 (Shelve (Take 1 Plain 0))

abbrev pub s2 : State
s2 = after pair s1 1 (PinPlaces 0 2)

abbrev pub s3 : State
s3 = after pair s2 1 (CacheWrite Data 0 (one_value ∷ two_value ∷ []))

abbrev pub s4 : State
s4 = after pair s3 1 (MakeClaim 0 2 true)

abbrev pub s5 : State
s5 = after pair s4 1 (InsertWrite 5 0 (key 0 2 Dirty 0 ∷ []) 0 (one_value ∷ two_value ∷ []))

abbrev pub s6 : State
s6 = after pair s5 1 (Shelve Seal)

abbrev pub s7 : State
s7 = after pair s6 1 CacheBarrier

abbrev pub s8 : State
s8 = after pair s7 1 (CacheWrite JournalEntry 9 (zero_value ∷ []))

abbrev pub s9 : State
s9 = after pair s8 1 CacheBarrier

abbrev pub s10 : State
s10 = after pair s9 1 (Shelve Sealed)

abbrev pub s11 : State
s11 = after pair s10 1 (Say (Acknowledge 5 0 2))

abbrev pub s12 : State
s12 = after pair s11 1 Release

abbrev pub s13 : State
s13 = after pair s12 1 (Say (BeginFlush 6))

abbrev pub s14 : State
s14 = after pair s13 1 BackingBarrier

abbrev pub s15 : State
s15 = after pair s14 1 (Say (EndFlush 6))

abbrev pub s16 : State
s16 = after pair s15 1 (MakeClaim 0 2 false)

abbrev pub s17 : State
s17 = after pair s16 1 (Learn (Look 0))

abbrev pub s18 : State
s18 = after pair s17 1 (Learn (CacheRead 0 (one_value ∷ two_value ∷ [])))

abbrev pub s19 : State
s19 = after pair s18 1 (Say (Answer 7 0 (one_value ∷ two_value ∷ [])))

abbrev pub s20 : State
s20 = after pair s19 1 (Learn (Look 0))

abbrev pub s21 : State
s21 = after pair s20 1 (BackingWrite Copy 0 (one_value ∷ two_value ∷ []))

abbrev pub s22 : State
s22 = after pair s21 1 BackingBarrier

abbrev pub s23 : State
s23 = after pair s22 1 (Insert CleanKeys 0 (key 0 2 Clean 0 ∷ []))

abbrev pub s24 : State
s24 = after pair s23 1 Release

abbrev pub s25 : State
s25 = after pair s24 1 (Shelve (Shut 0))

abbrev pub s26 : State
s26 = after pair s25 1 (Shelve (Take 1 Plain 2))

abbrev pub s27 : State
s27 = after pair s26 1 (PinPlaces 2 1)

abbrev pub s28 : State
s28 = after pair s27 1 (MakeClaim 2 1 false)

abbrev pub s29 : State
s29 = after pair s28 1 (Learn (Look 0))

abbrev pub s30 : State
s30 = after pair s29 1 (Learn (BackingRead 2 (zero_value ∷ [])))

abbrev pub s31 : State
s31 = after pair s30 1 (CacheWrite Data 2 (zero_value ∷ []))

abbrev pub s32 : State
s32 = after pair s31 1 (NoteCandidate 7 2 1 2)

abbrev pub s33 : State
s33 = after pair s32 1 (Say (Answer 8 2 (zero_value ∷ [])))

abbrev pub s34 : State
s34 = after pair s33 1 Release

abbrev pub s35 : State
s35 = after pair s34 1 BackingBarrier

abbrev pub s36 : State
s36 = after pair s35 1 (Settle 7 0 (key 2 1 Clean 2 ∷ []))

abbrev pub s37 : State
s37 = after pair s36 1 (Shelve (Take 1 Plain 8))

abbrev pub s38 : State
s38 = after pair s37 1 (PinPlaces 8 1)

abbrev pub s39 : State
s39 = after pair s38 1 (CacheWrite Data 8 (three_value ∷ []))

abbrev pub s40 : State
s40 = after pair s39 1 (MakeClaim 2 1 true)

abbrev pub s41 : State
s41 = after pair s40 1 (Insert DropKeys 0 (gap 2 1 ∷ []))

abbrev pub s42 : State
s42 = after pair s41 1 (Shelve Seal)

abbrev pub s43 : State
s43 = after pair s42 1 CacheBarrier

abbrev pub s44 : State
s44 = after pair s43 1 (CacheWrite JournalEntry 9 (zero_value ∷ []))

abbrev pub s45 : State
s45 = after pair s44 1 CacheBarrier

abbrev pub s46 : State
s46 = after pair s45 1 (Shelve Sealed)

abbrev pub s47 : State
s47 = after pair s46 1 (BackingWrite (Around 9) 2 (three_value ∷ []))

abbrev pub s48 : State
s48 = after pair s47 1 (NoteCandidate 8 2 1 8)

abbrev pub s49 : State
s49 = after pair s48 1 Release

abbrev pub s50 : State
s50 = after pair s49 1 (MakeClaim 2 1 true)

abbrev pub s51 : State
s51 = after pair s50 1 (UnpinDead 8)

abbrev pub s52 : State
s52 = after pair s51 1 Release

abbrev pub s53 : State
s53 = after pair s52 1 (Shelve (Take 1 Moving 5))

abbrev pub s54 : State
s54 = after pair s53 1 (PinPlaces 5 1)

abbrev pub s55 : State
s55 = after pair s54 1 (MakeClaim 0 1 false)

abbrev pub s56 : State
s56 = after pair s55 1 (Learn (Look 0))

abbrev pub s57 : State
s57 = after pair s56 1 (Learn (CacheRead 0 (one_value ∷ [])))

abbrev pub s58 : State
s58 = after pair s57 1 (CacheWrite Data 5 (one_value ∷ []))

abbrev pub s59 : State
s59 = after pair s58 1 (Insert MoveKeys 0 (key 0 1 Clean 5 ∷ []))

abbrev pub s60 : State
s60 = after pair s59 1 Release

abbrev pub s61 : State
s61 = after pair s60 1 (UnpinPlaces 5 1)

abbrev pub s62 : State
s62 = after pair s61 1 (Shelve (LetGo 1 5 false))

abbrev pub s63 : State
s63 = after pair s62 1 (Shelve Seal)

abbrev pub s64 : State
s64 = after pair s63 1 CacheBarrier

abbrev pub s65 : State
s65 = after pair s64 1 (CacheWrite JournalEntry 9 (zero_value ∷ []))

abbrev pub s66 : State
s66 = after pair s65 1 CacheBarrier

abbrev pub s67 : State
s67 = after pair s66 1 (Shelve Sealed)

abbrev pub s68 : State
s68 = after pair s67 1 (Shelve (Take 1 Tree 4))

abbrev pub s69 : State
s69 = after pair s68 1 (CacheWrite Metadata 4 (zero_value ∷ []))

abbrev pub s70 : State
s70 = after pair s69 1 (Shelve (BeginNode 1 4))

abbrev pub s71 : State
s71 = after pair s70 1 (Shelve Begin)

abbrev pub s72 : State
s72 = after pair s71 1 (Shelve (Walk 0))

abbrev pub s73 : State
s73 = after pair s72 1 (Shelve (MakeNode 1 4))

abbrev pub s74 : State
s74 = after pair s73 1 (Shelve (DropNode 3))

abbrev pub s75 : State
s75 = after pair s74 1 (Shelve (Regroup (λ s. if nat_le 2 s then 2 else 1) (λ l. 5) (nat_le 2) 5))

abbrev pub s76 : State
s76 = after pair s75 1 (Shelve End)

abbrev pub s77 : State
s77 = after pair s76 1 (Shelve (Raise 0))

abbrev pub s78 : State
s78 = after pair s77 1 (Shelve (Take 1 Priorities 6))

abbrev pub s79 : State
s79 = after pair s78 1 (CacheWrite Metadata 6 (zero_value ∷ []))

abbrev pub s80 : State
s80 = after pair s79 1 (Shelve (SealChain 1 new_version (λ b. b == 6)))

abbrev pub s81 : State
s81 = after pair s80 1 CacheBarrier

abbrev pub s82 : State
s82 = after pair s81 1 (CacheWrite JournalEntry 9 (zero_value ∷ []))

abbrev pub s83 : State
s83 = after pair s82 1 CacheBarrier

abbrev pub s84 : State
s84 = after pair s83 1 (Shelve Sealed)

abbrev pub s85 : State
s85 = after pair s84 1 (Shelve (ReadyChain (λ b. true)))

abbrev pub s86 : State
s86 = after pair s85 1 (Shelve (MakeReady 0 (Some Plain)))

abbrev pub s87 : State
s87 = after pair s86 1 (Insert StaleKeys 1 (gap 1 1 ∷ []))

abbrev pub s88 : State
s88 = after pair s87 1 (Shelve Begin)

abbrev pub s89 : State
s89 = after pair s88 1 (Shelve Drop)

abbrev pub s90 : State
s90 = after pair s89 1 (Fail ReadFault)

abbrev pub s91 : State
s91 = after pair s90 1 (MakeClaim 2 1 true)

abbrev pub s92 : State
s92 = after pair s91 1 (Learn (Look 2))

abbrev pub s93 : State
s93 = after pair s92 1 (Fail (BackingFault (Around 10) 2 (one_value ∷ [])))

abbrev pub s94 : State
s94 = after pair s93 2 (Fail BarrierFault)

abbrev pub s95 : State
s95 = after pair s94 3 (Fail (CacheFault Metadata 9 (zero_value ∷ [])))

abbrev pub s96 : State
s96 = after pair s95 4 BackingBarrier

newer : (b : ℕ) → (300 ≤ new_version b) × (new_version b ≤ put (λ (b : ℕ). 300) 0 301 b)
newer b = by_test b 0 (λ z. (300 ≤ (if z then 301 else 300))
    × ((if z then 301 else 300) ≤ (if z then 301 else 300))) (λ _. (omega arith, omega arith))
    (λ _. (omega arith, omega arith))

only_six : (b : ℕ) → (b == 6) ≡ true → (s79.books.shelf b ≡ Held 1 Priorities)
    × (s79.books.chains.of b ≡ None)
only_six b = by_test b 6 (λ z. z ≡ true → (s79.books.shelf b ≡ Held 1 Priorities)
    × (s79.books.chains.of b ≡ None))
    (λ is _. subst (λ c. (s79.books.shelf c ≡ Held 1 Priorities) × (s79.books.chains.of c ≡ None))
    (sym is) (refl, refl)) (λ _ e. absurd (cc))

pub on0 : IsEnabled pair s0 1 (Shelve (Take 1 Plain 0))
on0 = record { heard = refl; steps = (inl refl, tt); can = refl }

pub on1 : IsEnabled pair s1 1 (PinPlaces 0 2)
on1 = record { heard = refl; steps = (pin_two _ _ 0 (inl refl) (inl refl) refl refl, tt); can = tt }

pub on2 : IsEnabled pair s2 1 (CacheWrite Data 0 (one_value ∷ two_value ∷ []))
on2 = record {
  heard = inl refl;
  steps = tt;
  can = record {
    places = λ t v e. run_two 0 one_value two_value t v
        (λ t v. MayWrite small s2.books 1 Data t) refl refl e;
    sendable = tt;
  };
}

pub on3 : IsEnabled pair s3 1 (MakeClaim 0 2 true)
on3 = record {
  heard = refl;
  steps = tt;
  can = record {
    none = refl;
    inside = omega arith;
    apart = alone
        (placing) 0 2 true;
  };
}

pub on4 : IsEnabled pair s4 1 (InsertWrite 5 0 (key 0 2 Dirty 0 ∷ []) 0 (one_value ∷ two_value ∷ []))
on4 = record {
  heard = refl;
  steps = (
    put_two small _ _ _ 0 0 Dirty 0 refl (omega arith, refl) (omega arith, refl) (inl (tt, refl))
        (inl (tt, refl)) tt tt,
    tt,
  );
  can = record {
    some = λ e. cc;
    exclusive = refl;
    first_write = refl;
    using = using_two s4.books.owner
        (Own 1) 0 0 Dirty (inl refl) (inl refl);
    fits = λ s. both_two 0 0 one_value two_value s
        (Fits pair s4 1) (record {
          covers = (
            omega arith,
            omega arith,
          );
          key = at_place Dirty 0;
          is = refl;
          dirty = refl;
          placed = record { version = refl; own = refl; placed = refl };
        })
        (record {
          covers = (
            omega arith,
            omega arith,
          );
          key = at_place Dirty 1;
          is = refl;
          dirty = refl;
          placed = record { version = refl; own = refl; placed = refl };
        }) tt;
    not_plain = refl;
  };
}

pub on5 : IsEnabled pair s5 1 (Shelve Seal)
on5 = record { heard = refl; steps = (refl, tt); can = tt }

pub on6 : IsEnabled pair s6 1 CacheBarrier
on6 = record { heard = inl refl; steps = tt; can = tt }

pub on7 : IsEnabled pair s7 1 (CacheWrite JournalEntry 9 (zero_value ∷ []))
on7 = record {
  heard = inl refl;
  steps = tt;
  can = write_one s7 JournalEntry 9 zero_value
      (record { fresh = refl; unnamed = refl; apart = inl (inl refl) }) refl;
}

pub on8 : IsEnabled pair s8 1 CacheBarrier
on8 = record { heard = inl refl; steps = tt; can = tt }

pub on9 : IsEnabled pair s9 1 (Shelve Sealed)
on9 = record { heard = refl; steps = (refl, tt); can = refl }

pub on10 : IsEnabled pair s10 1 (Say (Acknowledge 5 0 2))
on10 = record { heard = refl; steps = tt; can = record { exclusive = refl; wrote = refl; its_line = refl; its_first = refl; its_count = omega arith; keys = omega arith; firm = refl } }

pub on11 : IsEnabled pair s11 1 Release
on11 = record { heard = tt; steps = tt; can = tt }

pub on12 : IsEnabled pair s12 1 (Say (BeginFlush 6))
on12 = record { heard = refl; steps = tt; can = tt }

pub on13 : IsEnabled pair s13 1 BackingBarrier
on13 = record { heard = inl refl; steps = tt; can = tt }

pub on14 : IsEnabled pair s14 1 (Say (EndFlush 6))
on14 = record { heard = refl; steps = tt; can = record { going = refl; its_line = refl; keys = omega arith; firm = refl } }

pub on15 : IsEnabled pair s15 1 (MakeClaim 0 2 false)
on15 = record {
  heard = refl;
  steps = tt;
  can = record {
    none = refl;
    inside = omega arith;
    apart = alone
        (placing ++ (writing ++ (sealing ++ flushing))) 0 2 false;
  };
}

pub on16 : IsEnabled pair s16 1 (Learn (Look 0))
on16 = record { heard = refl; steps = tt; can = λ s q. refl }

pub on17 : IsEnabled pair s17 1 (Learn (CacheRead 0 (one_value ∷ two_value ∷ [])))
on17 = record {
  heard = inl refl;
  steps = tt;
  can = (
    refl,
    λ s v e. run_two 0 one_value two_value s v
        (λ s v. Covers (claim_of s17 1) s
        × ((r : Pointer) × ((claim_of s17 1).sight s ≡ Some r) × Among v (s17.cache.reads r.place)))
        ((omega arith, omega arith), (at_place Dirty 0, refl, inl refl))
        ((omega arith, omega arith), (at_place Dirty 1, refl, inl refl)) e,
  );
}

pub on18 : IsEnabled pair s18 1 (Say (Answer 7 0 (one_value ∷ two_value ∷ [])))
on18 = record {
  heard = refl;
  steps = tt;
  can = (
    refl,
    λ s v e. run_two 0 one_value two_value s v
        (λ s v. Covers (claim_of s18 1) s × IsKnown pair s18 (claim_of s18 1) s v)
        ((omega arith, omega arith), inr (at_place Dirty 0, refl, refl, refl))
        ((omega arith, omega arith), inr (at_place Dirty 1, refl, refl, refl)) e,
  );
}

pub on19 : IsEnabled pair s19 1 (Learn (Look 0))
on19 = record { heard = refl; steps = tt; can = λ s q. refl }

pub on20 : IsEnabled pair s20 1 (BackingWrite Copy 0 (one_value ∷ two_value ∷ []))
on20 = record {
  heard = inl refl;
  steps = tt;
  can = record {
    checked = λ s v e. run_two 0 one_value two_value s v
        (λ s v. Covers (claim_of s20 1) s × ((claim_of s20 1).checked s ≡ Some v))
        ((omega arith, omega arith), refl) ((omega arith, omega arith), refl) e;
    known = omega arith;
  };
}

pub on21 : IsEnabled pair s21 1 BackingBarrier
on21 = record { heard = inl refl; steps = tt; can = tt }

pub on22 : IsEnabled pair s22 1 (Insert CleanKeys 0 (key 0 2 Clean 0 ∷ []))
on22 = record {
  heard = refl;
  steps = (
    put_two small _ _ _ 0 0 Clean 0 refl (omega arith, refl) (omega arith, refl)
        (inr (at_place Dirty 0, refl, refl)) (inr (at_place Dirty 1, refl, refl)) tt tt,
    tt,
  );
  can = record {
    using = using_two s22.books.owner (Own 1) 0 0 Clean (inr refl)
        (inr refl);
    hits = λ s o e. hit_two 0 (Some Clean) 0 300 s o (MayInsert pair s22 1 CleanKeys)
        (record {
          covers = (
            omega arith,
            omega arith,
          );
          firm = refl;
          old = at_place Dirty 0;
          now = refl;
          dirty = refl;
          is = refl;
        })
        (record {
          covers = (
            omega arith,
            omega arith,
          );
          firm = refl;
          old = at_place Dirty 1;
          now = refl;
          dirty = refl;
          is = refl;
        }) e;
    not_plain = refl;
  };
}

pub on23 : IsEnabled pair s23 1 Release
on23 = record { heard = tt; steps = tt; can = tt }

pub on24 : IsEnabled pair s24 1 (Shelve (Shut 0))
on24 = record { heard = refl; steps = (refl, tt); can = tt }

pub on25 : IsEnabled pair s25 1 (Shelve (Take 1 Plain 2))
on25 = record { heard = refl; steps = (inl refl, tt); can = refl }

pub on26 : IsEnabled pair s26 1 (PinPlaces 2 1)
on26 = record { heard = refl; steps = (pin_one _ _ 2 (inl refl) refl, tt); can = tt }

pub on27 : IsEnabled pair s27 1 (MakeClaim 2 1 false)
on27 = record {
  heard = refl;
  steps = tt;
  can = record {
    none = refl;
    inside = omega arith;
    apart = alone
        (placing ++ (writing ++ (sealing ++ (flushing ++ cleaning)))) 2 1 false;
  };
}

pub on28 : IsEnabled pair s28 1 (Learn (Look 0))
on28 = record { heard = refl; steps = tt; can = λ s q. refl }

pub on29 : IsEnabled pair s29 1 (Learn (BackingRead 2 (zero_value ∷ [])))
on29 = record {
  heard = inl refl;
  steps = tt;
  can = (
    refl,
    λ s v e. run_one 2 zero_value s v
        (λ s v. Covers (claim_of s29 1) s × Among v (s29.backing.reads s))
        ((omega arith, omega arith), inl refl) e,
  );
}

pub on30 : IsEnabled pair s30 1 (CacheWrite Data 2 (zero_value ∷ []))
on30 = record { heard = inl refl; steps = tt; can = write_one s30 Data 2 zero_value refl tt }

pub on31 : IsEnabled pair s31 1 (NoteCandidate 7 2 1 2)
on31 = record {
  heard = refl;
  steps =
      (each_one _ 2 IsPinned tt, tt);
  can = record {
    free = refl;
    own = λ t e. in_one 2 t
        (λ t. s31.books.owner t ≡ Own 1) refl e;
    values = λ s p e. place_one 2 2 s p (MayKeep s31 1)
        (record {
          covers = (omega arith, omega arith);
          value = zero_value;
          placed = refl;
          source = inl
              (record { shared = refl; looked = refl; backed = tt; read = refl });
        }) e;
  };
}

pub on32 : IsEnabled pair s32 1 (Say (Answer 8 2 (zero_value ∷ [])))
on32 = record {
  heard = refl;
  steps = tt;
  can = (
    refl,
    λ s v e. run_one 2 zero_value s v
        (λ s v. Covers (claim_of s32 1) s × IsKnown pair s32 (claim_of s32 1) s v)
        ((omega arith, omega arith), inl (refl, tt)) e,
  );
}

pub on33 : IsEnabled pair s33 1 Release
on33 = record { heard = tt; steps = tt; can = tt }

pub on34 : IsEnabled pair s34 1 BackingBarrier
on34 = record { heard = inl refl; steps = tt; can = tt }

pub on35 : IsEnabled pair s35 1 (Settle 7 0 (key 2 1 Clean 2 ∷ []))
on35 = record {
  heard = refl;
  steps = (
    put_one small _ _ _ 0 2 Clean 2 (omega arith, refl) (inl (tt, refl)) tt,
    (
      each_one _ 2 WasPinned tt,
      tt,
    ),
  );
  can = record {
    stands = refl;
    alive = refl;
    firm = refl;
    using = using_one s35.books.owner
        (Kept 7) 2 2 Clean (inl refl);
    hits = λ s o e. hit_one 2 (Some Clean) 2 300 s o
        (MaySettle pair s35 (s35.candidates 7))
        (record { bare = refl; place = 2; at = refl; is = refl }) e;
    not_plain = refl;
  };
}

pub on36 : IsEnabled pair s36 1 (Shelve (Take 1 Plain 8))
on36 = record { heard = refl; steps = (inl refl, tt); can = refl }

pub on37 : IsEnabled pair s37 1 (PinPlaces 8 1)
on37 = record { heard = refl; steps = (pin_one _ _ 8 (inl refl) refl, tt); can = tt }

pub on38 : IsEnabled pair s38 1 (CacheWrite Data 8 (three_value ∷ []))
on38 = record { heard = inl refl; steps = tt; can = write_one s38 Data 8 three_value refl tt }

pub on39 : IsEnabled pair s39 1 (MakeClaim 2 1 true)
on39 = record {
  heard = refl;
  steps = tt;
  can = record {
    none = refl;
    inside = omega arith;
    apart = alone
        (placing ++ (writing ++ (sealing ++ (flushing ++ (cleaning ++ filling))))) 2 1 true;
  };
}

pub on40 : IsEnabled pair s40 1 (Insert DropKeys 0 (gap 2 1 ∷ []))
on40 = record {
  heard = refl;
  steps =
      (put_gap small _ _ _ 0 2 (omega arith, refl) refl, tt);
  can = record {
    using = λ t e. absurd (cc);
    hits = λ s o e. hit_one 2 None 0 0 s o (MayInsert pair s40 1 DropKeys)
        (record {
          exclusive = refl;
          covers =
              (omega arith, omega arith);
          is = refl;
          backed = refl;
        }) e;
    not_plain = refl;
  };
}

pub on41 : IsEnabled pair s41 1 (Shelve Seal)
on41 = record { heard = refl; steps = (refl, tt); can = tt }

pub on42 : IsEnabled pair s42 1 CacheBarrier
on42 = record { heard = inl refl; steps = tt; can = tt }

pub on43 : IsEnabled pair s43 1 (CacheWrite JournalEntry 9 (zero_value ∷ []))
on43 = record {
  heard = inl refl;
  steps = tt;
  can = write_one s43 JournalEntry 9 zero_value
      (record { fresh = refl; unnamed = refl; apart = inl (inl refl) }) refl;
}

pub on44 : IsEnabled pair s44 1 CacheBarrier
on44 = record { heard = inl refl; steps = tt; can = tt }

pub on45 : IsEnabled pair s45 1 (Shelve Sealed)
on45 = record { heard = refl; steps = (refl, tt); can = refl }

pub on46 : IsEnabled pair s46 1 (BackingWrite (Around 9) 2 (three_value ∷ []))
on46 = record {
  heard = inl refl;
  steps = tt;
  can = record {
    some = λ e. cc;
    exclusive = refl;
    first_write = refl;
    bare = λ s v e. run_one 2 three_value s v
        (λ s v. Covers (claim_of s46 1) s × IsBare pair.plain
        (claim_of s46 1) s46.books.journal.durable s)
        ((omega arith, omega arith), inr (inr (refl, omega arith))) e;
  };
}

pub on47 : IsEnabled pair s47 1 (NoteCandidate 8 2 1 8)
on47 = record {
  heard = refl;
  steps =
      (each_one _ 8 IsPinned tt, tt);
  can = record {
    free = refl;
    own = λ t e. in_one 8 t
        (λ t. s47.books.owner t ≡ Own 1) refl e;
    values = λ s p e. place_one 2 8 s p (MayKeep s47 1)
        (record {
          covers = (
            omega arith,
            omega arith,
          );
          value = three_value;
          placed = refl;
          source = inr refl;
        }) e;
  };
}

pub on48 : IsEnabled pair s48 1 Release
on48 = record { heard = tt; steps = tt; can = tt }

pub on49 : IsEnabled pair s49 1 (MakeClaim 2 1 true)
on49 = record {
  heard = refl;
  steps = tt;
  can = record {
    none = refl;
    inside = omega arith;
    apart = alone
        (placing ++ (writing ++ (sealing ++
        (flushing ++ (cleaning ++ (filling ++ (dropping ++ (sealing ++ bypassing)))))))) 2 1 true;
  };
}

pub on50 : IsEnabled pair s50 1 (UnpinDead 8)
on50 = record { heard = tt; steps = (each_one _ 8 WasPinned tt, tt); can = (refl, refl) }

pub on51 : IsEnabled pair s51 1 Release
on51 = record { heard = tt; steps = tt; can = tt }

pub on52 : IsEnabled pair s52 1 (Shelve (Take 1 Moving 5))
on52 = record { heard = refl; steps = (inr (inl refl), tt); can = refl }

pub on53 : IsEnabled pair s53 1 (PinPlaces 5 1)
on53 = record { heard = refl; steps = (pin_one _ _ 5 (inr refl) refl, tt); can = tt }

pub on54 : IsEnabled pair s54 1 (MakeClaim 0 1 false)
on54 = record {
  heard = refl;
  steps = tt;
  can = record {
    none = refl;
    inside = omega arith;
    apart = alone
        (placing ++ (writing ++ (sealing ++
        (flushing ++ (cleaning ++ (filling ++
        (dropping ++ (sealing ++ (bypassing ++ killing))))))))) 0 1 false;
  };
}

pub on55 : IsEnabled pair s55 1 (Learn (Look 0))
on55 = record { heard = refl; steps = tt; can = λ s q. refl }

pub on56 : IsEnabled pair s56 1 (Learn (CacheRead 0 (one_value ∷ [])))
on56 = record {
  heard = inl refl;
  steps = tt;
  can = (
    refl,
    λ s v e. run_one 0 one_value s v
        (λ s v. Covers (claim_of s56 1) s
        × ((r : Pointer) × ((claim_of s56 1).sight s ≡ Some r) × Among v (s56.cache.reads r.place)))
        ((omega arith, omega arith), (at_place Clean 0, refl, inl refl)) e,
  );
}

pub on57 : IsEnabled pair s57 1 (CacheWrite Data 5 (one_value ∷ []))
on57 = record { heard = inl refl; steps = tt; can = write_one s57 Data 5 one_value refl tt }

pub on58 : IsEnabled pair s58 1 (Insert MoveKeys 0 (key 0 1 Clean 5 ∷ []))
on58 = record {
  heard = refl;
  steps = (
    put_one small _ _ _ 0 0 Clean 5 (omega arith, refl) (inl (tt, refl)) tt,
    tt,
  );
  can = record {
    using = using_one s58.books.owner (Own 1) 0 5 Clean
        (inl refl);
    hits = λ s o e. hit_one 0 (Some Clean) 5 300 s o (MayInsert pair s58 1 MoveKeys)
        (record {
          looked = refl;
          covers = (
            omega arith,
            omega arith,
          );
          old = at_place Clean 0;
          new = at_place Clean 5;
          value = one_value;
          now = refl;
          seen = refl;
          live = refl;
          read = refl;
          is = refl;
          kind = refl;
          placed = record { version = refl; own = refl; placed = refl };
        }) e;
    not_plain = refl;
  };
}

pub on59 : IsEnabled pair s59 1 Release
on59 = record { heard = tt; steps = tt; can = tt }

pub on60 : IsEnabled pair s60 1 (UnpinPlaces 5 1)
on60 = record {
  heard = tt;
  steps = (each_one _ 5 WasPinned tt, tt);
  can = λ t e. in_one 5 t
      (λ t. (s60.books.owner t ≡ Own 1) ⊎ (s60.books.owner t ≡ Spent)) (inr refl) e;
}

pub on61 : IsEnabled pair s61 1 (Shelve (LetGo 1 5 false))
on61 = record { heard = refl; steps = (((Moving, refl), refl), tt); can = refl }

pub on62 : IsEnabled pair s62 1 (Shelve Seal)
on62 = record { heard = refl; steps = (refl, tt); can = tt }

pub on63 : IsEnabled pair s63 1 CacheBarrier
on63 = record { heard = inl refl; steps = tt; can = tt }

pub on64 : IsEnabled pair s64 1 (CacheWrite JournalEntry 9 (zero_value ∷ []))
on64 = record {
  heard = inl refl;
  steps = tt;
  can = write_one s64 JournalEntry 9 zero_value
      (record { fresh = refl; unnamed = refl; apart = inl (inl refl) }) refl;
}

pub on65 : IsEnabled pair s65 1 CacheBarrier
on65 = record { heard = inl refl; steps = tt; can = tt }

pub on66 : IsEnabled pair s66 1 (Shelve Sealed)
on66 = record { heard = refl; steps = (refl, tt); can = refl }

pub on67 : IsEnabled pair s67 1 (Shelve (Take 1 Tree 4))
on67 = record { heard = refl; steps = (inr (inl refl), tt); can = refl }

pub on68 : IsEnabled pair s68 1 (CacheWrite Metadata 4 (zero_value ∷ []))
on68 = record {
  heard = inl refl;
  steps = tt;
  can = write_one s68 Metadata 4 zero_value
      (record { fresh = refl; unnamed = refl; apart = inr (Tree, refl) }) tt;
}

pub on69 : IsEnabled pair s69 1 (Shelve (BeginNode 1 4))
on69 = record {
  heard = refl;
  steps = (
    (inr refl, λ t is. in_bucket (λ t. s69.books.owner t ≡ Fresh) 4 t (omega arith) refl is),
    tt,
  );
  can = refl;
}

pub on70 : IsEnabled pair s70 1 (Shelve Begin)
on70 = record { heard = refl; steps = (refl, tt); can = tt }

pub on71 : IsEnabled pair s71 1 (Shelve (Walk 0))
on71 = record { heard = refl; steps = (refl, tt); can = tt }

pub on72 : IsEnabled pair s72 1 (Shelve (MakeNode 1 4))
on72 = record { heard = refl; steps = (refl, tt); can = refl }

pub on73 : IsEnabled pair s73 1 (Shelve (DropNode 3))
on73 = record { heard = refl; steps = (refl, tt); can = tt }

pub on74 : IsEnabled pair s74 1
    (Shelve (Regroup (λ s. if nat_le 2 s then 2 else 1) (λ l. 5) (nat_le 2) 5))
on74 = record {
  heard = refl;
  steps = (
    record { later = λ s. omega arith; known = λ l. omega arith; waits = λ s e. omega arith; last_known = omega arith },
    tt,
  );
  can = tt;
}

pub on75 : IsEnabled pair s75 1 (Shelve End)
on75 = record {
  heard = refl;
  steps = (
    record { going = refl; walked = λ s lt. or_right (nat_le 2 s) true refl; firm = omega arith },
    tt,
  );
  can = tt;
}

pub on76 : IsEnabled pair s76 1 (Shelve (Raise 0))
on76 = record {
  heard = refl;
  steps = (
    (
      record {
        unpinned = unpinned_zero _ (λ p. p) (λ p. p);
        not_held =
            ((λ e. cc), λ i h. let e = h.1 in cc);
        free = refl;
        near = omega arith;
      },
      refl,
    ),
    tt,
  );
  can = tt;
}

pub on77 : IsEnabled pair s77 1 (Shelve (Take 1 Priorities 6))
on77 = record { heard = refl; steps = (inr (inl refl), tt); can = refl }

pub on78 : IsEnabled pair s78 1 (CacheWrite Metadata 6 (zero_value ∷ []))
on78 = record {
  heard = inl refl;
  steps = tt;
  can = write_one s78 Metadata 6 zero_value
      (record { fresh = refl; unnamed = refl; apart = inr (Priorities, refl) }) tt;
}

pub on79 : IsEnabled pair s79 1 (Shelve (SealChain 1 new_version (λ b. b == 6)))
on79 = record {
  heard = refl;
  steps = (
    record {
      none_waits = refl;
      order = newer;
      held = only_six;
      sets =
          ((λ j. 6), (λ i j x y e. omega arith), λ j lt. refl);
    },
    tt,
  );
  can = refl;
}

pub on80 : IsEnabled pair s80 1 CacheBarrier
on80 = record { heard = inl refl; steps = tt; can = tt }

pub on81 : IsEnabled pair s81 1 (CacheWrite JournalEntry 9 (zero_value ∷ []))
on81 = record {
  heard = inl refl;
  steps = tt;
  can = write_one s81 JournalEntry 9 zero_value
      (record { fresh = refl; unnamed = refl; apart = inl (inl refl) }) refl;
}

pub on82 : IsEnabled pair s82 1 CacheBarrier
on82 = record { heard = inl refl; steps = tt; can = tt }

pub on83 : IsEnabled pair s83 1 (Shelve Sealed)
on83 = record { heard = refl; steps = (refl, tt); can = refl }

pub on84 : IsEnabled pair s84 1 (Shelve (ReadyChain (λ b. true)))
on84 = record { heard = refl; steps = (omega arith, tt); can = tt }

pub on85 : IsEnabled pair s85 1 (Shelve (MakeReady 0 (Some Plain)))
on85 = record { heard = refl; steps = ((refl, refl), tt); can = tt }

pub on86 : IsEnabled pair s86 1 (Insert StaleKeys 1 (gap 1 1 ∷ []))
on86 = record {
  heard = refl;
  steps =
      (put_gap small _ _ _ 1 1 (omega arith, refl) refl, tt);
  can = record {
    using = λ t e. absurd (cc);
    hits = λ s o e. hit_one 1 None 0 0 s o (MayInsert pair s86 1 StaleKeys)
        (record { is = refl; old = at_place Clean 1; now = refl; past = omega arith }) e;
    not_plain = refl;
  };
}

pub on87 : IsEnabled pair s87 1 (Shelve Begin)
on87 = record { heard = refl; steps = (refl, tt); can = tt }

pub on88 : IsEnabled pair s88 1 (Shelve Drop)
on88 = record { heard = refl; steps = (refl, tt); can = tt }

pub on89 : IsEnabled pair s89 1 (Fail ReadFault)
on89 = record { heard = inl refl; steps = tt; can = tt }

pub on90 : IsEnabled pair s90 1 (MakeClaim 2 1 true)
on90 = record {
  heard = refl;
  steps = tt;
  can = record {
    none = refl;
    inside = omega arith;
    apart = alone
        (placing ++ (writing ++ (sealing ++
        (flushing ++ (cleaning ++ (filling ++
        (dropping ++ (sealing ++ (bypassing ++
        (killing ++ (moving ++ (sealing ++
        (collecting ++ (chaining ++ forgetting)))))))))))))) 2 1 true;
  };
}

pub on91 : IsEnabled pair s91 1 (Learn (Look 2))
on91 = record {
  heard = refl;
  steps = tt;
  can = λ s q. one_sector
      (λ s. s91.books.index.leaf s ≡ 2) s refl q;
}

pub on92 : IsEnabled pair s92 1 (Fail (BackingFault (Around 10) 2 (one_value ∷ [])))
on92 = record {
  heard = inl refl;
  steps = tt;
  can = record {
    some = λ e. cc;
    exclusive = refl;
    first_write = refl;
    bare = λ s v e. run_one 2 one_value s v
        (λ s v. Covers (claim_of s92 1) s × IsBare pair.plain
        (claim_of s92 1) s92.books.journal.durable s)
        ((omega arith, omega arith), inr (inl (refl, refl, omega arith))) e;
  };
}

pub on93 : IsEnabled pair s93 2 (Fail BarrierFault)
on93 = record { heard = inr refl; steps = tt; can = tt }

pub on94 : IsEnabled pair s94 3 (Fail (CacheFault Metadata 9 (zero_value ∷ [])))
on94 = record {
  heard = inr refl;
  steps = tt;
  can = record {
    places = λ t v e. run_one 9 zero_value t v
        (λ t v. MayWrite small s94.books 3 Metadata t)
        (record { fresh = refl; unnamed = refl; apart = inl (inl refl) }) e;
    sendable = tt;
  };
}

pub on95 : IsEnabled pair s95 4 BackingBarrier
on95 = record { heard = inr refl; steps = tt; can = tt }

pub law_runs : LawRuns
law_runs = record {
  sound = record {
    books = sound_small;
    agree = λ s r e. absurd (cc);
    plain = λ e s. refl;
    image = λ s. refl;
  };
  run = (on0, (on1, (on2, (on3, (on4, (on5, (on6, (on7, (on8, (on9, (on10, (on11, (on12, (on13, (on14, (on15, (on16, (on17, (on18, (on19, (on20, (on21, (on22, (on23, (on24, (on25, (on26, (on27, (on28, (on29, (on30, (on31, (on32, (on33, (on34, (on35, (on36, (on37, (on38, (on39, (on40, (on41, (on42, (on43, (on44, (on45, (on46, (on47, (on48, (on49, (on50, (on51, (on52, (on53, (on54, (on55, (on56, (on57, (on58, (on59, (on60, (on61, (on62, (on63, (on64, (on65, (on66, (on67, (on68, (on69, (on70, (on71, (on72, (on73, (on74, (on75, (on76, (on77, (on78, (on79, (on80, (on81, (on82, (on83, (on84, (on85, (on86, (on87, (on88, (on89, (on90, (on91, (on92, (on93, (on94, (on95, tt))))))))))))))))))))))))))))))))))))))))))))))))))))))))))))))))))))))))))))))))))))))))))))))));
  moved = refl;
  forgotten = refl;
  raised = refl;
  halted = refl;
  history = refl;
}
