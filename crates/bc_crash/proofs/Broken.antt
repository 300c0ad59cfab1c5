-- The runs without a condition.
use Rattle.std.proofs.Common.{inl, inr, true, List, [], ◌∷◌, ◌++◌, Option, Some, None, refl, arith}
use Rattle.bc_model.specs.Sector.{Value, Image, at_run, unless}
use Rattle.bc_model.specs.History.{Allowed}
use Rattle.bc_disk.specs.Device.{Among, instead, besides}
use Rattle.bc_books.specs.Index.{Clean}
use Rattle.bc_books.specs.Books.{Seal, Sealed}
use Rattle.bc_books.specs.Example.{small, key, gap}
use Rattle.bc_books.proofs.Small.{put_gap}
use Rattle.bc_data.specs.Data.{State, JournalEntry, Around, DropKeys, CleanKeys, BeginFlush, EndFlush, MakeClaim, CacheWrite, CacheBarrier, BackingWrite, BackingBarrier, Insert, Shelve, Say}
use Rattle.bc_data.specs.Enabled.{MayInsert, IsEnabled}
use Rattle.bc_data.specs.After.{after}
use Rattle.bc_data.specs.Example.{first_part, pair, zero_value, one_value, two_value, three_value, sealing, filling}
use Rattle.bc_crash.specs.Teeth.{LawTeethClean, LawTeethBypass, LawTeethFlush, flushed_state, LawTeethEntry, entry_state, LawCloses}
use Rattle.bc_data.proofs.Does.{s39, s21, s5, on0, on1, on2, on3, on4, on5, on6, on7, on8, on9, on10, on11, on12, on13, on14, on15, on16, on17, on18, on19, on20, on21, on22, on23, on24, on25, on26, on27, on28, on29, on30, on31, on32, on33, on34, on35, on36, on37, on38, on39, on40, on41, on42, on43, on44, on45}
use Rattle.bc_data.proofs.Asked.{at_place, hit_one, write_one, alone}

abbrev clean0 : State
clean0 = after pair s21 1 (Insert CleanKeys 0 (key 0 2 Clean 0 ∷ []))

clean_on1 : IsEnabled pair clean0 1 (Shelve Seal)
clean_on1 = record { heard = refl; steps = (refl, tt); can = tt }

abbrev clean1 : State
clean1 = after pair clean0 1 (Shelve Seal)

clean_on2 : IsEnabled pair clean1 1 CacheBarrier
clean_on2 = record { heard = inl refl; steps = tt; can = tt }

abbrev clean2 : State
clean2 = after pair clean1 1 CacheBarrier

clean_on3 : IsEnabled pair clean2 1 (CacheWrite JournalEntry 9 (zero_value ∷ []))
clean_on3 = record {
  heard = inl refl;
  steps = tt;
  can = write_one clean2 JournalEntry 9 zero_value
      (record { fresh = refl; unnamed = refl; apart = inl (inl refl) }) refl;
}

abbrev clean3 : State
clean3 = after pair clean2 1 (CacheWrite JournalEntry 9 (zero_value ∷ []))

clean_on4 : IsEnabled pair clean3 1 CacheBarrier
clean_on4 = record { heard = inl refl; steps = tt; can = tt }

abbrev clean4 : State
clean4 = after pair clean3 1 CacheBarrier

clean_on5 : IsEnabled pair clean4 1 (Shelve Sealed)
clean_on5 = record { heard = refl; steps = (refl, tt); can = refl }

abbrev clean5 : State
clean5 = after pair clean4 1 (Shelve Sealed)

around_on0 : IsEnabled pair s39 1 (Shelve Seal)
around_on0 = record { heard = refl; steps = (refl, tt); can = tt }

abbrev around0 : State
around0 = after pair s39 1 (Shelve Seal)

around_on1 : IsEnabled pair around0 1 CacheBarrier
around_on1 = record { heard = inl refl; steps = tt; can = tt }

abbrev around1 : State
around1 = after pair around0 1 CacheBarrier

around_on2 : IsEnabled pair around1 1 (CacheWrite JournalEntry 9 (zero_value ∷ []))
around_on2 = record {
  heard = inl refl;
  steps = tt;
  can = write_one around1 JournalEntry 9 zero_value
      (record { fresh = refl; unnamed = refl; apart = inl (inl refl) }) refl;
}

abbrev around2 : State
around2 = after pair around1 1 (CacheWrite JournalEntry 9 (zero_value ∷ []))

around_on3 : IsEnabled pair around2 1 CacheBarrier
around_on3 = record { heard = inl refl; steps = tt; can = tt }

abbrev around3 : State
around3 = after pair around2 1 CacheBarrier

around_on4 : IsEnabled pair around3 1 (Shelve Sealed)
around_on4 = record { heard = refl; steps = (refl, tt); can = refl }

abbrev around4 : State
around4 = after pair around3 1 (Shelve Sealed)

around_on5 : IsEnabled pair around4 1 (MakeClaim 2 1 true)
around_on5 = record {
  heard = refl;
  steps = tt;
  can = record {
    none = refl;
    inside = omega arith;
    apart = alone
        (first_part ++ (filling ++ sealing)) 2 1 true;
  };
}

abbrev around5 : State
around5 = after pair around4 1 (MakeClaim 2 1 true)

around_on6 : IsEnabled pair around5 1 (Insert DropKeys 0 (gap 2 1 ∷ []))
around_on6 = record {
  heard = refl;
  steps =
      (put_gap small _ _ _ 0 2 (omega arith, refl) refl, tt);
  can = record {
    using = λ t e. absurd (cc);
    hits = λ s o e. hit_one 2 None 0 0 s o (MayInsert pair around5 1 DropKeys)
        (record {
          exclusive = refl;
          covers =
              (omega arith, omega arith);
          is = refl;
          backed = refl;
        }) e;
    not_plain = refl;
  };
}

abbrev around6 : State
around6 = after pair around5 1 (Insert DropKeys 0 (gap 2 1 ∷ []))

abbrev around7 : State
around7 = after pair around6 1 (BackingWrite (Around 9) 2 (three_value ∷ []))

flush_on0 : IsEnabled pair s5 1 (Say (BeginFlush 6))
flush_on0 = record { heard = refl; steps = tt; can = tt }

abbrev flush0 : State
flush0 = after pair s5 1 (Say (BeginFlush 6))

flush_on1 : IsEnabled pair flush0 1 BackingBarrier
flush_on1 = record { heard = inl refl; steps = tt; can = tt }

abbrev flush1 : State
flush1 = after pair flush0 1 BackingBarrier

abbrev flush2 : State
flush2 = after pair flush1 1 (Say (EndFlush 6))

early_on0 : IsEnabled pair s5 1 (Shelve Seal)
early_on0 = record { heard = refl; steps = (refl, tt); can = tt }

abbrev early0 : State
early0 = after pair s5 1 (Shelve Seal)

abbrev early1 : State
early1 = after pair early0 1 (Shelve Sealed)

early_on2 : IsEnabled pair early1 1 (Say (BeginFlush 6))
early_on2 = record { heard = refl; steps = tt; can = tt }

abbrev early2 : State
early2 = after pair early1 1 (Say (BeginFlush 6))

early_on3 : IsEnabled pair early2 1 BackingBarrier
early_on3 = record { heard = inl refl; steps = tt; can = tt }

abbrev early3 : State
early3 = after pair early2 1 BackingBarrier

early_on4 : IsEnabled pair early3 1 (Say (EndFlush 6))
early_on4 = record { heard = refl; steps = tt; can = record { going = refl; its_line = refl; keys = omega arith; firm = refl } }

abbrev early4 : State
early4 = after pair early3 1 (Say (EndFlush 6))

over : (o : Option Value) (x : Value) (xs : List Value) → Among x xs → Among (unless o x) (instead o xs)
over None x xs h = h
over (Some y) x xs h = inl refl

beside : (o : Option Value) (x : Value) (xs : List Value) → Among x xs → Among (unless o x)
    (besides o xs)
beside None x xs h = h
beside (Some y) x xs h = inl refl

below : (o : Option Value) (x : Value) (xs : List Value) → Among x xs → Among x (besides o xs)
below None x xs h = h
below (Some y) x xs h = inr h

-- what the runs leave in the cache, and on the backing device
abbrev placed : Image
placed t = unless (at_run 9 (zero_value ∷ []) t)
    (unless (at_run 0 (one_value ∷ two_value ∷ []) t) zero_value)

abbrev filled : Image
filled t = unless (at_run 9 (zero_value ∷ []) t)
    (unless (at_run 8 (three_value ∷ []) t) (unless (at_run 2 (zero_value ∷ []) t) (placed t)))

abbrev bypassed : Image
bypassed s = unless (at_run 2 (three_value ∷ []) s)
    (unless (at_run 0 (one_value ∷ two_value ∷ []) s) zero_value)

pub law_teeth_clean : LawTeethClean
law_teeth_clean = record {
  run = (on0, (on1, (on2, (on3, (on4, (on5, (on6, (on7, (on8, (on9, (on10, (on11, (on12, (on13, (on14, (on15, (on16, (on17, (on18, (on19, (on20, tt)))))))))))))))))))));
  covers = (omega arith, omega arith);
  copied = refl;
  dirty = refl;
  later = (clean_on1, (clean_on2, (clean_on3, (clean_on4, (clean_on5, tt)))));
  wrong = record {
    cache = λ t. unless (at_run 9 (zero_value ∷ []) t) (placed t);
    backing = λ s. zero_value;
    left_cache = λ t. over (at_run 9 (zero_value ∷ []) t) _ _
        (over (at_run 9 (zero_value ∷ []) t) _ _
        (over (at_run 0 (one_value ∷ two_value ∷ []) t) zero_value _ (inl refl)));
    left_backing = λ s. below (at_run 0 (one_value ∷ two_value ∷ []) s) zero_value _ (inl refl);
    lost = λ safe. let e = safe.agree (at_place Clean 0) refl refl refl in cc;
  };
}

pub law_teeth_bypass : LawTeethBypass
law_teeth_bypass = record {
  run = (on0, (on1, (on2, (on3, (on4, (on5, (on6, (on7, (on8, (on9, (on10, (on11, (on12, (on13, (on14, (on15, (on16, (on17, (on18, (on19, (on20, (on21, (on22, (on23, (on24, (on25, (on26, (on27, (on28, (on29, (on30, (on31, (on32, (on33, (on34, (on35, (on36, (on37, (on38, (around_on0, (around_on1, (around_on2, (around_on3, (around_on4, (around_on5, (around_on6, tt))))))))))))))))))))))))))))))))))))))))))))));
  some = λ e. cc;
  exclusive = refl;
  first_write = refl;
  covers = (omega arith, omega arith);
  gone = refl;
  wrong = record {
    cache = filled;
    backing = bypassed;
    left_cache = λ t. over (at_run 9 (zero_value ∷ []) t) _ _
        (over (at_run 8 (three_value ∷ []) t) _ _
        (over (at_run 2 (zero_value ∷ []) t) _ _
        (over (at_run 9 (zero_value ∷ []) t) _ _
        (over (at_run 0 (one_value ∷ two_value ∷ []) t) zero_value _ (inl refl)))));
    left_backing = λ s. beside (at_run 2 (three_value ∷ []) s) _ _
        (over (at_run 0 (one_value ∷ two_value ∷ []) s) zero_value _ (inl refl));
    lost = λ safe. let e = safe.agree (at_place Clean 2) refl refl refl in cc;
  };
}

pub law_teeth_flush : LawTeethFlush
law_teeth_flush = record {
  run = (on0, (on1, (on2, (on3, (on4, (flush_on0, (flush_on1, tt)))))));
  going = refl;
  its_line = refl;
  firm = refl;
  wrong = record {
    cache = λ t. zero_value;
    backing = λ s. zero_value;
    left_cache = λ t. below (at_run 0 (one_value ∷ two_value ∷ []) t) zero_value _ (inl refl);
    left_backing = λ s. inl refl;
    lost = λ safe. not_allowed safe.allowed;
  };
}
  where
    not_allowed : Allowed pair.image flushed_state.history 0 zero_value → ⊥
    not_allowed (inl given) = absurd (cc)
    not_allowed (inr (inl given)) = absurd (cc)
    not_allowed (inr (inr is)) = absurd (cc)

pub law_teeth_entry : LawTeethEntry
law_teeth_entry = record {
  run = (on0, (on1, (on2, (on3, (on4, (early_on0, tt))))));
  steps = (refl, tt);
  later = (early_on2, (early_on3, (early_on4, tt)));
  wrong = record {
    cache = λ t. zero_value;
    backing = λ s. zero_value;
    left_cache = λ t. below (at_run 0 (one_value ∷ two_value ∷ []) t) zero_value _ (inl refl);
    left_backing = λ s. inl refl;
    lost = λ safe. not_allowed safe.allowed;
  };
}
  where
    not_allowed : Allowed pair.image entry_state.history 0 zero_value → ⊥
    not_allowed (inl given) = absurd (cc)
    not_allowed (inr (inl given)) = absurd (cc)
    not_allowed (inr (inr is)) = absurd (cc)

pub law_closes : LawCloses
law_closes = record {
  run = (on0, (on1, (on2, (on3, (on4, (on5, (on6, (on7, (on8, (on9, (on10, (on11, (on12, (on13, (on14, (on15, (on16, (on17, (on18, (on19, (on20, (on21, (on22, (on23, (on24, (on25, (on26, (on27, (on28, (on29, (on30, (on31, (on32, (on33, (on34, (on35, (on36, (on37, (on38, (on39, (on40, (on41, (on42, (on43, (on44, (on45, tt))))))))))))))))))))))))))))))))))))))))))))));
  closed = record { running = refl; journal = refl; backing = λ s x h. h };
}
