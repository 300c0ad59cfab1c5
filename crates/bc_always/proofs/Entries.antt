-- The runs behind which an entry counts, or is passed over.
use Rattle.std.proofs.Common.{◌≡◌, inl, inr, ℕ, true, List, [], ◌∷◌, ◌++◌, Option, Some, None, if◌then◌else◌, refl, sym, subst, arith}
use Rattle.bc_model.specs.Sector.{Value, Image, at_run, unless}
use Rattle.bc_model.specs.History.{Allowed}
use Rattle.bc_model.proofs.Cases.{by_test}
use Rattle.bc_disk.specs.Device.{Among, instead, besides}
use Rattle.bc_books.specs.Index.{Dirty, Pointer, first_hit, hit}
use Rattle.bc_books.specs.Shelves.{Plain, Own}
use Rattle.bc_books.specs.Books.{Take, Shut, Seal}
use Rattle.bc_books.specs.Laws.{Snapshot}
use Rattle.bc_books.specs.Example.{small, key}
use Rattle.bc_books.proofs.Small.{put_one}
use Rattle.bc_books.proofs.Runs.{pin_one}
use Rattle.bc_data.specs.Data.{State, Data, MakeClaim, CacheWrite, InsertWrite, PinPlaces, Shelve}
use Rattle.bc_data.specs.Enabled.{Fits, IsEnabled}
use Rattle.bc_data.specs.After.{after}
use Rattle.bc_data.specs.Laws.{shown}
use Rattle.bc_data.specs.Example.{pair, zero_value, one_value, two_value, three_value, placing, writing, sealing, flushing}
use Rattle.bc_data.proofs.Asked.{at_place, using_one, write_one, alone}
use Rattle.bc_data.proofs.Does.{law_runs, s15, on0, on1, on2, on3, on4, on5, on6, on7, on8, on9, on10, on11, on12, on13, on14}
use Rattle.bc_crash.proofs.Survive as survive
use Rattle.bc_always.specs.Entries.{cut_state, cut_run, entered_state, flushed_state, sealed_state, LawCut, LawTeethDropped, LawTeethEarly}

-- ---- what is left

over : (o : Option Value) (x : Value) (xs : List Value) → Among x xs
    → Among (unless o x) (instead o xs)
over None x xs h = h
over (Some y) x xs h = inl refl

beside : (o : Option Value) (x : Value) (xs : List Value) → Among x xs
    → Among (unless o x) (besides o xs)
beside None x xs h = h
beside (Some y) x xs h = inl refl

below : (o : Option Value) (x : Value) (xs : List Value) → Among x xs → Among x (besides o xs)
below None x xs h = h
below (Some y) x xs h = inr h

only : (v x : Value) → Among v (x ∷ []) → v ≡ x
only v x (inl is) = is
only v x (inr none) = absurd none

-- the cache device with two values and an entry
abbrev placed : Image
placed t = unless (at_run 9 (zero_value ∷ []) t)
    (unless (at_run 0 (one_value ∷ two_value ∷ []) t) zero_value)

-- ---- a write that is cut

pub law_cut : LawCut
law_cut = record {
  run = (on0, (on1, (on2, (on3, (on4, tt)))));
  last = refl;
  there = record {
    cache = λ t. unless (at_run 0 (one_value ∷ two_value ∷ []) t) zero_value;
    left = λ t. beside (at_run 0 (one_value ∷ two_value ∷ []) t) zero_value _ (inl refl);
    there = refl;
  };
  before = λ shot c b finds left back. elim finds [
    | inl is ↦ subst (λ (z : Snapshot). shown small.bucket (cut_state.books.index.at z.count)
        z.version c b 0 ≡ zero_value) (sym is) (only (b 0) zero_value (back 0))
    | inr h ↦ absurd h.0
  ];
  safe = survive.law_crash pair cut_run law_runs.sound (on0, (on1, (on2, (on3, (on4, tt)))));
  entered = (on0, (on1, (on2, (on3, (on4, (on5, (on6, (on7, (on8, (on9, tt))))))))));
  behind = λ shot c b finds left back. elim finds [
    | inl is ↦ subst (λ (z : Snapshot). shown small.bucket (entered_state.books.index.at z.count)
        z.version c b 0 ≡ one_value) (sym is) (only (c 0) one_value (left 0))
    | inr h ↦ absurd h.0
  ];
}

-- ---- readers that find the wrong entry

pub law_teeth_dropped : LawTeethDropped
law_teeth_dropped = record {
  run = (on0, (on1, (on2, (on3, (on4, (on5, (on6, (on7, (on8, (on9, (on10, (on11, (on12, (on13, (on14, tt)))))))))))))));
  wrong = record {
    cache = placed;
    backing = λ s. zero_value;
    left_cache = λ t. over (at_run 9 (zero_value ∷ []) t) _ _
        (over (at_run 0 (one_value ∷ two_value ∷ []) t) zero_value _ (inl refl));
    left_backing = λ s. inl refl;
    lost = λ safe. not_allowed safe.allowed;
  };
}
  where
    not_allowed : Allowed pair.image flushed_state.history 0 zero_value → ⊥
    not_allowed (inl given) = absurd (cc)
    not_allowed (inr (inl given)) = absurd (cc)
    not_allowed (inr (inr is)) = absurd (cc)

-- one key and one value cover the same sector
both_one : (a p : ℕ) (x : Value) (s : ℕ) (P : ℕ → Option (Option Pointer) → Option Value → Type 0)
    → P a (Some (Some (at_place Dirty p))) (Some x) → P s None None
    → P s (hit (key a 1 Dirty p ∷ []) s) (at_run a (x ∷ []) s)
both_one a p x s P h out =
    by_test a s (λ b. P s (first_hit (key a 1 Dirty p) (if b then Some p else None) None)
    (if b then Some x else None))
    (λ is. subst (λ n. P n (Some (Some (at_place Dirty p))) (Some x)) is h) (λ ne. out)

again_on0 : IsEnabled pair s15 1 (Shelve (Shut 0))
again_on0 = record { heard = refl; steps = (refl, tt); can = tt }

abbrev again1 : State
again1 = after pair s15 1 (Shelve (Shut 0))

again_on1 : IsEnabled pair again1 1 (Shelve (Take 1 Plain 2))
again_on1 = record { heard = refl; steps = (inl refl, tt); can = refl }

abbrev again2 : State
again2 = after pair again1 1 (Shelve (Take 1 Plain 2))

again_on2 : IsEnabled pair again2 1 (PinPlaces 2 1)
again_on2 = record { heard = refl; steps = (pin_one _ _ 2 (inl refl) refl, tt); can = tt }

abbrev again3 : State
again3 = after pair again2 1 (PinPlaces 2 1)

again_on3 : IsEnabled pair again3 1 (CacheWrite Data 2 (three_value ∷ []))
again_on3 = record { heard = inl refl; steps = tt; can = write_one again3 Data 2 three_value refl tt }

abbrev again4 : State
again4 = after pair again3 1 (CacheWrite Data 2 (three_value ∷ []))

again_on4 : IsEnabled pair again4 1 (MakeClaim 0 1 true)
again_on4 = record {
  heard = refl;
  steps = tt;
  can = record {
    none = refl;
    inside = omega arith;
    apart = alone (placing ++ (writing ++ (sealing ++ (flushing ++ (Shelve (Shut 0)
        ∷ Shelve (Take 1 Plain 2) ∷ PinPlaces 2 1 ∷ CacheWrite Data 2 (three_value ∷ []) ∷ [])))))
        0 1 true;
  };
}

abbrev again5 : State
again5 = after pair again4 1 (MakeClaim 0 1 true)

again_on5 : IsEnabled pair again5 1
    (InsertWrite 8 0 (key 0 1 Dirty 2 ∷ []) 0 (three_value ∷ []))
again_on5 = record {
  heard = refl;
  steps = (put_one small _ _ _ 0 0 Dirty 2 (omega arith, refl) (inl (tt, refl)) tt, tt);
  can = record {
    some = λ e. cc;
    exclusive = refl;
    first_write = refl;
    using = using_one again5.books.owner (Own 1) 0 2 Dirty (inl refl);
    fits = λ s. both_one 0 2 three_value s (Fits pair again5 1) (record {
      covers = (omega arith, omega arith);
      key = at_place Dirty 2;
      is = refl;
      dirty = refl;
      placed = record { version = refl; own = refl; placed = refl };
    }) tt;
    not_plain = refl;
  };
}

abbrev again6 : State
again6 = after pair again5 1 (InsertWrite 8 0 (key 0 1 Dirty 2 ∷ []) 0 (three_value ∷ []))

again_on6 : IsEnabled pair again6 1 (Shelve Seal)
again_on6 = record { heard = refl; steps = (refl, tt); can = tt }

pub law_teeth_early : LawTeethEarly
law_teeth_early = record {
  run = (on0, (on1, (on2, (on3, (on4, (on5, (on6, (on7, (on8, (on9, (on10, (on11, (on12, (on13, (on14, (again_on0, (again_on1, (again_on2, (again_on3, (again_on4, (again_on5, (again_on6, tt))))))))))))))))))))));
  early = λ ready. ready;
  wrong = record {
    cache = placed;
    backing = λ s. zero_value;
    left_cache = λ t. below (at_run 2 (three_value ∷ []) t) _ _
        (over (at_run 9 (zero_value ∷ []) t) _ _
        (over (at_run 0 (one_value ∷ two_value ∷ []) t) zero_value _ (inl refl)));
    left_backing = λ s. inl refl;
    lost = λ safe. not_allowed safe.allowed;
  };
}
  where
    not_allowed : Allowed pair.image sealed_state.history 0 zero_value → ⊥
    not_allowed (inl given) = absurd (cc)
    not_allowed (inr (inl given)) = absurd (cc)
    not_allowed (inr (inr (inl given))) = absurd (cc)
    not_allowed (inr (inr (inr is))) = absurd (cc)
